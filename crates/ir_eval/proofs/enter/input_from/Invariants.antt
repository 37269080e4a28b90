use Rattle.std.proofs.Common.{◌≡◌, map, drop}
use Rattle.ir_model.specs.Steps.{input_from}
use Rattle.program_tables.specs.Shapes.{input_shape}
use Rattle.ir_eval.proofs.enter.input_from.Given as goal

abbrev pub invariant-loop-input : goal.invariant-loop-input
invariant-loop-input l =
    input_from l.from (map input_shape l.inputs) ≡ input_from l.from (map input_shape (drop l.input-index l.inputs))
