use Rattle.std.proofs.Common.{◌≡◌, map, take}
use Rattle.ir_model.specs.States.{value_of}
use Rattle.ir_model.specs.Steps.{input_from}
use Rattle.ir_model.specs.Programs as programs
use Rattle.mem_cells.specs.Shapes.{value_shape}
use Rattle.program_tables.specs.Shapes.{phi_shape}
use Rattle.ir_eval.proofs.enter.read.Given as goal

abbrev pub invariant-loop-phi : goal.invariant-loop-phi
invariant-loop-phi l =
    map value_shape l.scratch.items
    ≡ map (λ (x : programs.Phi). value_of (map value_shape l.values) (input_from l.from x.inputs)) (map phi_shape (take l.phi-index l.phis))
