use Rattle.std.proofs.Common.{◌≡◌, map, drop}
use Rattle.ir_model.specs.Steps.{case_of}
use Rattle.program_tables.specs.Shapes.{case_shape}
use Rattle.ir_eval.proofs.enter.case_of.Given as goal

abbrev pub invariant-loop-case : goal.invariant-loop-case
invariant-loop-case l =
    case_of l.number l.otherwise (map case_shape l.cases) ≡ case_of l.number l.otherwise (map case_shape (drop l.case-index l.cases))
