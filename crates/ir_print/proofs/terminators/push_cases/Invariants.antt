use Rattle.std.proofs.Common.{◌≡◌, ◌++◌, drop, map, false}
use Rattle.ir_tree.specs.ShapeOf.{case_shape}
use Rattle.ir_print.specs.Texts.{case_text, in_spaces}
use Rattle.ir_print.proofs.terminators.push_cases.Given as goal

abbrev pub invariant-loop-case : goal.invariant-loop-case
invariant-loop-case l =
    l.to.items ++ in_spaces l.needs_blank (map case_text (map (case_shape l.names) (drop l.case-index l.cases)))
    ≡ l.initial.to.items ++ in_spaces false (map case_text (map (case_shape l.names) l.cases))
