use Rattle.std.proofs.Common.{ℕ, List}
use Rattle.ir_tree.specs.Shape.{InstShape}
use Rattle.ir_tree.specs.ShapeOf.{inst_shape}
use Rattle.ir_proper.specs.declared.Which.TheVariants.{Cases}
use Rattle.ir_proper.specs.Limits.{case_counts, most_of}
use Rattle.ir_limits.proofs.Above.{Rest}
use Rattle.ir_limits.proofs.passing.first_cases_of_insts.Given as goal

abbrev pub invariant-loop-inst : goal.invariant-loop-inst
invariant-loop-inst l = (names : List (List ℕ)) → Rest (λ (x : InstShape). case_counts x.body) (inst_shape names) (most_of Cases) l.insts l.inst-index
