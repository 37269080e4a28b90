use Rattle.std.proofs.Common.{◌≡◌, ℕ, List, map, take}
use Rattle.std.specs.Prelude.{sum_by}
use Rattle.ir_tree.specs.ShapeOf.{inst_shape}
use Rattle.ir_proper.specs.Limits.{capped}
use Rattle.ir_limits.specs.Shares.{value_count}
use Rattle.ir_limits.proofs.counts.results_of_insts.Given as goal

abbrev pub invariant-loop-inst : goal.invariant-loop-inst
invariant-loop-inst l = (names : List (List ℕ)) → l.total ≡ capped (sum_by value_count (map (inst_shape names) (take l.inst-index l.insts)))
