use Rattle.std.proofs.Common.{◌≡◌, ℕ, ◌≤◌, length}
use Rattle.std.specs.Ordering.{nat_cmp}
use Rattle.std.specs.BTreeMap.{get}
use Rattle.ir_names.proofs.FirstItems.{first_from}
use Rattle.ir_names.proofs.firsts.first_of_some.Given as goal

abbrev pub invariant-loop-place : goal.invariant-loop-place
invariant-loop-place l = (l.place ≤ length l.ids) × ((number : ℕ) → get nat_cmp l.firsts number ≡ first_from l.place l.ids number)
