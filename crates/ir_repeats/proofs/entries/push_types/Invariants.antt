use Rattle.std.proofs.Common.{◌≡◌, ◌++◌, drop}
use Rattle.ir_tree.specs.declared.module.NamedTy.{NamedTy}
use Rattle.ir_repeats.specs.declared.entries.Item.TheVariants as item
use Rattle.ir_repeats.specs.Entries.{entries_from, type_entries}
use Rattle.ir_repeats.proofs.entries.push_types.Given as goal

abbrev pub invariant-loop-at : goal.invariant-loop-at
invariant-loop-at l =
    l.entries.items ++ entries_from (λ (t : NamedTy). t.name) (λ k. item.Type k) l.at (drop l.at l.p.«module».types.items) (drop l.at l.p.spots.types.items)
    ≡ l.initial.entries.items ++ type_entries l.p
