use Rattle.std.proofs.Common.{◌≡◌, ◌++◌, drop}
use Rattle.ir_tree.specs.declared.module.GlobalItem.{GlobalItem}
use Rattle.ir_repeats.specs.declared.entries.Item.TheVariants as item
use Rattle.ir_repeats.specs.Entries.{entries_from, global_entries}
use Rattle.ir_repeats.proofs.entries.push_globals.Given as goal

abbrev pub invariant-loop-at : goal.invariant-loop-at
invariant-loop-at l =
    l.entries.items ++ entries_from (λ (g : GlobalItem). g.name) (λ k. item.Global k) l.at (drop l.at l.p.«module».globals.items) (drop l.at l.p.spots.globals.items)
    ≡ l.initial.entries.items ++ global_entries l.p
