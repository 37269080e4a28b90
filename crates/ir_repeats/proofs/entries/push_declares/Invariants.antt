use Rattle.std.proofs.Common.{◌≡◌, ◌++◌, drop}
use Rattle.ir_tree.specs.declared.module.Declare.{Declare}
use Rattle.ir_repeats.specs.declared.entries.Item.TheVariants as item
use Rattle.ir_repeats.specs.Entries.{entries_from, declare_entries}
use Rattle.ir_repeats.proofs.entries.push_declares.Given as goal

abbrev pub invariant-loop-at : goal.invariant-loop-at
invariant-loop-at l =
    l.entries.items ++ entries_from (λ (d : Declare). d.name) (λ k. item.Declare k) l.at (drop l.at l.p.«module».declares.items) (drop l.at l.p.spots.declares.items)
    ≡ l.initial.entries.items ++ declare_entries l.p
