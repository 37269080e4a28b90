use Rattle.std.proofs.Common.{◌≡◌, ◌++◌, drop}
use Rattle.ir_tree.specs.declared.module.Function.{Function}
use Rattle.ir_repeats.specs.declared.entries.Item.TheVariants as item
use Rattle.ir_repeats.specs.Entries.{entries_from, function_entries}
use Rattle.ir_repeats.proofs.entries.push_functions.Given as goal

abbrev pub invariant-loop-at : goal.invariant-loop-at
invariant-loop-at l =
    l.entries.items ++ entries_from (λ (f : Function). f.name) (λ k. item.Function k) l.at (drop l.at l.p.«module».functions.items) (drop l.at l.p.spots.functions.items)
    ≡ l.initial.entries.items ++ function_entries l.p
