-- the items so far and those still to come are the list
use Rattle.std.proofs.Common.{drop, ◌-◌}
use Rattle.grammar.specs.Reader.{run_items}
use Rattle.grammar.specs.Sample.{close_mark, comma, run_item}
use Rattle.grammar.proofs.Loops.{ItemsLeft}
use Rattle.grammar.proofs.sample.items_at.Given as goal

abbrev pub invariant-loop : goal.invariant-loop
invariant-loop l =
    ItemsLeft
    (l.budget - l.counter)
    comma
    close_mark
    run_item
    (run_items l.budget comma close_mark run_item (drop l.at l.symbols))
    l.items.items
    l.symbols
    l.next
