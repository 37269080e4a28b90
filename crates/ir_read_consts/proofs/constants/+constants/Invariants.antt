-- the items so far and those still to come are the list; the names only grow
use Rattle.std.proofs.Common.{◌+◌, ◌-◌, ◌*◌, drop}
use Rattle.grammar.specs.Reader.{run_skip, run_until}
use Rattle.ir_lex.specs.Symbols.{symbols_of}
use Rattle.ir_cursor.specs.Marks.{punct}
use Rattle.ir_tree.specs.ShapeOf.{typed_shape}
use Rattle.ir_tree.specs.Known.{typed_known}
use Rattle.ir_grammar_consts.specs.Constants.{run_const, run_typed_const, run_typed_list}
use Rattle.ir_read_consts.proofs.NamedItems.{NamedLeft, NamedUntil}
use Rattle.ir_read_consts.proofs.constants.+constants.Given as goal

abbrev pub decreases-const_at : goal.decreases-const_at
decreases-const_at l = 6 * l.budget

abbrev pub decreases-rest_at : goal.decreases-rest_at
decreases-rest_at l = 6 * l.budget + 5

abbrev pub decreases-operands_at : goal.decreases-operands_at
decreases-operands_at l = 6 * l.budget + 4

abbrev pub decreases-indices_at : goal.decreases-indices_at
decreases-indices_at l = 6 * l.budget + 3

abbrev pub decreases-list_at : goal.decreases-list_at
decreases-list_at l = 6 * l.budget + 2

abbrev pub decreases-typed_at : goal.decreases-typed_at
decreases-typed_at l = 6 * l.budget + 1

abbrev pub invariant-list_at-loop : goal.invariant-list_at-loop
invariant-list_at-loop l =
    NamedLeft
    typed_shape
    typed_known
    (l.budget - l.counter)
    (punct 44)
    (punct l.close)
    (run_typed_const l.budget (run_const l.budget))
    (run_typed_list l.budget l.close (run_const l.budget) (drop l.at (symbols_of l.text l.toks)))
    l.initial.names
    l.names
    l.items.items
    (symbols_of l.text l.toks)
    l.at
    l.next

abbrev pub invariant-indices_at-loop : goal.invariant-indices_at-loop
invariant-indices_at-loop l =
    NamedUntil
    typed_shape
    typed_known
    (l.budget - l.counter)
    (punct 41)
    (run_skip (punct 44) (run_typed_const l.budget (run_const l.budget)))
    (run_until l.budget (punct 41) (run_skip (punct 44) (run_typed_const l.budget (run_const l.budget))) (drop l.at (symbols_of l.text l.toks)))
    l.initial.names
    l.names
    l.indices.items
    (symbols_of l.text l.toks)
    l.at
    l.next
