-- the fields so far and those still to come are the list; the names only grow
use Rattle.std.proofs.Common.{◌+◌, ◌-◌, ◌*◌, drop}
use Rattle.grammar.specs.Reader.{run_listed}
use Rattle.ir_lex.specs.Symbols.{symbols_of}
use Rattle.ir_cursor.specs.Marks.{punct}
use Rattle.ir_tree.specs.ShapeOf.{ty_shape}
use Rattle.ir_tree.specs.Known.{ty_known}
use Rattle.ir_grammar_consts.specs.Types.{run_ty}
use Rattle.ir_read_consts.proofs.NamedItems.{NamedLeft}
use Rattle.ir_read_consts.proofs.types.+types.Given as goal

abbrev pub decreases-type_at : goal.decreases-type_at
decreases-type_at l = 3 * l.budget

abbrev pub decreases-rest_at : goal.decreases-rest_at
decreases-rest_at l = 3 * l.budget + 2

abbrev pub decreases-fields_at : goal.decreases-fields_at
decreases-fields_at l = 3 * l.budget + 1

abbrev pub invariant-fields_at-loop : goal.invariant-fields_at-loop
invariant-fields_at-loop l =
    NamedLeft
    ty_shape
    ty_known
    (l.budget - l.counter)
    (punct 44)
    (punct 125)
    (run_ty l.budget)
    (run_listed l.budget (punct 44) (punct 125) (run_ty l.budget) (drop l.at (symbols_of l.text l.toks)))
    l.initial.names
    l.names
    l.fields.items
    (symbols_of l.text l.toks)
    l.at
    l.next
