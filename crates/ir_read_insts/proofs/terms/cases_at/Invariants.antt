-- the cases so far and those still to come are the list; the names only grow
use Rattle.std.proofs.Common.{◌-◌, drop}
use Rattle.grammar.specs.Reader.{run_until}
use Rattle.ir_lex.specs.Symbols.{symbols_of}
use Rattle.ir_cursor.specs.Marks.{punct}
use Rattle.ir_tree.specs.ShapeOf.{case_shape}
use Rattle.ir_tree.specs.Known.{case_known}
use Rattle.ir_grammar_insts.specs.Terminators.{run_switch_case}
use Rattle.ir_read_consts.proofs.NamedItems.{NamedUntil}
use Rattle.ir_read_insts.proofs.terms.cases_at.Given as goal

abbrev pub invariant-loop : goal.invariant-loop
invariant-loop l =
    NamedUntil
    case_shape
    case_known
    (l.budget - l.counter)
    (punct 93)
    (run_switch_case l.budget)
    (run_until l.budget (punct 93) (run_switch_case l.budget) (drop l.at (symbols_of l.text l.toks)))
    l.initial.names
    l.names
    l.cases.items
    (symbols_of l.text l.toks)
    l.at
    l.next
