-- the parameters so far and those still to come are the list; the names only grow
use Rattle.std.proofs.Common.{◌-◌, drop}
use Rattle.grammar.specs.Reader.{run_listed}
use Rattle.ir_lex.specs.Symbols.{symbols_of}
use Rattle.ir_cursor.specs.Marks.{punct}
use Rattle.ir_tree.specs.ShapeOf.{param_shape}
use Rattle.ir_tree.specs.Known.{param_known}
use Rattle.ir_grammar_modules.specs.Items.{run_parameter}
use Rattle.ir_read_consts.proofs.NamedItems.{NamedLeft}
use Rattle.ir_read_modules.proofs.parameters.listed_at.Given as goal

abbrev pub invariant-loop : goal.invariant-loop
invariant-loop l =
    NamedLeft
    param_shape
    param_known
    (l.budget - l.counter)
    (punct 44)
    (punct 41)
    (run_parameter l.budget)
    (run_listed l.budget (punct 44) (punct 41) (run_parameter l.budget) (drop l.at (symbols_of l.text l.toks)))
    l.initial.names
    l.names
    l.params.items
    (symbols_of l.text l.toks)
    l.at
    l.next
