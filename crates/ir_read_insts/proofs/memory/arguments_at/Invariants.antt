-- the arguments so far and those still to come; the names only grow
use Rattle.std.proofs.Common.{◌-◌, drop}
use Rattle.grammar.specs.Reader.{run_listed}
use Rattle.ir_lex.specs.Symbols.{symbols_of}
use Rattle.ir_cursor.specs.Marks.{punct}
use Rattle.ir_tree.specs.ShapeOf.{ty_val_shape}
use Rattle.ir_tree.specs.Known.{ty_val_known}
use Rattle.ir_grammar_insts.specs.Operands.{run_ty_val}
use Rattle.ir_read_consts.proofs.NamedItems.{NamedLeft}
use Rattle.ir_read_insts.proofs.memory.arguments_at.Given as goal

abbrev pub invariant-loop : goal.invariant-loop
invariant-loop l =
    NamedLeft
    ty_val_shape
    ty_val_known
    (l.budget - l.counter)
    (punct 44)
    (punct 41)
    (run_ty_val l.budget)
    (run_listed l.budget (punct 44) (punct 41) (run_ty_val l.budget) (drop l.at (symbols_of l.text l.toks)))
    l.initial.names
    l.names
    l.arguments.items
    (symbols_of l.text l.toks)
    l.at
    l.next
