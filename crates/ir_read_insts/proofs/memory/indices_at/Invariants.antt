-- the indices so far and those still to come; the names only grow
use Rattle.std.proofs.Common.{◌-◌, drop}
use Rattle.grammar.specs.Reader.{heads, run_many}
use Rattle.ir_lex.specs.Symbols.{symbols_of}
use Rattle.ir_cursor.specs.Marks.{punct}
use Rattle.ir_tree.specs.ShapeOf.{ty_val_shape}
use Rattle.ir_tree.specs.Known.{ty_val_known}
use Rattle.ir_grammar_insts.specs.Operands.{run_more_ty_val}
use Rattle.ir_read_insts.proofs.ValueParts.{NamedMany}
use Rattle.ir_read_insts.proofs.memory.indices_at.Given as goal

abbrev pub invariant-loop : goal.invariant-loop
invariant-loop l =
    NamedMany
    ty_val_shape
    ty_val_known
    (l.budget - l.counter)
    (heads (punct 44))
    (run_more_ty_val l.budget)
    (run_many l.budget (heads (punct 44)) (run_more_ty_val l.budget) (drop l.at (symbols_of l.text l.toks)))
    l.initial.names
    l.names
    l.indices.items
    (symbols_of l.text l.toks)
    l.at
    l.next
