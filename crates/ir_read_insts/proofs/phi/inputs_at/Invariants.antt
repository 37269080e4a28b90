-- the inputs so far and those still to come; the names only grow
use Rattle.std.proofs.Common.{◌-◌, drop}
use Rattle.grammar.specs.Reader.{heads, run_skip}
use Rattle.ir_lex.specs.Symbols.{symbols_of}
use Rattle.ir_cursor.specs.Marks.{punct}
use Rattle.ir_tree.specs.ShapeOf.{phi_in_shape}
use Rattle.ir_tree.specs.Known.{phi_in_known}
use Rattle.ir_grammar_insts.specs.Instructions.{run_phi_input, run_phi_inputs}
use Rattle.ir_read_insts.proofs.ValueParts.{NamedMany}
use Rattle.ir_read_insts.proofs.phi.inputs_at.Given as goal

abbrev pub invariant-loop : goal.invariant-loop
invariant-loop l =
    NamedMany
    phi_in_shape
    phi_in_known
    (l.budget - l.counter)
    (heads (punct 44))
    (run_skip (punct 44) (run_phi_input l.budget))
    (run_phi_inputs l.budget (drop l.at (symbols_of l.text l.toks)))
    l.fn.names
    l.names
    l.inputs.items
    (symbols_of l.text l.toks)
    l.at
    l.next
