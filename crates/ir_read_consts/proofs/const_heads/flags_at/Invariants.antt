use Rattle.std.proofs.Common.{◌≡◌, ◌-◌, ◌≤◌, length, drop}
use Rattle.ir_lex.specs.Symbols.{symbols_of}
use Rattle.ir_grammar_consts.specs.Constants.{run_address_flags}
use Rattle.ir_read_consts.proofs.Flags.{flags_with}
use Rattle.ir_read_consts.proofs.const_heads.flags_at.Given as goal

abbrev pub invariant-loop : goal.invariant-loop
invariant-loop l =
    (run_address_flags l.budget (drop l.at (symbols_of l.text l.toks)) ≡ flags_with l.inbounds (l.budget - l.counter) (drop l.next (symbols_of l.text l.toks)))
    × (l.next ≤ length (symbols_of l.text l.toks))
    × (l.at ≤ l.next)
