use Rattle.std.proofs.Common.{◌≡◌, ◌-◌, ◌≤◌, length, drop}
use Rattle.ir_lex.specs.Symbols.{symbols_of}
use Rattle.ir_grammar_insts.specs.Arithmetic.{run_wrap_flags}
use Rattle.ir_read_insts.proofs.WrapFlags.{flags_after}
use Rattle.ir_read_insts.proofs.inst_heads.wrap_flags_at.Given as goal

abbrev pub invariant-loop : goal.invariant-loop
invariant-loop l =
    (run_wrap_flags l.budget (drop l.at (symbols_of l.text l.toks)) ≡ flags_after l.flags (l.budget - l.counter) (drop l.next (symbols_of l.text l.toks)))
    × (l.next ≤ length (symbols_of l.text l.toks))
    × (l.at ≤ l.next)
