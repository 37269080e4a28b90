-- One step of the reader of constants.
use Rattle.std.proofs.Common.{◌≡◌, ℕ, zero, suc, ◌-◌, ◌<◌, List, refl, arith}
use Rattle.grammar.specs.Reader.{Wrong, run_recursive, then_out, run_one}
use Rattle.ir_lex.specs.Symbols.{Symbol}
use Rattle.ir_grammar_consts.specs.Constants.{const_head, run_const, run_const_rest}

pub run_const_none : (ts : List Symbol) → run_const zero ts ≡ Wrong ts
unfolding run_recursive
run_const_none ts = refl

pub run_const_some : (n : ℕ) (ts : List Symbol) → 0 < n → run_const n ts ≡ then_out (run_one const_head ts) (run_const_rest (n - 1) (run_const (n - 1)))
unfolding run_recursive
run_const_some zero ts h = absurd (omega arith)
run_const_some (suc n) ts h = let e : suc n - 1 ≡ n = omega arith in rw e refl
