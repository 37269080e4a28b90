-- One step of the reader of types.
use Rattle.std.proofs.Common.{◌≡◌, ℕ, zero, suc, ◌-◌, ◌<◌, List, refl, arith}
use Rattle.grammar.specs.Reader.{Wrong, run_recursive, then_out, run_one}
use Rattle.ir_lex.specs.Symbols.{Symbol}
use Rattle.ir_grammar_consts.specs.Types.{ty_head, run_ty, run_ty_rest}

pub run_ty_none : (ts : List Symbol) → run_ty zero ts ≡ Wrong ts
unfolding run_recursive
run_ty_none ts = refl

pub run_ty_some : (n : ℕ) (ts : List Symbol) → 0 < n → run_ty n ts ≡ then_out (run_one ty_head ts) (run_ty_rest (n - 1) (run_ty (n - 1)))
unfolding run_recursive
run_ty_some zero ts h = absurd (omega arith)
run_ty_some (suc n) ts h = let e : suc n - 1 ≡ n = omega arith in rw e refl
