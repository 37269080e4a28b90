-- The symbols from a token on.
use Rattle.std.proofs.Common.{◌≡◌, ℕ, zero, suc, ◌+◌, ◌<◌, ◌≤◌, ℤ, List, [], ◌∷◌, length, drop, Option, None, Some, refl, sym, ap, arith, slice_get, get_or}
use Rattle.ir_lex.specs.Symbols.{NumberSymbol, MarkSymbol, OtherSymbol, symbol_of, symbols_of, number_symbol, number_in, mark_symbol, mark_in}
use Rattle.ir_lex.specs.declared.token.Token.{Token}

pub drop_symbols : (text : List ℕ) (toks : List Token) (at : ℕ) (t : Token) → slice_get toks at ≡ Some t
    → drop at (symbols_of text toks) ≡ symbol_of text t ∷ drop (at + 1) (symbols_of text toks)
drop_symbols text [] at t e = cc
drop_symbols text (x ∷ toks) zero t e = let same : x ≡ t = cc in ap (λ z. symbol_of text z ∷ symbols_of text toks) same
drop_symbols text (x ∷ toks) (suc at) t e = let next : suc at + 1 ≡ suc (at + 1) = omega arith in rw next (drop_symbols text toks at t e)

pub drop_end : (text : List ℕ) (toks : List Token) (at : ℕ) → slice_get toks at ≡ None → drop at (symbols_of text toks) ≡ []
drop_end text [] zero e = refl
drop_end text [] (suc at) e = refl
drop_end text (x ∷ toks) zero e = cc
drop_end text (x ∷ toks) (suc at) e = drop_end text toks at e

pub number_found : (o : Option ℤ) (z : ℤ) → Some z ≡ number_in (number_symbol o) → NumberSymbol z ≡ number_symbol o
number_found None z e = cc
number_found (Some y) z e = let same : z ≡ y = cc in ap NumberSymbol same

pub no_number : (o : Option ℤ) → None ≡ number_in (number_symbol o) → OtherSymbol ≡ number_symbol o
no_number None e = refl
no_number (Some y) e = cc

pub mark_found : (w : List ℕ) (b : ℕ) → Some b ≡ mark_in (mark_symbol w) → MarkSymbol b ≡ mark_symbol w
mark_found [] b e = cc
mark_found (c ∷ w) b e = let same : b ≡ c = cc in ap MarkSymbol same

pub no_mark : (w : List ℕ) → None ≡ mark_in (mark_symbol w) → OtherSymbol ≡ mark_symbol w
no_mark [] e = refl
no_mark (c ∷ w) e = cc

pub within_symbols : (text : List ℕ) (toks : List Token) (at : ℕ) (t : Token) → slice_get toks at ≡ Some t → at + 1 ≤ length (symbols_of text toks)
within_symbols text [] at t e = cc
within_symbols text (x ∷ toks) zero t e = omega arith
within_symbols text (x ∷ toks) (suc at) t e = let inner = within_symbols text toks at t e in omega (arith, inner)

pub got_there : (toks : List Token) (at : ℕ) (t : Token) → at < length toks → t ≡ get_or toks at t → slice_get toks at ≡ Some t
got_there [] at t h e = absurd (omega arith)
got_there (x ∷ toks) zero t h e = ap Some (sym e)
got_there (x ∷ toks) (suc at) t h e = got_there toks at t (omega arith) e
