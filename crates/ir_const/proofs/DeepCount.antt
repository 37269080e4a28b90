-- The search for the first bracket that is the 65th open one, token by token.
use Rattle.std.proofs.Common.{◌≡◌, ℕ, zero, suc, ◌+◌, ◌==◌, ◌≤◌, ◌<◌, false, List, [], ◌∷◌, length, Option, None, Some, refl, sym, ◌∙◌, ap, subst, arith, eq-eqb, eqb-true, get_or, slice_get}
use Rattle.std.specs.Option.{option_map}
use Rattle.ir_lex.specs.Symbols.{Symbol, symbol_of}
use Rattle.ir_lex.specs.declared.token.Token.{Token}
use Rattle.ir_cursor.proofs.Cursor.{drop_symbols}
use Rattle.ir_grammar_consts.proofs.Depths.{after_low}
use Rattle.ir_grammar_consts.specs.Depth.{open_after}
use Rattle.ir_grammar_consts.specs.Counting.{deep_len}
use Rattle.ir_grammar_consts.proofs.Sides.{is_false}
use Rattle.ir_const.specs.Places.{cut_of}
use Rattle.ir_const.specs.Answers.{symbols_from}

next_cut : (at : ℕ) (o : Option ℕ) → cut_of at (option_map suc o) ≡ cut_of (at + 1) o
next_cut at None = refl
next_cut at (Some k) = let e : at + suc k ≡ at + 1 + k = omega arith in ap Some e

pub got_or : (toks : List Token) (at : ℕ) (d : Token) → at < length toks → slice_get toks at ≡ Some (get_or toks at d)
got_or [] at d h = absurd (omega arith)
got_or (x ∷ toks) zero d h = refl
got_or (x ∷ toks) (suc at) d h = got_or toks at d (omega arith)

-- there is the bracket
pub count_here : (text : List ℕ) (toks : List Token) (at n : ℕ) (d : Token) → at < length toks → (r : ℕ) → r ≡ open_after n (symbol_of text (get_or toks at d)) → r ≡ 65
    → Some (at + 1) ≡ cut_of at (deep_len n (symbols_from text toks at))
unfolding deep_len
count_here text toks at n d low r is e =
    rw (drop_symbols text toks at (get_or toks at d) (got_or toks at d low), eq-eqb (open_after n (symbol_of text (get_or toks at d))) 65 (sym is ∙ e)) refl

pub apart_65 : (m r : ℕ) → r ≡ m → (r ≡ 65 → ⊥) → (m == 65) ≡ false
apart_65 m r is other = is_false (m == 65) (λ h. other (is ∙ eqb-true m 65 h))

-- it comes later
pub count_on : (text : List ℕ) (toks : List Token) (at n : ℕ) (d : Token) → at < length toks → (r : ℕ) → r ≡ open_after n (symbol_of text (get_or toks at d)) → (r ≡ 65 → ⊥)
    → cut_of at (deep_len n (symbols_from text toks at)) ≡ cut_of (at + 1) (deep_len r (symbols_from text toks (at + 1)))
unfolding deep_len
count_on text toks at n d low r is other =
    let apart = apart_65 (open_after n (symbol_of text (get_or toks at d))) r is other in
    rw (drop_symbols text toks at (get_or toks at d) (got_or toks at d low), apart, is) (next_cut at (deep_len (open_after n (symbol_of text (get_or toks at d))) (symbols_from text toks (at + 1))))

-- at most 64 are open then
pub count_low : (text : List ℕ) (toks : List Token) (at n : ℕ) (d : Token) → n ≤ 64 → (r : ℕ) → r ≡ open_after n (symbol_of text (get_or toks at d)) → (r ≡ 65 → ⊥) → r ≤ 64
count_low text toks at n d low r is other =
    let t : Symbol = symbol_of text (get_or toks at d) in
    subst (λ z. z ≤ 64) (sym is) (after_low n t low (apart_65 (open_after n t) r is other))

pub none_left : (toks : List Token) (text : List ℕ) (at : ℕ) → length toks ≤ at → symbols_from text toks at ≡ []
none_left [] text zero h = refl
none_left [] text (suc at) h = refl
none_left (t ∷ toks) text zero h = absurd (omega arith)
none_left (t ∷ toks) text (suc at) h = none_left toks text at (omega arith)

-- there is none
pub count_out : (text : List ℕ) (toks : List Token) (at n : ℕ) → length toks ≤ at → None ≡ cut_of at (deep_len n (symbols_from text toks at))
unfolding deep_len
count_out text toks at n h = rw (none_left toks text at h) refl
