-- What is left of a list, one phrase or one token further.
use Rattle.std.proofs.Common.{◌≡◌, ℕ, zero, suc, ◌+◌, ◌-◌, ◌<◌, ◌≤◌, List, [], ◌∷◌, ◌++◌, append_assoc, append-nil, length, drop, get_or, Option, Some, None, refl, sym, ap, ◌∙◌, arith, drop-cons, add-one, length-drop}
use Rattle.std.proofs.lemmas.List.{drop-drop, drop_all}
use Rattle.ir_lex.specs.Quiet.{left_after}
use Rattle.ir_lex.specs.declared.token.Token.{Token}

left-skip : (phrase : List Token → Option ℕ) (n : ℕ) (toks : List Token) → left_after phrase n toks ≡ left_after phrase 0 (drop n toks)
unfolding left_after
left-skip phrase zero toks = refl
left-skip phrase (suc n) [] = refl
left-skip phrase (suc n) (t ∷ toks) = left-skip phrase n toks

left-phrase : (phrase : List Token → Option ℕ) (toks : List Token) (n : ℕ) → 0 < length toks → phrase toks ≡ Some n → 0 < n → left_after phrase 0 toks ≡ left_after phrase 0 (drop n toks)
unfolding left_after
left-phrase phrase [] n l e h = absurd (omega arith)
left-phrase phrase (t ∷ toks) zero l e h = absurd (omega arith)
left-phrase phrase (t ∷ toks) (suc n) l e h = let less : suc n - 1 ≡ n = omega arith in rw (e, less) (left-skip phrase n toks)

left-token : (phrase : List Token → Option ℕ) (t : Token) (toks : List Token) → phrase (t ∷ toks) ≡ None → left_after phrase 0 (t ∷ toks) ≡ t ∷ left_after phrase 0 toks
unfolding left_after
left-token phrase t toks e = rw e refl

-- a phrase is dropped
pub left-drops : (phrase : List Token → Option ℕ) (toks : List Token) (at n : ℕ) → at < length toks → phrase (drop at toks) ≡ Some n → 0 < n
    → left_after phrase 0 (drop at toks) ≡ left_after phrase 0 (drop (at + n) toks)
left-drops phrase toks at n l e h =
    left-phrase phrase (drop at toks) n (simp length-drop (omega arith)) e h ∙ ap (left_after phrase 0) (drop-drop n at toks)

-- a token is kept
pub left-keeps : (phrase : List Token → Option ℕ) (toks : List Token) (at : ℕ) (t : Token) → at < length toks → phrase (drop at toks) ≡ None
    → left_after phrase 0 (drop at toks) ≡ get_or toks at t ∷ left_after phrase 0 (drop (at + 1) toks)
left-keeps phrase toks at t l e =
    let cut : drop at toks ≡ get_or toks at t ∷ drop (at + 1) toks = rw add-one (drop-cons toks at t l) in
    let none : phrase (get_or toks at t ∷ drop (at + 1) toks) ≡ None = ap phrase (sym cut) ∙ e in
    ap (left_after phrase 0) cut ∙ left-token phrase (get_or toks at t) (drop (at + 1) toks) none

-- nothing is left to look at
pub left-end : (phrase : List Token → Option ℕ) (toks kept : List Token) (at : ℕ) → length toks ≤ at → kept ++ left_after phrase 0 (drop at toks) ≡ kept
unfolding left_after
left-end phrase toks kept at l = let none : drop at toks ≡ [] = drop_all at toks l in rw none (append-nil kept)

-- one token more at the end of a list
pub pushed : (a b : List Token) (t : Token) (x y : List Token) → b ≡ a ++ t ∷ [] → x ≡ t ∷ y → a ++ x ≡ b ++ y
pushed a b t x y e f = rw (e, f) (sym (append_assoc a (t ∷ []) y))
