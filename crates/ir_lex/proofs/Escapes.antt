-- The bytes that a list spells, one byte further.
use Rattle.std.proofs.Common.{◌++◌, append_assoc, append-nil, ◌≡◌, ℕ, zero, suc, ◌+◌, ◌-◌, ◌<◌, ◌≤◌, ◌≢◌, ◌==◌, ◌||◌, not, inl, inr, ◌&&◌, Bool, false, List, [], ◌∷◌, length, drop, get_or, refl, sym, ap, ◌∙◌, arith, drop-cons, add-one, length-drop}
use Rattle.std.proofs.lemmas.List.{drop-drop, drop_all}
use Rattle.std.proofs.lemmas.Bool.{eq-eqb}
use Rattle.std.proofs.lemmas.Bool.Decides.{eqb_tells}
use Rattle.ir_lex.proofs.Pieces.{above_zero}
use Rattle.ir_lex.specs.Meaning.{escape, unescaped, unescaped_after}
use Rattle.ir_lex.specs.Names.{is_empty, begins_as}

unescaped-skip : (n : ℕ) (bs : List ℕ) → unescaped_after n bs ≡ unescaped_after 0 (drop n bs)
unfolding unescaped_after
unescaped-skip zero bs = refl
unescaped-skip (suc n) [] = refl
unescaped-skip (suc n) (b ∷ bs) = unescaped-skip n bs

unescaped-byte : (bs : List ℕ) (n : ℕ) → 0 < length bs → (escape bs).1 ≡ n → 0 < n → unescaped bs ≡ (escape bs).0 ∷ unescaped (drop n bs)
unfolding unescaped_after
unescaped-byte [] n l e h = absurd (omega arith)
unescaped-byte (b ∷ bs) zero l e h = absurd (omega arith)
unescaped-byte (b ∷ bs) (suc n) l e h =
    let less : (escape (b ∷ bs)).1 - 1 ≡ n = omega (arith, e) in
    ap (λ rest. (escape (b ∷ bs)).0 ∷ rest) (ap (λ k. unescaped_after k bs) less ∙ unescaped-skip n bs)

-- the next byte that is spelled
pub spelled-on : (body : List ℕ) (at : ℕ) (t : ℕ × ℕ) → at < length body → t ≡ escape (drop at body) → 0 < t.1 → unescaped (drop at body) ≡ t.0 ∷ unescaped (drop (at + t.1) body)
spelled-on body at t l e h =
    unescaped-byte (drop at body) t.1 (simp length-drop (omega arith)) (ap (λ p. p.1) (sym e)) h
    ∙ ap (λ b. b ∷ unescaped (drop t.1 (drop at body))) (ap (λ p. p.0) (sym e))
    ∙ ap (λ rest. t.0 ∷ unescaped rest) (drop-drop t.1 at body)

-- nothing is left to read
pub spelled-end : (body bytes : List ℕ) (at : ℕ) → length body ≤ at → bytes ++ unescaped (drop at body) ≡ bytes
unfolding unescaped_after
spelled-end body bytes at l = let none : drop at body ≡ [] = drop_all at body l in rw none (append-nil bytes)

-- one byte more at the end of a list
pub byte-pushed : (a b : List ℕ) (t : ℕ) (x y : List ℕ) → b ≡ a ++ t ∷ [] → x ≡ t ∷ y → a ++ x ≡ b ++ y
byte-pushed a b t x y e f = rw (e, f) (sym (append_assoc a (t ∷ []) y))

-- the next byte of a name and of what it is to begin with
pub begins-on : (whole : Bool) (body start : List ℕ) (at i : ℕ) (t : ℕ × ℕ) → at < length body → i < length start → t ≡ escape (drop at body) → 0 < t.1
    → begins_as whole (unescaped (drop at body)) (drop i start) ≡ ((t.0 == get_or start i 0) && begins_as whole (unescaped (drop (at + t.1) body)) (drop (i + 1) start))
unfolding begins_as
begins-on whole body start at i t l k e h =
    let bytes : unescaped (drop at body) ≡ t.0 ∷ unescaped (drop (at + t.1) body) = spelled-on body at t l e h in
    let cut : drop i start ≡ get_or start i 0 ∷ drop (i + 1) start = rw add-one (drop-cons start i 0 k) in
    rw (bytes, cut) refl

-- nothing is left of the name
pub begins-short : (whole : Bool) (body start : List ℕ) (at i : ℕ) → length body ≤ at → i < length start → begins_as whole (unescaped (drop at body)) (drop i start) ≡ false
unfolding begins_as unescaped_after
begins-short whole body start at i l k =
    let none : drop at body ≡ [] = drop_all at body l in
    let cut : drop i start ≡ get_or start i 0 ∷ drop (i + 1) start = rw add-one (drop-cons start i 0 k) in
    rw (none, cut) refl

-- nothing is left of what the name is to begin with
pub begins-end : (whole : Bool) (body start : List ℕ) (at i : ℕ) → length start ≤ i → begins_as whole (unescaped (drop at body)) (drop i start) ≡ (not whole || is_empty (unescaped (drop at body)))
unfolding begins_as
begins-end whole body start at i l = let none : drop i start ≡ [] = drop_all i start l in rw none refl

empty-name : (bs : List ℕ) → is_empty (unescaped bs) ≡ (length bs == 0)
unfolding unescaped_after
empty-name [] = refl
empty-name (b ∷ bs) = sym (above_zero (length (b ∷ bs)) (omega arith))

all-read : (a n : ℕ) → a ≤ n → ((n - a) == 0) ≡ (a == n)
all-read a n h =
    elim (eqb_tells a n) [
      | inl same ↦ let is : a ≡ n = same.1 in eq-eqb (n - a) 0 (omega arith) ∙ sym same.0
      | inr other ↦ let ne : a ≢ n = other.1 in above_zero (n - a) (omega arith) ∙ sym other.0
    ]

-- nothing is left of the name exactly where all of it is read
pub empty-rest : (body : List ℕ) (at : ℕ) → at ≤ length body → is_empty (unescaped (drop at body)) ≡ (at == length body)
empty-rest body at h = empty-name (drop at body) ∙ ap (λ n. n == 0) (length-drop at body) ∙ all-read at (length body) h

-- two bytes that differ, or are the same
pub differs : (a b : ℕ) (r : Bool) → (a ≡ b → ⊥) → ((a == b) && r) ≡ false
differs a b r h = elim (eqb_tells a b) [ inl same ↦ absurd (h same.1) | inr other ↦ rw other.0 refl ]

pub agrees : (a b : ℕ) (r : Bool) → a ≡ b → ((a == b) && r) ≡ r
agrees a b r h = rw (eq-eqb a b h) refl
