-- Rules that close each bracket which they open, and no other.
use Rattle.std.proofs.Common.{◌≡◌, ℕ, ◌+◌, ◌<◌, List, [], ◌∷◌, ◌++◌, Option, Some, refl, sym, ◌∙◌, ap, subst, arith, append_assoc, inl, inr, is_some}
use Rattle.std.proofs.lemmas.List.{append_cancel_left}
use Rattle.grammar.specs.Language.{Lang, Mark, empty, one, skip, seq, map_to, many, up_to, items, until, listed}
use Rattle.ir_lex.specs.Symbols.{Symbol, MarkSymbol}
use Rattle.ir_cursor.specs.Marks.{punct}
use Rattle.ir_grammar_consts.specs.Depth.{open_after, open_from}
use Rattle.ir_grammar_consts.proofs.Sides.{punct_is}

-- a symbol that opens a bracket, that closes one, and that does neither
abbrev pub Opens : Symbol → Type 0
Opens t = (n : ℕ) → open_after n t ≡ n + 1

abbrev pub Closes : Symbol → Type 0
Closes t = (n : ℕ) → open_after (n + 1) t ≡ n

abbrev pub IsPlain : Symbol → Type 0
IsPlain t = (n : ℕ) → open_after n t ≡ n

-- after ts as many brackets are open as before it; a front after which none is open, where some were before
-- it, goes past ts
pub record IsEven (ts : List Symbol) : Type 0 where
  pub level : (n : ℕ) → open_from n ts ≡ n
  pub past : (n : ℕ) → 0 < n → (rest p q : List Symbol) → ts ++ rest ≡ p ++ q → open_from n p ≡ 0 → (u : List Symbol) × (p ≡ ts ++ u)

pub open_from-append : (n : ℕ) (xs ys : List Symbol) → open_from n (xs ++ ys) ≡ open_from (open_from n xs) ys
unfolding open_from
open_from-append n [] ys = refl
open_from-append n (x ∷ xs) ys = open_from-append (open_after n x) xs ys

pub even_nil : IsEven []
unfolding open_from
even_nil = record { level = λ n. refl; past = λ n some rest p q e none. (p, refl) }

plain_past : (t : Symbol) (n : ℕ) → 0 < n → (rest p q : List Symbol) → t ∷ rest ≡ p ++ q → open_from n p ≡ 0 → (u : List Symbol) × (p ≡ t ∷ u)
unfolding open_from
plain_past t n some rest [] q e none = absurd (omega arith)
plain_past t n some rest (x ∷ p) q e none = let same : x ≡ t = cc in (p, ap (λ z. z ∷ p) same)

pub even_plain : (t : Symbol) → IsPlain t → IsEven (t ∷ [])
unfolding open_from
even_plain t plain = record { level = plain; past = plain_past t }

append_past : (xs ys : List Symbol) → IsEven xs → IsEven ys → (n : ℕ) → 0 < n → (rest p q : List Symbol) → (xs ++ ys) ++ rest ≡ p ++ q → open_from n p ≡ 0
    → (u : List Symbol) × (p ≡ (xs ++ ys) ++ u)
append_past xs ys even_x even_y n some rest p q e none =
    let past = even_x.past n some (ys ++ rest) p q (sym (append_assoc xs ys rest) ∙ e) none in
    let cut : xs ++ (ys ++ rest) ≡ xs ++ (past.0 ++ q) = sym (append_assoc xs ys rest) ∙ e ∙ ap (λ z. z ++ q) past.1 ∙ append_assoc xs past.0 q in
    let tail : ys ++ rest ≡ past.0 ++ q = append_cancel_left xs (ys ++ rest) (past.0 ++ q) cut in
    let zero_after : open_from n past.0 ≡ 0 =
    ap (λ z. open_from z past.0) (sym (even_x.level n)) ∙ sym (open_from-append n xs past.0) ∙ ap (open_from n) (sym past.1) ∙ none in
    let more = even_y.past n some rest past.0 q tail zero_after in
    (more.0, past.1 ∙ ap (λ z. xs ++ z) more.1 ∙ sym (append_assoc xs ys more.0))

pub even_append : (xs ys : List Symbol) → IsEven xs → IsEven ys → IsEven (xs ++ ys)
even_append xs ys even_x even_y = record {
  level = λ n. open_from-append n xs ys ∙ ap (λ z. open_from z ys) (even_x.level n) ∙ even_y.level n;
  past = append_past xs ys even_x even_y;
}

-- what stands in brackets: a front after which none is open, where more were before it, goes past the closing
-- bracket
pub closed_past : (body : List Symbol) (close : Symbol) → IsEven body → (n : ℕ) → 0 < n → (rest p q : List Symbol) → body ++ (close ∷ rest) ≡ p ++ q → open_from n p ≡ 0
    → (u : List Symbol) × (p ≡ body ++ (close ∷ u))
closed_past body close even n some rest p q e none =
    let past = even.past n some (close ∷ rest) p q e none in
    let cut : body ++ (close ∷ rest) ≡ body ++ (past.0 ++ q) = e ∙ ap (λ z. z ++ q) past.1 ∙ append_assoc body past.0 q in
    let tail : close ∷ rest ≡ past.0 ++ q = append_cancel_left body (close ∷ rest) (past.0 ++ q) cut in
    let zero_after : open_from n past.0 ≡ 0 =
    ap (λ z. open_from z past.0) (sym (even.level n)) ∙ sym (open_from-append n body past.0) ∙ ap (open_from n) (sym past.1) ∙ none in
    let more = plain_past close n some rest past.0 q tail zero_after in
    (more.0, past.1 ∙ ap (λ z. body ++ z) more.1)

bracket_past : (opening : Symbol) (body : List Symbol) (close : Symbol) → Opens opening → IsEven body → (n : ℕ) → 0 < n → (rest p q : List Symbol)
    → (opening ∷ (body ++ close ∷ [])) ++ rest ≡ p ++ q → open_from n p ≡ 0 → (u : List Symbol) × (p ≡ (opening ∷ (body ++ close ∷ [])) ++ u)
unfolding open_from
bracket_past opening body close opens even n some rest [] q e none = absurd (omega arith)
bracket_past opening body close opens even n some rest (x ∷ p) q e none =
    let same : x ≡ opening = cc in
    let tail : (body ++ close ∷ []) ++ rest ≡ p ++ q = cc in
    let level : open_after n x ≡ n + 1 = ap (open_after n) same ∙ opens n in
    let past = closed_past body close even (open_after n x) (omega arith) rest p q (sym (append_assoc body (close ∷ []) rest) ∙ tail) none in
    (past.0, ap (λ z. z ∷ p) same ∙ ap (λ z. opening ∷ z) (past.1 ∙ sym (append_assoc body (close ∷ []) past.0)))

pub even_bracket : (opening : Symbol) (body : List Symbol) (close : Symbol) → Opens opening → IsEven body → Closes close → IsEven (opening ∷ (body ++ close ∷ []))
unfolding open_from
even_bracket opening body close opens even closes = record {
  level = λ n.
      ap (λ z. open_from z (body ++ close ∷ [])) (opens n) ∙ open_from-append (n + 1) body (close ∷ []) ∙ ap (λ z. open_after z close) (even.level (n + 1)) ∙ closes n;
  past = bracket_past opening body close opens even;
}

-- each list that L spells is even
pub record Evens {V : Type 0} (L : Lang Symbol V) : Type 0 where
  pub at : (ts : List Symbol) (v : V) → L ts v → IsEven ts

-- a list that is even up to its last symbol, which closes a bracket
pub record IsClosed (ts : List Symbol) : Type 0 where
  pub body : List Symbol
  pub close : Symbol
  pub cut : ts ≡ body ++ close ∷ []
  pub even : IsEven body
  pub closes : Closes close

-- each list that L spells is such
pub record AreClosed {V : Type 0} (L : Lang Symbol V) : Type 0 where
  pub at : (ts : List Symbol) (v : V) → L ts v → IsClosed ts

pub evens_one : {K : Type 0} (f : Symbol → Option K) → ((t : Symbol) (k : K) → f t ≡ Some k → IsPlain t) → Evens (one f)
evens_one f h = record {
  at = λ ts v word. subst IsEven (sym (word.3 ∙ ap (λ z. word.0 ∷ z) word.5.0)) (even_plain word.0 (h word.0 word.2 word.4));
}

pub evens_skip : {K V : Type 0} {a : Lang Symbol V} (f : Symbol → Option K) → ((t : Symbol) (k : K) → f t ≡ Some k → IsPlain t) → Evens a → Evens (skip f a)
evens_skip f h g = record {
  at = λ ts v word. subst IsEven (sym word.3) (even_append (word.0 ∷ []) word.1 (even_plain word.0 (h word.0 word.2 word.4)) (g.at word.1 v word.5));
}

pub evens_seq : {A B : Type 0} {a : Lang Symbol A} {b : Lang Symbol B} → Evens a → Evens b → Evens (seq a b)
evens_seq g h = record {
  at = λ ts v word. subst IsEven (sym word.2) (even_append word.0 word.1 (g.at word.0 v.0 word.3) (h.at word.1 v.1 word.4));
}

pub evens_map : {A B : Type 0} {a : Lang Symbol A} (f : A → B) → Evens a → Evens (map_to f a)
evens_map f g = record { at = λ ts v word. g.at ts word.0 word.1 }

many_even : {V : Type 0} (a : Lang Symbol V) → Evens a → (ts : List Symbol) (vs : List V) → many a ts vs → IsEven ts
many_even a g ts [] word = subst IsEven (sym word) even_nil
many_even a g ts (v ∷ vs) word = subst IsEven (sym word.2) (even_append word.0 word.1 (g.at word.0 v word.3) (many_even a g word.1 vs word.4))

pub evens_many : {V : Type 0} {a : Lang Symbol V} → Evens a → Evens (many a)
evens_many {a = a} g = record { at = many_even a g }

pub closed_up_to : {K V : Type 0} {a : Lang Symbol V} (close : Symbol → Option K) → ((t : Symbol) (k : K) → close t ≡ Some k → Closes t) → Evens a → AreClosed (up_to close a)
closed_up_to close h g = record {
  at = λ ts v word.
      let pair = word.1 in
      record {
        body = pair.0;
        close = pair.4.0;
        cut = pair.2 ∙ ap (λ z. pair.0 ++ z) (pair.4.3 ∙ ap (λ z. pair.4.0 ∷ z) pair.4.5.0);
        even = g.at pair.0 word.0.0 pair.3;
        closes = h pair.4.0 pair.4.2 pair.4.4;
      };
}

pub closed_map : {A B : Type 0} {a : Lang Symbol A} (f : A → B) → AreClosed a → AreClosed (map_to f a)
closed_map f g = record { at = λ ts v word. g.at ts word.0 word.1 }

pub closed_seq : {A B : Type 0} {a : Lang Symbol A} {b : Lang Symbol B} → Evens a → AreClosed b → AreClosed (seq a b)
closed_seq g h = record {
  at = λ ts v word.
      let inner = h.at word.1 v.1 word.4 in
      record {
        body = word.0 ++ inner.body;
        close = inner.close;
        cut = word.2 ∙ ap (λ z. word.0 ++ z) inner.cut ∙ sym (append_assoc word.0 inner.body (inner.close ∷ []));
        even = even_append word.0 inner.body (g.at word.0 v.0 word.3) inner.even;
        closes = inner.closes;
      };
}

pub closed_skip : {K V : Type 0} {a : Lang Symbol V} (f : Symbol → Option K) → ((t : Symbol) (k : K) → f t ≡ Some k → IsPlain t) → AreClosed a → AreClosed (skip f a)
closed_skip f h g = record {
  at = λ ts v word.
      let inner = g.at word.1 v word.5 in
      record {
        body = (word.0 ∷ []) ++ inner.body;
        close = inner.close;
        cut = word.3 ∙ ap (λ z. word.0 ∷ z) inner.cut;
        even = even_append (word.0 ∷ []) inner.body (even_plain word.0 (h word.0 word.2 word.4)) inner.even;
        closes = inner.closes;
      };
}

-- an opening bracket, and what is closed after it
pub evens_bracket : {K V : Type 0} {a : Lang Symbol V} (f : Symbol → Option K) → ((t : Symbol) (k : K) → f t ≡ Some k → Opens t) → AreClosed a → Evens (skip f a)
evens_bracket f h g = record {
  at = λ ts v word.
      let inner = g.at word.1 v word.5 in
      subst IsEven (sym (word.3 ∙ ap (λ z. word.0 ∷ z) inner.cut)) (even_bracket word.0 inner.body inner.close (h word.0 word.2 word.4) inner.even inner.closes);
}

pub evens_items : {K V : Type 0} {a : Lang Symbol V} (separator : Symbol → Option K) → ((t : Symbol) (k : K) → separator t ≡ Some k → IsPlain t) → Evens a → Evens (items separator a)
evens_items separator h g = evens_map _ (evens_seq g (evens_many (evens_skip separator h g)))

close_alone : {K V : Type 0} (close : Symbol → Option K) (v : V) → ((t : Symbol) (k : K) → close t ≡ Some k → Closes t) → AreClosed (skip close (empty v))
close_alone close v h = record {
  at = λ ts w word. record { body = []; close = word.0; cut = word.3 ∙ ap (λ z. word.0 ∷ z) word.5.0; even = even_nil; closes = h word.0 word.2 word.4 };
}

pub closed_listed : {K C V : Type 0} {a : Lang Symbol V} (separator : Symbol → Option K) (close : Symbol → Option C) → ((t : Symbol) (k : K) → separator t ≡ Some k → IsPlain t)
    → ((t : Symbol) (k : C) → close t ≡ Some k → Closes t) → Evens a → AreClosed (listed separator close a)
closed_listed separator close plain closes g = record {
  at = λ ts v word. elim word [
    | inl u ↦ (close_alone close [] closes).at ts v u
    | inr u ↦ (closed_up_to close closes (evens_items separator plain g)).at ts v u
  ];
}

pub closed_until : {C V : Type 0} {a : Lang Symbol V} (close : Symbol → Option C) → ((t : Symbol) (k : C) → close t ≡ Some k → Closes t) → Evens a → AreClosed (until close a)
closed_until close closes g = closed_up_to close closes (evens_many g)

-- the marks
pub mark_of : (b : ℕ) (P : Symbol → Type 0) → P (MarkSymbol b) → (t : Symbol) (k : Mark) → punct b t ≡ Some k → P t
mark_of b P h t k e = subst P (sym (punct_is b t (ap is_some e))) h

-- two brackets, the inner ones around what is closed
pub closed_packed : {K C V W : Type 0} {a : Lang Symbol V} (opening : Symbol → Option K) (close : Symbol → Option C) (f : V → W) → ((t : Symbol) (k : K) → opening t ≡ Some k → Opens t)
    → ((t : Symbol) (k : C) → close t ≡ Some k → Closes t) → AreClosed a → AreClosed (skip opening (map_to f (up_to close a)))
closed_packed opening close f opens closes g = record {
  at = λ ts v word.
      let pair = word.5.1.1 in
      let inner = g.at pair.0 word.5.1.0.0 pair.3 in
      record {
        body = word.0 ∷ pair.0;
        close = pair.4.0;
        cut = word.3 ∙ ap (λ z. word.0 ∷ z) (pair.2 ∙ ap (λ z. pair.0 ++ z) (pair.4.3 ∙ ap (λ z. pair.4.0 ∷ z) pair.4.5.0));
        even = subst IsEven (ap (λ z. word.0 ∷ z) (sym inner.cut)) (even_bracket word.0 inner.body inner.close (opens word.0 word.2 word.4) inner.even inner.closes);
        closes = closes pair.4.0 pair.4.2 pair.4.4;
      };
}
