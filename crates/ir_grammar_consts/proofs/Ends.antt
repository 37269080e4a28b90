-- What a rule ends with.
use Rattle.std.proofs.Common.{◌≡◌, Bool, true, List, [], ◌∷◌, ◌++◌, Option, Some, sym, ◌∙◌, ap, append_assoc, inl, inr}
use Rattle.grammar.specs.Language.{Lang, empty, one, skip, seq, map_to, up_to, items, until, many, listed}

-- each list that L spells has a last symbol, and p holds of it
pub record Ends {S V : Type 0} (p : S → Bool) (L : Lang S V) : Type 0 where
  pub at : (ts : List S) (v : V) → L ts v → (front : List S) × (t : S) × (ts ≡ front ++ t ∷ []) × (p t ≡ true)

pub ends_skip : {S K V : Type 0} {p : S → Bool} {a : Lang S V} (f : S → Option K) → Ends p a → Ends p (skip f a)
ends_skip f g = record {
  at = λ ts v word.
      let inner = g.at word.1 v word.5 in
      (word.0 ∷ inner.0, inner.1, word.3 ∙ ap (λ z. word.0 ∷ z) inner.2, inner.3);
}

pub ends_seq : {S A B : Type 0} {p : S → Bool} {b : Lang S B} (a : Lang S A) → Ends p b → Ends p (seq a b)
ends_seq a g = record {
  at = λ ts v word.
      let inner = g.at word.1 v.1 word.4 in
      (word.0 ++ inner.0, inner.1, word.2 ∙ ap (λ z. word.0 ++ z) inner.2 ∙ sym (append_assoc word.0 inner.0 (inner.1 ∷ [])), inner.3);
}

pub ends_map : {S A B : Type 0} {p : S → Bool} {a : Lang S A} (h : A → B) → Ends p a → Ends p (map_to h a)
ends_map h g = record { at = λ ts v word. g.at ts word.0 word.1 }

-- one symbol of f, of all of which p holds
pub ends_one : {S K : Type 0} {p : S → Bool} (f : S → Option K) → ((t : S) (k : K) → f t ≡ Some k → p t ≡ true) → Ends p (one f)
ends_one f h = record { at = λ ts v word. ([], word.0, word.3 ∙ ap (λ z. word.0 ∷ z) word.5.0, h word.0 word.2 word.4) }

pub ends_up_to : {S K V : Type 0} {p : S → Bool} (close : S → Option K) (a : Lang S V) → ((t : S) (k : K) → close t ≡ Some k → p t ≡ true) → Ends p (up_to close a)
ends_up_to close a h = ends_map (λ v. v.0) (ends_seq a (ends_one close h))

pub ends_empty : {S K V : Type 0} {p : S → Bool} (close : S → Option K) (v : V) → ((t : S) (k : K) → close t ≡ Some k → p t ≡ true) → Ends p (skip close (empty v))
ends_empty close v h = record { at = λ ts w word. ([], word.0, word.3 ∙ ap (λ z. word.0 ∷ z) word.5.0, h word.0 word.2 word.4) }

pub ends_listed : {S K C V : Type 0} {p : S → Bool} (separator : S → Option K) (close : S → Option C) (a : Lang S V)
    → ((t : S) (k : C) → close t ≡ Some k → p t ≡ true) → Ends p (listed separator close a)
ends_listed separator close a h = record {
  at = λ ts v word. elim word [
    | inl u ↦ (ends_empty close [] h).at ts v u
    | inr u ↦ (ends_up_to close (items separator a) h).at ts v u
  ];
}

pub ends_until : {S C V : Type 0} {p : S → Bool} (close : S → Option C) (a : Lang S V) → ((t : S) (k : C) → close t ≡ Some k → p t ≡ true) → Ends p (until close a)
ends_until close a h = ends_up_to close (many a) h
