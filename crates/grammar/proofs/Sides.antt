-- The side conditions of the laws: what a rule begins with, and that it doesn't go on with what stands before it.
use Rattle.std.proofs.Common.{◌≡◌, ℕ, zero, suc, Bool, true, false, List, [], ◌∷◌, ◌++◌, Option, None, Some, inl, inr, sym, ◌∙◌, ap, subst, append_assoc, is_some}
use Rattle.grammar.specs.Language.{Lang, empty, pick, seq, map_to, maybe, many, or_else, nested, recursive, nothing}
use Rattle.grammar.specs.Reader.{heads, opens}
use Rattle.grammar.proofs.Good.{never, Clear, Starts, Joins, clear_within, clear_never, opens-append}

-- pick begins with a symbol that f knows
pub starts_pick : {S K V : Type 0} (f : S → Option K) (L : K → Lang S V) → Starts (heads f) (pick f L)
starts_pick f L = record { at = λ ts v word. ap (opens (heads f)) word.3 ∙ ap is_some word.4 }

pub starts_map : {S A B : Type 0} {a : Lang S A} {p : S → Bool} (h : A → B) → Starts p a → Starts p (map_to h a)
starts_map h g = record { at = λ ts v word. g.at ts word.0 word.1 }

pub starts_seq : {S A B : Type 0} {a : Lang S A} {p : S → Bool} (b : Lang S B) → Starts p a → Starts p (seq a b)
starts_seq {p = p} b g = record {
  at = λ ts v word. ap (opens p) word.2 ∙ opens-append p word.0 word.1 (g.at word.0 v.0 word.3);
}

maybe_first : {S A B : Type 0} (a : Lang S A) (b : Lang S B) (p : S → Bool) → Starts p a → Starts p b
    → (ts x y : List S) (v : Option A) (w : B) → ts ≡ x ++ y → maybe a x v → b y w → opens p ts ≡ true
maybe_first a b p g h ts x y None w cut word last = ap (opens p) (cut ∙ ap (λ z. z ++ y) word) ∙ h.at y w last
maybe_first a b p g h ts x y (Some v) w cut word last = ap (opens p) cut ∙ opens-append p x y (g.at x v word)

-- an optional part and then a b
pub starts_maybe : {S A B : Type 0} {a : Lang S A} {b : Lang S B} {p : S → Bool} → Starts p a → Starts p b → Starts p (seq (maybe a) b)
starts_maybe {a = a} {b = b} {p = p} g h = record {
  at = λ ts v word. maybe_first a b p g h ts word.0 word.1 v.0 v.1 word.2 word.3 word.4;
}

many_first : {S A B : Type 0} (a : Lang S A) (b : Lang S B) (p : S → Bool) → Starts p a → Starts p b
    → (ts x y : List S) (v : List A) (w : B) → ts ≡ x ++ y → many a x v → b y w → opens p ts ≡ true
many_first a b p g h ts x y [] w cut word last = ap (opens p) (cut ∙ ap (λ z. z ++ y) word) ∙ h.at y w last
many_first a b p g h ts x y (v ∷ vs) w cut word last =
    let here : opens p x ≡ true = ap (opens p) word.2 ∙ opens-append p word.0 word.1 (g.at word.0 v word.3) in
    ap (opens p) cut ∙ opens-append p x y here

-- any number of as and then a b
pub starts_many : {S A B : Type 0} {a : Lang S A} {b : Lang S B} {p : S → Bool} → Starts p a → Starts p b → Starts p (seq (many a) b)
starts_many {a = a} {b = b} {p = p} g h = record {
  at = λ ts v word. many_first a b p g h ts word.0 word.1 v.0 v.1 word.2 word.3 word.4;
}

opens_within : {S : Type 0} (p p' : S → Bool) → ((t : S) → p t ≡ true → p' t ≡ true) → (ts : List S) → opens p ts ≡ true → opens p' ts ≡ true
opens_within p p' h [] o = cc
opens_within p p' h (t ∷ ts) o = h t o

-- a larger set of first symbols
pub starts_more : {S V : Type 0} {a : Lang S V} {p : S → Bool} (p' : S → Bool) → ((t : S) → p t ≡ true → p' t ≡ true) → Starts p a → Starts p' a
starts_more {p = p} p' h g = record { at = λ ts v word. opens_within p p' h ts (g.at ts v word) }

pub starts_or : {S V : Type 0} {a b : Lang S V} {p : S → Bool} → Starts p a → Starts p b → Starts p (or_else a b)
starts_or g h = record { at = λ ts v word. elim word [ inl u ↦ g.at ts v u | inr u ↦ h.at ts v u ] }

starts_nested : {S V : Type 0} (p : S → Bool) (rule : Lang S V → Lang S V) → ((L : Lang S V) → Starts p (rule L))
    → (d : ℕ) (ts : List S) (v : V) → nested rule d ts v → opens p ts ≡ true
unfolding nested
starts_nested p rule h zero ts v word = (h nothing).at ts v word
starts_nested p rule h (suc d) ts v word = (h (nested rule d)).at ts v word

-- a recursive rule begins with what its rule begins with
pub starts_recursive : {S V : Type 0} {p : S → Bool} (rule : Lang S V → Lang S V) → ((L : Lang S V) → Starts p (rule L))
    → Starts p (recursive rule)
unfolding recursive
starts_recursive {p = p} rule h = record { at = λ ts v word. starts_nested p rule h word.0 ts v word.1 }

-- after a closed rule anything may come
pub joins_never : {S V : Type 0} (b : Lang S V) (s : S → Bool) → Joins never b s
joins_never b s = record { at = λ q r v word clear. clear_never (q ++ r) }

clear_started : {S : Type 0} (p s : S → Bool) → ((t : S) → p t ≡ true → s t ≡ false) → (q r : List S) → opens p q ≡ true → Clear s (q ++ r)
clear_started p s h [] r o = cc
clear_started p s h (t ∷ q) r o = h t o

-- what begins with p doesn't go on with what stands before, if no symbol of p is in s
pub joins_starts : {S V : Type 0} {b : Lang S V} {p : S → Bool} {s s' : S → Bool} → Starts p b → ((t : S) → p t ≡ true → s t ≡ false) → Joins s b s'
joins_starts {p = p} {s = s} g h = record { at = λ q r v word clear. clear_started p s h q r (g.at q v word) }

pub joins_empty : {S V : Type 0} {s s' : S → Bool} (v : V) → ((t : S) → s' t ≡ false → s t ≡ false) → Joins s (empty v) s'
joins_empty {s = s} {s' = s'} v h = record {
  at = λ q r w word clear. subst (λ z. Clear s (z ++ r)) (sym word.0) (clear_within s s' h r clear);
}

pub joins_map : {S A B : Type 0} {a : Lang S A} {s s' : S → Bool} (h : A → B) → Joins s a s' → Joins s (map_to h a) s'
joins_map h g = record { at = λ q r v word clear. g.at q r word.0 word.1 clear }

pub joins_seq : {S A B : Type 0} {a : Lang S A} {b : Lang S B} {s s' s'' : S → Bool} → Joins s a s' → Joins s' b s'' → Joins s (seq a b) s''
joins_seq {s = s} g h = record {
  at = λ q r v word clear.
      let last = h.at word.1 r v.1 word.4 clear in
      let whole = g.at word.0 (word.1 ++ r) v.0 word.3 last in
      let cut : word.0 ++ (word.1 ++ r) ≡ q ++ r = sym (append_assoc word.0 word.1 r) ∙ ap (λ z. z ++ r) (sym word.2) in
      subst (Clear s) cut whole;
}

pub joins_or : {S V : Type 0} {a b : Lang S V} {s s' : S → Bool} → Joins s a s' → Joins s b s' → Joins s (or_else a b) s'
joins_or g h = record { at = λ q r v word clear. elim word [ inl u ↦ g.at q r v u clear | inr u ↦ h.at q r v u clear ] }

joins_maybe_at : {S V : Type 0} (a : Lang S V) (s s' : S → Bool) → Joins s a s' → ((t : S) → s' t ≡ false → s t ≡ false)
    → (q r : List S) (v : Option V) → maybe a q v → Clear s' r → Clear s (q ++ r)
joins_maybe_at a s s' g h q r None word clear = subst (λ z. Clear s (z ++ r)) (sym word) (clear_within s s' h r clear)
joins_maybe_at a s s' g h q r (Some v) word clear = g.at q r v word clear

pub joins_maybe : {S V : Type 0} {a : Lang S V} {s s' : S → Bool} → Joins s a s' → ((t : S) → s' t ≡ false → s t ≡ false)
    → Joins s (maybe a) s'
joins_maybe {a = a} {s = s} {s' = s'} g h = record { at = joins_maybe_at a s s' g h }

joins_many_at : {S V : Type 0} (a : Lang S V) (p s s' : S → Bool) → Starts p a → ((t : S) → p t ≡ true → s t ≡ false)
    → ((t : S) → s' t ≡ false → s t ≡ false) → (q r : List S) (v : List V) → many a q v → Clear s' r → Clear s (q ++ r)
joins_many_at a p s s' g apart h q r [] word clear = subst (λ z. Clear s (z ++ r)) (sym word) (clear_within s s' h r clear)
joins_many_at a p s s' g apart h q r (v ∷ vs) word clear =
    let starts : opens p q ≡ true = ap (opens p) word.2 ∙ opens-append p word.0 word.1 (g.at word.0 v word.3) in
    clear_started p s apart q r starts

pub joins_many : {S V : Type 0} {a : Lang S V} {p s s' : S → Bool} → Starts p a → ((t : S) → p t ≡ true → s t ≡ false)
    → ((t : S) → s' t ≡ false → s t ≡ false) → Joins s (many a) s'
joins_many {a = a} {p = p} {s = s} {s' = s'} g apart h = record { at = joins_many_at a p s s' g apart h }
