-- A choice whose second part may begin as the first one does, if what it then spells the first one spells too.
use Rattle.std.proofs.Common.{◌≡◌, ℕ, Bool, true, false, List, [], ◌∷◌, ◌++◌, inl, inr, refl, sym, ◌∙◌, ap, if◌then◌else◌}
use Rattle.grammar.specs.Language.{Lang, or_else}
use Rattle.grammar.specs.Reader.{Out, Got, Wrong, Reader, opens, run_or}
use Rattle.grammar.proofs.Good.{first, Outcome, Good, Starts, first-append, opens-append, opens_first}

-- what L spells has a first symbol that p tells as it tells the whole list
pub opens_front : {S V : Type 0} (p q : S → Bool) (L : Lang S V) → Starts q L → (x r : List S) (v : V) → L x v → opens p (x ++ r) ≡ opens p x
opens_front p q L starts [] r v word = let here : opens q [] ≡ true = starts.at [] v word in cc
opens_front p q L starts (t ∷ x) r v word = refl

-- what opens with p in ts opens with p in each list that has the front and the next symbol of ts
opens_alike : {S : Type 0} (p : S → Bool) (front rest more ts ys : List S) → ts ≡ front ++ rest → first more ≡ first rest
    → front ++ more ≡ ys → opens p ys ≡ opens p ts
opens_alike p front rest more ts ys cut same line =
    opens_first p ys ts (ap first (sym line) ∙ first-append front more rest same ∙ ap first (sym cut))

-- a word of either part is a word of the first one where the list begins with p
over_left : {S V : Type 0} (p q : S → Bool) (a b : Lang S V) → Starts q b → ((x : List S) (w : V) → b x w → opens p x ≡ true → a x w)
    → (x r : List S) (w : V) → opens p (x ++ r) ≡ true → or_else a b x w → a x w
over_left p q a b starts over x r w o (inl u) = u
over_left p q a b starts over x r w o (inr u) = over x w u (sym (opens_front p q b starts x r w u) ∙ o)

-- and of the second one where it doesn't
only_right : {S V : Type 0} (p : S → Bool) (a b : Lang S V) → Starts p a → (x r : List S) (w : V) → opens p (x ++ r) ≡ false → or_else a b x w → b x w
only_right p a b starts x r w o (inl u) = let here : opens p (x ++ r) ≡ true = opens-append p x r (starts.at x w u) in cc
only_right p a b starts x r w o (inr u) = u

outcome_left : {S V : Type 0} (p q : S → Bool) (a b : Lang S V) (s : S → Bool) → Starts q b
    → ((x : List S) (w : V) → b x w → opens p x ≡ true → a x w)
    → (ts : List S) → opens p ts ≡ true → (o : Out S V) → Outcome a s ts o → Outcome (or_else a b) s ts o
outcome_left p q a b s starts over ts o (Got v rest) g = record {
  front = g.front;
  cut = g.cut;
  spells = inl g.spells;
  only = λ x more r w same word line clear.
      let alike : opens p (x ++ r) ≡ opens p ts = opens_alike p g.front rest more ts (x ++ r) g.cut same line in
      g.only x more r w same (over_left p q a b starts over x r w (alike ∙ o) word) line clear;
}
outcome_left p q a b s starts over ts o (Wrong rest) g = record {
  front = g.front;
  cut = g.cut;
  completion = g.completion;
  value = g.value;
  begins = inl g.begins;
  dead = λ x more r w same word line clear.
      let alike : opens p (x ++ r) ≡ opens p ts = opens_alike p g.front rest more ts (x ++ r) g.cut same line in
      g.dead x more r w same (over_left p q a b starts over x r w (alike ∙ o) word) line clear;
}

outcome_right : {S V : Type 0} (p : S → Bool) (a b : Lang S V) (s : S → Bool) → Starts p a
    → (ts : List S) → opens p ts ≡ false → (o : Out S V) → Outcome b s ts o → Outcome (or_else a b) s ts o
outcome_right p a b s starts ts o (Got v rest) g = record {
  front = g.front;
  cut = g.cut;
  spells = inr g.spells;
  only = λ x more r w same word line clear.
      let alike : opens p (x ++ r) ≡ opens p ts = opens_alike p g.front rest more ts (x ++ r) g.cut same line in
      g.only x more r w same (only_right p a b starts x r w (alike ∙ o) word) line clear;
}
outcome_right p a b s starts ts o (Wrong rest) g = record {
  front = g.front;
  cut = g.cut;
  completion = g.completion;
  value = g.value;
  begins = inr g.begins;
  dead = λ x more r w same word line clear.
      let alike : opens p (x ++ r) ≡ opens p ts = opens_alike p g.front rest more ts (x ++ r) g.cut same line in
      g.dead x more r w same (only_right p a b starts x r w (alike ∙ o) word) line clear;
}

outcome_over : {S V : Type 0} (p q : S → Bool) (a b : Lang S V) (s : S → Bool) → Starts p a → Starts q b
    → ((x : List S) (w : V) → b x w → opens p x ≡ true → a x w)
    → (ts : List S) (left right : Out S V) → Outcome a s ts left → Outcome b s ts right
    → (c : Bool) → opens p ts ≡ c → Outcome (or_else a b) s ts (if c then left else right)
outcome_over p q a b s starts begins over ts left right g h true o = outcome_left p q a b s begins over ts o left g
outcome_over p q a b s starts begins over ts left right g h false o = outcome_right p a b s starts ts o right h

-- an a, which begins with p, or a b, which is an a where it begins with p
pub good_over : {S V : Type 0} {n : ℕ} {a b : Lang S V} {ra rb : Reader S V} {s : S → Bool} (p q : S → Bool) → Starts p a → Starts q b
    → ((x : List S) (w : V) → b x w → opens p x ≡ true → a x w)
    → Good n a ra s → Good n b rb s → Good n (or_else a b) (run_or p ra rb) s
good_over {a = a} {b = b} {ra = ra} {rb = rb} {s = s} p q starts begins over g h = record {
  word = g.word;
  value = g.value;
  spelled = inl g.spelled;
  outcome = λ ts short.
      outcome_over p q a b s starts begins over ts (ra ts) (rb ts) (g.outcome ts short) (h.outcome ts short) (opens p ts) refl;
}
