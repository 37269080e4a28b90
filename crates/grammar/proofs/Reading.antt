-- What follows from the law of a reader: it gives what the language spells, names the first wrong symbol, and reads back
-- what was spelled; and a list has one reading at most.
use Rattle.std.proofs.Common.{◌≡◌, ℕ, ◌≤◌, Bool, List, [], ◌∷◌, ◌++◌, length, refl, sym, ◌∙◌, ap, subst, arith, append_assoc, length-append, ◌⊎◌, inl, inr}
use Rattle.std.proofs.lemmas.List.{append_cancel_left, append_cancel_right, append-nil}
use Rattle.grammar.specs.Language.{Lang}
use Rattle.grammar.specs.Reader.{Out, Got, Wrong, Reader, all_read}
use Rattle.grammar.specs.FirstWrong.{Begins, FirstWrong, Reads, ReadsAll}
use Rattle.grammar.proofs.Good.{first, never, Clear, Found, Missed, Outcome, Good, clear_never}

first_wrong : {S V : Type 0} (L : Lang S V) (s : S → Bool) (ts rest : List S) → Missed L s ts rest → FirstWrong L ts rest
first_wrong L s ts rest g = record {
  before = g.front;
  cut = g.cut;
  begins = (g.completion, g.value, g.begins);
  wrong = λ t more e word.
      let line : g.front ++ (t ∷ word.0) ≡ ((g.front ++ t ∷ []) ++ word.0) ++ [] =
      sym (append_assoc g.front (t ∷ []) word.0) ∙ sym (append-nil ((g.front ++ t ∷ []) ++ word.0)) in
      g.dead ((g.front ++ t ∷ []) ++ word.0) (t ∷ word.0) [] word.1 (ap first (sym e)) word.2 line tt;
}

longer : {S : Type 0} (xs : List S) (t : S) (ys : List S) → (xs ++ t ∷ []) ++ ys ≡ xs → ⊥
longer xs t ys e = absurd (omega (arith, ap length e, length-append (xs ++ t ∷ []) ys, length-append xs (t ∷ [])))

no_rest : {S : Type 0} (xs : List S) (t : S) (ys : List S) → xs ++ (t ∷ ys) ≡ xs → ⊥
no_rest xs t ys e = absurd (omega (arith, ap length e, length-append xs (t ∷ ys)))

-- a closed rule's reader at a list: the value that a front spells, or the first wrong symbol where no front spells any
reads_at : {S V : Type 0} (L : Lang S V) (ts : List S) (o : Out S V) → Outcome L never ts o → Reads L ts o
reads_at L ts (Got v rest) g = (g.front, g.cut, g.spells)
reads_at L ts (Wrong rest) g = (
  first_wrong L never ts rest g,
  λ p r v e word. g.dead p rest r v refl word (sym g.cut ∙ e) (clear_never r),
)

pub reads : {S V : Type 0} {n : ℕ} {L : Lang S V} {r : Reader S V} → Good n L r never → (ts : List S) → length ts ≤ n → Reads L ts (r ts)
reads {L = L} {r = r} g ts short = reads_at L ts (r ts) (g.outcome ts short)

reads_all_at : {S V : Type 0} (L : Lang S V) (s : S → Bool) (ts : List S) (o : Out S V) → Outcome L s ts o → ReadsAll L ts (all_read o)
reads_all_at L s ts (Got v []) g =
    let whole : ts ≡ g.front = g.cut ∙ append-nil g.front in
    (refl, subst (λ z. L z v) (sym whole) g.spells)
reads_all_at L s ts (Got v (t ∷ rest)) g = (
  record {
    before = g.front;
    cut = g.cut;
    begins = ([], v, subst (λ z. L z v) (sym (append-nil g.front)) g.spells);
    wrong = λ u more e word.
        let line : g.front ++ (u ∷ word.0) ≡ ((g.front ++ u ∷ []) ++ word.0) ++ [] =
        sym (append_assoc g.front (u ∷ []) word.0) ∙ sym (append-nil ((g.front ++ u ∷ []) ++ word.0)) in
        let same : first (u ∷ word.0) ≡ first (t ∷ rest) = ap first (sym e) in
        let inner = g.only ((g.front ++ u ∷ []) ++ word.0) (u ∷ word.0) [] word.1 same word.2 line tt in
        longer g.front u word.0 inner.0;
  },
  λ w word.
      let line : g.front ++ (t ∷ rest) ≡ ts ++ [] = sym g.cut ∙ sym (append-nil ts) in
      let inner = g.only ts (t ∷ rest) [] w refl word line tt in
      let back : ts ≡ g.front = inner.0 in
      no_rest g.front t rest (sym g.cut ∙ back),
)
reads_all_at L s ts (Wrong rest) g = (
  first_wrong L s ts rest g,
  λ v word. g.dead ts rest [] v refl word (sym g.cut ∙ sym (append-nil ts)) tt,
)

-- a reader that asks for the whole list: the value that it spells, or the first wrong symbol where it spells none
pub reads_all : {S V : Type 0} {n : ℕ} {L : Lang S V} {r : Reader S V} {s : S → Bool} → Good n L r s → (ts : List S) → length ts ≤ n
    → ReadsAll L ts (all_read (r ts))
reads_all {L = L} {r = r} {s = s} g ts short = reads_all_at L s ts (r ts) (g.outcome ts short)

back_at : {S V : Type 0} (L : Lang S V) (s : S → Bool) (p rest : List S) (v : V) → L p v → Clear s rest
    → (o : Out S V) → Outcome L s (p ++ rest) o → o ≡ Got v rest
back_at L s p rest v word clear (Got w more) g =
    let inner = g.only p more rest v refl word (sym g.cut) clear in
    let front : p ≡ g.front = inner.0 in
    let name : v ≡ w = inner.1 in
    let tail : p ++ more ≡ p ++ rest = ap (λ z. z ++ more) front ∙ sym g.cut in
    let left : more ≡ rest = append_cancel_left p more rest tail in
    cc
back_at L s p rest v word clear (Wrong more) g = absurd (g.dead p more rest v refl word (sym g.cut) clear)

-- what was spelled is read back, whatever follows that doesn't go on with it
pub reads_back : {S V : Type 0} {n : ℕ} {L : Lang S V} {r : Reader S V} {s : S → Bool} → Good n L r s
    → (p rest : List S) (v : V) → L p v → Clear s rest → length (p ++ rest) ≤ n → r (p ++ rest) ≡ Got v rest
reads_back {L = L} {r = r} {s = s} g p rest v word clear short =
    back_at L s p rest v word clear (r (p ++ rest)) (g.outcome (p ++ rest) short)

-- the same for a closed rule, whatever follows
pub reads_back_closed : {S V : Type 0} {n : ℕ} {L : Lang S V} {r : Reader S V} → Good n L r never
    → (p rest : List S) (v : V) → L p v → length (p ++ rest) ≤ n → r (p ++ rest) ≡ Got v rest
reads_back_closed g p rest v word short = reads_back g p rest v word (clear_never rest) short

-- a language that a good reader reads at any length has one reading at most: two of its words that begin one list are one,
-- where what follows them doesn't go on with them
pub one_reading : {S V : Type 0} {L : Lang S V} {r : ℕ → Reader S V} {s : S → Bool} → ((n : ℕ) → Good n L (r n) s)
    → (p q rest more : List S) (v w : V) → L p v → L q w → p ++ rest ≡ q ++ more → Clear s rest → Clear s more → (p ≡ q) × (v ≡ w)
one_reading {S = S} {V = V} {L = L} {r = r} {s = s} g p q rest more v w word_p word_q line clear_p clear_q =
    let n : ℕ = length (p ++ rest) in
    let within : length (p ++ rest) ≤ n = omega arith in
    let one : r n (p ++ rest) ≡ Got v rest = reads_back (g n) p rest v word_p clear_p within in
    let fits : length (q ++ more) ≤ n = omega (arith, ap length line) in
    let two : r n (q ++ more) ≡ Got w more = reads_back (g n) q more w word_q clear_q fits in
    let both : r n (p ++ rest) ≡ r n (q ++ more) = ap (r n) line in
    let name : v ≡ w = cc in
    let tail : rest ≡ more = cc in
    let front : p ++ more ≡ q ++ more = ap (λ z. p ++ z) (sym tail) ∙ line in
    (append_cancel_right p q more front, name)

-- the values of one list are one
pub one_value : {S V : Type 0} {L : Lang S V} {r : ℕ → Reader S V} {s : S → Bool} → ((n : ℕ) → Good n L (r n) s)
    → (p : List S) (v w : V) → L p v → L p w → v ≡ w
one_value g p v w word_v word_w = (one_reading g p p [] [] v w word_v word_w refl tt tt).1

-- two cuts of one list: one front goes on to the other
two_cuts : {S : Type 0} (xs ys rest more : List S) → xs ++ rest ≡ ys ++ more
    → ((u : List S) × (ys ≡ xs ++ u) × (rest ≡ u ++ more)) ⊎ ((u : List S) × (xs ≡ ys ++ u) × (more ≡ u ++ rest))
two_cuts [] ys rest more e = inl (ys, refl, e)
two_cuts (x ∷ xs) [] rest more e = inr (x ∷ xs, refl, sym e)
two_cuts (x ∷ xs) (y ∷ ys) rest more e =
    let tail : xs ++ rest ≡ ys ++ more = cc in
    let head : x ≡ y = cc in
    elim (two_cuts xs ys rest more tail) [
      | inl u ↦ inl (u.0, let part : ys ≡ xs ++ u.0 = u.1 in cc, u.2)
      | inr u ↦ inr (u.0, let part : xs ≡ ys ++ u.0 = u.1 in cc, u.2)
    ]

missed_past : {S V : Type 0} (L : Lang S V) (s : S → Bool) (ts rest more : List S) → (g : Missed L s ts rest) → (h : Missed L s ts more)
    → (u : List S) → h.front ≡ g.front ++ u → rest ≡ u ++ more → rest ≡ more
missed_past L s ts rest more g h [] e cut = cut
missed_past L s ts rest more g h (t ∷ u) e cut =
    let same : first ((t ∷ u) ++ h.completion) ≡ first rest = ap first (sym cut) in
    let line : g.front ++ ((t ∷ u) ++ h.completion) ≡ (h.front ++ h.completion) ++ [] =
    sym (append_assoc g.front (t ∷ u) h.completion) ∙ ap (λ z. z ++ h.completion) (sym e) ∙ sym (append-nil (h.front ++ h.completion)) in
    absurd (g.dead (h.front ++ h.completion) ((t ∷ u) ++ h.completion) [] h.value same h.begins line tt)

-- a list has one first wrong symbol
pub one_wrong : {S V : Type 0} (L : Lang S V) (s : S → Bool) (ts rest more : List S) → Missed L s ts rest → Missed L s ts more → rest ≡ more
one_wrong L s ts rest more g h =
    elim (two_cuts g.front h.front rest more (sym g.cut ∙ h.cut)) [
      | inl u ↦ missed_past L s ts rest more g h u.0 u.1 u.2
      | inr u ↦ sym (missed_past L s ts more rest h g u.0 u.1 u.2)
    ]

wrong_on : {S V : Type 0} (L : Lang S V) (s : S → Bool) (ts : List S) (t : S) (rest more : List S) → Missed L s ts (t ∷ rest)
    → Missed L s (ts ++ more) (t ∷ (rest ++ more))
wrong_on L s ts t rest more g = record {
  front = g.front;
  cut = ap (λ z. z ++ more) g.cut ∙ append_assoc g.front (t ∷ rest) more;
  completion = g.completion;
  value = g.value;
  begins = g.begins;
  dead = g.dead;
}

wrong_out : {S V : Type 0} (L : Lang S V) (ts rest : List S) → Missed L never ts rest → (o : Out S V) → Outcome L never ts o → o ≡ Wrong rest
wrong_out L ts rest g (Got v more) h =
    absurd (g.dead h.front rest more v refl h.spells (sym g.cut ∙ h.cut) (clear_never more))
wrong_out L ts rest g (Wrong more) h = ap Wrong (one_wrong L never ts more rest h g)

-- a closed rule's value stays the same where more symbols follow
pub reads_on : {S V : Type 0} {n : ℕ} {L : Lang S V} {r : Reader S V} → Good n L r never → (ts more : List S) (v : V) (rest : List S)
    → length (ts ++ more) ≤ n → r ts ≡ Got v rest → r (ts ++ more) ≡ Got v (rest ++ more)
reads_on {L = L} {r = r} g ts more v rest short e =
    let less : length ts ≤ length (ts ++ more) = omega (arith, length-append ts more) in
    let found : Found L never ts v rest = subst (Outcome L never ts) e (g.outcome ts (omega arith)) in
    let cut : ts ++ more ≡ found.front ++ (rest ++ more) = ap (λ z. z ++ more) found.cut ∙ append_assoc found.front rest more in
    let fits : length (found.front ++ (rest ++ more)) ≤ length (ts ++ more) = omega (arith, ap length cut) in
    ap r cut ∙ reads_back_closed g found.front (rest ++ more) v found.spells (omega arith)

-- and so does its first wrong symbol
pub wrong_stays : {S V : Type 0} {n : ℕ} {L : Lang S V} {r : Reader S V} → Good n L r never → (ts more : List S) (t : S) (rest : List S)
    → length (ts ++ more) ≤ n → r ts ≡ Wrong (t ∷ rest) → r (ts ++ more) ≡ Wrong (t ∷ (rest ++ more))
wrong_stays {L = L} {r = r} g ts more t rest short e =
    let less : length ts ≤ length (ts ++ more) = omega (arith, length-append ts more) in
    let missed : Missed L never ts (t ∷ rest) = subst (Outcome L never ts) e (g.outcome ts (omega arith)) in
    wrong_out L (ts ++ more) (t ∷ (rest ++ more)) (wrong_on L never ts t rest more missed) (r (ts ++ more)) (g.outcome (ts ++ more) short)

begins_at : {S V : Type 0} (L : Lang S V) (ts q : List S) (w : V) → L (ts ++ q) w → (o : Out S V) → Outcome L never ts o
    → (o ≡ Wrong []) ⊎ ((v : V) × (o ≡ Got v []))
begins_at L ts q w word (Got v []) g = inr (v, refl)
begins_at L ts q w word (Got v (t ∷ rest)) g =
    let line : g.front ++ ((t ∷ rest) ++ q) ≡ (ts ++ q) ++ [] =
    sym (append_assoc g.front (t ∷ rest) q) ∙ ap (λ z. z ++ q) (sym g.cut) ∙ sym (append-nil (ts ++ q)) in
    let inner = g.only (ts ++ q) ((t ∷ rest) ++ q) [] w refl word line tt in
    let back : (g.front ++ (t ∷ rest)) ++ q ≡ g.front = ap (λ z. z ++ q) (sym g.cut) ∙ inner.0 in
    absurd (no_rest g.front t (rest ++ q) (sym (append_assoc g.front (t ∷ rest) q) ∙ back))
begins_at L ts q w word (Wrong []) g = inl refl
begins_at L ts q w word (Wrong (t ∷ rest)) g =
    let line : g.front ++ ((t ∷ rest) ++ q) ≡ (ts ++ q) ++ [] =
    sym (append_assoc g.front (t ∷ rest) q) ∙ ap (λ z. z ++ q) (sym g.cut) ∙ sym (append-nil (ts ++ q)) in
    absurd (g.dead (ts ++ q) ((t ∷ rest) ++ q) [] w refl word line tt)

-- where symbols begin a word of a closed rule, its reader finds none of them wrong, and leaves none of them over
pub reads_begun : {S V : Type 0} {n : ℕ} {L : Lang S V} {r : Reader S V} → Good n L r never → (ts : List S) → length ts ≤ n
    → Begins L ts → (r ts ≡ Wrong []) ⊎ ((v : V) × (r ts ≡ Got v []))
reads_begun {L = L} {r = r} g ts short b = begins_at L ts b.0 b.1 b.2 (r ts) (g.outcome ts short)
