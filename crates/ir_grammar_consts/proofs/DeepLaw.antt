-- A reader that stops at the first bracket that is the 65th open one: what it gives up to there holds of the whole list.
use Rattle.std.proofs.Common.{◌≡◌, ℕ, ◌≤◌, Bool, true, List, [], ◌∷◌, ◌++◌, length, take, drop, None, Some, refl, sym, ◌∙◌, ap, subst, arith, append_assoc, length-append, inl, inr, not}
use Rattle.std.proofs.lemmas.List.{append-nil, take-append-drop}
use Rattle.grammar.specs.Language.{Lang}
use Rattle.grammar.specs.Reader.{Got, Wrong, Reader}
use Rattle.grammar.specs.FirstWrong.{Begins, Reads}
use Rattle.grammar.proofs.Good.{never, Good}
use Rattle.grammar.proofs.Reading.{reads, reads_begun, wrong_stays}
use Rattle.ir_lex.specs.Symbols.{Symbol}
use Rattle.ir_grammar_consts.specs.Depth.{IsTooDeep, IsDeep, IsShallow}
use Rattle.ir_grammar_consts.specs.Counting.{deep_len}
use Rattle.ir_grammar_consts.proofs.Depths.{deep_found, deep_counted, opens_bracket, last_opens}
use Rattle.ir_grammar_consts.proofs.Ends.{Ends}

-- what doesn't open a bracket
abbrev pub closed_end : Symbol → Bool
closed_end t = not (opens_bracket t)

-- no bracket is the 65th open one
pub shallow_none : {V : Type 0} (L : Lang Symbol V) (ts : List Symbol) → deep_len 0 ts ≡ None → IsShallow L ts
shallow_none L ts e front rest cut deep =
    let there : deep_len 0 ts ≡ Some (length front) = ap (deep_len 0) cut ∙ deep_counted 0 front rest deep.deep in cc

ends_same : {S : Type 0} (xs ys : List S) (x y : S) → xs ++ x ∷ [] ≡ ys ++ y ∷ [] → x ≡ y
ends_same [] [] x y e = cc
ends_same [] (z ∷ ys) x y e = absurd (omega (arith, ap length e, length-append ys (y ∷ [])))
ends_same (z ∷ xs) [] x y e = absurd (omega (arith, ap length e, length-append xs (x ∷ [])))
ends_same (z ∷ xs) (u ∷ ys) x y e = ends_same xs ys x y (let tail : xs ++ x ∷ [] ≡ ys ++ y ∷ [] = cc in tail)

-- a word doesn't end in a bracket that opens
no_word_deep : {V : Type 0} {L : Lang Symbol V} → Ends closed_end L → (front : List Symbol) (v : V) → L front v → IsTooDeep 0 front → ⊥
no_word_deep ends front v word deep =
    let last = ends.at front v word in
    let opens : opens_bracket deep.bracket ≡ true = last_opens 0 front deep in
    let same : last.1 ≡ deep.bracket = ends_same last.0 deep.before last.1 deep.bracket (sym last.2 ∙ deep.cut) in
    let shut : not (opens_bracket deep.bracket) ≡ true = ap closed_end (sym same) ∙ last.3 in
    cc

-- the same front in any cut of the list
front_same : (ts : List Symbol) (k : ℕ) → deep_len 0 ts ≡ Some k → (front rest : List Symbol) → ts ≡ front ++ rest → IsTooDeep 0 front → take k ts ≡ front
front_same ts k e front rest cut deep =
    let there : deep_len 0 ts ≡ Some (length front) = ap (deep_len 0) cut ∙ deep_counted 0 front rest deep in
    let same : k ≡ length front = cc in
    ap (λ z. take z ts) same ∙ ap (take (length front)) cut ∙ take_front front rest
  where
    take_front : (xs ys : List Symbol) → take (length xs) (xs ++ ys) ≡ xs
    take_front [] ys = refl
    take_front (x ∷ xs) ys = ap (λ z. x ∷ z) (take_front xs ys)

-- a reader that doesn't stop at the end of the cut list has met no word's beginning there
shallow_cut : {V : Type 0} {n : ℕ} {L : Lang Symbol V} {r : Reader Symbol V} → Good n L r never → Ends closed_end L → (ts : List Symbol) (k : ℕ)
    → deep_len 0 ts ≡ Some k → length (take k ts) ≤ n → (r (take k ts) ≡ Wrong [] → ⊥) → IsShallow L ts
shallow_cut {V = V} {L = L} {r = r} g ends ts k e short other front rest cut deep =
    let same : take k ts ≡ front = front_same ts k e front rest cut deep.deep in
    let begun : Begins L (take k ts) = subst (Begins L) (sym same) deep.begins in
    elim (reads_begun g (take k ts) short begun) [
      | inl w ↦ other w
      | inr v ↦
          let whole = subst (Reads L (take k ts)) v.1 (reads g (take k ts) short) in
          let all : front ≡ whole.0 = sym same ∙ whole.1 ∙ append-nil whole.0 in
          no_word_deep ends front v.0 (subst (λ z. L z v.0) (sym all) whole.2) deep.deep
    ]

-- a value that was read up to the bracket is that of the whole list
pub cut_got : {V : Type 0} {n : ℕ} {L : Lang Symbol V} {r : Reader Symbol V} → Good n L r never → Ends closed_end L → (ts : List Symbol) (k : ℕ)
    → deep_len 0 ts ≡ Some k → length ts ≤ n → (v : V) (rest : List Symbol) → r (take k ts) ≡ Got v rest
    → Reads L ts (Got v (rest ++ drop k ts)) × IsShallow L ts
cut_got {L = L} {r = r} g ends ts k e short v rest given =
    let whole : take k ts ++ drop k ts ≡ ts = take-append-drop k ts in
    let less : length (take k ts) ≤ length ts = omega (arith, ap length whole, length-append (take k ts) (drop k ts)) in
    let part = subst (Reads L (take k ts)) given (reads g (take k ts) (omega arith)) in
    let cut : ts ≡ part.0 ++ (rest ++ drop k ts) = sym whole ∙ ap (λ z. z ++ drop k ts) part.1 ∙ append_assoc part.0 rest (drop k ts) in
    ((part.0, cut, part.2), shallow_cut g ends ts k e (omega arith) (λ w. let no : Got v rest ≡ Wrong [] = sym given ∙ w in cc))

-- a symbol that is wrong before the bracket is wrong in the whole list
pub cut_wrong : {V : Type 0} {n : ℕ} {L : Lang Symbol V} {r : Reader Symbol V} → Good n L r never → Ends closed_end L → (ts : List Symbol) (k : ℕ)
    → deep_len 0 ts ≡ Some k → length ts ≤ n → (t : Symbol) (rest : List Symbol) → r (take k ts) ≡ Wrong (t ∷ rest)
    → Reads L ts (Wrong (t ∷ (rest ++ drop k ts))) × IsShallow L ts
cut_wrong {L = L} {r = r} g ends ts k e short t rest given =
    let whole : take k ts ++ drop k ts ≡ ts = take-append-drop k ts in
    let less : length (take k ts) ≤ length ts = omega (arith, ap length whole, length-append (take k ts) (drop k ts)) in
    let fits : length (take k ts ++ drop k ts) ≤ length ts = omega (arith, ap length whole) in
    let stays : r (take k ts ++ drop k ts) ≡ Wrong (t ∷ (rest ++ drop k ts)) = wrong_stays g (take k ts) (drop k ts) t rest (omega arith) given in
    let all : r ts ≡ Wrong (t ∷ (rest ++ drop k ts)) = ap r (sym whole) ∙ stays in
    (subst (Reads L ts) all (reads g ts short), shallow_cut g ends ts k e (omega arith) (λ w. let no : Wrong (t ∷ rest) ≡ Wrong [] = sym given ∙ w in cc))

-- where no symbol is wrong up to the bracket, there is too deep
pub cut_deep : {V : Type 0} {n : ℕ} {L : Lang Symbol V} {r : Reader Symbol V} → Good n L r never → (ts : List Symbol) (k : ℕ)
    → deep_len 0 ts ≡ Some k → length (take k ts) ≤ n → r (take k ts) ≡ Wrong [] → IsDeep L (take k ts)
cut_deep {L = L} {r = r} g ts k e short given =
    let part = subst (Reads L (take k ts)) given (reads g (take k ts) short) in
    let first = part.0 in
    let found = deep_found 0 ts k (omega arith) e in
    record {
      deep = found.0;
      begins = subst (Begins L) (sym (first.cut ∙ append-nil first.before)) first.begins;
    }
