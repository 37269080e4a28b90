-- The law of a reader: what it gives at every list of symbols that begins alike, so that laws of parts make laws of wholes.
use Rattle.std.proofs.Common.{◌≡◌, ℕ, ◌≤◌, Bool, true, false, List, [], ◌∷◌, ◌++◌, length, Option, None, Some, refl, ap, subst}
use Rattle.grammar.specs.Language.{Lang}
use Rattle.grammar.specs.Reader.{Out, Got, Wrong, Reader, opens}

-- the first symbol; the end of the list counts as one more symbol, None
abbrev pub first : {S : Type 0} → List S → Option S
first [] = None
first (t ∷ _) = Some t

-- the stop set of a rule that nothing goes on with
abbrev pub never : {S : Type 0} → S → Bool
never _ = false

-- the first symbol, if there is one, isn't in s. Here s holds the symbols that go on with what was read
abbrev pub Clear : {S : Type 0} → (S → Bool) → List S → Type 0
Clear s [] = Unit {0}
Clear s (t ∷ _) = s t ≡ false

-- v was read from a front of ts. In every list that has this front and the same next symbol, it is the only reading
-- whose next symbol doesn't go on with it
pub record Found {S V : Type 0} (L : Lang S V) (s : S → Bool) (ts : List S) (v : V) (rest : List S) : Type 0 where
  pub front : List S
  pub cut : ts ≡ front ++ rest
  pub spells : L front v
  pub only : (x more r : List S) (w : V) → first more ≡ first rest → L x w → front ++ more ≡ x ++ r → Clear s r
      → (x ≡ front) × (w ≡ v)

-- nothing was read. The symbols before rest can be completed, and no list that has them and the same next symbol
-- has a reading
pub record Missed {S V : Type 0} (L : Lang S V) (s : S → Bool) (ts rest : List S) : Type 0 where
  pub front : List S
  pub cut : ts ≡ front ++ rest
  pub completion : List S
  pub value : V
  pub begins : L (front ++ completion) value
  pub dead : (x more r : List S) (w : V) → first more ≡ first rest → L x w → front ++ more ≡ x ++ r → Clear s r → ⊥

abbrev pub Outcome : {S V : Type 0} → Lang S V → (S → Bool) → List S → Out S V → Type 0
Outcome L s ts (Got v rest) = Found L s ts v rest
Outcome L s ts (Wrong rest) = Missed L s ts rest

-- r reads L at each list of at most n symbols, and symbols in s may go on with L
pub record Good {S V : Type 0} (n : ℕ) (L : Lang S V) (r : Reader S V) (s : S → Bool) : Type 0 where
  pub word : List S
  pub value : V
  pub spelled : L word value
  pub outcome : (ts : List S) → length ts ≤ n → Outcome L s ts (r ts)

-- each list that L spells has a first symbol, and p holds of it
pub record Starts {S V : Type 0} (p : S → Bool) (L : Lang S V) : Type 0 where
  pub at : (ts : List S) (v : V) → L ts v → opens p ts ≡ true

-- what L begins with, or where it is empty what comes after it, isn't in s, if what comes after it isn't in s'
pub record Joins {S V : Type 0} (s : S → Bool) (L : Lang S V) (s' : S → Bool) : Type 0 where
  pub at : (q r : List S) (v : V) → L q v → Clear s' r → Clear s (q ++ r)

-- every list that L spells is spelled by M, for the same value
pub record Within {S V : Type 0} (L M : Lang S V) : Type 0 where
  pub at : (ts : List S) (v : V) → L ts v → M ts v

pub first-append : {S : Type 0} (xs ys zs : List S) → first ys ≡ first zs → first (xs ++ ys) ≡ first (xs ++ zs)
first-append [] ys zs e = e
first-append (x ∷ xs) ys zs e = refl

pub clear_first : {S : Type 0} (s : S → Bool) (xs ys : List S) → first xs ≡ first ys → Clear s xs → Clear s ys
clear_first s xs [] e c = tt
clear_first s [] (y ∷ ys) e c = cc
clear_first s (x ∷ xs) (y ∷ ys) e c =
    let same : x ≡ y = cc in subst (λ z. s z ≡ false) same c

pub clear_never : {S : Type 0} (xs : List S) → Clear never xs
clear_never [] = tt
clear_never (x ∷ xs) = refl

pub clear_within : {S : Type 0} (s s' : S → Bool) → ((t : S) → s' t ≡ false → s t ≡ false) → (xs : List S) → Clear s' xs → Clear s xs
clear_within s s' h [] c = tt
clear_within s s' h (x ∷ xs) c = h x c

-- a list whose first symbol p holds of, and one whose first symbol isn't in p, differ
pub opens_clear : {S : Type 0} (p : S → Bool) (xs : List S) → opens p xs ≡ true → Clear p xs → ⊥
opens_clear p [] o c = cc
opens_clear p (x ∷ xs) o c = cc

pub opens-append : {S : Type 0} (p : S → Bool) (xs ys : List S) → opens p xs ≡ true → opens p (xs ++ ys) ≡ true
opens-append p [] ys o = cc
opens-append p (x ∷ xs) ys o = o

pub opens_first : {S : Type 0} (p : S → Bool) (xs ys : List S) → first xs ≡ first ys → opens p xs ≡ opens p ys
opens_first p [] [] e = refl
opens_first p [] (y ∷ ys) e = cc
opens_first p (x ∷ xs) [] e = cc
opens_first p (x ∷ xs) (y ∷ ys) e = let same : x ≡ y = cc in ap p same
