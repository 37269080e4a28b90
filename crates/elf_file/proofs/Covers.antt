-- Ranges of addresses share one exactly if some address is counted twice, and sorted ranges share one
-- exactly if neighbours do.
use Rattle.std.proofs.Common.{◌≡◌, ℕ, zero, suc, ◌+◌, ◌<◌, ◌≤◌, min, max, Bool, true, false, cond, ◌==◌, not, List, [], ◌∷◌, length, filter, refl, ap, sym, subst, ◌⊎◌, inl, inr, arith, sum_by, slice_index_or}
use Rattle.std.proofs.lemmas.Bool.{ltb-true, ltb-false, lt-ltb, le-ltb, le-leb, lt-leb, or_cases, or_parts, cases_lt, cases_Bool, both_ways}
use Rattle.std.proofs.lemmas.Bool.Decides.{eqb_tells}
use Rattle.std.proofs.lemmas.List.Elements.{All-cons}
use Rattle.std.proofs.lemmas.List.Sorted.{sum_by-IsPermutation}
use Rattle.std.proofs.lemmas.List.Sums.{sum_by-cons}
use Rattle.std.specs.List.{All, list_any, AllAdjacentBelow}
use Rattle.std.specs.Bool.{MatchBool}
use Rattle.std.specs.List.Sorted.{IsPermutation, IsNonDecreasingBy}
use lib.Dec.{ltb, leb}
use Rattle.elf_file.specs.Image.{overlap, any_pair}

-- 1 where the address is one of the n from b, and 0 elsewhere
abbrev pub covers : ℕ → ℕ → ℕ → ℕ
covers b n a = cond (leb b a) (cond (ltb a (b + n)) 1 0) 0

covers_in : (b n a : ℕ) → b ≤ a → a < b + n → covers b n a ≡ 1
covers_in b n a from below = rw (le-leb b a from, lt-ltb a (b + n) below) refl

covers_below : (b n a : ℕ) → a < b → covers b n a ≡ 0
covers_below b n a h = rw (lt-leb b a h) refl

covers_past : (b n a : ℕ) → b + n ≤ a → covers b n a ≡ 0
covers_past b n a h =
    let from : b ≤ a = omega arith in
    rw (le-leb b a from, le-ltb a (b + n) h) refl

covers_tells : (b n a : ℕ)
    → ((b ≤ a) × (a < b + n) × (covers b n a ≡ 1)) ⊎ (((a < b) ⊎ (b + n ≤ a)) × (covers b n a ≡ 0))
covers_tells b n a = elim (cases_lt a b) [
  | inl before ↦ inr (inl before, covers_below b n a before)
  | inr from ↦ elim (cases_lt a (b + n)) [
    | inl below ↦ inl (from, below, covers_in b n a from below)
    | inr past ↦ inr (inr past, covers_past b n a past)
  ]
]

covers-le : (b n a : ℕ) → covers b n a ≤ 1
covers-le b n a = elim (covers_tells b n a) [ inl is ↦ omega (arith, is.2) | inr is ↦ omega (arith, is.1) ]

-- an overlap is an address in both
overlap_found : (a m b n : ℕ) → overlap a m b n ≡ true → (x : ℕ) × (covers a m x ≡ 1) × (covers b n x ≡ 1)
overlap_found a m b n h =
    let top = ltb-true (max a b) (min (a + m) (b + n)) h in
    (max a b, covers_in a m (max a b) (omega arith) (omega arith), covers_in b n (max a b) (omega arith) (omega arith))

overlap_none : (a m b n x : ℕ) → overlap a m b n ≡ false → covers a m x ≡ 1 → covers b n x ≡ 0
overlap_none a m b n x h is =
    let top = ltb-false (max a b) (min (a + m) (b + n)) h in
    elim (covers_tells b n x) [
      | inr out ↦ out.1
      | inl inside ↦ elim (covers_tells a m x) [
        | inr out ↦ absurd (omega (arith, is, out.1))
        | inl both ↦ absurd (omega (arith, inside.0, inside.1, both.0, both.1, top))
      ]
    ]

-- how many of the ranges cover the address
abbrev pub count : {X : Type 0} → (X → ℕ) → (X → ℕ) → ℕ → List X → ℕ
count base size a xs = sum_by (λ x. covers (base x) (size x) a) xs

count-cons : {X : Type 0} (base size : X → ℕ) (a : ℕ) (x : X) (xs : List X)
    → count base size a (x ∷ xs) ≡ covers (base x) (size x) a + count base size a xs
count-cons base size a x xs = sum_by-cons (λ x. covers (base x) (size x) a) x xs

-- two ranges share an address
abbrev pub shares : {X : Type 0} → (X → ℕ) → (X → ℕ) → X → X → Bool
shares base size x y = overlap (base x) (size x) (base y) (size y)

any_found : {X : Type 0} (base size : X → ℕ) (x : X) (xs : List X) → list_any (shares base size x) xs ≡ true
    → (a : ℕ) × (covers (base x) (size x) a ≡ 1) × (1 ≤ count base size a xs)
any_found base size x [] h = absurd (both_ways true (sym h) refl)
any_found base size x (y ∷ ys) h = elim (or_cases (shares base size x y) (list_any (shares base size x) ys) h) [
  | inl here ↦
      let at = overlap_found (base x) (size x) (base y) (size y) here in
      (at.0, at.1, omega (arith, at.2, count-cons base size at.0 y ys))
  | inr later ↦
      let at = any_found base size x ys later in
      (at.0, at.1, omega (arith, at.2, count-cons base size at.0 y ys))
]

any_none : {X : Type 0} (base size : X → ℕ) (x : X) (xs : List X) (a : ℕ) → list_any (shares base size x) xs ≡ false
    → covers (base x) (size x) a ≡ 1 → count base size a xs ≡ 0
any_none base size x [] a h is = refl
any_none base size x (y ∷ ys) a h is =
    let parts = or_parts (shares base size x y) (list_any (shares base size x) ys) h in
    let here = overlap_none (base x) (size x) (base y) (size y) a parts.0 is in
    let later = any_none base size x ys a parts.1 is in
    omega (arith, here, later, count-cons base size a y ys)

-- a pair that shares an address is an address that is counted twice
pair_found : {X : Type 0} (base size : X → ℕ) (xs : List X) → any_pair (shares base size) xs ≡ true
    → (a : ℕ) × (2 ≤ count base size a xs)
pair_found base size [] h = absurd (both_ways true (sym h) refl)
pair_found base size (x ∷ xs) h = elim (or_cases (list_any (shares base size x) xs) (any_pair (shares base size) xs) h) [
  | inl here ↦
      let at = any_found base size x xs here in
      (at.0, omega (arith, at.1, at.2, count-cons base size at.0 x xs))
  | inr later ↦
      let at = pair_found base size xs later in
      (at.0, omega (arith, at.1, count-cons base size at.0 x xs))
]

pair_none : {X : Type 0} (base size : X → ℕ) (xs : List X) (a : ℕ) → any_pair (shares base size) xs ≡ false
    → count base size a xs ≤ 1
pair_none base size [] a h = omega arith
pair_none base size (x ∷ xs) a h =
    let parts = or_parts (list_any (shares base size x) xs) (any_pair (shares base size) xs) h in
    elim (covers_tells (base x) (size x) a) [
      | inl inside ↦
          let others = any_none base size x xs a parts.0 inside.2 in
          omega (arith, inside.2, others, count-cons base size a x xs)
      | inr outside ↦
          let others = pair_none base size xs a parts.1 in
          omega (arith, outside.1, others, count-cons base size a x xs)
    ]

-- empty ranges count for nothing
count-filter : {X : Type 0} (base size : X → ℕ) (xs : List X) (a : ℕ)
    → count base size a (filter (λ x. not (size x == 0)) xs) ≡ count base size a xs
count-filter base size [] a = refl
count-filter base size (x ∷ xs) a = elim (eqb_tells (size x) 0) [
  | inl none ↦
      let dropped : filter (λ x. not (size x == 0)) (x ∷ xs) ≡ filter (λ x. not (size x == 0)) xs = rw none.0 refl in
      let zero_here : covers (base x) (size x) a ≡ 0 = elim (cases_lt a (base x)) [
        | inl low ↦ covers_below (base x) (size x) a low
        | inr from ↦ covers_past (base x) (size x) a (omega (arith, none.1, from))
      ] in
      omega (arith, ap (count base size a) dropped, count-filter base size xs a, count-cons base size a x xs, zero_here)
  | inr some ↦
      let kept : filter (λ x. not (size x == 0)) (x ∷ xs) ≡ x ∷ filter (λ x. not (size x == 0)) xs = rw some.0 refl in
      omega (arith, ap (count base size a) kept, count-filter base size xs a, count-cons base size a x xs, count-cons base size a x (filter (λ x. not (size x == 0)) xs))
]

-- the others are not empty
pub All-filled : {X : Type 0} (size : X → ℕ) (xs : List X) → All (λ x. 0 < size x) (filter (λ x. not (size x == 0)) xs)
All-filled size [] = λ k d lt. absurd (omega arith)
All-filled {X} size (x ∷ xs) = elim (eqb_tells (size x) 0) [
  | inl none ↦
      let dropped : filter (λ x. not (size x == 0)) (x ∷ xs) ≡ filter (λ x. not (size x == 0)) xs = rw none.0 refl in
      let Filled : List X → Type 0 = All (λ x. 0 < size x) in
      subst Filled (sym dropped) (All-filled size xs)
  | inr some ↦
      let kept : filter (λ x. not (size x == 0)) (x ∷ xs) ≡ x ∷ filter (λ x. not (size x == 0)) xs = rw some.0 refl in
      let Filled : List X → Type 0 = All (λ x. 0 < size x) in
      subst Filled (sym kept) (All-cons (λ x. 0 < size x) x _ (omega (arith, some.1)) (All-filled size xs))
]

-- neighbours of the rest of a list are neighbours of the list
adjacent_rest : {X : Type 0} (R : X → X → Type 0) (x : X) (xs : List X) → AllAdjacentBelow R (x ∷ xs) (length (x ∷ xs)) → AllAdjacentBelow R xs (length xs)
adjacent_rest R x xs h = λ k d lt.
    let e : suc k + 1 ≡ suc (k + 1) = omega arith in
    let next : R (slice_index_or (x ∷ xs) (suc k) d) (slice_index_or (x ∷ xs) (suc k + 1) d) = h (suc k) d (omega arith) in
    rw e at next

-- ranges in order, each with its end at the next one's beginning at the latest, cover nothing below the first
below_first : {X : Type 0} (base size : X → ℕ) (x : X) (xs : List X) (a : ℕ)
    → AllAdjacentBelow (λ x y. base x + size x ≤ base y) (x ∷ xs) (length (x ∷ xs)) → a < base x
    → count base size a (x ∷ xs) ≡ 0
below_first base size x [] a h low = omega (arith, covers_below (base x) (size x) a low, count-cons base size a x [])
below_first base size x (y ∷ ys) a h low =
    let next : base x + size x ≤ base y = h 0 x (omega arith) in
    let others = below_first base size y ys a (adjacent_rest (λ x y. base x + size x ≤ base y) x (y ∷ ys) h) (omega arith) in
    omega (arith, covers_below (base x) (size x) a low, others, count-cons base size a x (y ∷ ys))

once : {X : Type 0} (base size : X → ℕ) (xs : List X) (a : ℕ)
    → AllAdjacentBelow (λ x y. base x + size x ≤ base y) xs (length xs) → count base size a xs ≤ 1
once base size [] a h = omega arith
once base size (x ∷ []) a h = omega (arith, covers-le (base x) (size x) a, count-cons base size a x [])
once base size (x ∷ y ∷ ys) a h =
    let next : base x + size x ≤ base y = h 0 x (omega arith) in
    let rest : AllAdjacentBelow (λ x y. base x + size x ≤ base y) (y ∷ ys) (length (y ∷ ys)) =
    adjacent_rest (λ x y. base x + size x ≤ base y) x (y ∷ ys) h in
    elim (covers_tells (base x) (size x) a) [
      | inl inside ↦
          let others = below_first base size y ys a rest (omega (arith, inside.1, next)) in
          omega (arith, inside.2, others, count-cons base size a x (y ∷ ys))
      | inr outside ↦
          let others = once base size (y ∷ ys) a rest in
          omega (arith, outside.1, others, count-cons base size a x (y ∷ ys))
    ]

-- two neighbours that cover an address count it twice
twice : {X : Type 0} (base size : X → ℕ) (xs : List X) (k : ℕ) (d : X) (a : ℕ) → k + 1 < length xs
    → covers (base (slice_index_or xs k d)) (size (slice_index_or xs k d)) a ≡ 1
    → covers (base (slice_index_or xs (k + 1) d)) (size (slice_index_or xs (k + 1) d)) a ≡ 1
    → 2 ≤ count base size a xs
twice base size [] k d a lt h h' = absurd (omega arith)
twice base size (x ∷ []) k d a lt h h' = absurd (omega arith)
twice base size (x ∷ y ∷ ys) zero d a lt h h' =
    omega (arith, h, h', count-cons base size a x (y ∷ ys), count-cons base size a y ys)
twice base size (x ∷ y ∷ ys) (suc k) d a lt h h' =
    let e : suc k + 1 ≡ suc (k + 1) = omega arith in
    let next = rw e at h' in
    omega (arith, twice base size (y ∷ ys) k d a (omega arith) h next, count-cons base size a x (y ∷ ys))

-- what holds of the sorted ranges that are not empty holds of all: they share no address
pub apart_from_sorted : {X : Type 0} (base size : X → ℕ) (xs ys : List X)
    → IsPermutation (filter (λ x. not (size x == 0)) xs) ys
    → AllAdjacentBelow (λ x y. base x + size x ≤ base y) ys (length ys)
    → any_pair (shares base size) xs ≡ false
apart_from_sorted base size xs ys moved h = elim (cases_Bool (any_pair (shares base size) xs)) [
  | inr clear ↦ clear
  | inl met ↦
      let at = pair_found base size xs met in
      let same = sum_by-IsPermutation (λ x. covers (base x) (size x) at.0) (filter (λ x. not (size x == 0)) xs) ys moved in
      absurd (omega (arith, at.1, once base size ys at.0 h, same, count-filter base size xs at.0))
]

-- neighbours that share an address are two ranges that do
pub shared_from_sorted : {X : Type 0} (base size : X → ℕ) (xs ys : List X) (k : ℕ) (d : X)
    → IsPermutation (filter (λ x. not (size x == 0)) xs) ys
    → k + 1 < length ys
    → base (slice_index_or ys k d) ≤ base (slice_index_or ys (k + 1) d)
    → base (slice_index_or ys (k + 1) d) < base (slice_index_or ys k d) + size (slice_index_or ys k d)
    → 0 < size (slice_index_or ys (k + 1) d)
    → any_pair (shares base size) xs ≡ true
shared_from_sorted base size xs ys k d moved lt up low some = elim (cases_Bool (any_pair (shares base size) xs)) [
  | inl met ↦ met
  | inr clear ↦
      let a = base (slice_index_or ys (k + 1) d) in
      let before = covers_in (base (slice_index_or ys k d)) (size (slice_index_or ys k d)) a up low in
      let after = covers_in a (size (slice_index_or ys (k + 1) d)) a (omega arith) (omega arith) in
      let same = sum_by-IsPermutation (λ x. covers (base x) (size x) a) (filter (λ x. not (size x == 0)) xs) ys moved in
      absurd (omega (arith, twice base size ys k d a lt before after, pair_none base size xs a clear, same, count-filter base size xs a))
]

-- the answer that neighbours give is the answer for all
pub arranged_answer : {X : Type 0} (base size : X → ℕ) (xs ys : List X) (d : X) (r : Bool)
    → IsPermutation (filter (λ x. not (size x == 0)) xs) ys
    → IsNonDecreasingBy base ys
    → All (λ x. 0 < size x) ys
    → MatchBool r ((k : ℕ) × (k + 1 < length ys) × ((d : X) → base (slice_index_or ys (k + 1) d) < base (slice_index_or ys k d) + size (slice_index_or ys k d)))
    (AllAdjacentBelow (λ x y. base x + size x ≤ base y) ys (length ys))
    → r ≡ any_pair (shares base size) xs
arranged_answer base size xs ys d true moved up filled (k, lt, low) =
    sym (shared_from_sorted base size xs ys k d moved lt (up k (k + 1) d (omega arith) lt) (low d) (filled (k + 1) d lt))
arranged_answer base size xs ys d false moved up filled apart = sym (apart_from_sorted base size xs ys moved apart)
