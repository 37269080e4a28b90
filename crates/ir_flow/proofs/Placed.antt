-- A map that gets the places of numbers one by one.
use Rattle.std.proofs.Common.{◌≡◌, ℕ, ◌+◌, ◌<◌, ◌≤◌, ◌⊎◌, inl, inr, Bool, true, false, List, length, Option, Some, refl, sym, ◌∙◌, ap, arith, slice_get}
use Rattle.std.specs.Prelude.{if◌then◌else◌}
use Rattle.std.specs.Cmp.{Equal-is}
use Rattle.std.specs.Ordering.{nat_cmp}
use Rattle.std.specs.BTreeMap.{BTreeMap, get, is_at, Updates}
use Rattle.std.proofs.lemmas.Bool.{cases_lt}
use Rattle.std.proofs.lemmas.Map.Lookups.{exact_unsigned}
use Rattle.std.proofs.lemmas.Option.{slice_get_within, same_Some}
use Rattle.ir_flow.specs.Places.{HasPlace, ArePlaces}
use Rattle.ir_flow.proofs.OneByOne.{place_of}

-- the map has places of numbers, and of each of the first ones
pub record PlacedUpTo (numbers : List ℕ) (n : ℕ) (places : BTreeMap ℕ ℕ) : Type 0 where
  pub found : (q k : ℕ) → get nat_cmp places q ≡ Some k → slice_get numbers k ≡ Some q
  pub all : (k q : ℕ) → k < n → slice_get numbers k ≡ Some q → HasPlace places q

-- what a number has after another one got its place
by_test : (test : Bool) (x q v : ℕ) (new old : Option ℕ) → (test ≡ true → x ≡ q) → new ≡ (if test then Some v else old)
    → ((x ≡ q) × (new ≡ Some v)) ⊎ (new ≡ old)
by_test true x q v new old tells e = inl (tells refl, e)
by_test false x q v new old tells e = inr e

after : (old new : BTreeMap ℕ ℕ) (x v q : ℕ) → Updates nat_cmp old new x (Some v)
    → ((x ≡ q) × (get nat_cmp new q ≡ Some v)) ⊎ (get nat_cmp new q ≡ get nat_cmp old q)
after old new x v q updates =
    by_test (is_at (nat_cmp x) q) x q v (get nat_cmp new q) (get nat_cmp old q) (λ e. exact_unsigned x q ((Equal-is (nat_cmp x q)).0 e)) (updates.0 q)

pub placed_next : (numbers : List ℕ) (n x : ℕ) (old new : BTreeMap ℕ ℕ) → slice_get numbers n ≡ Some x → Updates nat_cmp old new x (Some n)
    → PlacedUpTo numbers n old → PlacedUpTo numbers (n + 1) new
placed_next numbers n x old new here updates placed = record {
  found = λ q k e. elim (after old new x n q updates) [
    | inl at ↦
        let same : n ≡ k = same_Some n k (sym at.1 ∙ e) in
        ap (slice_get numbers) (sym same) ∙ here ∙ ap (λ (z : ℕ). Some z) at.0
    | inr kept ↦ placed.found q k (sym kept ∙ e)
  ];
  all = λ k q less e. elim (after old new x n q updates) [
    | inl at ↦ (n, at.1)
    | inr kept ↦ elim (cases_lt k n) [
      | inl below ↦ let had = placed.all k q below e in (had.0, kept ∙ had.1)
      | inr least ↦
          let same : k ≡ n = omega arith in
          let is : x ≡ q = same_Some x q (sym here ∙ ap (slice_get numbers) (sym same) ∙ e) in
          (n, ap (get nat_cmp new) (sym is) ∙ updates.1)
    ]
  ];
}

pub placed_all : (numbers : List ℕ) (n : ℕ) (places : BTreeMap ℕ ℕ) → length numbers ≤ n → PlacedUpTo numbers n places → ArePlaces numbers places
placed_all numbers n places long placed = record {
  found = placed.found;
  all = λ q there.
      let at = place_of numbers q there in
      let within : at.0 < length numbers = slice_get_within numbers at.0 q at.1 in
      placed.all at.0 q (omega arith) at.1;
}
