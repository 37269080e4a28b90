-- Of a module whose types are proper one answer is right: it is within the limits, or one limit is the first that it passes.
use Rattle.std.proofs.Common.{◌≡◌, ℕ, ◌+◌, ◌<◌, ◌≤◌, ◌⊎◌, inl, inr, Option, Some, None, List, [], ◌∷◌, ◌++◌, length, get_or, take, drop, refl, sym, ◌∙◌, ap, subst, arith}
use Rattle.std.specs.Prelude.{Contains}
use Rattle.std.specs.List.{AllByRecursion}
use Rattle.std.proofs.lemmas.List.{take_more, drop_more, take-append-drop}
use Rattle.std.proofs.lemmas.List.Elements.{Contains-append_right}
use Rattle.ir_tree.specs.Shape.{ModuleShape}
use Rattle.ir_rules.specs.TypeRules.{HasTypes}
use Rattle.ir_proper.specs.declared.Which.{Which}
use Rattle.ir_proper.specs.Limits.{AreCounts, most_of, IsKept, IsPassed, AreKept, all_limits, IsWithin, IsFirstPassed}
use Rattle.ir_limits.specs.Passing.{first_above, IsFirstAmong}
use Rattle.ir_limits.proofs.Above.{none_above, split_above, above_split}
use Rattle.ir_limits.proofs.OneCount.{one_counts, some_counts}

-- ---- one limit
pub kept_by : (m : ModuleShape) (which : Which) (counts : List ℕ) → AreCounts m which counts → first_above (most_of which) counts ≡ None → IsKept m which
kept_by m which counts are none = (counts, are, none_above (most_of which) counts none)

pub passed_by : (m : ModuleShape) (which : Which) (found : ℕ) (counts : List ℕ) → AreCounts m which counts → first_above (most_of which) counts ≡ Some found
    → IsPassed m which found
passed_by m which found counts are some =
    let split = split_above (most_of which) found counts some in
    (split.before, split.after, subst (λ (z : List ℕ). AreCounts m which z) (sym split.whole) are, split.small, split.large)

pub not_both : (m : ModuleShape) (which : Which) (found : ℕ) → IsKept m which → IsPassed m which found → ⊥
not_both m which found (counts, are, small) (before, after, others, below, large) =
    let same : counts ≡ before ++ (found ∷ after) = one_counts m which counts (before ++ (found ∷ after)) are others in
    let inside : Contains (before ++ (found ∷ after)) found = Contains-append_right before (found ∷ after) found (0, omega arith, refl) in
    let low : found ≤ most_of which = small found (subst (λ (z : List ℕ). Contains z found) (sym same) inside) in
    omega arith

one_found : (m : ModuleShape) (which : Which) (found other : ℕ) → IsPassed m which found → IsPassed m which other → found ≡ other
one_found m which found other (before, after, are, small, large) (earlier, later, others, low, high) =
    let same = one_counts m which (before ++ (found ∷ after)) (earlier ++ (other ∷ later)) are others in
    let one : Some found ≡ Some other =
    sym (above_split (most_of which) found before after small large) ∙ ap (first_above (most_of which)) same
    ∙ above_split (most_of which) other earlier later low high in
    cc

kept_or_passed : (m : ModuleShape) → HasTypes m → (which : Which) → IsKept m which ⊎ ((found : ℕ) × IsPassed m which found)
kept_or_passed m proper which =
    let counts = some_counts m proper which in by_first counts.0 counts.1 (first_above (most_of which) counts.0) refl
  where
    by_first : (counts : List ℕ) → AreCounts m which counts → (o : Option ℕ) → first_above (most_of which) counts ≡ o
        → IsKept m which ⊎ ((found : ℕ) × IsPassed m which found)
    by_first counts are None none = inl (kept_by m which counts are none)
    by_first counts are (Some n) some = inr (n, passed_by m which n counts are some)

-- ---- limits in a row
all_last : {X : Type 0} (P : X → Type 0) (before after : List X) (x : X) → AllByRecursion P (before ++ (x ∷ after)) → P x
all_last P [] after x all = all.0
all_last P (y ∷ before) after x all = all_last P before after x all.1

all_push : {X : Type 0} (P : X → Type 0) (before : List X) (x : X) → AllByRecursion P before → P x → AllByRecursion P (before ++ (x ∷ []))
all_push P [] x all here = (here, tt)
all_push P (y ∷ before) x all here = (all.0, all_push P before x all.1 here)

-- of two places in a list, both are one or one comes before the other
split_twice : {X : Type 0} (P : X → Type 0) (before after earlier later : List X) (x y : X) → before ++ (x ∷ after) ≡ earlier ++ (y ∷ later)
    → AllByRecursion P before → AllByRecursion P earlier → (x ≡ y) ⊎ P x ⊎ P y
split_twice {X} P [] after [] later x y same all every = let here : x ≡ y = cc in inl here
split_twice {X} P [] after (z ∷ earlier) later x y same all every = let here : x ≡ z = cc in inr (inl (subst P (sym here) every.0))
split_twice {X} P (z ∷ before) after [] later x y same all every = let here : z ≡ y = cc in inr (inr (subst P here all.0))
split_twice {X} P (z ∷ before) after (w ∷ earlier) later x y same all every =
    let rest : before ++ (x ∷ after) ≡ earlier ++ (y ∷ later) = cc in split_twice P before after earlier later x y rest all.1 every.1

pub never_both : (m : ModuleShape) (which : Which) (found : ℕ) → IsWithin m → IsFirstPassed m which found → ⊥
never_both m which found within first =
    not_both m which found
    (all_last (IsKept m) first.before first.after which (subst (λ (z : List Which). AllByRecursion (IsKept m) z) (sym first.here) within)) first.passed

pub one_first : (m : ModuleShape) (which other : Which) (found more : ℕ) → IsFirstPassed m which found → IsFirstPassed m other more
    → (which ≡ other) × (found ≡ more)
one_first m which other found more one two =
    elim (split_twice (IsKept m) one.before one.after two.before two.after which other (one.here ∙ sym two.here) one.kept two.kept) [
      | inl same ↦ (same, one_found m other found more (subst (λ (w : Which). IsPassed m w found) same one.passed) two.passed)
      | inr (inl kept) ↦ absurd (not_both m which found kept one.passed)
      | inr (inr kept) ↦ absurd (not_both m other more kept two.passed)
    ]

-- limits that are looked at one after another
first_of_these : (m : ModuleShape) → HasTypes m → (limits : List Which)
    → AreKept m limits
    ⊎ ((before after : List Which) × (which : Which) × (found : ℕ) × (before ++ (which ∷ after) ≡ limits) × AreKept m before × IsPassed m which found)
first_of_these m proper [] = inl tt
first_of_these m proper (w ∷ limits) =
    elim (kept_or_passed m proper w) [
      | inr (found, passed) ↦ inr ([], limits, w, found, refl, tt, passed)
      | inl kept ↦
          elim (first_of_these m proper limits) [
            | inl all ↦ inl (kept, all)
            | inr (before, after, which, found, here, all, passed) ↦
                inr (w ∷ before, after, which, found, ap (λ (ws : List Which). w ∷ ws) here, (kept, all), passed)
          ]
    ]

pub within_or_passed : (m : ModuleShape) → HasTypes m → IsWithin m ⊎ ((which : Which) × (found : ℕ) × IsFirstPassed m which found)
within_or_passed m proper =
    elim (first_of_these m proper all_limits) [
      | inl all ↦ inl all
      | inr (before, after, which, found, here, kept, passed) ↦
          inr (which, found, record { before = before; after = after; here = here; kept = kept; passed = passed })
    ]

-- ---- a look at limits in order
pub kept_more : (m : ModuleShape) (limits : List Which) (i : ℕ) (d : Which) → i < length limits → AreKept m (take i limits) → IsKept m (get_or limits i d)
    → AreKept m (take (i + 1) limits)
kept_more m limits i d within kept here =
    subst (λ (z : List Which). AllByRecursion (IsKept m) z) (sym (take_more limits i d within))
    (all_push (IsKept m) (take i limits) (get_or limits i d) kept here)

pub first_at : (m : ModuleShape) (limits : List Which) (i : ℕ) (d : Which) (found : ℕ) → i < length limits → AreKept m (take i limits)
    → IsPassed m (get_or limits i d) found → IsFirstAmong m limits (get_or limits i d) found
first_at m limits i d found within kept passed = record {
  before = take i limits;
  after = drop (i + 1) limits;
  here = ap (λ (z : List Which). take i limits ++ z) (sym (drop_more limits i d within)) ∙ take-append-drop i limits;
  kept = kept;
  passed = passed;
}

pub never_all : (m : ModuleShape) (limits : List Which) (which : Which) (found : ℕ) → IsFirstAmong m limits which found → AreKept m limits → ⊥
never_all m limits which found first all =
    not_both m which found
    (all_last (IsKept m) first.before first.after which (subst (λ (z : List Which). AllByRecursion (IsKept m) z) (sym first.here) all)) first.passed

-- what is looked up for a limit says whether it is kept
pub kept_if_none : (m : ModuleShape) (which : Which) → HasTypes m → ((counts : List ℕ) → AreCounts m which counts → None ≡ first_above (most_of which) counts)
    → IsKept m which
kept_if_none m which proper is = let counts = some_counts m proper which in kept_by m which counts.0 counts.1 (sym (is counts.0 counts.1))

pub passed_if_some : (m : ModuleShape) (which : Which) (found : ℕ) → HasTypes m
    → ((counts : List ℕ) → AreCounts m which counts → Some found ≡ first_above (most_of which) counts) → IsPassed m which found
passed_if_some m which found proper is = let counts = some_counts m proper which in passed_by m which found counts.0 counts.1 (sym (is counts.0 counts.1))
