-- The first count that is more than a limit allows.
use Rattle.std.proofs.Common.{◌≡◌, ℕ, zero, suc, ◌+◌, ◌<◌, ◌≤◌, Bool, true, false, Option, Some, None, List, [], ◌∷◌, ◌++◌, length, get_or, map, drop, refl, sym, ◌∙◌, ap, subst, arith, nat_lt, ltb-true, ltb-false}
use Rattle.std.specs.Prelude.{flat_map, Contains}
use Rattle.std.proofs.lemmas.List.{drop_more, drop_all}
use Rattle.std.proofs.lemmas.Bool.{lt-ltb, le-ltb}
use Rattle.ir_limits.specs.Passing.{first_above}

-- a count of these and of more
pub above_later : (most : ℕ) (xs ys : List ℕ) → first_above most xs ≡ None → first_above most (xs ++ ys) ≡ first_above most ys
above_later most [] ys none = refl
above_later most (x ∷ xs) ys none = by_test (nat_lt most x) refl (above_later most xs ys)
  where
    by_test : (t : Bool) → nat_lt most x ≡ t → (first_above most xs ≡ None → first_above most (xs ++ ys) ≡ first_above most ys)
        → first_above most (x ∷ (xs ++ ys)) ≡ first_above most ys
    by_test true is rest = let wrong : ◌≡◌ {A = Option ℕ} (Some x) None = rw is at none in cc
    by_test false is rest = rw is (rest (rw is at none))

pub above_early : (most n : ℕ) (xs ys : List ℕ) → first_above most xs ≡ Some n → first_above most (xs ++ ys) ≡ Some n
above_early most n [] ys some = let wrong : ◌≡◌ {A = Option ℕ} None (Some n) = some in cc
above_early most n (x ∷ xs) ys some = by_test (nat_lt most x) refl (above_early most n xs ys)
  where
    by_test : (t : Bool) → nat_lt most x ≡ t → (first_above most xs ≡ Some n → first_above most (xs ++ ys) ≡ Some n)
        → first_above most (x ∷ (xs ++ ys)) ≡ Some n
    by_test true is rest = rw is (rw is at some)
    by_test false is rest = rw is (rest (rw is at some))

-- ---- a look at elements one by one, each with its own counts
-- what is left says what is first
abbrev pub Rest : {X S : Type 0} → (S → List ℕ) → (X → S) → ℕ → List X → ℕ → Type 0
Rest k g most xs i = first_above most (flat_map k (map g xs)) ≡ first_above most (flat_map k (map g (drop i xs)))

left : {X S : Type 0} (k : S → List ℕ) (g : X → S) (xs : List X) (i : ℕ) (x : X) → i < length xs → x ≡ get_or xs i x
    → flat_map k (map g (drop i xs)) ≡ k (g x) ++ flat_map k (map g (drop (i + 1) xs))
left k g xs i x within is =
    ap (λ z. flat_map k (map g z)) (drop_more xs i x within) ∙ ap (λ y. k (g y) ++ flat_map k (map g (drop (i + 1) xs))) (sym is)

pub rest_next : {X S : Type 0} (k : S → List ℕ) (g : X → S) (most : ℕ) (xs : List X) (i : ℕ) (x : X) → i < length xs → x ≡ get_or xs i x
    → first_above most (k (g x)) ≡ None → Rest k g most xs i → Rest k g most xs (i + 1)
rest_next k g most xs i x within is none rest =
    rest ∙ ap (first_above most) (left k g xs i x within is) ∙ above_later most (k (g x)) (flat_map k (map g (drop (i + 1) xs))) none

pub rest_here : {X S : Type 0} (k : S → List ℕ) (g : X → S) (most n : ℕ) (xs : List X) (i : ℕ) (x : X) → i < length xs → x ≡ get_or xs i x
    → first_above most (k (g x)) ≡ Some n → Rest k g most xs i → first_above most (flat_map k (map g xs)) ≡ Some n
rest_here k g most n xs i x within is some rest =
    rest ∙ ap (first_above most) (left k g xs i x within is) ∙ above_early most n (k (g x)) (flat_map k (map g (drop (i + 1) xs))) some

pub rest_done : {X S : Type 0} (k : S → List ℕ) (g : X → S) (most : ℕ) (xs : List X) (i : ℕ) → length xs ≤ i → Rest k g most xs i
    → first_above most (flat_map k (map g xs)) ≡ None
rest_done k g most xs i past rest = rest ∙ ap (λ z. first_above most (flat_map k (map g z))) (drop_all i xs past)

-- ---- what the first count says of the counts
-- what is no number is none
pub none_left : (o : Option ℕ) → ((n : ℕ) → o ≡ Some n → ⊥) → o ≡ None
none_left None not_some = refl
none_left (Some n) not_some = absurd (not_some n refl)

-- each of these counts is small
abbrev pub AreSmall : ℕ → List ℕ → Type 0
AreSmall most counts = (count : ℕ) → Contains counts count → count ≤ most

smaller : (most x : ℕ) (xs : List ℕ) → x ≤ most → AreSmall most xs → AreSmall most (x ∷ xs)
smaller most x xs low small count (zero, within, same) = omega arith
smaller most x xs low small count (suc k, within, same) = small count (k, omega arith, same)

pub none_above : (most : ℕ) (counts : List ℕ) → first_above most counts ≡ None → AreSmall most counts
none_above most [] none = λ count here. absurd (omega (arith, here.1))
none_above most (x ∷ xs) none = by_test (nat_lt most x) refl (none_above most xs)
  where
    by_test : (t : Bool) → nat_lt most x ≡ t → (first_above most xs ≡ None → AreSmall most xs) → AreSmall most (x ∷ xs)
    by_test true is rest = let wrong : ◌≡◌ {A = Option ℕ} (Some x) None = rw is at none in cc
    by_test false is rest = smaller most x xs (ltb-false most x is) (rest (rw is at none))

-- the counts before the first one above, and those after it
pub record IsSplit (most n : ℕ) (counts : List ℕ) : Type 0 where
  pub before : List ℕ
  pub after : List ℕ
  pub whole : before ++ (n ∷ after) ≡ counts
  pub small : AreSmall most before
  pub large : most < n

pub split_above : (most n : ℕ) (counts : List ℕ) → first_above most counts ≡ Some n → IsSplit most n counts
split_above most n [] some = let wrong : ◌≡◌ {A = Option ℕ} None (Some n) = some in cc
split_above most n (x ∷ xs) some = by_test (nat_lt most x) refl (split_above most n xs)
  where
    by_test : (t : Bool) → nat_lt most x ≡ t → (first_above most xs ≡ Some n → IsSplit most n xs) → IsSplit most n (x ∷ xs)
    by_test true is rest =
        let one : ◌≡◌ {A = Option ℕ} (Some x) (Some n) = rw is at some in
        let same : x ≡ n = cc in
        record {
          before = [];
          after = xs;
          whole = ap (λ (y : ℕ). y ∷ xs) (sym same);
          small = λ count here. absurd (omega (arith, here.1));
          large = subst (λ (y : ℕ). most < y) same (ltb-true most x is);
        }
    by_test false is rest =
        let later = rest (rw is at some) in
        record {
          before = x ∷ later.before;
          after = later.after;
          whole = ap (λ (ys : List ℕ). x ∷ ys) later.whole;
          small = smaller most x later.before (ltb-false most x is) later.small;
          large = later.large;
        }

pub above_split : (most n : ℕ) (before after : List ℕ) → AreSmall most before → most < n → first_above most (before ++ (n ∷ after)) ≡ Some n
above_split most n [] after small large = rw (lt-ltb most n large) refl
above_split most n (x ∷ xs) after small large =
    let low : x ≤ most = small x (0, omega arith, refl) in
    rw (le-ltb most x low) (above_split most n xs after (λ count here. small count (suc here.0, omega (arith, here.1), here.2)) large)
