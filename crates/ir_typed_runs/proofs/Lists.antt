-- Lists all of whose elements have a property, or are related to those of another list.
use Rattle.std.specs.Prelude.{◌≡◌, ⊤, ℕ, zero, suc, ◌-◌, List, [], ◌∷◌, ◌++◌, map, length, replicate, take, drop, Option, Some, None, Bool, true, false, if◌then◌else◌, slice_get, slice_set, slice_index_or}
use Rattle.std.specs.List.{AllByRecursion, AllZip}
use Rattle.std.specs.Simd.Lanes.{put_chunk}
use Rattle.std.proofs.Common.{arith, subst, sym}

-- what both of two values have, the one that is chosen has
pub if_holds : {X : Type 0} (P : X → Type 0) (b : Bool) (x y : X) → P x → P y → P (if b then x else y)
if_holds P true x y px py = px
if_holds P false x y px py = py

module _ {X : Type 0} (P : X → Type 0) where
  pub all_get : (xs : List X) (i : ℕ) (x : X) → AllByRecursion P xs → slice_get xs i ≡ Some x → P x
  all_get [] i x all is = absurd (none is)
    where
      none : None ≡ Some x → ⊥
      none e = subst (λ (o : Option X). elim o as (λ _. Type 0) [ None ↦ ⊤ | Some y ↦ ⊥ ]) e tt
  all_get (y ∷ ys) zero x all is = subst (λ (o : Option X). elim o as (λ _. Type 0) [ None ↦ ⊤ | Some z ↦ P z ]) is all.0
  all_get (y ∷ ys) (suc i) x all is = all_get ys i x all.1 is

  -- also at a place where there is none
  pub all_at : (xs : List X) (i : ℕ) (d : X) → P d → AllByRecursion P xs → P (slice_index_or xs i d)
  all_at [] i d at all = at
  all_at (x ∷ xs) zero d at all = all.0
  all_at (x ∷ xs) (suc i) d at all = all_at xs i d at all.1

  pub all_set : (xs : List X) (i : ℕ) (x : X) → P x → AllByRecursion P xs → AllByRecursion P (slice_set xs i x)
  all_set [] i x at all = tt
  all_set (y ∷ ys) zero x at all = (at, all.1)
  all_set (y ∷ ys) (suc i) x at all = (all.0, all_set ys i x at all.1)

  pub all_joined : (xs ys : List X) → AllByRecursion P xs → AllByRecursion P ys → AllByRecursion P (xs ++ ys)
  all_joined [] ys all more = more
  all_joined (x ∷ xs) ys all more = (all.0, all_joined xs ys all.1 more)

  pub all_dropped : (n : ℕ) (xs : List X) → AllByRecursion P xs → AllByRecursion P (drop n xs)
  all_dropped zero xs all = all
  all_dropped (suc n) [] all = tt
  all_dropped (suc n) (x ∷ xs) all = all_dropped n xs all.1

  pub all_replicated : (n : ℕ) (x : X) → P x → AllByRecursion P (replicate n x)
  all_replicated zero x at = tt
  all_replicated (suc n) x at = (at, all_replicated n x at)

  pub all_put : (i : ℕ) (xs ys : List X) → AllByRecursion P xs → AllByRecursion P ys → AllByRecursion P (put_chunk i xs ys)
  all_put i [] ys all more = tt
  all_put zero (x ∷ xs) [] all more = all
  all_put zero (x ∷ xs) (y ∷ ys) all more = (more.0, all_put zero xs ys all.1 more.1)
  all_put (suc i) (x ∷ xs) ys all more = (all.0, all_put i xs ys all.1 more)

  -- what is weaker holds too
  pub all_weaker : (Q : X → Type 0) → ((x : X) → P x → Q x) → (xs : List X) → AllByRecursion P xs → AllByRecursion Q xs
  all_weaker Q weaker [] all = tt
  all_weaker Q weaker (x ∷ xs) all = (weaker x all.0, all_weaker Q weaker xs all.1)

  pub all_mapped : {Y : Type 0} (g : Y → X) (ys : List Y) → AllByRecursion (λ y. P (g y)) ys → AllByRecursion P (map g ys)
  all_mapped g [] all = tt
  all_mapped g (y ∷ ys) all = (all.0, all_mapped g ys all.1)

module _ {A B : Type 0} (R : A → B → Type 0) where
  -- the element in the place of one that is there
  pub zip_at : (xs : List A) (ys : List B) (i : ℕ) (x : A) (d : B) → AllZip R xs ys → slice_get xs i ≡ Some x → R x (slice_index_or ys i d)
  zip_at [] ys i x d all is = absurd (none is)
    where
      none : None ≡ Some x → ⊥
      none e = subst (λ (o : Option A). elim o as (λ _. Type 0) [ None ↦ ⊤ | Some y ↦ ⊥ ]) e tt
  zip_at (a ∷ as') [] i x d all is = absurd all
  zip_at (a ∷ as') (y ∷ ys) zero x d all is = subst (λ (o : Option A). elim o as (λ _. Type 0) [ None ↦ ⊤ | Some z ↦ R z y ]) is all.0
  zip_at (a ∷ as') (y ∷ ys) (suc i) x d all is = zip_at as' ys i x d all.1 is

  pub zip_set : (xs : List A) (ys : List B) (i : ℕ) (x : A) (y : B) → AllZip R xs ys → slice_get xs i ≡ Some x → R x y → AllZip R xs (slice_set ys i y)
  zip_set [] [] i x y all is at = tt
  zip_set [] (b ∷ bs) i x y all is at = absurd all
  zip_set (a ∷ as') [] i x y all is at = absurd all
  zip_set (a ∷ as') (b ∷ bs) zero x y all is at =
      (subst (λ (o : Option A). elim o as (λ _. Type 0) [ None ↦ ⊤ | Some z ↦ R z y ]) (sym is) at, all.1)
  zip_set (a ∷ as') (b ∷ bs) (suc i) x y all is at = (all.0, zip_set as' bs i x y all.1 is at)

  pub zip_weaker : (S : A → B → Type 0) → ((x : A) (y : B) → R x y → S x y) → (xs : List A) (ys : List B) → AllZip R xs ys → AllZip S xs ys
  zip_weaker S weaker [] [] all = tt
  zip_weaker S weaker [] (y ∷ ys) all = absurd all
  zip_weaker S weaker (x ∷ xs) [] all = absurd all
  zip_weaker S weaker (x ∷ xs) (y ∷ ys) all = (weaker x y all.0, zip_weaker S weaker xs ys all.1)

  -- related to each element of the first list are so many of one
  pub zip_filled : (y : B) → ((x : A) → R x y) → (xs : List A) → AllZip R xs (replicate (length xs) y)
  zip_filled y is [] = tt
  zip_filled y is (x ∷ xs) = (is x, zip_filled y is xs)

  -- elements that are related to those at the front, filled up with such a one
  pub zip_entered : (y : B) → ((x : A) → R x y) → (n : ℕ) (xs : List A) (ys : List B) → AllZip R (take n xs) ys
      → AllZip R xs (ys ++ replicate (length xs - length ys) y)
  zip_entered y is zero xs [] all = subst (λ (k : ℕ). AllZip R xs (replicate k y)) (omega arith) (zip_filled y is xs)
  zip_entered y is zero xs (b ∷ bs) all = absurd all
  zip_entered y is (suc n) [] [] all = tt
  zip_entered y is (suc n) [] (b ∷ bs) all = absurd all
  zip_entered y is (suc n) (x ∷ xs) [] all = absurd all
  zip_entered y is (suc n) (x ∷ xs) (b ∷ bs) all =
      (all.0, subst (λ (k : ℕ). AllZip R xs (bs ++ replicate k y)) (omega arith) (zip_entered y is n xs bs all.1))
