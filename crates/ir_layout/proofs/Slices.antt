-- Elements of lists by their places.
use Rattle.std.proofs.Common.{◌≡◌, ℕ, zero, suc, ◌+◌, ◌<◌, Bool, true, false, List, [], ◌∷◌, length, Some, refl, ◌∙◌, ap, arith, add-one, add-zero, cond, get_or, slice_get, drop}
use Rattle.std.proofs.Math.ListN.{set, replicate}
use Rattle.std.specs.Prelude.{count_by}
use Rattle.std.proofs.lemmas.Option.{slice_get_within, get_or_from_slice_get}
use Rattle.std.proofs.lemmas.List.Sums.{sum_by-set}

-- an element that was written, and the others
pub get_set_same : {X : Type 0} (xs : List X) (i : ℕ) (x : X) → i < length xs → slice_get (set xs i x) i ≡ Some x
get_set_same [] i x h = absurd (omega arith)
get_set_same (y ∷ xs) zero x h = refl
get_set_same (y ∷ xs) (suc i) x h = get_set_same xs i x (omega arith)

pub get_set_other : {X : Type 0} (xs : List X) (i j : ℕ) (x : X) → (i ≡ j → ⊥) → slice_get (set xs i x) j ≡ slice_get xs j
get_set_other [] i j x h = refl
get_set_other (y ∷ xs) zero zero x h = absurd (h refl)
get_set_other (y ∷ xs) zero (suc j) x h = refl
get_set_other (y ∷ xs) (suc i) zero x h = refl
get_set_other (y ∷ xs) (suc i) (suc j) x h = get_set_other xs i j x (λ (e : i ≡ j). h (ap suc e))

-- so many times the same
pub get_replicate : {X : Type 0} (n i : ℕ) (x : X) → i < n → slice_get (replicate n x) i ≡ Some x
get_replicate zero i x h = absurd (omega arith)
get_replicate (suc n) zero x h = refl
get_replicate (suc n) (suc i) x h = get_replicate n i x (omega arith)

-- where an element that is counted gives way to one that isn't, one less is counted
pub count_set : {X : Type 0} (p : X → Bool) (xs : List X) (i : ℕ) (x y : X) → slice_get xs i ≡ Some x → p x ≡ true → p y ≡ false
    → count_by p (set xs i y) + 1 ≡ count_by p xs
count_set p xs i x y at counted not_counted =
    let was : p (get_or xs i x) ≡ true = ap p (get_or_from_slice_get xs i x x at) ∙ counted in
    let step = sum_by-set (λ z. cond (p z) 1 0) xs i y x (slice_get_within xs i x at) in
    simp add-zero at (simp (was, not_counted) at step)

-- the rest of a list from a place in it
pub drop_at : {X : Type 0} (xs : List X) (i : ℕ) (x : X) → slice_get xs i ≡ Some x → drop i xs ≡ x ∷ drop (i + 1) xs
drop_at {X} [] i x h = cc
drop_at {X} (y ∷ xs) zero x h =
    let head : y ≡ x = cc in
    ap (λ (z : X). z ∷ xs) head
drop_at {X} (y ∷ xs) (suc i) x h = rw add-one (rw add-one at (drop_at xs i x h))
