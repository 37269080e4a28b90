-- The first element of a list that passes a test.
use Rattle.std.proofs.Common.{◌≡◌, ℕ, zero, suc, ◌+◌, Bool, true, false, List, [], ◌∷◌, Option, Some, refl, ap, ◌∙◌, arith, slice_get}
use Rattle.std.specs.Prelude.{if◌then◌else◌}
use Rattle.std.specs.List.{position_from, AllByRecursion}
use Rattle.std.proofs.lemmas.Option.{same_Some, none-some}

-- at a place, counted from a number on, there is an element that passes
pub record IsFoundAt {Y : Type 0} (p : Y → Bool) (at : ℕ) (ys : List Y) (k : ℕ) : Type 0 where
  pub index : ℕ
  pub element : Y
  pub place : k ≡ at + index
  pub there : slice_get ys index ≡ Some element
  pub passes : p element ≡ true

found_by : {Y : Type 0} (p : Y → Bool) (at : ℕ) (y : Y) (ys : List Y) (k : ℕ) (b : Bool) → p y ≡ b
    → (position_from p (at + 1) ys ≡ Some k → IsFoundAt p (at + 1) ys k)
    → (if b then Some at else position_from p (at + 1) ys) ≡ Some k → IsFoundAt p at (y ∷ ys) k
found_by p at y ys k true is later e =
    let same : at ≡ k = same_Some at k e in
    record { index = 0; element = y; place = omega arith; there = refl; passes = is }
found_by p at y ys k false is later e =
    let found = later e in
    let place : k ≡ at + 1 + found.index = found.place in
    record { index = suc found.index; element = found.element; place = omega arith; there = found.there; passes = found.passes }

-- the place that is found has such an element
pub found_at : {Y : Type 0} (p : Y → Bool) (at : ℕ) (ys : List Y) (k : ℕ) → position_from p at ys ≡ Some k → IsFoundAt p at ys k
found_at p at [] k e = absurd (none-some k e)
found_at p at (y ∷ ys) k e = found_by p at y ys k (p y) refl (λ later. found_at p (at + 1) ys k later) e

exists_later : (b : Bool) (at : ℕ) (rest : Option ℕ) → (k : ℕ) × (rest ≡ Some k) → (k : ℕ) × ((if b then Some at else rest) ≡ Some k)
exists_later true at rest later = (at, refl)
exists_later false at rest later = later

-- where an element passes, a place is found
pub exists_at : {Y : Type 0} (p : Y → Bool) (at : ℕ) (ys : List Y) (i : ℕ) (y : Y) → slice_get ys i ≡ Some y → p y ≡ true
    → (k : ℕ) × (position_from p at ys ≡ Some k)
exists_at p at [] i y there passes = absurd (none-some y there)
exists_at p at (x ∷ xs) zero y there passes =
    let first : p x ≡ true = ap p (same_Some x y there) ∙ passes in
    (at, ap (λ (b : Bool). if b then Some at else position_from p (at + 1) xs) first)
exists_at p at (x ∷ xs) (suc i) y there passes =
    exists_later (p x) at (position_from p (at + 1) xs) (exists_at p (at + 1) xs i y there passes)

-- what each element has, all of them have; and the element at a place
pub all_of : {Y : Type 0} (P : Y → Type 0) → ((y : Y) → P y) → (ys : List Y) → AllByRecursion P ys
all_of P each [] = tt
all_of P each (y ∷ ys) = (each y, all_of P each ys)
