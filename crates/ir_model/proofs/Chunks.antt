-- A part of a list after another was written over a part of it.
use Rattle.std.specs.Prelude.{◌≡◌, ℕ, zero, suc, ◌+◌, ◌≤◌, List, [], ◌∷◌, length}
use Rattle.std.specs.Simd.Lanes.{chunk, put_chunk}
use Rattle.std.proofs.Common.{arith, ap, refl}

module _ {A : Type 0} where
  -- the part itself
  pub chunk_put : (i : ℕ) (xs ys : List A) → i + length ys ≤ length xs → chunk i (length ys) (put_chunk i xs ys) ≡ ys
  chunk_put zero xs [] le = refl
  chunk_put zero [] (y ∷ ys) le = absurd (omega arith)
  chunk_put zero (x ∷ xs) (y ∷ ys) le = ap (λ (rest : List A). y ∷ rest) (chunk_put zero xs ys (omega arith))
  chunk_put (suc i) [] ys le = absurd (omega arith)
  chunk_put (suc i) (x ∷ xs) ys le = chunk_put i xs ys (omega arith)

  -- a part below it
  pub chunk_below : (i j n : ℕ) (xs ys : List A) → j + n ≤ i → chunk j n (put_chunk i xs ys) ≡ chunk j n xs
  chunk_below i j zero xs ys le = refl
  chunk_below zero j (suc n) xs ys le = absurd (omega arith)
  chunk_below (suc i) j (suc n) [] ys le = refl
  chunk_below (suc i) zero (suc n) (x ∷ xs) ys le = ap (λ (rest : List A). x ∷ rest) (chunk_below i zero n xs ys (omega arith))
  chunk_below (suc i) (suc j) (suc n) (x ∷ xs) ys le = chunk_below i j (suc n) xs ys (omega arith)

  -- a part above it
  pub chunk_above : (i j n : ℕ) (xs ys : List A) → i + length ys ≤ j → chunk j n (put_chunk i xs ys) ≡ chunk j n xs
  chunk_above i j n [] ys le = refl
  chunk_above zero j n (x ∷ xs) [] le = refl
  chunk_above zero zero n (x ∷ xs) (y ∷ ys) le = absurd (omega arith)
  chunk_above zero (suc j) n (x ∷ xs) (y ∷ ys) le = chunk_above zero j n xs ys (omega arith)
  chunk_above (suc i) zero n (x ∷ xs) ys le = absurd (omega arith)
  chunk_above (suc i) (suc j) n (x ∷ xs) ys le = chunk_above i j n xs ys (omega arith)
