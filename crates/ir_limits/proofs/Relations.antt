-- Sums of the numbers that a relation gives, as they are told.
use Rattle.std.proofs.Common.{◌≡◌, ℕ, zero, suc, ◌+◌, ◌-◌, ◌^◌, ◌<◌, min, List, [], ◌∷◌, ◌++◌, length, get_or, map, take, refl, sym, subst, arith}
use Rattle.ir_limits.specs.Sums.{HaveSum, IsTold}
use Rattle.ir_limits.proofs.Sums.{min_more, mapped_more}

have_push : {X : Type 0} (R : X → ℕ → Type 0) (xs : List X) (y : X) (sum last : ℕ) → HaveSum R xs sum → R y last → HaveSum R (xs ++ y ∷ []) (sum + last)
have_push R [] y sum last is here = (last, 0, here, refl, omega arith)
have_push R (x ∷ xs) y sum last (first, rest, one, others, is) here = (first, rest + last, one, have_push R xs y rest last others here, omega arith)

-- a sum that is told, with one number more
pub sum_more : {X S : Type 0} (R : S → ℕ → Type 0) (g : X → S) (xs : List X) (i : ℕ) (x : X) (total term next : ℕ) → i < length xs → x ≡ get_or xs i x
    → IsTold (HaveSum R (map g (take i xs))) total → IsTold (R (g x)) term → next ≡ min (total + term) (2 ^ 64 - 1)
    → IsTold (HaveSum R (map g (take (i + 1) xs))) next
sum_more R g xs i x total term next within is (all, sum, so_far) (one, last, told) next_is = (
  all + one,
  subst (λ z. HaveSum R z (all + one)) (sym (mapped_more g xs i x within is)) (have_push R (map g (take i xs)) (g x) all one sum last),
  min_more 18446744073709551615 total term all one next so_far told next_is,
)

-- each element has a number
pub each_has : {X S : Type 0} (R : S → ℕ → Type 0) (g : X → S) (xs : List X) (i : ℕ) (x : X) → i < length xs → x ≡ get_or xs i x
    → ((n : ℕ) × HaveSum R (map g xs) n) → (n : ℕ) × R (g x) n
each_has R g [] i x within is has = absurd (omega arith)
each_has R g (y ∷ xs) zero x within is (n, (first, rest, one, others, sum)) = (first, subst (λ z. R (g z) first) (sym is) one)
each_has R g (y ∷ xs) (suc i) x within is (n, (first, rest, one, others, sum)) = each_has R g xs i x (omega arith) is (rest, others)

-- a number with another one added
pub told_more : (P : ℕ → Type 0) (told own next : ℕ) → IsTold P told → next ≡ min (told + own) (2 ^ 64 - 1)
    → IsTold (λ n. (part : ℕ) × P part × (n ≡ part + own)) next
told_more P told own next (n, holds, is) sum = (n + own, (n, holds, refl), min_once 18446744073709551615 told own n next is sum)
  where
    min_once : (most sum own all next : ℕ) → sum ≡ min all most → next ≡ min (sum + own) most → next ≡ min (all + own) most
    min_once most sum own all next so_far last = omega arith
