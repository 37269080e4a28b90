-- That names are known, of lists that grow.
use Rattle.std.proofs.Common.{◌≡◌, ℕ, zero, suc, ◌<◌, Bool, true, List, [], ◌∷◌, ◌++◌, length, refl, arith, get_or}
use Rattle.std.specs.List.{list_all}
use Rattle.ir_tree.proofs.Grows.{and_left, and_right, and_both}

-- one element more
pub all_pushed : {X : Type 0} (k : X → Bool) (xs : List X) (x : X) → list_all k xs ≡ true → k x ≡ true → list_all k (xs ++ x ∷ []) ≡ true
all_pushed k [] x all one = and_both one refl
all_pushed k (y ∷ ys) x all one = and_both (and_left _ _ all) (all_pushed k ys x (and_right _ _ all) one)

-- one of all elements
pub one_of_all : {X : Type 0} (k : X → Bool) (xs : List X) (i : ℕ) (d : X) → i < length xs → list_all k xs ≡ true → k (get_or xs i d) ≡ true
one_of_all k [] i d within all = absurd (omega arith)
one_of_all k (x ∷ xs) zero d within all = and_left _ _ all
one_of_all k (x ∷ xs) (suc i) d within all = one_of_all k xs i d (omega arith) (and_right _ _ all)
