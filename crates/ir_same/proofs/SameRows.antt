-- Rows of types have one shape exactly where they are equal number for number.
use Rattle.std.proofs.Common.{◌≡◌, ℕ, true, List, [], ◌∷◌, length, map, refl}
use Rattle.std.specs.List.{list_all, IsDistinct}
use Rattle.std.specs.Str.{bytes_eq}
use Rattle.ir_tree.specs.Shape.{TyShape}
use Rattle.ir_tree.specs.ShapeOf.{ty_shape}
use Rattle.ir_tree.specs.Known.{ty_known}
use Rattle.ir_tree.specs.declared.types.Ty.{Ty}
use Rattle.ir_tree.proofs.Grows.{and_left, and_right}
use Rattle.ir_same.specs.Numbered.{numbered_ty}
use Rattle.ir_same.proofs.TypeNumbers.{one_shape, same_numbers}

head_of : (t u : TyShape) (ts us : List TyShape) → t ∷ ts ≡ u ∷ us → t ≡ u
head_of t u ts us e = cc

tail_of : (t u : TyShape) (ts us : List TyShape) → t ∷ ts ≡ u ∷ us → ts ≡ us
tail_of t u ts us e = cc

both : (t u : TyShape) (ts us : List TyShape) → t ≡ u → ts ≡ us → t ∷ ts ≡ u ∷ us
both t u ts us e f = cc

pub one_row : (names : List (List ℕ)) (xs ys : List Ty) → map numbered_ty xs ≡ map numbered_ty ys → map (ty_shape names) xs ≡ map (ty_shape names) ys
one_row names [] [] e = refl
one_row names [] (y ∷ ys) e = cc
one_row names (x ∷ xs) [] e = cc
one_row names (x ∷ xs) (y ∷ ys) e =
    both _ _ _ _ (one_shape names x y (head_of _ _ _ _ e)) (one_row names xs ys (tail_of _ _ _ _ e))

pub same_row : (names : List (List ℕ)) → IsDistinct bytes_eq names → (xs ys : List Ty) → list_all (ty_known (length names)) xs ≡ true
    → list_all (ty_known (length names)) ys ≡ true → map (ty_shape names) xs ≡ map (ty_shape names) ys → map numbered_ty xs ≡ map numbered_ty ys
same_row names distinct [] [] known also e = refl
same_row names distinct [] (y ∷ ys) known also e = cc
same_row names distinct (x ∷ xs) [] known also e = cc
same_row names distinct (x ∷ xs) (y ∷ ys) known also e =
    both _ _ _ _ (same_numbers names distinct x y (and_left _ _ known) (and_left _ _ also) (head_of _ _ _ _ e))
    (same_row names distinct xs ys (and_right _ _ known) (and_right _ _ also) (tail_of _ _ _ _ e))
