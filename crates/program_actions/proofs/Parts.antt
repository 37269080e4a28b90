-- Operands in rows.
use Rattle.std.proofs.Common.{◌≡◌, ◌<◌, ℕ, zero, suc, Bool, true, ℤ, List, [], ◌∷◌, map, length, get_or, Option, Some, refl, sym, ap, ◌∙◌}
use Rattle.std.specs.Prelude.{slice_get}
use Rattle.std.specs.List.{list_all, AllByRecursion}
use Rattle.ir_tree.proofs.Grows.{and_left, and_right}
use Rattle.program_steps.proofs.Alike.{item_there}
use Rattle.ir_tree.specs.Shape.{TyValShape}
use Rattle.ir_tree.specs.ShapeOf.{ty_val_shape}
use Rattle.ir_tree.specs.declared.module.TyVal.{TyVal}
use Rattle.ir_rules.specs.Instructions.{val_number, Fits, IsStep}
use Rattle.ir_program.specs.Strides.{Index}
use Rattle.ir_program.specs.Operands.{operand_index}
use Rattle.program_steps.specs.declared.index.Index.{Index as CodeIndex}
use Rattle.program_steps.specs.Steps.{index_shape}
use Rattle.program_actions.specs.declared.around.Around.{Around}
use Rattle.program_actions.specs.Around.{around_of, names_around, AllFit}

numbers_left : (xs : List CodeIndex) → map (λ (i : CodeIndex). i.number) xs ≡ map (λ (i : Index). i.number) (map index_shape xs)
numbers_left [] = refl
numbers_left (x ∷ xs) = ap (λ (ns : List (Option ℤ)). x.number ∷ ns) (numbers_left xs)

numbers_right : (ys : List TyValShape) → map (λ (i : Index). i.number) (map operand_index ys) ≡ map (λ (x : TyValShape). val_number x.val) ys
numbers_right [] = refl
numbers_right (y ∷ ys) = ap (λ (ns : List (Option ℤ)). val_number y.val ∷ ns) (numbers_right ys)

-- the numbers of indices are those of the operands that they are
pub numbers_same : (xs : List CodeIndex) (ys : List TyValShape) → map index_shape xs ≡ map operand_index ys
    → map (λ (i : CodeIndex). i.number) xs ≡ map (λ (x : TyValShape). val_number x.val) ys
numbers_same xs ys same = numbers_left xs ∙ ap (map (λ (i : Index). i.number)) same ∙ numbers_right ys

-- operands that fit
pub all_fit : (a : Around) (row : List TyVal) → AllByRecursion (Fits (around_of a)) (map (ty_val_shape (names_around a)) row) → AllFit a row
all_fit a [] all = tt
all_fit a (x ∷ row) all = (all.0, all_fit a row all.1)

pub steps_fit : (a : Around) (row : List TyVal) → AllByRecursion (IsStep (around_of a)) (map (ty_val_shape (names_around a)) row) → AllFit a row
steps_fit a [] all = tt
steps_fit a (x ∷ row) all = (all.0.1, steps_fit a row all.1)

-- what all of a list are, the one at a place is
there : {X : Type 0} (p : X → Bool) (xs : List X) (k : ℕ) (x : X) → list_all p xs ≡ true → slice_get xs k ≡ Some x → p x ≡ true
there p [] k x all at = cc
there {X} p (y ∷ xs) zero x all at =
    let same : y ≡ x = cc in
    ap p (sym same) ∙ and_left _ _ all
there p (y ∷ xs) (suc k) x all at = there p xs k x (and_right _ _ all) at

pub one_of : {X : Type 0} (p : X → Bool) (xs : List X) (k : ℕ) (x : X) → list_all p xs ≡ true → k < length xs → get_or xs k x ≡ x → p x ≡ true
one_of p xs k x all lt is = there p xs k x all (item_there xs k x lt is)
