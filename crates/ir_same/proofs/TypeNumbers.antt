-- A type's shape comes of the numbers of its names, and under distinct names the numbers come of the shape.
use Rattle.std.proofs.Common.{◌≡◌, ℕ, Bool, true, List, [], ◌∷◌, length, map, refl, sym, ◌∙◌, ap, subst, ltb-true, Vec}
use Rattle.std.specs.declared.alloc.Global.{Global}
use Rattle.std.specs.List.{list_all, IsDistinct}
use Rattle.std.specs.Str.{bytes_eq}
use Rattle.ir_tree.specs.Shape.{TyShape, TyShapes, integer, pointer, void, array, structure, named, no_types, types, ty_row}
use Rattle.ir_tree.specs.ShapeOf.{ty_step, ty_shape}
use Rattle.ir_tree.specs.Known.{ty_known_step, ty_known}
use Rattle.ir_tree.specs.declared.types.Ty.{Ty}
use Rattle.ir_tree.specs.declared.types.Ty.TheOpen as ty
use Rattle.ir_tree.specs.declared.types.Ty.TheVariants as variants
use Rattle.ir_tree.specs.declared.types.Ty.TheFolds.{fold-roll-Ty, ind-Ty, map-Ty}
use Rattle.ir_tree.proofs.Grows.{and_left, and_right}
use Rattle.ir_same.specs.Numbered.{numbered_ty_step, numbered_ty}
use Rattle.ir_same.proofs.Numbers.{number_at, to_text, to_number}

-- a structure by its fields
pub structure_numbered : (v : Vec Ty Global) (packed : Bool) → numbered_ty (variants.Struct v packed) ≡ structure (ty_row (map numbered_ty v.items)) packed
structure_numbered v packed = ap numbered_ty (sym (variants.rolls-Struct v packed)) ∙ fold-roll-Ty TyShape numbered_ty_step (ty.Struct v packed)

-- a type with other names
unfoldable mutual
  pub renamed : (List ℕ → List ℕ) → TyShape → TyShape
  renamed f (integer bits) = integer bits
  renamed f pointer = pointer
  renamed f void = void
  renamed f (array count t) = array count (renamed f t)
  renamed f (structure row packed) = structure (renamed_row f row) packed
  renamed f (named name) = named (f name)

  pub renamed_row : (List ℕ → List ℕ) → TyShapes → TyShapes
  renamed_row f no_types = no_types
  renamed_row f (types t row) = types (renamed f t) (renamed_row f row)

both : {t u : TyShape} {row other : TyShapes} → t ≡ u → row ≡ other → types t row ≡ types u other
both e f = cc

-- a type's shape comes of its numbers
abbrev pub HasTexts : List (List ℕ) → Ty → Type 0
HasTexts names t = ty_shape names t ≡ renamed (to_text names) (numbered_ty t)

texts_in_row : (names : List (List ℕ)) (ts : List ((t : Ty) × HasTexts names t))
    → ty_row (map (ty_shape names) (map (λ e. e.0) ts)) ≡ renamed_row (to_text names) (ty_row (map numbered_ty (map (λ e. e.0) ts)))
unfolding renamed renamed_row
texts_in_row names [] = refl
texts_in_row names (t ∷ ts) = both t.1 (texts_in_row names ts)

texts_at : (names : List (List ℕ)) (y : ty.Ty-F ((t : Ty) × HasTexts names t))
    → ty_step names (map-Ty Ty TyShape (ty_shape names) (map-Ty ((t : Ty) × HasTexts names t) Ty (λ e. e.0) y))
    ≡ renamed (to_text names) (numbered_ty_step (map-Ty Ty TyShape numbered_ty (map-Ty ((t : Ty) × HasTexts names t) Ty (λ e. e.0) y)))
unfolding renamed renamed_row
texts_at names (ty.Int bits) = refl
texts_at names ty.Ptr = refl
texts_at names ty.Void = refl
texts_at names (ty.Array count element) = ap (array count) element.value.1
texts_at names (ty.Struct v packed) = ap (λ z. structure z packed) (texts_in_row names v.items)
texts_at names (ty.Named id) = refl

pub has_texts : (names : List (List ℕ)) (t : Ty) → HasTexts names t
has_texts names = ind-Ty (HasTexts names) (λ x y is.
    let step = subst (λ z. ty_step names (map-Ty Ty TyShape (ty_shape names) z) ≡ renamed (to_text names) (numbered_ty_step (map-Ty Ty TyShape numbered_ty z)))
    is (texts_at names y) in
    fold-roll-Ty TyShape (ty_step names) x ∙ step ∙ ap (renamed (to_text names)) (sym (fold-roll-Ty TyShape numbered_ty_step x)))

-- a type's numbers come of its shape
abbrev pub HasNumbers : List (List ℕ) → Ty → Type 0
HasNumbers names t = ty_known (length names) t ≡ true → numbered_ty t ≡ renamed (to_number names) (ty_shape names t)

numbers_in_row : (names : List (List ℕ)) (ts : List ((t : Ty) × HasNumbers names t))
    → list_all (λ b. b) (map (ty_known (length names)) (map (λ e. e.0) ts)) ≡ true
    → ty_row (map numbered_ty (map (λ e. e.0) ts)) ≡ renamed_row (to_number names) (ty_row (map (ty_shape names) (map (λ e. e.0) ts)))
unfolding renamed renamed_row
numbers_in_row names [] h = refl
numbers_in_row names (t ∷ ts) h = both (t.1 (and_left _ _ h)) (numbers_in_row names ts (and_right _ _ h))

numbers_at : (names : List (List ℕ)) → IsDistinct bytes_eq names → (y : ty.Ty-F ((t : Ty) × HasNumbers names t))
    → ty_known_step (length names) (map-Ty Ty Bool (ty_known (length names)) (map-Ty ((t : Ty) × HasNumbers names t) Ty (λ e. e.0) y)) ≡ true
    → numbered_ty_step (map-Ty Ty TyShape numbered_ty (map-Ty ((t : Ty) × HasNumbers names t) Ty (λ e. e.0) y))
    ≡ renamed (to_number names) (ty_step names (map-Ty Ty TyShape (ty_shape names) (map-Ty ((t : Ty) × HasNumbers names t) Ty (λ e. e.0) y)))
unfolding renamed renamed_row
numbers_at names distinct (ty.Int bits) h = refl
numbers_at names distinct ty.Ptr h = refl
numbers_at names distinct ty.Void h = refl
numbers_at names distinct (ty.Array count element) h = ap (array count) (element.value.1 h)
numbers_at names distinct (ty.Struct v packed) h = ap (λ z. structure z packed) (numbers_in_row names v.items h)
numbers_at names distinct (ty.Named id) h =
    ap (λ (n : ℕ). named (n ∷ [])) (sym (number_at names distinct id.0 (ltb-true id.0 (length names) h)))

pub has_numbers : (names : List (List ℕ)) → IsDistinct bytes_eq names → (t : Ty) → HasNumbers names t
has_numbers names distinct = ind-Ty (HasNumbers names) (λ x y is known.
    let here : ty_known_step (length names) (map-Ty Ty Bool (ty_known (length names)) x) ≡ true =
    sym (fold-roll-Ty Bool (ty_known_step (length names)) x) ∙ known in
    let step = subst (λ z. ty_known_step (length names) (map-Ty Ty Bool (ty_known (length names)) z) ≡ true
    → numbered_ty_step (map-Ty Ty TyShape numbered_ty z) ≡ renamed (to_number names) (ty_step names (map-Ty Ty TyShape (ty_shape names) z)))
    is (numbers_at names distinct y) in
    fold-roll-Ty TyShape numbered_ty_step x ∙ step here ∙ ap (renamed (to_number names)) (sym (fold-roll-Ty TyShape (ty_step names) x)))

-- types with the same numbers have one shape under each table
pub one_shape : (names : List (List ℕ)) (a b : Ty) → numbered_ty a ≡ numbered_ty b → ty_shape names a ≡ ty_shape names b
one_shape names a b e = has_texts names a ∙ ap (renamed (to_text names)) e ∙ sym (has_texts names b)

-- known types of one shape under distinct names have the same numbers
pub same_numbers : (names : List (List ℕ)) → IsDistinct bytes_eq names → (a b : Ty) → ty_known (length names) a ≡ true
    → ty_known (length names) b ≡ true → ty_shape names a ≡ ty_shape names b → numbered_ty a ≡ numbered_ty b
same_numbers names distinct a b known also e =
    has_numbers names distinct a known ∙ ap (renamed (to_number names)) e ∙ sym (has_numbers names distinct b also)
