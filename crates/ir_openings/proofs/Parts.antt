-- The parts of an array and of a structure.
use Rattle.std.proofs.Common.{◌≡◌, ℕ, zero, suc, ℤ, pos, Bool, true, List, [], ◌∷◌, map, Option, Some, None, slice_get, refl, sym, ◌∙◌, ap, subst, Vec, Box}
use Rattle.std.specs.declared.alloc.Global.{Global}
use Rattle.std.specs.Prelude.{IfNone}
use Rattle.std.specs.List.{list_all}
use Rattle.ir_tree.specs.Shape.{TyShape, TyShapes, array, structure, ty_row}
use Rattle.ir_tree.specs.ShapeOf.{ty_shape}
use Rattle.ir_tree.specs.Known.{ty_known}
use Rattle.ir_tree.specs.declared.types.Ty.{Ty}
use Rattle.ir_tree.specs.declared.types.Ty.TheVariants as types
use Rattle.ir_tree.proofs.Grows.{and_left, and_right, and_both}
use Rattle.ir_rules.specs.Constants.{Opens, is_array, is_structure, StepsBy, to_element, to_field, row_at}
use Rattle.ir_openings.proofs.Types.{array_shape, structure_shape, structure_known}
use Rattle.ir_openings.proofs.Once.{structure_opens}
use Rattle.ir_openings.proofs.Found.{all_at}

-- what follows where there is no value
pub none_then : {X : Type 0} (o : Option X) {P Q : Type 0} → IfNone o P → (P → Q) → IfNone o Q
none_then None h f = f h
none_then (Some x) h f = h

-- the element of an array
pub array_steps : (names : List (List ℕ)) (number : Option ℤ) (t u : Ty) (count : ℕ) (element : Box Ty Global) → t ≡ types.Array count element
    → u ≡ element.value → StepsBy [] number (ty_shape names t) (ty_shape names u)
array_steps names number t u count element e is =
    let shape = ap (ty_shape names) e ∙ array_shape names count element ∙ ap (λ (z : Ty). array count (ty_shape names z)) (sym is) in
    subst (λ (z : TyShape). StepsBy [] number z (ty_shape names u)) (sym shape)
    (to_element (array count (ty_shape names u)) count (ty_shape names u) (is_array count (ty_shape names u)))

-- the field of a number in a row
pub field_shape : (names : List (List ℕ)) (ts : List Ty) (k : ℕ) (u : Ty) → slice_get ts k ≡ Some u → row_at (ty_row (map (ty_shape names) ts)) k ≡ Some (ty_shape names u)
field_shape names [] k u e = cc
field_shape names (t ∷ ts) zero u e =
    let same : t ≡ u = cc in
    ap (λ (z : Ty). Some (ty_shape names z)) same
field_shape names (t ∷ ts) (suc k) u e = field_shape names ts k u e

no_field : (names : List (List ℕ)) (ts : List Ty) (k : ℕ) → slice_get ts k ≡ None → row_at (ty_row (map (ty_shape names) ts)) k ≡ None
no_field names [] k e = refl
no_field names (t ∷ ts) zero e = cc
no_field names (t ∷ ts) (suc k) e = no_field names ts k e

-- a structure's field by its number, where there is one
abbrev pub IsField : List Ty → Option ℤ → Ty → Type 0
IsField fields number u = (k : ℕ) × (number ≡ Some (pos k)) × (slice_get fields k ≡ Some u)

pub structure_steps : (names : List (List ℕ)) (number : Option ℤ) (t u : Ty) (v : Vec Ty Global) (packed : Bool) → t ≡ types.Struct v packed
    → IsField v.items number u → StepsBy [] number (ty_shape names t) (ty_shape names u)
structure_steps names number t u v packed e (k, is, there) =
    let row = ty_row (map (ty_shape names) v.items) in
    let shape = ap (ty_shape names) e ∙ structure_shape names v packed in
    subst (λ (z : TyShape). StepsBy [] number z (ty_shape names u)) (sym shape)
    (to_field (structure row packed) row packed k (ty_shape names u) (is_structure row packed) is (field_shape names v.items k u there))

-- what passes when it is mapped passes
all_mapped : {A : Type 0} (p : A → Bool) (xs : List A) → list_all (λ b. b) (map p xs) ≡ true → list_all p xs ≡ true
all_mapped p [] h = refl
all_mapped p (x ∷ xs) h = and_both (and_left _ _ h) (all_mapped p xs (and_right _ _ h))

-- the names of a structure's fields are known where its own are
pub fields_known : (n : ℕ) (t : Ty) (v : Vec Ty Global) (packed : Bool) → t ≡ types.Struct v packed → ty_known n t ≡ true
    → list_all (ty_known n) v.items ≡ true
fields_known n t v packed e known = all_mapped (ty_known n) v.items (sym (ap (ty_known n) e ∙ structure_known n v packed) ∙ known)

pub field_known : (n : ℕ) (number : Option ℤ) (t u : Ty) (v : Vec Ty Global) (packed : Bool) → t ≡ types.Struct v packed → ty_known n t ≡ true
    → IsField v.items number u → ty_known n u ≡ true
field_known n number t u v packed e known (k, is, there) = all_at (ty_known n) v.items k u (fields_known n t v packed e known) there

rows_equal : (row r : TyShapes) (packed p : Bool) → structure row packed ≡ structure r p → row ≡ r
rows_equal row r packed p e = cc

not_array : (count : ℕ) (element : TyShape) (row : TyShapes) (packed : Bool) → array count element ≡ structure row packed → ⊥
not_array count element row packed e = cc

pub no_structure_steps : (names : List (List ℕ)) (number : Option ℤ) (t : Ty) (v : Vec Ty Global) (packed : Bool) → t ≡ types.Struct v packed
    → ((k : ℕ) → number ≡ Some (pos k) → slice_get v.items k ≡ None) → (u : TyShape) → StepsBy [] number (ty_shape names t) u → ⊥
no_structure_steps names number t v packed e none u steps =
    never (structure (ty_row (map (ty_shape names) v.items)) packed) u refl
    (subst (λ (z : TyShape). StepsBy [] number z u) (ap (ty_shape names) e ∙ structure_shape names v packed) steps)
  where
    never : (s u : TyShape) → s ≡ structure (ty_row (map (ty_shape names) v.items)) packed → StepsBy [] number s u → ⊥
    never s u is (to_element x count element opens) =
        not_array count element _ packed (structure_opens [] _ packed (array count element) (subst (λ (z : TyShape). Opens [] z (array count element)) is opens))
    never s u is (to_field x row p k field opens here at) =
        let rows = rows_equal row _ p packed (structure_opens [] _ packed (structure row p) (subst (λ (z : TyShape). Opens [] z (structure row p)) is opens)) in
        let wrong = sym at ∙ ap (λ (z : TyShapes). row_at z k) rows ∙ no_field names v.items k (none k here) in
        cc
