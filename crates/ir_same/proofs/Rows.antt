-- Rows are equal where their lists are.
use Rattle.std.proofs.Common.{◌≡◌, ℕ, zero, suc, ◌<◌, Bool, true, List, [], ◌∷◌, length, map, get_or, refl, arith}
use Rattle.std.specs.Prelude.{◌↔◌, IsTrue}
use Rattle.std.specs.Cmp.{booleans_Decides}
use Rattle.std.proofs.Math.Bool.{beq}
use Rattle.ir_tree.specs.Shape.{TyShape, ty_row, structure, TypedShape, typed_row, elements, fields, address}

pub ty_row_once : (xs ys : List TyShape) → ty_row xs ≡ ty_row ys → xs ≡ ys
ty_row_once [] [] e = refl
ty_row_once [] (y ∷ ys) e = cc
ty_row_once (x ∷ xs) [] e = cc
ty_row_once (x ∷ xs) (y ∷ ys) e =
    let rest : xs ≡ ys = ty_row_once xs ys (cc) in
    cc

structure_once : (xs ys : List TyShape) (packed tight : Bool) → structure (ty_row xs) packed ≡ structure (ty_row ys) tight → xs ≡ ys
structure_once xs ys packed tight e = ty_row_once xs ys (cc)

-- structures that are both packed or both not are equal where their fields are
pub structure_told : (r : Bool) (xs ys : List TyShape) (packed tight : Bool) → beq packed tight ≡ true → (IsTrue r ↔ (xs ≡ ys))
    → IsTrue r ↔ (structure (ty_row xs) packed ≡ structure (ty_row ys) tight)
structure_told r xs ys packed tight same tells =
    let alike : packed ≡ tight = (booleans_Decides packed tight).0 same in
    ((λ yes. let fields : xs ≡ ys = tells.0 yes in cc), λ e. tells.1 (structure_once xs ys packed tight e))

typed_row_once : (xs ys : List TypedShape) → typed_row xs ≡ typed_row ys → xs ≡ ys
typed_row_once [] [] e = refl
typed_row_once [] (y ∷ ys) e = cc
typed_row_once (x ∷ xs) [] e = cc
typed_row_once (x ∷ xs) (y ∷ ys) e =
    let rest : xs ≡ ys = typed_row_once xs ys (cc) in
    cc

-- arrays are equal where their elements are
pub elements_told : (r : Bool) (xs ys : List TypedShape) → (IsTrue r ↔ (xs ≡ ys)) → IsTrue r ↔ (elements (typed_row xs) ≡ elements (typed_row ys))
elements_told r xs ys tells = ((λ yes. let row : xs ≡ ys = tells.0 yes in cc), λ e. tells.1 (typed_row_once xs ys (cc)))

fields_once : (xs ys : List TypedShape) (packed tight : Bool) → fields (typed_row xs) packed ≡ fields (typed_row ys) tight → xs ≡ ys
fields_once xs ys packed tight e = typed_row_once xs ys (cc)

-- constant structures that are both packed or both not are equal where their fields are
pub fields_told : (r : Bool) (xs ys : List TypedShape) (packed tight : Bool) → beq packed tight ≡ true → (IsTrue r ↔ (xs ≡ ys))
    → IsTrue r ↔ (fields (typed_row xs) packed ≡ fields (typed_row ys) tight)
fields_told r xs ys packed tight same tells =
    let alike : packed ≡ tight = (booleans_Decides packed tight).0 same in
    ((λ yes. let row : xs ≡ ys = tells.0 yes in cc), λ e. tells.1 (fields_once xs ys packed tight e))

address_once : (p q : Bool) (t u : TyShape) (v w : TypedShape) (xs ys : List TypedShape) → address p t v (typed_row xs) ≡ address q u w (typed_row ys) → xs ≡ ys
address_once p q t u v w xs ys e = typed_row_once xs ys (cc)

-- addresses of which all else is the same are equal where their indices are
pub address_told : (r : Bool) (p q : Bool) (t u : TyShape) (v w : TypedShape) (xs ys : List TypedShape) → beq p q ≡ true → t ≡ u → v ≡ w
    → (IsTrue r ↔ (xs ≡ ys)) → IsTrue r ↔ (address p t v (typed_row xs) ≡ address q u w (typed_row ys))
address_told r p q t u v w xs ys same type base tells =
    let alike : p ≡ q = (booleans_Decides p q).0 same in
    ((λ yes. let row : xs ≡ ys = tells.0 yes in cc), λ e. tells.1 (address_once p q t u v w xs ys e))

-- where lists tell the same, so does what is at an index in each
pub same_at : {A B : Type 0} (f : A → B) (xs ys : List A) (i : ℕ) (x y : A) → i < length xs → length xs ≡ length ys → x ≡ get_or xs i x
    → y ≡ get_or ys i y → map f xs ≡ map f ys → f x ≡ f y
same_at f [] ys i x y h long p q e = absurd (omega arith)
same_at f (x' ∷ xs) [] i x y h long p q e = absurd (omega arith)
same_at f (x' ∷ xs) (y' ∷ ys) zero x y h long p q e = cc
same_at f (x' ∷ xs) (y' ∷ ys) (suc i) x y h long p q e = same_at f xs ys i x y (omega arith) (omega arith) p q (cc)
