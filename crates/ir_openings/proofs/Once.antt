-- A type opens to one type at most, and an index leads to one at most.
use Rattle.std.proofs.Common.{◌≡◌, ℕ, ℤ, pos, Bool, List, [], ◌∷◌, Option, Some, refl, sym, ◌∙◌, ap, subst}
use Rattle.std.specs.Prelude.{◌↔◌}
use Rattle.ir_tree.specs.Shape.{TyShape, TyShapes, array, structure, named, NamedTyShape}
use Rattle.ir_layout.specs.Rules.{named_ty}
use Rattle.ir_rules.specs.Constants.{Opens, is_array, is_structure, is_name, StepsBy, to_element, to_field, row_at, Walks}

-- what an array, a structure and a name open to
pub array_opens : (ts : List NamedTyShape) (count : ℕ) (element u : TyShape) → Opens ts (array count element) u → u ≡ array count element
array_opens ts count element u (is_array k t) = refl

pub structure_opens : (ts : List NamedTyShape) (row : TyShapes) (packed : Bool) (u : TyShape) → Opens ts (structure row packed) u → u ≡ structure row packed
structure_opens ts row packed u (is_structure r p) = refl

pub name_opens : (ts : List NamedTyShape) (name : List ℕ) (u : TyShape) → Opens ts (named name) u
    → (t : TyShape) × (named_ty ts name ≡ Some t) × Opens ts t u
name_opens ts name u (is_name n t v stands opens) = (t, stands, opens)

some_ty : (t u : TyShape) → Some t ≡ Some u → t ≡ u
some_ty t u e = cc

pub opens_once : (ts : List NamedTyShape) (t u v : TyShape) → Opens ts t u → Opens ts t v → u ≡ v
opens_once ts t u v (is_array count element) other = sym (array_opens ts count element v other)
opens_once ts t u v (is_structure row packed) other = sym (structure_opens ts row packed v other)
opens_once ts t u v (is_name name w x stands opens) other =
    let also = name_opens ts name v other in
    let same : also.0 ≡ w = some_ty also.0 w (sym also.1 ∙ stands) in
    opens_once ts w u v opens (subst (λ (z : TyShape). Opens ts z v) same also.2)

some_field : (t u : TyShape) → Some t ≡ Some u → t ≡ u
some_field t u e = cc

some_number : (j k : ℕ) → Some (pos j) ≡ Some (pos k) → j ≡ k
some_number j k e = cc

row_of : (row r : TyShapes) (packed p : Bool) → structure row packed ≡ structure r p → row ≡ r
row_of row r packed p e = cc

element_of : (count n : ℕ) (t u : TyShape) → array count t ≡ array n u → t ≡ u
element_of count n t u e = cc

no_array : (count : ℕ) (t : TyShape) (row : TyShapes) (packed : Bool) → array count t ≡ structure row packed → ⊥
no_array count t row packed e = cc

-- an index leads to one type at most
pub steps_once : (ts : List NamedTyShape) (number : Option ℤ) (t u v : TyShape) → StepsBy ts number t u → StepsBy ts number t v → u ≡ v
steps_once ts number t u v (to_element t' count element opens) (to_element t'' n other also) =
    element_of count n element other (opens_once ts t (array count element) (array n other) opens also)
steps_once ts number t u v (to_element t' count element opens) (to_field t'' row packed k field also is at) =
    absurd (no_array count element row packed (opens_once ts t (array count element) (structure row packed) opens also))
steps_once ts number t u v (to_field t' row packed k field opens is at) (to_element t'' count element also) =
    absurd (no_array count element row packed (opens_once ts t (array count element) (structure row packed) also opens))
steps_once ts number t u v (to_field t' row packed k field opens is at) (to_field t'' r p j other also also_is there) =
    let rows = row_of row r packed p (opens_once ts t (structure row packed) (structure r p) opens also) in
    let places = some_number k j (sym is ∙ also_is) in
    some_field field other (sym at ∙ ap (λ (z : TyShapes). row_at z k) rows ∙ ap (λ (n : ℕ). row_at r n) places ∙ there)

-- indices lead where the later ones lead from where the first leads
pub walks_on : (ts : List NamedTyShape) (number : Option ℤ) (numbers : List (Option ℤ)) (t u : TyShape) → StepsBy ts number t u
    → Walks ts t (number ∷ numbers) ↔ Walks ts u numbers
walks_on ts number numbers t u steps = (
  λ walks. subst (λ (z : TyShape). Walks ts z numbers) (steps_once ts number t walks.0 u walks.1 steps) walks.2,
  λ walks. (u, steps, walks),
)

-- and nowhere where the first leads nowhere
pub walks_nowhere : (ts : List NamedTyShape) (number : Option ℤ) (numbers : List (Option ℤ)) (t : TyShape) → ((u : TyShape) → StepsBy ts number t u → ⊥)
    → Walks ts t (number ∷ numbers) → ⊥
walks_nowhere ts number numbers t none walks = none walks.0 walks.1

-- without named types a type opens to itself alone
opens_itself : (t u : TyShape) → Opens [] t u → t ≡ u
opens_itself t u (is_array count element) = refl
opens_itself t u (is_structure row packed) = refl
opens_itself t u (is_name name v w stands opens) = cc

-- an index leads from a type where it leads from what the type opens to
pub steps_from_opened : (ts : List NamedTyShape) (number : Option ℤ) (t v u : TyShape) → Opens ts t v → StepsBy [] number v u → StepsBy ts number t u
steps_from_opened ts number t v u opens (to_element x count element inside) =
    to_element t count element (subst (λ (z : TyShape). Opens ts t z) (opens_itself v (array count element) inside) opens)
steps_from_opened ts number t v u opens (to_field x row packed k field inside is at) =
    to_field t row packed k field (subst (λ (z : TyShape). Opens ts t z) (opens_itself v (structure row packed) inside) opens) is at

pub steps_in_opened : (ts : List NamedTyShape) (number : Option ℤ) (t v u : TyShape) → Opens ts t v → StepsBy ts number t u → StepsBy [] number v u
steps_in_opened ts number t v u opens (to_element x count element also) =
    let same = opens_once ts t v (array count element) opens also in
    to_element v count element (subst (λ (z : TyShape). Opens [] z (array count element)) (sym same) (is_array count element))
steps_in_opened ts number t v u opens (to_field x row packed k field also is at) =
    let same = opens_once ts t v (structure row packed) opens also in
    to_field v row packed k field (subst (λ (z : TyShape). Opens [] z (structure row packed)) (sym same) (is_structure row packed)) is at

-- an index leads nowhere from a type that opens to nothing
pub steps_open : (ts : List NamedTyShape) (number : Option ℤ) (t u : TyShape) → ((v : TyShape) → Opens ts t v → ⊥) → StepsBy ts number t u → ⊥
steps_open ts number t u none (to_element x count element opens) = none (array count element) opens
steps_open ts number t u none (to_field x row packed k field opens is at) = none (structure row packed) opens
