-- The steps of indices, by those that are left.
use Rattle.std.proofs.Common.{◌≡◌, ℕ, zero, suc, ℤ, Some, unwrap_or, ◌≤◌, List, [], ◌∷◌, ◌++◌, length, map, drop, Option, sym, ◌∙◌, ap, subst, append_assoc, append-nil}
use Rattle.std.proofs.lemmas.List.{drop_all}
use Rattle.ir_tree.specs.Shape.{TyShape, TyShapes, void, array, structure, no_types, types, NamedTyShape}
use Rattle.ir_layout.specs.Rules.{LaidBy, HaveLayouts, IsSized}
use Rattle.ir_layout.specs.declared.sizes.Layout.{Layout}
use Rattle.ir_layout.proofs.Composed.{array_composed, structure_composed, row_composed}
use Rattle.ir_rules.specs.Constants.{StepsBy, to_element, to_field, row_at, Walks}
use Rattle.ir_model.specs.Pointers as model
use Rattle.ir_program.specs.Sizes.{opened}
use Rattle.ir_program.specs.Strides.{Index as IndexShape, field_number, stride_into, type_inside, strides_inside}
use Rattle.ir_program.proofs.Laid.{opens_as}
use Rattle.ir_program.proofs.Sized.{opened_has}
use Rattle.program_tables.specs.declared.operations.Stride.{Stride}
use Rattle.program_tables.specs.Shapes.{stride_shape}
use Rattle.program_steps.specs.declared.index.Index.{Index}
use Rattle.program_steps.specs.declared.laid.Laid.{Laid}
use Rattle.program_steps.specs.declared.steps.TypeSteps.{TypeSteps}
use Rattle.program_steps.specs.Laid.{laid_of}
use Rattle.program_steps.specs.LaidShapes.{laid_shape}
use Rattle.program_steps.specs.Steps.{names_of, types_of, index_shape, IsStep}

-- what is known of the type that indices have led to: the others lead on from there, by the steps that are missing
pub record Reached (s : TypeSteps) (at : Laid) (left : List Index) (taken whole : List model.Stride) : Type 0 where
  pub ty : TyShape
  pub is_laid : laid_shape (names_of s) at ≡ laid_of (types_of s) ty
  pub sized : IsSized (types_of s) ty
  pub walks : Walks (types_of s) ty (map (λ i. i.number) left)
  pub missing : taken ++ strides_inside (types_of s) ty (map index_shape left) ≡ whole

-- the type that an index leads to is the one that programs step into
reaches : (ts : List NamedTyShape) (t u : TyShape) (i : IndexShape) → IsSized ts t → StepsBy ts i.number t u → type_inside (opened ts t) i ≡ u
reaches ts t u i sized (to_element t' count element opens) =
    ap (λ (z : TyShape). type_inside z i) (opens_as ts t (array count element) sized.0 sized.1 opens)
reaches ts t u i sized (to_field t' row packed k field opens is at) =
    ap (λ (z : TyShape). type_inside z i) (opens_as ts t (structure row packed) sized.0 sized.1 opens)
    ∙ ap (λ (o : Option ℤ). unwrap_or (row_at row (field_number o)) void) is ∙ ap (λ (o : Option TyShape). unwrap_or o void) at

-- and it is sized
field_sized : (ts : List NamedTyShape) (row : TyShapes) (ls : List Layout) (k : ℕ) (field : TyShape) → HaveLayouts ts row ls → row_at row k ≡ Some field
    → IsSized ts field
unfolding LaidBy
field_sized ts no_types ls k field laid at = cc
field_sized ts (types t row) [] k field laid at = absurd laid.1
field_sized ts (types t row) (l ∷ ls) zero field laid at =
    let is : t ≡ field = cc in
    subst (IsSized ts) is (l, ((row_composed ts t row l ls).0 laid).0)
field_sized ts (types t row) (l ∷ ls) (suc k) field laid at = field_sized ts row ls k field ((row_composed ts t row l ls).0 laid).1 at

step_sized : (ts : List NamedTyShape) (t u : TyShape) (number : Option ℤ) → IsSized ts t → StepsBy ts number t u → IsSized ts u
step_sized ts t u number sized (to_element t' count element opens) =
    let parts = (array_composed ts count element sized.0).0 (opened_has ts t (array count element) sized.0 sized.1 opens) in
    (parts.0, parts.1)
step_sized ts t u number sized (to_field t' row packed k field opens is at) =
    let parts = (structure_composed ts row packed sized.0).0 (opened_has ts t (structure row packed) sized.0 sized.1 opens) in
    field_sized ts row parts.0 k field parts.1 at

-- after one more step
pub one_more : (s : TypeSteps) (at inside : Laid) (i : Index) (left : List Index) (stride : Stride) (taken whole : List model.Stride)
    → (r : Reached s at (i ∷ left) taken whole) → IsStep s r.ty r.walks.0 i stride inside → Reached s inside left (taken ++ stride_shape stride ∷ []) whole
one_more s at inside i left stride taken whole r step =
    let ts = types_of s in
    let u : TyShape = r.walks.0 in
    record {
      ty = u;
      is_laid = step.inside;
      sized = step_sized ts r.ty u i.number r.sized r.walks.1;
      walks = r.walks.2;
      missing =
          append_assoc taken (stride_shape stride ∷ []) (strides_inside ts u (map index_shape left))
          ∙ ap (λ (z : model.Stride). taken ++ z ∷ strides_inside ts u (map index_shape left)) step.stride
          ∙ ap (λ (z : TyShape). taken ++ stride_into ts (opened ts r.ty) (index_shape i) ∷ strides_inside ts z (map index_shape left))
          (sym (reaches ts r.ty u (index_shape i) r.sized r.walks.1))
          ∙ r.missing;
    }

pub nothing_left : (s : TypeSteps) (at : Laid) (xs : List Index) (i : ℕ) (taken whole : List model.Stride) → length xs ≤ i
    → Reached s at (drop i xs) taken whole → taken ≡ whole
nothing_left s at xs i taken whole h r =
    sym (append-nil taken)
    ∙ ap (λ (z : List Index). taken ++ strides_inside (types_of s) r.ty (map index_shape z)) (sym (drop_all i xs h)) ∙ r.missing
