-- Types that are laid out, by their parts.
use Rattle.std.proofs.Common.{◌≡◌, ℕ, ◌≤◌, Bool, true, nat_lt, cond, List, [], ◌∷◌, length, map, arith, refl, sym, ◌∙◌, ap, subst, Vec, Box}
use Rattle.std.specs.declared.alloc.Global.{Global}
use Rattle.std.specs.List.{AllByRecursion}
use Rattle.ir_tree.specs.NameTable.{text_of}
use Rattle.ir_tree.specs.Shape.{TyShape, TyShapes, integer, pointer, void, ty_row, NamedTyShape}
use Rattle.ir_tree.specs.ShapeOf.{ty_step, ty_shape}
use Rattle.ir_tree.specs.Known.{ty_known_step, ty_known}
use Rattle.ir_tree.specs.declared.names.NameId.{NameId}
use Rattle.ir_tree.specs.declared.types.Ty.{Ty}
use Rattle.ir_tree.specs.declared.types.Ty.TheOpen as ty
use Rattle.ir_tree.specs.declared.types.Ty.TheVariants as types
use Rattle.ir_tree.specs.declared.types.Ty.TheFolds.{fold-roll-Ty}
use Rattle.ir_layout.specs.declared.sizes.Layout.{Layout}
use Rattle.ir_layout.specs.Layout.{most_size, fields_end, fields_align}
use Rattle.ir_layout.specs.Rules.{LaidBy, HasLayout, HaveLayouts, IsSized}
use Rattle.ir_layout.proofs.Found.{next_grows}
use Rattle.ir_layout.proofs.Composed.{array_composed, structure_composed, row_composed}
use Rattle.ir_openings.proofs.Types.{array_shape, structure_shape, named_shape}
use Rattle.ir_program.specs.Sizes.{laid_by, layout_of, row_layouts, ty_size}
use Rattle.ir_program.proofs.Laid.{rows_laid_out}
use Rattle.program_steps.specs.Laid.{LaidShape, LaidShapes, laid_then, plain, elements, fields, name_of, laid_row, starts_from, laid_of, row_laid_of}
use Rattle.program_steps.specs.LaidShapes.{named_at, laid_step, laid_shape}
use Rattle.program_steps.specs.declared.laid.Laid.{Laid, out-Laid, roll-Laid, roll-out-Laid}
use Rattle.program_steps.specs.declared.laid.Laid.TheOpen as layers
use Rattle.program_steps.specs.declared.laid.Laid.TheVariants as laids
use Rattle.program_steps.specs.declared.laid.Laid.TheFolds.{fold-roll-Laid, fold_out-Laid, map-Laid}

-- the shape of each kind of type that is laid out
pub plain_shape : (names : List (List ℕ)) → laid_shape names laids.Plain ≡ plain
plain_shape names = ap (laid_shape names) (sym laids.rolls-Plain) ∙ fold-roll-Laid LaidShape (laid_step names) layers.Plain

pub elements_shape : (names : List (List ℕ)) (size : ℕ) (element : Box Laid Global)
    → laid_shape names (laids.Array size element) ≡ elements size (laid_shape names element.value)
elements_shape names size element =
    ap (laid_shape names) (sym (laids.rolls-Array size element)) ∙ fold-roll-Laid LaidShape (laid_step names) (layers.Array size element)

pub fields_shape : (names : List (List ℕ)) (starts : Vec ℕ Global) (row : Vec Laid Global)
    → laid_shape names (laids.Struct starts row) ≡ fields starts.items (laid_row (map (laid_shape names) row.items))
fields_shape names starts row =
    ap (laid_shape names) (sym (laids.rolls-Struct starts row)) ∙ fold-roll-Laid LaidShape (laid_step names) (layers.Struct starts row)

pub name_shape : (names : List (List ℕ)) (id : NameId) → laid_shape names (laids.Named id) ≡ named_at names id.0
name_shape names id = ap (laid_shape names) (sym (laids.rolls-Named id)) ∙ fold-roll-Laid LaidShape (laid_step names) (layers.Named id)

-- what is laid out otherwise than as a name is no name
pub no_name : (names : List (List ℕ)) (x : Laid) (name : List ℕ) → ((id : NameId) → x ≡ laids.Named id → ⊥) → laid_shape names x ≡ name_of name → ⊥
no_name names x name other e = by_layer (out-Laid x) refl (sym (fold_out-Laid LaidShape (laid_step names) x) ∙ e)
  where
    by_layer : (y : layers.Laid-F Laid) → out-Laid x ≡ y → laid_step names (map-Laid Laid LaidShape (laid_shape names) y) ≡ name_of name → ⊥
    by_layer layers.Plain is same = cc
    by_layer (layers.Array size element) is same = cc
    by_layer (layers.Struct starts row) is same = cc
    by_layer (layers.Named id) is same = other id (sym (roll-out-Laid x) ∙ ap roll-Laid is ∙ laids.rolls-Named id)

-- types that indices don't lead into
pub integer_shape : (names : List (List ℕ)) (bits : ℕ) → ty_shape names (types.Int bits) ≡ integer bits
integer_shape names bits = ap (ty_shape names) (sym (types.rolls-Int bits)) ∙ fold-roll-Ty TyShape (ty_step names) (ty.Int bits)

pub pointer_shape : (names : List (List ℕ)) → ty_shape names types.Ptr ≡ pointer
pointer_shape names = ap (ty_shape names) (sym types.rolls-Ptr) ∙ fold-roll-Ty TyShape (ty_step names) ty.Ptr

pub void_shape : (names : List (List ℕ)) → ty_shape names types.Void ≡ void
void_shape names = ap (ty_shape names) (sym types.rolls-Void) ∙ fold-roll-Ty TyShape (ty_step names) ty.Void

pub integer_laid : (names : List (List ℕ)) (ts : List NamedTyShape) (t : Ty) (bits : ℕ) → t ≡ types.Int bits
    → laid_shape names laids.Plain ≡ laid_of ts (ty_shape names t)
unfolding laid_of
integer_laid names ts t bits e = plain_shape names ∙ sym (ap (laid_of ts) (ap (ty_shape names) e ∙ integer_shape names bits))

pub pointer_laid : (names : List (List ℕ)) (ts : List NamedTyShape) (t : Ty) → t ≡ types.Ptr → laid_shape names laids.Plain ≡ laid_of ts (ty_shape names t)
unfolding laid_of
pointer_laid names ts t e = plain_shape names ∙ sym (ap (laid_of ts) (ap (ty_shape names) e ∙ pointer_shape names))

pub void_laid : (names : List (List ℕ)) (ts : List NamedTyShape) (t : Ty) → t ≡ types.Void → laid_shape names laids.Plain ≡ laid_of ts (ty_shape names t)
unfolding laid_of
void_laid names ts t e = plain_shape names ∙ sym (ap (laid_of ts) (ap (ty_shape names) e ∙ void_shape names))

-- an array
pub array_laid : (names : List (List ℕ)) (ts : List NamedTyShape) (t : Ty) (count : ℕ) (element : Box Ty Global) (size : ℕ) (inner : Box Laid Global)
    → t ≡ types.Array count element → size ≡ ty_size ts (ty_shape names element.value)
    → laid_shape names inner.value ≡ laid_of ts (ty_shape names element.value)
    → laid_shape names (laids.Array size inner) ≡ laid_of ts (ty_shape names t)
unfolding laid_of
array_laid names ts t count element size inner e sized laid =
    elements_shape names size inner ∙ ap (λ (n : ℕ). elements n (laid_shape names inner.value)) sized
    ∙ ap (λ (z : LaidShape). elements (ty_size ts (ty_shape names element.value)) z) laid
    ∙ sym (ap (laid_of ts) (ap (ty_shape names) e ∙ array_shape names count element))

-- the layouts of types in a row, and the types as they are laid out
pub row_counted : (names : List (List ℕ)) (ts : List NamedTyShape) (row : List Ty)
    → row_layouts ts (ty_row (map (ty_shape names) row)) ≡ map (λ t. layout_of ts (ty_shape names t)) row
unfolding laid_by
row_counted names ts [] = refl
row_counted names ts (t ∷ row) = ap (λ (ls : List Layout). layout_of ts (ty_shape names t) ∷ ls) (row_counted names ts row)

pub row_laid : (names : List (List ℕ)) (ts : List NamedTyShape) (row : List Ty)
    → row_laid_of ts (ty_row (map (ty_shape names) row)) ≡ laid_row (map (λ t. laid_of ts (ty_shape names t)) row)
unfolding row_laid_of
row_laid names ts [] = refl
row_laid names ts (t ∷ row) = ap (λ (z : LaidShapes). laid_then (laid_of ts (ty_shape names t)) z) (row_laid names ts row)

-- a structure
pub structure_laid : (names : List (List ℕ)) (ts : List NamedTyShape) (t : Ty) (row : Vec Ty Global) (packed : Bool) (starts : Vec ℕ Global) (inner : Vec Laid Global)
    → t ≡ types.Struct row packed → starts.items ≡ starts_from packed 0 (map (λ t. layout_of ts (ty_shape names t)) row.items)
    → map (laid_shape names) inner.items ≡ map (λ t. laid_of ts (ty_shape names t)) row.items
    → laid_shape names (laids.Struct starts inner) ≡ laid_of ts (ty_shape names t)
unfolding laid_of
structure_laid names ts t row packed starts inner e begin laid =
    fields_shape names starts inner
    ∙ ap (λ (z : List ℕ). fields z (laid_row (map (laid_shape names) inner.items))) (begin ∙ ap (starts_from packed 0) (sym (row_counted names ts row.items)))
    ∙ ap (λ (z : LaidShapes). fields (starts_from packed 0 (row_layouts ts (ty_row (map (ty_shape names) row.items)))) z) (ap laid_row laid ∙ sym (row_laid names ts row.items))
    ∙ sym (ap (laid_of ts) (ap (ty_shape names) e ∙ structure_shape names row packed))

-- a name that is known
pub name_laid : (names : List (List ℕ)) (ts : List NamedTyShape) (t : Ty) (id : NameId) → t ≡ types.Named id → nat_lt id.0 (length names) ≡ true
    → laid_shape names (laids.Named id) ≡ laid_of ts (ty_shape names t)
unfolding laid_of
name_laid names ts t id e known =
    name_shape names id ∙ ap (λ (b : Bool). cond b (name_of (text_of names id.0)) plain) known
    ∙ sym (ap (laid_of ts) (ap (ty_shape names) e ∙ named_shape names id))

-- the names of an array's element are known where its own are
pub element_known : (n : ℕ) (t : Ty) (count : ℕ) (element : Box Ty Global) → t ≡ types.Array count element → ty_known n t ≡ true
    → ty_known n element.value ≡ true
element_known n t count element e known =
    sym (ap (ty_known n) (e ∙ sym (types.rolls-Array count element)) ∙ fold-roll-Ty Bool (ty_known_step n) (ty.Array count element)) ∙ known

-- the element of an array that is sized, and the fields of a structure
pub element_sized : (names : List (List ℕ)) (ts : List NamedTyShape) (t : Ty) (count : ℕ) (element : Box Ty Global) → t ≡ types.Array count element
    → IsSized ts (ty_shape names t) → IsSized ts (ty_shape names element.value)
element_sized names ts t count element e sized =
    let parts = (array_composed ts count (ty_shape names element.value) sized.0).0
    (subst (λ (z : TyShape). HasLayout ts z sized.0) (ap (ty_shape names) e ∙ array_shape names count element) sized.1) in
    (parts.0, parts.1)

each_sized : (names : List (List ℕ)) (ts : List NamedTyShape) (row : List Ty) (ls : List Layout) → HaveLayouts ts (ty_row (map (ty_shape names) row)) ls
    → AllByRecursion (λ t. IsSized ts (ty_shape names t)) row
unfolding LaidBy
each_sized names ts [] ls laid = tt
each_sized names ts (t ∷ row) [] laid = absurd laid.1
each_sized names ts (t ∷ row) (l ∷ ls) laid =
    let parts = (row_composed ts (ty_shape names t) (ty_row (map (ty_shape names) row)) l ls).0 laid in
    ((l, parts.0), each_sized names ts row ls parts.1)

-- the fields of a structure that is sized have layouts, and end soon enough
pub record AreSmall (names : List (List ℕ)) (ts : List NamedTyShape) (row : List Ty) (packed : Bool) : Type 0 where
  pub sized : AllByRecursion (λ t. IsSized ts (ty_shape names t)) row
  pub small : fields_end packed 0 (map (λ t. layout_of ts (ty_shape names t)) row) ≤ most_size

pub structure_small : (names : List (List ℕ)) (ts : List NamedTyShape) (t : Ty) (row : Vec Ty Global) (packed : Bool) → t ≡ types.Struct row packed
    → IsSized ts (ty_shape names t) → AreSmall names ts row.items packed
structure_small names ts t row packed e sized =
    let us : TyShapes = ty_row (map (ty_shape names) row.items) in
    let parts = (structure_composed ts us packed sized.0).0
    (subst (λ (z : TyShape). HasLayout ts z sized.0) (ap (ty_shape names) e ∙ structure_shape names row packed) sized.1) in
    let ls : List Layout = parts.0 in
    let same : map (λ t. layout_of ts (ty_shape names t)) row.items ≡ ls =
    sym (row_counted names ts row.items) ∙ rows_laid_out ts us ls parts.1.0 parts.1.1 in
    let end : fields_end packed 0 ls ≤ most_size = omega (arith, parts.2, next_grows (fields_align packed 1 ls) (fields_end packed 0 ls)) in
    record {
      sized = each_sized names ts row.items ls parts.1;
      small = subst (λ (z : List Layout). fields_end packed 0 z ≤ most_size) (sym same) end;
    }
