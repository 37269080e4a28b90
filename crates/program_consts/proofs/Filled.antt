-- Constants that fill arrays and structures, by their parts.
use Rattle.std.proofs.Common.{◌≡◌, ◌<◌, ◌≤◌, ℕ, zero, suc, ◌+◌, Bool, List, [], ◌∷◌, ◌++◌, map, drop, length, get_or, arith, refl, sym, ap, ap₂, subst, ◌∙◌, append_assoc}
use Rattle.std.proofs.lemmas.List.{drop_more, drop_all}
use Rattle.ir_tree.specs.Shape.{TyShape, TyShapes, array, structure, no_types, types, elements, fields, TypedShape, typed, typed_row, NamedTyShape, ModuleShape}
use Rattle.ir_tree.specs.ShapeOf.{const_shape, typed_shape, ty_shape}
use Rattle.ir_tree.specs.declared.types.Typed.{Typed, out-Typed}
use Rattle.ir_layout.specs.declared.sizes.Layout.{Layout}
use Rattle.ir_layout.specs.Layout.{most_size, next_multiple, field_end, fields_end, fields_align}
use Rattle.ir_layout.specs.Rules.{LaidBy, HasLayout, HaveLayouts}
use Rattle.ir_layout.proofs.Composed.{array_composed, structure_composed, row_composed}
use Rattle.ir_layout.proofs.Found.{next_grows, end_grows}
use Rattle.ir_rules.specs.Constants.{HasConst, HaveElements, HaveFields, HasTyped}
use Rattle.ir_check_consts.proofs.Shapes.{typed_is}
use Rattle.ir_model.specs.Values.{Cell}
use Rattle.ir_program.specs.Sizes.{layout_of, ty_size}
use Rattle.ir_program.specs.Constants.{gap_before, end_of, const_cells, typed_cells, elements_cells, fields_cells}
use Rattle.ir_program.proofs.Laid.{laid_out}
use Rattle.ir_program.proofs.Sized.{opened_has, fields_sized}
use Rattle.program_consts.specs.declared.pieces.Pieces.{Pieces}
use Rattle.program_consts.specs.Fills.{Fills, AllFill}
use Rattle.program_consts.specs.Pieces.{HasCells}
use Rattle.program_consts.proofs.Added.{Adds, adds_all, adds_more, adds_none}

-- the layout that is counted for the type that is stated with a constant
abbrev pub stated_layout : List NamedTyShape → List (List ℕ) → Typed → Layout
stated_layout ts names v = layout_of ts (ty_shape names (out-Typed v).ty)

-- a constant that states a type that has a layout
typed_fills : (ts : List NamedTyShape) (names : List (List ℕ)) (v : Typed) (t : TyShape) (l : Layout) → HasLayout ts t l
    → HasTyped ts (typed_shape names v) t → Fills ts (ty_shape names (out-Typed v).ty) (const_shape names (out-Typed v).value) × (stated_layout ts names v ≡ l)
unfolding HasConst
typed_fills ts names v t l has const =
    let parts = subst (λ (z : TypedShape). HasTyped ts z t) (typed_is names v) const in (
      record { sized = (l, subst (λ (z : TyShape). HasLayout ts z l) (sym parts.0) has); proper = subst (λ (z : TyShape). HasConst ts (const_shape names (out-Typed v).value) z) (sym parts.0) parts.1 },
      ap (layout_of ts) parts.0 ∙ laid_out ts t l has,
    )

-- elements
elements_each : (ts : List NamedTyShape) (names : List (List ℕ)) (row : List Typed) (count : ℕ) (element : TyShape) (e : Layout) → HasLayout ts element e
    → HaveElements ts (typed_row (map (typed_shape names) row)) count element → AllFill names ts row
unfolding HasConst
elements_each ts names [] count element e has have = tt
elements_each ts names (v ∷ row) zero element e has have = absurd have
elements_each ts names (v ∷ row) (suc count) element e has have =
    ((typed_fills ts names v element e has have.0).0, elements_each ts names row count element e has have.1)

pub elements_fill : (ts : List NamedTyShape) (names : List (List ℕ)) (t : TyShape) (row : List Typed) → Fills ts t (elements (typed_row (map (typed_shape names) row)))
    → AllFill names ts row
unfolding HasConst
elements_fill ts names t row fills =
    let l : Layout = fills.sized.0 in
    let const = fills.proper in
    let parts = (array_composed ts const.0 const.1 l).0 (opened_has ts t (array const.0 const.1) l fills.sized.1 const.2) in
    elements_each ts names row const.0 const.1 parts.0 parts.1 const.3

-- fields: each of its type, with the layouts that are counted, and no longer than the structure
pub record FieldsFill (m : ModuleShape) (names : List (List ℕ)) (t : TyShape) (row : List Typed) (packed : Bool) : Type 0 where
  pub fill : AllFill names m.types row
  pub small : fields_end packed 0 (map (stated_layout m.types names) row) ≤ most_size
  pub within : fields_end packed 0 (map (stated_layout m.types names) row) ≤ ty_size m.types t
  pub long : length (fields_cells m packed 0 (typed_row (map (typed_shape names) row))) ≡ fields_end packed 0 (map (stated_layout m.types names) row)

fields_each : (ts : List NamedTyShape) (names : List (List ℕ)) (row : List Typed) (us : TyShapes) (ls : List Layout) → HaveLayouts ts us ls
    → HaveFields ts (typed_row (map (typed_shape names) row)) us → AllFill names ts row × (map (stated_layout ts names) row ≡ ls)
unfolding HasConst LaidBy
fields_each ts names [] no_types [] laid have = (tt, refl)
fields_each ts names [] no_types (l ∷ ls) laid have = absurd laid.1
fields_each ts names [] (types u us) ls laid have = absurd have
fields_each ts names (v ∷ row) no_types ls laid have = absurd have
fields_each ts names (v ∷ row) (types u us) [] laid have = absurd laid.1
fields_each ts names (v ∷ row) (types u us) (l ∷ ls) laid have =
    let parts = (row_composed ts u us l ls).0 laid in
    let first = typed_fills ts names v u l parts.0 have.0 in
    let rest = fields_each ts names row us ls parts.1 have.1 in
    ((first.0, rest.0), ap₂ (λ (x : Layout) (xs : List Layout). x ∷ xs) first.1 rest.1)

pub fields_fill : (m : ModuleShape) (names : List (List ℕ)) (t : TyShape) (row : List Typed) (packed : Bool)
    → Fills m.types t (fields (typed_row (map (typed_shape names) row)) packed) → FieldsFill m names t row packed
unfolding HasConst
fields_fill m names t row packed fills =
    let ts = m.types in
    let l : Layout = fills.sized.0 in
    let const = fills.proper in
    let us : TyShapes = const.0 in
    let parts = (structure_composed ts us packed l).0 (opened_has ts t (structure us packed) l fills.sized.1 const.1) in
    let ls : List Layout = parts.0 in
    let each = fields_each ts names row us ls parts.1 const.2 in
    let grows : fields_end packed 0 ls ≤ next_multiple (fields_align packed 1 ls) (fields_end packed 0 ls) =
    next_grows (fields_align packed 1 ls) (fields_end packed 0 ls) in
    let size : ty_size ts t ≡ next_multiple (fields_align packed 1 ls) (fields_end packed 0 ls) =
    ap (λ (k : Layout). k.size) (laid_out ts t l fills.sized.1 ∙ parts.3) in
    let small : fields_end packed 0 ls ≤ most_size = omega (arith, grows, parts.2) in
    let within : fields_end packed 0 ls ≤ ty_size ts t = omega (arith, grows, size) in
    let long : 0 + length (fields_cells m packed 0 (typed_row (map (typed_shape names) row))) ≡ fields_end packed 0 ls =
    fields_sized m packed 0 (typed_row (map (typed_shape names) row)) us ls parts.1 const.2 in
    record {
      fill = each.0;
      small = subst (λ (z : List Layout). fields_end packed 0 z ≤ most_size) (sym each.1) small;
      within = subst (λ (z : List Layout). fields_end packed 0 z ≤ ty_size ts t) (sym each.1) within;
      long = let e : length (fields_cells m packed 0 (typed_row (map (typed_shape names) row))) ≡ fields_end packed 0 ls = omega (arith, long) in
          e ∙ ap (fields_end packed 0) (sym each.1);
    }

-- what stands at a place and after it
pub rest_at : {A : Type 0} (xs : List A) (i : ℕ) (x : A) → i < length xs → get_or xs i x ≡ x → drop i xs ≡ x ∷ drop (i + 1) xs
rest_at {A} xs i x h is = drop_more xs i x h ∙ ap (λ (z : A). z ∷ drop (i + 1) xs) is

-- an element and those after it
pub elements_at : (m : ModuleShape) (names : List (List ℕ)) (row : List Typed) (i : ℕ) (v : Typed) → i < length row → get_or row i v ≡ v
    → elements_cells m (typed_row (map (typed_shape names) (drop i row)))
    ≡ const_cells m (ty_shape names (out-Typed v).ty) (const_shape names (out-Typed v).value) ++ elements_cells m (typed_row (map (typed_shape names) (drop (i + 1) row)))
unfolding const_cells
elements_at m names row i v h is =
    ap (λ (z : List Typed). elements_cells m (typed_row (map (typed_shape names) z))) (rest_at row i v h is)
    ∙ ap (λ (z : TypedShape). typed_cells m z ++ elements_cells m (typed_row (map (typed_shape names) (drop (i + 1) row)))) (typed_is names v)

pub elements_none : (m : ModuleShape) (names : List (List ℕ)) (row : List Typed) (i : ℕ) → length row ≤ i
    → elements_cells m (typed_row (map (typed_shape names) (drop i row))) ≡ []
unfolding const_cells
elements_none m names row i past = ap (λ (z : List Typed). elements_cells m (typed_row (map (typed_shape names) z))) (drop_all i row past)

-- fields from a place on
abbrev pub fields_from : ModuleShape → List (List ℕ) → Bool → ℕ → List Typed → List Cell
fields_from m names packed at row = fields_cells m packed at (typed_row (map (typed_shape names) row))

pub record FieldsLeft (m : ModuleShape) (names : List (List ℕ)) (packed : Bool) (row : List Typed) (i at : ℕ) (before out : Pieces) : Type 0 where
  pub small : fields_end packed at (map (stated_layout m.types names) (drop i row)) ≤ most_size
  pub end : fields_end packed at (map (stated_layout m.types names) (drop i row)) ≡ fields_end packed 0 (map (stated_layout m.types names) row)
  pub adds : (cells : List Cell) → HasCells cells before → Adds cells (fields_from m names packed 0 row) (fields_from m names packed at (drop i row)) out

pub fields_all : (m : ModuleShape) (names : List (List ℕ)) (packed : Bool) (row : List Typed) (out : Pieces)
    → fields_end packed 0 (map (stated_layout m.types names) row) ≤ most_size → FieldsLeft m names packed row 0 0 out out
fields_all m names packed row out small = record {
  small = small;
  end = refl;
  adds = λ cells has. adds_all cells (fields_from m names packed 0 row) out has;
}

module _ (m : ModuleShape) (names : List (List ℕ)) (packed : Bool) (row : List Typed) (i at : ℕ) (before out : Pieces)
    (left : FieldsLeft m names packed row i at before out) where
  pub early : at ≤ most_size
  early = omega (arith, left.small, end_grows packed at (map (stated_layout m.types names) (drop i row)))

  module _ (v : Typed) (h : i < length row) (is : get_or row i v ≡ v) where
    abbrev l : Layout
    l = stated_layout m.types names v

    pub ends_early : field_end packed at l ≤ most_size
    ends_early =
        let here : fields_end packed (field_end packed at l) (map (stated_layout m.types names) (drop (i + 1) row)) ≤ most_size =
        subst (λ (z : List Typed). fields_end packed at (map (stated_layout m.types names) z) ≤ most_size) (rest_at row i v h is) left.small in
        omega (arith, here, end_grows packed (field_end packed at l) (map (stated_layout m.types names) (drop (i + 1) row)))

    pub field_cut : fields_from m names packed at (drop i row)
        ≡ gap_before m packed at (typed (ty_shape names (out-Typed v).ty) (const_shape names (out-Typed v).value))
        ++ (const_cells m (ty_shape names (out-Typed v).ty) (const_shape names (out-Typed v).value)
        ++ fields_from m names packed (field_end packed at l) (drop (i + 1) row))
    unfolding const_cells
    field_cut =
        let w : TypedShape = typed (ty_shape names (out-Typed v).ty) (const_shape names (out-Typed v).value) in
        ap (fields_from m names packed at) (rest_at row i v h is)
        ∙ ap (λ (z : TypedShape). gap_before m packed at z ++ typed_cells m z
        ++ fields_cells m packed (end_of m packed at z) (typed_row (map (typed_shape names) (drop (i + 1) row)))) (typed_is names v)
        ∙ append_assoc (gap_before m packed at w) (typed_cells m w) (fields_from m names packed (field_end packed at l) (drop (i + 1) row))

    pub one_less : (gapped after : Pieces)
        → ((cells : List Cell) → HasCells cells out
        → HasCells (cells ++ gap_before m packed at (typed (ty_shape names (out-Typed v).ty) (const_shape names (out-Typed v).value))) gapped)
        → ((cells : List Cell) → HasCells cells gapped
        → HasCells (cells ++ const_cells m (ty_shape names (out-Typed v).ty) (const_shape names (out-Typed v).value)) after)
        → FieldsLeft m names packed row (i + 1) (field_end packed at l) before after
    one_less gapped after gap own = record {
      small = subst (λ (z : List Typed). fields_end packed at (map (stated_layout m.types names) z) ≤ most_size) (rest_at row i v h is) left.small;
      end = ap (λ (z : List Typed). fields_end packed at (map (stated_layout m.types names) z)) (sym (rest_at row i v h is)) ∙ left.end;
      adds = λ cells has.
          let a = left.adds cells has in
          let b = adds_more cells _ _ _ _ out gapped a field_cut (gap a.so_far a.has) in
          adds_more cells _ _ _ _ gapped after b refl (own b.so_far b.has);
    }

  -- all are added
  pub none_left : length row ≤ i → (cells : List Cell) → HasCells cells before → HasCells (cells ++ fields_from m names packed 0 row) out
  unfolding const_cells
  none_left past cells has = adds_none cells _ _ out (left.adds cells has) (ap (fields_from m names packed at) (drop_all i row past))

  pub end_left : length row ≤ i → at ≡ fields_end packed 0 (map (stated_layout m.types names) row)
  end_left past = ap (λ (z : List Typed). fields_end packed at (map (stated_layout m.types names) z)) (sym (drop_all i row past)) ∙ left.end
