use Rattle.std.proofs.Common.{rules, ◌≡◌, ◌≤◌, ◌+◌, ◌-◌, ℕ, List, ◌++◌, true, length, map, replicate, OnOk, arith, sym, ap, ap₂, subst, ◌∙◌, append_assoc}
use Rattle.std.specs.List.{list_all}
use Rattle.std.proofs.lemmas.Grind.{common_steps}
use Rattle.std.proofs.lemmas.List.Elements.{All-from_recursion}
use Rattle.ir_tree.specs.Known.{typed_known}
use Rattle.ir_tree.specs.Shape.{typed, typed_row}
use Rattle.ir_tree.specs.ShapeOf.{ty_shape, const_shape, typed_shape}
use Rattle.ir_tree.specs.declared.types.Const.{the_lemmas}
use Rattle.ir_tree.specs.declared.types.Typed.{Typed}
use Rattle.ir_layout.specs.declared.sizes.Layout.{Layout}
use Rattle.ir_layout.specs.Layout.{most_size, field_start, field_end, fields_end}
use Rattle.ir_check_consts.proofs.Shapes.{elements_known, fields_known}
use Rattle.ir_model.specs.Values.{Cell, Unknown, Byte}
use Rattle.ir_model.specs.Memory.{cells_of}
use Rattle.ir_program.specs.Sizes.{ty_size}
use Rattle.ir_program.specs.Constants.{access_of, const_cells, elements_cells, fields_cells, gap_before}
use Rattle.mem_cells.specs.Shapes.{value_shape}
use Rattle.program_steps.specs.Steps.{names_of, types_of}
use Rattle.program_consts.specs.Constants.{shape_of, ty_of, const_of}
use Rattle.program_consts.specs.Fills.{Fills, AllFill}
use Rattle.program_consts.specs.Pieces.{HasCells}
use Rattle.program_consts.proofs.Valued.{typed_parts, elements_shape, fields_shape}
use Rattle.program_consts.proofs.Added.{adds_all, adds_more, adds_none}
use Rattle.program_consts.proofs.Filled.{elements_fill, fields_fill, stated_layout, elements_at, elements_none, FieldsLeft, early, one_less, none_left}
use Rattle.program_consts.proofs.KindCells.{zero_cells, poison_cells, text_cells, array_cells, structure_cells, own_cells}
use Rattle.program_consts.proofs.contents.+contents.Goals as goal

pub push_const-push_elements-requires : goal.push_const-push_elements-requires
push_const-push_elements-requires t c =
    let names = names_of c.args.constants.now.steps in
    let ts = types_of c.args.constants.now.steps in
    let ty = ty_of c.args.constants.now c.args.ty.now in
    let known : list_all (typed_known (length names)) c.deref-in-Array.result.now ≡ true =
    subst (λ (z : List Typed). list_all (typed_known (length names)) z ≡ true) (sym c.deref-in-Array.ensures.value)
    (elements_known (length names) c.in-Array.row (rw c.in-Array.is at c.requires.names)) in
    let fill : AllFill names ts c.deref-in-Array.result.now =
    subst (AllFill names ts) (sym c.deref-in-Array.ensures.value)
    (elements_fill ts names ty c.in-Array.row.items
    (subst (Fills ts ty) (ap (const_shape names) c.in-Array.is ∙ elements_shape names c.in-Array.row) c.requires.fills)) in
    (search (rules, the_lemmas), (c.requires.constants, (known, fill)))

pub push_const-push_fields-requires : goal.push_const-push_fields-requires
push_const-push_fields-requires t c =
    let names = names_of c.args.constants.now.steps in
    let ts = types_of c.args.constants.now.steps in
    let ty = ty_of c.args.constants.now c.args.ty.now in
    let s = c.in-Struct in
    let whole = fields_fill (shape_of c.args.constants.now) names ty s.row.items s.packed
    (subst (Fills ts ty) (ap (const_shape names) s.is ∙ fields_shape names s.row s.packed) c.requires.fills) in
    let known : list_all (typed_known (length names)) c.deref-in-Struct.result.now ≡ true =
    subst (λ (z : List Typed). list_all (typed_known (length names)) z ≡ true) (sym c.deref-in-Struct.ensures.value)
    (fields_known (length names) s.row s.packed (rw s.is at c.requires.names)) in
    let fill : AllFill names ts c.deref-in-Struct.result.now = subst (AllFill names ts) (sym c.deref-in-Struct.ensures.value) whole.fill in
    let small : fields_end s.packed 0 (map (stated_layout ts names) c.deref-in-Struct.result.now) ≤ most_size =
    subst (λ (z : List Typed). fields_end s.packed 0 (map (stated_layout ts names) z) ≤ most_size) (sym c.deref-in-Struct.ensures.value) whole.small in
    (search (rules, the_lemmas), (c.requires.constants, (known, (fill, small))))

pub push_const-overflow_sub-layout_of : goal.push_const-overflow_sub-layout_of
push_const-overflow_sub-layout_of t c =
    let names = names_of c.args.constants.now.steps in
    let ts = types_of c.args.constants.now.steps in
    let ty = ty_of c.args.constants.now c.args.ty.now in
    let s = c.in-Struct in
    let whole = fields_fill (shape_of c.args.constants.now) names ty s.row.items s.packed
    (subst (Fills ts ty) (ap (const_shape names) s.is ∙ fields_shape names s.row s.packed) c.requires.fills) in
    let end : c.in_ok-end-in-Struct.end ≡ fields_end s.packed 0 (map (stated_layout ts names) s.row.items) =
    c.in_ok-end-in-Struct.ensures.end
    ∙ ap (λ (z : List Typed). fields_end s.packed 0 (map (stated_layout ts names) z)) c.deref-in-Struct.ensures.value in
    let size : c.layout_of-in-Struct.result.size ≡ ty_size ts ty = ap (λ (l : Layout). l.size) c.layout_of-in-Struct.ensures in
    omega (arith, end, size, whole.within)

pub push_const-returns-in-Zero : goal.push_const-returns-in-Zero
push_const-returns-in-Zero t c cells has =
    let m = shape_of c.args.constants.now in
    let ty = ty_of c.args.constants.now c.args.ty.now in
    let same : replicate c.layout_of.result.size (Byte 0) ≡ const_cells m ty (const_of c.args.constants.now c.args.c.now) =
    ap (λ (l : Layout). replicate l.size (Byte 0)) c.layout_of.ensures
    ∙ zero_cells m (names_of c.args.constants.now.steps) ty c.args.c.now c.in-Zero.is in
    subst (λ (z : List Cell). OnOk c.push_zeros.result (HasCells (cells ++ z) c.push_zeros.new.self)) same (c.push_zeros.ensures cells has)

pub push_const-returns-in-Undef : goal.push_const-returns-in-Undef
push_const-returns-in-Undef t c cells has =
    let m = shape_of c.args.constants.now in
    let ty = ty_of c.args.constants.now c.args.ty.now in
    let same : replicate c.layout_of-in-Undef.result.size Unknown ≡ const_cells m ty (const_of c.args.constants.now c.args.c.now) =
    ap (λ (l : Layout). replicate l.size Unknown) c.layout_of-in-Undef.ensures
    ∙ poison_cells m (names_of c.args.constants.now.steps) ty c.args.c.now c.in-Undef.is in
    subst (λ (z : List Cell). OnOk c.push_poison-in-Undef.result (HasCells (cells ++ z) c.push_poison-in-Undef.new.self)) same
    (c.push_poison-in-Undef.ensures cells has)

pub push_const-returns-in-Text : goal.push_const-returns-in-Text
push_const-returns-in-Text t c cells has =
    let same : map Byte c.deref.result.now ≡ const_cells (shape_of c.args.constants.now) (ty_of c.args.constants.now c.args.ty.now) (const_of c.args.constants.now c.args.c.now) =
    ap (λ (z : List ℕ). map Byte z) c.deref.ensures.value
    ∙ text_cells (shape_of c.args.constants.now) (names_of c.args.constants.now.steps) (ty_of c.args.constants.now c.args.ty.now) c.args.c.now c.in-Text.bytes c.in-Text.is in
    subst (λ (z : List Cell). OnOk c.push_bytes.result (HasCells (cells ++ z) c.push_bytes.new.self)) same (c.push_bytes.ensures cells has)

pub push_const-returns-in-Array : goal.push_const-returns-in-Array
push_const-returns-in-Array t c cells has =
    let m = shape_of c.args.constants.now in
    let names = names_of c.args.constants.now.steps in
    let same : elements_cells m (typed_row (map (typed_shape names) c.deref-in-Array.result.now))
    ≡ const_cells m (ty_of c.args.constants.now c.args.ty.now) (const_of c.args.constants.now c.args.c.now) =
    ap (λ (z : List Typed). elements_cells m (typed_row (map (typed_shape names) z))) c.deref-in-Array.ensures.value
    ∙ array_cells m names (ty_of c.args.constants.now c.args.ty.now) c.args.c.now c.in-Array.row c.in-Array.is in
    subst (λ (z : List Cell). OnOk c.push_elements.result (HasCells (cells ++ z) c.push_elements.new.out)) same (c.push_elements.ensures cells has)

pub push_const-returns-in_ok-end-in-Struct : goal.push_const-returns-in_ok-end-in-Struct
push_const-returns-in_ok-end-in-Struct t c cells has =
    let m = shape_of c.args.constants.now in
    let names = names_of c.args.constants.now.steps in
    let ts = types_of c.args.constants.now.steps in
    let ty = ty_of c.args.constants.now c.args.ty.now in
    let s = c.in-Struct in
    let row = λ (z : List Typed). typed_row (map (typed_shape names) z) in
    let whole = fields_fill m names ty s.row.items s.packed
    (subst (Fills ts ty) (ap (const_shape names) s.is ∙ fields_shape names s.row s.packed) c.requires.fills) in
    let F : List Cell = fields_cells m s.packed 0 (row s.row.items) in
    let end : c.in_ok-end-in-Struct.end ≡ length F =
    c.in_ok-end-in-Struct.ensures.end
    ∙ ap (λ (z : List Typed). fields_end s.packed 0 (map (stated_layout ts names) z)) c.deref-in-Struct.ensures.value ∙ sym whole.long in
    let pad : c.layout_of-in-Struct.result.size - c.in_ok-end-in-Struct.end ≡ ty_size ts ty - length F =
    ap₂ (λ (l : Layout) (n : ℕ). l.size - n) c.layout_of-in-Struct.ensures end in
    let before : HasCells (cells ++ F) c.push_fields.new.out =
    subst (λ (z : List Typed). HasCells (cells ++ fields_cells m s.packed 0 (row z)) c.push_fields.new.out) c.deref-in-Struct.ensures.value
    (c.in_ok-end-in-Struct.ensures.cells cells has) in
    let same : (cells ++ F) ++ replicate (c.layout_of-in-Struct.result.size - c.in_ok-end-in-Struct.end) Unknown
    ≡ cells ++ const_cells m ty (const_of c.args.constants.now c.args.c.now) =
    ap (λ (n : ℕ). (cells ++ F) ++ replicate n Unknown) pad
    ∙ append_assoc cells F (replicate (ty_size ts ty - length F) Unknown)
    ∙ ap (λ (z : List Cell). cells ++ z) (structure_cells m names ty c.args.c.now s.row s.packed s.is) in
    subst (λ (z : List Cell). OnOk c.push_poison.result (HasCells z c.push_poison.new.self)) same (c.push_poison.ensures (cells ++ F) before)

pub push_const-returns-in_ok-value-in-Int : goal.push_const-returns-in_ok-value-in-Int
push_const-returns-in_ok-value-in-Int t c cells has =
    let m = shape_of c.args.constants.now in
    let names = names_of c.args.constants.now.steps in
    let ty = ty_of c.args.constants.now c.args.ty.now in
    let same : cells_of (access_of ty) (value_shape c.in_ok-value-in-Int.value) ≡ const_cells m ty (const_of c.args.constants.now c.args.c.now) =
    ap (cells_of (access_of ty)) c.in_ok-value-in-Int.ensures ∙ own_cells m names ty c.args.c.now c.in-Int.is in
    subst (λ (z : List Cell). OnOk c.push_value.result (HasCells (cells ++ z) c.push_value.new.self)) same (c.push_value.ensures names cells has)

pub push_elements-loop-element-init : goal.push_elements-loop-element-init
push_elements-loop-element-init t c cells has =
    let names = names_of c.args.constants.now.steps in
    adds_all cells (elements_cells (shape_of c.args.constants.now) (typed_row (map (typed_shape names) c.args.row.now))) c.args.out.now has

pub push_elements-push_const-requires : goal.push_elements-push_const-requires
push_elements-push_const-requires t c =
    let names = names_of c.args.constants.now.steps in
    let ts = types_of c.args.constants.now.steps in
    let all : typed_known (length names) c.element-item.result ≡ true = grind (arith, common_steps) in
    let known = typed_parts (length names) c.element-item.result all in
    let fills : Fills ts (ty_shape names c.element-item.result.ty) (const_shape names c.element-item.result.value) =
    subst (λ (v : Typed). Fills ts (ty_shape names v.ty) (const_shape names v.value)) (sym c.element-item.is)
    (All-from_recursion (λ (v : Typed). Fills ts (ty_shape names v.ty) (const_shape names v.value)) c.args.row.now c.requires.fill
    c.loop-element.element-index c.element-item.result c.loop-element-test.true) in
    (search (rules, the_lemmas), (c.requires.constants, (known.value, (known.ty, fills))))

pub push_elements-loop-element-preserved : goal.push_elements-loop-element-preserved
push_elements-loop-element-preserved t c cells has =
    let m = shape_of c.args.constants.now in
    let names = names_of c.args.constants.now.steps in
    let a = c.loop-element.invariant cells has in
    adds_more cells _ _ _ _ c.loop-element.out c.push_const.new.out a
    (elements_at m names c.args.row.now c.loop-element.element-index c.element-item.result c.loop-element-test.true (sym c.element-item.is))
    (c.in_ok-push_const.ensures a.so_far a.has)

pub push_elements-returns : goal.push_elements-returns
push_elements-returns t c cells has =
    adds_none cells _ _ c.loop-element.out (c.loop-element.invariant cells has)
    (elements_none (shape_of c.args.constants.now) (names_of c.args.constants.now.steps) c.args.row.now c.loop-element.element-index c.loop-element-test.false)

pub push_fields-layout_of-layout-requires-clause-sized : goal.push_fields-layout_of-layout-requires-clause-sized
push_fields-layout_of-layout-requires-clause-sized t c =
    let names = names_of c.args.constants.now.steps in
    let ts = types_of c.args.constants.now.steps in
    let fills : Fills ts (ty_shape names c.field-item.result.ty) (const_shape names c.field-item.result.value) =
    subst (λ (v : Typed). Fills ts (ty_shape names v.ty) (const_shape names v.value)) (sym c.field-item.is)
    (All-from_recursion (λ (v : Typed). Fills ts (ty_shape names v.ty) (const_shape names v.value)) c.args.row.now c.requires.fill
    c.loop-field.field-index c.field-item.result c.loop-field-test.true) in
    fills.sized

pub push_fields-field_start-requires : goal.push_fields-field_start-requires
push_fields-field_start-requires t c =
    early (shape_of c.args.constants.now) (names_of c.args.constants.now.steps) c.args.packed c.args.row.now c.loop-field.field-index c.loop-field.at
    c.args.out.now c.loop-field.out c.loop-field.invariant

pub push_fields-push_const-requires : goal.push_fields-push_const-requires
push_fields-push_const-requires t c =
    let names = names_of c.args.constants.now.steps in
    let ts = types_of c.args.constants.now.steps in
    let all : typed_known (length names) c.field-item.result ≡ true = grind (arith, common_steps) in
    let known = typed_parts (length names) c.field-item.result all in
    let fills : Fills ts (ty_shape names c.field-item.result.ty) (const_shape names c.field-item.result.value) =
    subst (λ (v : Typed). Fills ts (ty_shape names v.ty) (const_shape names v.value)) (sym c.field-item.is)
    (All-from_recursion (λ (v : Typed). Fills ts (ty_shape names v.ty) (const_shape names v.value)) c.args.row.now c.requires.fill
    c.loop-field.field-index c.field-item.result c.loop-field-test.true) in
    (search (rules, the_lemmas), (c.requires.constants, (known.value, (known.ty, fills))))

pub push_fields-field_end-at-requires : goal.push_fields-field_end-at-requires
push_fields-field_end-at-requires t c =
    early (shape_of c.args.constants.now) (names_of c.args.constants.now.steps) c.args.packed c.args.row.now c.loop-field.field-index c.loop-field.at
    c.args.out.now c.loop-field.out c.loop-field.invariant

pub push_fields-loop-field-preserved : goal.push_fields-loop-field-preserved
push_fields-loop-field-preserved t c =
    let m = shape_of c.args.constants.now in
    let names = names_of c.args.constants.now.steps in
    let v : Typed = c.field-item.result in
    let at : ℕ = c.loop-field.at in
    let w = typed (ty_shape names v.ty) (const_shape names v.value) in
    let layout : c.layout_of-layout.result ≡ stated_layout m.types names v = c.layout_of-layout.ensures in
    let end : c.field_end-at.result ≡ field_end c.args.packed at (stated_layout m.types names v) =
    c.field_end-at.ensures ∙ ap (λ (l : Layout). field_end c.args.packed at l) layout in
    let gap : replicate (c.field_start.result - at) Unknown ≡ gap_before m c.args.packed at w =
    ap (λ (n : ℕ). replicate (n - at) Unknown) (c.field_start.ensures ∙ ap (λ (l : Layout). field_start c.args.packed at l) layout) in
    subst (λ (n : ℕ). FieldsLeft m names c.args.packed c.args.row.now (c.loop-field.field-index + 1) n c.args.out.now c.push_const.new.out) (sym end)
    (one_less m names c.args.packed c.args.row.now c.loop-field.field-index at c.args.out.now c.loop-field.out c.loop-field.invariant v c.loop-field-test.true
    (sym c.field-item.is) c.push_poison.new.self c.push_const.new.out
    (λ cells has. subst (λ (z : List Cell). HasCells (cells ++ z) c.push_poison.new.self) gap (c.in_ok-push_poison.ensures cells has))
    (λ cells has. c.in_ok-push_const.ensures cells has))

pub push_fields-returns-clause-cells : goal.push_fields-returns-clause-cells
push_fields-returns-clause-cells t c cells has =
    none_left (shape_of c.args.constants.now) (names_of c.args.constants.now.steps) c.args.packed c.args.row.now c.loop-field.field-index c.loop-field.at
    c.args.out.now c.loop-field.out c.loop-field.invariant c.loop-field-test.false cells has
