use Rattle.std.proofs.Common.{◌≡◌, ℤ, true, false, List, length, map, refl, inl, inr, sym, ◌∙◌, ap, subst, rules, arith, to_z, of_z}
use Rattle.std.specs.Int.{w128}
use Rattle.std.specs.Cmp.{booleans_Decides}
use Rattle.std.specs.List.{list_all, AllByRecursion}
use Rattle.std.proofs.Math.Bool.{beq}
use Rattle.std.proofs.lemmas.List.{length-map}
use Rattle.ir_tree.specs.NameTable.{text_of}
use Rattle.ir_tree.specs.Known.{typed_known}
use Rattle.ir_tree.specs.Shape.{pointer, number, boolean, null, undef, poison, zero_value, global, address, typed_row, ty_row}
use Rattle.ir_tree.specs.ShapeOf.{module_shape, ty_shape, const_shape, typed_shape}
use Rattle.ir_tree.specs.declared.types.Typed.{Typed}
use Rattle.ir_tree.specs.declared.types.Const.{the_lemmas}
use Rattle.ir_tree.proofs.Grows.{and_left}
use Rattle.ir_rules.specs.Constants.{IsLiteral, IsAddress, HaveElements, HaveFields, HasTyped, HasBase}
use Rattle.ir_type_tests.proofs.Both.{never, fails}
use Rattle.ir_type_tests.proofs.Rests.{rest_next, rest_fails, rest_ends}
use Rattle.ir_check_consts.proofs.Shapes.{number_shape, boolean_shape, null_shape, undef_shape, poison_shape, zero_shape, global_shape, address_shape, elements_known, fields_known, typed_is, typed_known_is}
use Rattle.ir_check_consts.proofs.Told.{Tells, same_told, number_told, boolean_told, null_told, global_told, undef_told, poison_told, zero_told, elements_told, no_elements, fields_told, other_packed, no_fields, AreSteps, address_told, no_address, typed_told, other_typed, base_told, other_base}
use Rattle.ir_check_consts.proofs.Rows.{elements_each, elements_all, fields_long, fields_next, fields_fail, fields_end}
use Rattle.ir_check_consts.proofs.consts.+constants.Goals as goal
use Rattle.ir_check_consts.proofs.consts.+constants.Goals.{has_base-then-is_pointer, has_base-else-is_pointer, has_const-then-is_pointer, has_const-else-is_pointer}

pub has_const-has_elements-requires : goal.has_const-has_elements-requires
has_const-has_elements-requires t c =
    let n = length c.args.m.now.names in
    let known : list_all (typed_known n) c.deref-in-Array.result.now ≡ true =
    subst (λ (z : List Typed). list_all (typed_known n) z ≡ true) (sym c.deref-in-Array.ensures.value)
    (elements_known n c.in-Array.elements (rw c.in-Array.is at c.requires.const_names)) in
    (search (rules, the_lemmas), (c.requires.tables, (known, c.requires.ty_names)))

pub has_const-has_fields-requires : goal.has_const-has_fields-requires
has_const-has_fields-requires t c =
    let n = length c.args.m.now.names in
    let known : list_all (typed_known n) c.deref-in-Struct.result.now ≡ true =
    subst (λ (z : List Typed). list_all (typed_known n) z ≡ true) (sym c.deref-in-Struct.ensures.value)
    (fields_known n c.in-Struct.fields c.in-Struct.packed (rw c.in-Struct.is at c.requires.const_names)) in
    (search (rules, the_lemmas), (c.requires.tables, (known, c.requires.ty_names)))

pub has_const-returns-in-Int : goal.has_const-returns-in-Int
has_const-returns-in-Int t c =
    let m = c.args.m.now in
    let ty = ty_shape m.names c.args.ty.now in
    let same : to_z w128 (of_z w128 c.in-Int.value) ≡ c.in-Int.value = search rules in
    same_told (module_shape m).types (const_shape m.names c.args.c.now) (number c.in-Int.value) ty c.is_literal.result (ap (const_shape m.names) c.in-Int.is ∙ number_shape m.names c.in-Int.value)
    (number_told (module_shape m).types c.in-Int.value ty c.is_literal.result (subst (λ (z : ℤ). Tells c.is_literal.result (IsLiteral z ty)) same (c.is_literal.ensures m.names)))

pub has_const-returns-in-Bool : goal.has_const-returns-in-Bool
has_const-returns-in-Bool t c =
    let m = c.args.m.now in
    let ty = ty_shape m.names c.args.ty.now in
    same_told (module_shape m).types (const_shape m.names c.args.c.now) (boolean c.in-Bool.field-0) ty c.is_bit.result (ap (const_shape m.names) c.in-Bool.is ∙ boolean_shape m.names c.in-Bool.field-0)
    (boolean_told (module_shape m).types c.in-Bool.field-0 ty c.is_bit.result (c.is_bit.ensures m.names))

pub has_const-returns-in-Null : goal.has_const-returns-in-Null
has_const-returns-in-Null t c =
    let m = c.args.m.now in
    let ty = ty_shape m.names c.args.ty.now in
    elim c.in-Null.is [
      | inl e ↦
          same_told (module_shape m).types (const_shape m.names c.args.c.now) null ty c.is_pointer-in-Null.result (ap (const_shape m.names) e ∙ null_shape m.names)
          (null_told (module_shape m).types ty c.is_pointer-in-Null.result (c.is_pointer-in-Null.ensures m.names))
      | inr e ↦
          same_told (module_shape m).types (const_shape m.names c.args.c.now) (global (text_of m.names e.0.0)) ty c.is_pointer-in-Null.result
          (ap (const_shape m.names) e.1 ∙ global_shape m.names e.0)
          (global_told (module_shape m).types (text_of m.names e.0.0) ty c.is_pointer-in-Null.result (c.is_pointer-in-Null.ensures m.names))
    ]

pub has_const-returns-in-Undef : goal.has_const-returns-in-Undef
has_const-returns-in-Undef t c =
    let m = c.args.m.now in
    let ts = (module_shape m).types in
    let ty = ty_shape m.names c.args.ty.now in
    let b = c.is_sized.result in
    let sized = c.is_sized.ensures m c.requires.tables.openings.are_sound.known c.requires.tables.layouts c.requires.ty_names in
    elim c.in-Undef.is [
      | inl e ↦ same_told ts (const_shape m.names c.args.c.now) undef ty b (ap (const_shape m.names) e ∙ undef_shape m.names) (undef_told ts ty b sized)
      | inr e ↦ elim e [
        | inl f ↦ same_told ts (const_shape m.names c.args.c.now) poison ty b (ap (const_shape m.names) f ∙ poison_shape m.names) (poison_told ts ty b sized)
        | inr f ↦ same_told ts (const_shape m.names c.args.c.now) zero_value ty b (ap (const_shape m.names) f ∙ zero_shape m.names) (zero_told ts ty b sized)
      ]
    ]

pub has_const-returns-then-has_base : goal.has_const-returns-then-has_base
has_const-returns-then-has_base t c =
    let m = c.args.m.now in
    let ts = (module_shape m).types in
    let ty = ty_shape m.names c.args.ty.now in
    let s = c.in-Gep in
    let inner = ty_shape m.names s.inner in
    let base = typed_shape m.names s.base.value in
    let row = typed_row (map (typed_shape m.names) s.indices.items) in
    elim c.if-is_pointer.branch [
      | has_const-then-is_pointer w ↦
          same_told ts (const_shape m.names c.args.c.now) (address s.field-0 inner base row) ty c.are_steps.result
          (ap (const_shape m.names) s.is ∙ address_shape m.names s.field-0 s.inner s.base s.indices)
          (address_told ts s.field-0 inner ty base row c.are_steps.result ((c.is_pointer.ensures m.names).0 w.if-is_pointer.true)
          (rw w.deref-then-is_pointer.ensures at (w.has_base.ensures.0 (sym w.value-is ∙ c.if-has_base.true)))
          (subst (λ (z : List Typed). Tells c.are_steps.result (AreSteps ts inner (typed_row (map (typed_shape m.names) z)))) c.deref-then-has_base.ensures.value c.are_steps.ensures))
      | has_const-else-is_pointer w ↦ absurd (cc (w.value-is, c.if-has_base.true))
    ]

pub has_const-returns-else-has_base : goal.has_const-returns-else-has_base
has_const-returns-else-has_base t c =
    let m = c.args.m.now in
    let ts = (module_shape m).types in
    let ty = ty_shape m.names c.args.ty.now in
    let s = c.in-Gep in
    let inner = ty_shape m.names s.inner in
    let base = typed_shape m.names s.base.value in
    let row = typed_row (map (typed_shape m.names) s.indices.items) in
    let none : ty ≡ pointer → HasBase ts base → ⊥ =
    elim c.if-is_pointer.branch [
      | has_const-then-is_pointer w ↦ λ is has.
          fails (HasBase ts base) w.has_base.result (sym w.value-is ∙ c.if-has_base.false) (rw w.deref-then-is_pointer.ensures at w.has_base.ensures) has
      | has_const-else-is_pointer w ↦ λ is has. fails (ty ≡ pointer) c.is_pointer.result w.if-is_pointer.false (c.is_pointer.ensures m.names) is
    ] in
    same_told ts (const_shape m.names c.args.c.now) (address s.field-0 inner base row) ty c.if-is_pointer.value
    (ap (const_shape m.names) s.is ∙ address_shape m.names s.field-0 s.inner s.base s.indices)
    (no_address ts s.field-0 inner ty base row c.if-is_pointer.value c.if-has_base.false none)

pub has_elements-returns-in-Some : goal.has_elements-returns-in-Some
has_elements-returns-in-Some t c =
    let m = c.args.m.now in
    elements_told (module_shape m).types (ty_shape m.names c.args.ty.now) (ty_shape m.names c.in-Some.element.now) c.in-Some.count
    (typed_row (map (typed_shape m.names) c.args.row.now)) c.have_elements.result c.in-Some.ensures.opens c.have_elements.ensures

pub has_elements-returns-in-None : goal.has_elements-returns-in-None
has_elements-returns-in-None t c =
    let m = c.args.m.now in
    no_elements (module_shape m).types (ty_shape m.names c.args.ty.now) (typed_row (map (typed_shape m.names) c.args.row.now)) false refl c.in-None.ensures.none

pub has_fields-returns-then-packed-tight : goal.has_fields-returns-then-packed-tight
has_fields-returns-then-packed-tight t c =
    let m = c.args.m.now in
    fields_told (module_shape m).types (ty_shape m.names c.args.ty.now) (ty_row (map (ty_shape m.names) c.in-Some.types.now)) c.args.packed c.in-Some.tight
    (typed_row (map (typed_shape m.names) c.args.row.now)) c.have_fields.result c.in-Some.ensures.opens
    ((booleans_Decides c.args.packed c.in-Some.tight).0 c.if-packed-tight.true) c.have_fields.ensures

pub has_fields-returns-else-packed-tight : goal.has_fields-returns-else-packed-tight
has_fields-returns-else-packed-tight t c =
    let m = c.args.m.now in
    other_packed (module_shape m).types (ty_shape m.names c.args.ty.now) (ty_row (map (ty_shape m.names) c.in-Some.types.now)) c.args.packed c.in-Some.tight
    (typed_row (map (typed_shape m.names) c.args.row.now)) (beq c.args.packed c.in-Some.tight) c.if-packed-tight.false c.in-Some.ensures.opens
    (fails (c.args.packed ≡ c.in-Some.tight) (beq c.args.packed c.in-Some.tight) c.if-packed-tight.false (booleans_Decides c.args.packed c.in-Some.tight))

pub has_fields-returns-in-None : goal.has_fields-returns-in-None
has_fields-returns-in-None t c =
    let m = c.args.m.now in
    no_fields (module_shape m).types (ty_shape m.names c.args.ty.now) c.args.packed (typed_row (map (typed_shape m.names) c.args.row.now)) false refl c.in-None.ensures.none

pub has_typed-returns-then-same_ty : goal.has_typed-returns-then-same_ty
has_typed-returns-then-same_ty t c =
    let m = c.args.m.now in
    let v = c.args.typed.now in
    let known = and_left _ _ (sym (typed_known_is (length m.names) v) ∙ c.requires.const_names) in
    let same = c.same_ty.ensures m.names c.requires.tables.openings.are_sound.distinct known c.requires.ty_names in
    typed_told (module_shape m).types (ty_shape m.names v.ty) (ty_shape m.names c.args.ty.now) (const_shape m.names v.value) (typed_shape m.names v) c.has_const.result
    (typed_is m.names v) (same.0 c.if-same_ty.true) c.has_const.ensures

pub has_typed-returns-else-same_ty : goal.has_typed-returns-else-same_ty
has_typed-returns-else-same_ty t c =
    let m = c.args.m.now in
    let v = c.args.typed.now in
    let known = and_left _ _ (sym (typed_known_is (length m.names) v) ∙ c.requires.const_names) in
    let same = c.same_ty.ensures m.names c.requires.tables.openings.are_sound.distinct known c.requires.ty_names in
    other_typed (module_shape m).types (ty_shape m.names v.ty) (ty_shape m.names c.args.ty.now) (const_shape m.names v.value) (typed_shape m.names v) c.same_ty.result
    c.if-same_ty.false (typed_is m.names v) (fails (ty_shape m.names v.ty ≡ ty_shape m.names c.args.ty.now) c.same_ty.result c.if-same_ty.false same)

pub have_elements-returns-then-row-count : goal.have_elements-returns-then-row-count
have_elements-returns-then-row-count t c =
    let m = c.args.m.now in
    let row = map (typed_shape m.names) c.args.row.now in
    never (HaveElements (module_shape m).types (typed_row row) c.args.count (ty_shape m.names c.args.ty.now)) false refl
    (λ have. c.if-row-count.true (sym ((elements_each (module_shape m).types (ty_shape m.names c.args.ty.now) row c.args.count have).0 ∙ length-map c.args.row.now (typed_shape m.names))))

pub have_elements-returns-then-not-has_typed : goal.have_elements-returns-then-not-has_typed
have_elements-returns-then-not-has_typed t c =
    let m = c.args.m.now in
    let ts = (module_shape m).types in
    let ty = ty_shape m.names c.args.ty.now in
    let row = map (typed_shape m.names) c.args.row.now in
    let v = c.element-item.result in
    never (HaveElements ts (typed_row row) c.args.count ty) false refl
    (λ have. rest_fails (λ x. HasTyped ts x ty) (typed_shape m.names) c.args.row.now c.loop-element.element-index v c.loop-element-test.true (sym c.element-item.is)
    (fails (HasTyped ts (typed_shape m.names v) ty) c.has_typed.result c.if-not-has_typed.true c.has_typed.ensures)
    (AllByRecursion (λ x. HasTyped ts x ty) row) c.loop-element.invariant (elements_each ts ty row c.args.count have).1)

pub have_elements-loop-element-preserved : goal.have_elements-loop-element-preserved
have_elements-loop-element-preserved t c =
    let m = c.args.m.now in
    let ts = (module_shape m).types in
    let ty = ty_shape m.names c.args.ty.now in
    rest_next (λ x. HasTyped ts x ty) (typed_shape m.names) c.args.row.now c.loop-element.element-index c.element-item.result c.loop-element-test.true (sym c.element-item.is)
    (c.has_typed.ensures.0 c.if-not-has_typed.false) (AllByRecursion (λ x. HasTyped ts x ty) (map (typed_shape m.names) c.args.row.now)) c.loop-element.invariant

pub have_elements-returns : goal.have_elements-returns
have_elements-returns t c =
    let m = c.args.m.now in
    let ts = (module_shape m).types in
    let ty = ty_shape m.names c.args.ty.now in
    let row = map (typed_shape m.names) c.args.row.now in
    let all = rest_ends (λ x. HasTyped ts x ty) (typed_shape m.names) c.args.row.now c.loop-element.element-index c.loop-element-test.false
    (AllByRecursion (λ x. HasTyped ts x ty) row) c.loop-element.invariant in
    (λ yes. subst (λ n. HaveElements ts (typed_row row) n ty) (length-map c.args.row.now (typed_shape m.names) ∙ c.if-row-count.false) (elements_all ts ty row all), λ have. refl)

pub have_fields-returns-then-row-types : goal.have_fields-returns-then-row-types
have_fields-returns-then-row-types t c =
    let m = c.args.m.now in
    let row = map (typed_shape m.names) c.args.row.now in
    let types = map (ty_shape m.names) c.args.types.now in
    never (HaveFields (module_shape m).types (typed_row row) (ty_row types)) false refl
    (λ have. c.if-row-types.true (sym (length-map c.args.row.now (typed_shape m.names)) ∙ fields_long (module_shape m).types row types have ∙ length-map c.args.types.now (ty_shape m.names)))

pub have_fields-returns-then-not-has_typed : goal.have_fields-returns-then-not-has_typed
have_fields-returns-then-not-has_typed t c =
    let m = c.args.m.now in
    let ts = (module_shape m).types in
    let row = typed_row (map (typed_shape m.names) c.args.row.now) in
    let types = ty_row (map (ty_shape m.names) c.args.types.now) in
    let x = c.index-row-i.result in
    let y = c.index-types-i.result in
    never (HaveFields ts row types) false refl
    (fields_fail ts (typed_shape m.names) (ty_shape m.names) c.args.row.now c.args.types.now c.loop-i.i x y c.loop-i-test.true (omega (arith, c.loop-i-test.true, c.if-row-types.false))
    (sym c.index-row-i.is) (sym c.index-types-i.is)
    (fails (HasTyped ts (typed_shape m.names x) (ty_shape m.names y)) c.has_typed.result c.if-not-has_typed.true c.has_typed.ensures)
    (HaveFields ts row types) c.loop-i.invariant)

pub have_fields-loop-i-preserved : goal.have_fields-loop-i-preserved
have_fields-loop-i-preserved t c =
    let m = c.args.m.now in
    let ts = (module_shape m).types in
    let row = typed_row (map (typed_shape m.names) c.args.row.now) in
    let types = ty_row (map (ty_shape m.names) c.args.types.now) in
    fields_next ts (typed_shape m.names) (ty_shape m.names) c.args.row.now c.args.types.now c.loop-i.i c.index-row-i.result c.index-types-i.result c.loop-i-test.true
    (omega (arith, c.loop-i-test.true, c.if-row-types.false)) (sym c.index-row-i.is) (sym c.index-types-i.is) (c.has_typed.ensures.0 c.if-not-has_typed.false)
    (HaveFields ts row types) c.loop-i.invariant

pub have_fields-returns : goal.have_fields-returns
have_fields-returns t c =
    let m = c.args.m.now in
    let ts = (module_shape m).types in
    let row = typed_row (map (typed_shape m.names) c.args.row.now) in
    let types = ty_row (map (ty_shape m.names) c.args.types.now) in
    let all = fields_end ts (typed_shape m.names) (ty_shape m.names) c.args.row.now c.args.types.now c.loop-i.i c.loop-i-test.false
    (omega (arith, c.loop-i-test.false, c.if-row-types.false)) (HaveFields ts row types) c.loop-i.invariant in
    (λ yes. all, λ have. refl)

pub has_base-returns-then-is_address : goal.has_base-returns-then-is_address
has_base-returns-then-is_address t c =
    let m = c.args.m.now in
    let ts = (module_shape m).types in
    let v = c.args.base.now in
    elim c.if-is_pointer.branch [
      | has_base-then-is_pointer w ↦
          base_told ts (ty_shape m.names v.ty) (const_shape m.names v.value) (typed_shape m.names v) c.has_const.result (typed_is m.names v)
          ((c.is_pointer.ensures m.names).0 w.if-is_pointer.true) ((w.is_address.ensures m.names).0 (sym w.value-is ∙ c.if-is_address.true)) c.has_const.ensures
      | has_base-else-is_pointer w ↦ absurd (cc (w.value-is, c.if-is_address.true))
    ]

pub has_base-returns-else-is_address : goal.has_base-returns-else-is_address
has_base-returns-else-is_address t c =
    let m = c.args.m.now in
    let ts = (module_shape m).types in
    let v = c.args.base.now in
    elim c.if-is_pointer.branch [
      | has_base-then-is_pointer w ↦
          other_base ts (ty_shape m.names v.ty) (const_shape m.names v.value) (typed_shape m.names v) c.if-is_pointer.value c.if-is_address.false (typed_is m.names v)
          (λ is at. fails (IsAddress (const_shape m.names v.value)) w.is_address.result (sym w.value-is ∙ c.if-is_address.false) (w.is_address.ensures m.names) at)
      | has_base-else-is_pointer w ↦
          other_base ts (ty_shape m.names v.ty) (const_shape m.names v.value) (typed_shape m.names v) c.if-is_pointer.value c.if-is_address.false (typed_is m.names v)
          (λ is at. fails (ty_shape m.names v.ty ≡ pointer) c.is_pointer.result w.if-is_pointer.false (c.is_pointer.ensures m.names) is)
    ]
