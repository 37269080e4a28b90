use Rattle.std.proofs.Common.{rules, ◌≡◌, List, true, length, map, to_z, of_z, sym, ap, subst, ◌∙◌}
use Rattle.std.specs.Prelude.{if◌then◌else◌}
use Rattle.std.specs.Int.{w128}
use Rattle.std.proofs.lemmas.Result.{IfOk-weaker}
use Rattle.ir_tree.specs.Known.{typed_known}
use Rattle.ir_tree.specs.Shape.{typed_row}
use Rattle.ir_tree.specs.ShapeOf.{ty_shape, const_shape, typed_shape}
use Rattle.ir_tree.specs.declared.types.Const.{the_lemmas}
use Rattle.ir_tree.specs.declared.types.Typed.{Typed}
use Rattle.ir_rules.specs.Constants.{HasConst, AreNumbers, WalksBehind, row_numbers}
use Rattle.ir_check_consts.proofs.Shapes.{typed_is}
use Rattle.ir_model.specs.Integers.{bits_of}
use Rattle.ir_model.specs.Pointers.{walked}
use Rattle.ir_program.specs.Strides.{strides_of, scaled_only}
use Rattle.ir_program.specs.Constants.{const_value, typed_value, rooms, row_indices, row_values}
use Rattle.mem_cells.specs.Shapes.{value_shape}
use Rattle.program_steps.specs.Steps.{names_of, types_of}
use Rattle.program_consts.specs.Constants.{shape_of, ty_of, const_of}
use Rattle.program_consts.proofs.Valued.{number_valued, boolean_valued, null_valued, zero_valued, global_valued, poison_valued_by, address_valued, literal_of, literal_wide, steps_from, address_known, typed_parts, global_known}
use Rattle.program_consts.proofs.values.Constants.+values.Goals as goal

pub value_of-bits_of-requires : goal.value_of-bits_of-requires
value_of-bits_of-requires t c =
    let names = names_of c.args.self.now.steps in
    literal_wide c.in-Int.value (ty_of c.args.self.now c.args.ty.now) c.width_of-width.result
    (literal_of (types_of c.args.self.now.steps) names c.args.c.now (ty_of c.args.self.now c.args.ty.now) c.in-Int.value c.in-Int.is c.requires.proper)
    (c.width_of-width.ensures names)

pub value_of-address_of-requires-clause-name : goal.value_of-address_of-requires-clause-name
value_of-address_of-requires-clause-name t c = global_known (names_of c.args.self.now.steps) c.args.c.now c.in-Global.id c.in-Global.is c.requires.names

pub value_of-typed_value-requires : goal.value_of-typed_value-requires
value_of-typed_value-requires t c =
    let names = names_of c.args.self.now.steps in
    let ts = types_of c.args.self.now.steps in
    let s = c.in-Gep in
    let known : typed_known (length names) c.deref.result.now ≡ true =
    subst (λ (z : Typed). typed_known (length names) z ≡ true) (sym c.deref.ensures)
    (address_known (length names) c.args.c.now s.inbounds s.inner s.base s.indices s.is c.requires.names).from in
    let proper : HasConst ts (const_of c.args.self.now c.deref.result.now.value) (ty_of c.args.self.now c.deref.result.now.ty) =
    subst (λ (z : Typed). HasConst ts (const_shape names z.value) (ty_shape names z.ty)) (sym c.deref.ensures)
    (steps_from ts names c.args.c.now (ty_of c.args.self.now c.args.ty.now) s.inbounds s.inner s.base s.indices s.is c.requires.proper).base in
    (search (rules, the_lemmas), (c.requires.constants, (known, proper)))

pub value_of-walk_from-requires-clause-names : goal.value_of-walk_from-requires-clause-names
value_of-walk_from-requires-clause-names t c =
    let s = c.in-Gep in
    let names = names_of c.args.self.now.steps in
    (address_known (length names) c.args.c.now s.inbounds s.inner s.base s.indices s.is c.requires.names).steps

pub value_of-walk_from-requires-clause-sized : goal.value_of-walk_from-requires-clause-sized
value_of-walk_from-requires-clause-sized t c =
    let s = c.in-Gep in
    let names = names_of c.args.self.now.steps in
    (steps_from (types_of c.args.self.now.steps) names c.args.c.now (ty_of c.args.self.now c.args.ty.now) s.inbounds s.inner s.base s.indices s.is c.requires.proper).sized

pub value_of-walk_from-requires-clause-numbers : goal.value_of-walk_from-requires-clause-numbers
value_of-walk_from-requires-clause-numbers t c =
    let s = c.in-Gep in
    let names = names_of c.args.self.now.steps in
    subst (λ (z : List Typed). AreNumbers (typed_row (map (typed_shape names) z))) (sym c.deref-in-Gep.ensures.value)
    (steps_from (types_of c.args.self.now.steps) names c.args.c.now (ty_of c.args.self.now c.args.ty.now) s.inbounds s.inner s.base s.indices s.is c.requires.proper).numbers

pub value_of-walk_from-requires-clause-walks : goal.value_of-walk_from-requires-clause-walks
value_of-walk_from-requires-clause-walks t c =
    let s = c.in-Gep in
    let names = names_of c.args.self.now.steps in
    let ts = types_of c.args.self.now.steps in
    subst (λ (z : List Typed). WalksBehind ts (ty_shape names s.inner) (row_numbers (typed_row (map (typed_shape names) z)))) (sym c.deref-in-Gep.ensures.value)
    (steps_from ts names c.args.c.now (ty_of c.args.self.now c.args.ty.now) s.inbounds s.inner s.base s.indices s.is c.requires.proper).walks

pub value_of-returns-in-Int : goal.value_of-returns-in-Int
value_of-returns-in-Int t c =
    let names = names_of c.args.self.now.steps in
    let w = c.width_of-width.result in
    let same : to_z w128 (of_z w128 c.in-Int.value) ≡ c.in-Int.value = search rules in
    let bits : c.bits_of.result ≡ bits_of w c.in-Int.value = c.bits_of.ensures ∙ ap (bits_of w) same in
    number_valued (shape_of c.args.self.now) names (ty_of c.args.self.now c.args.ty.now) c.args.c.now c.in-Int.value w c.bits_of.result c.in-Int.is
    (c.width_of-width.ensures names) bits

pub value_of-returns-in-Bool : goal.value_of-returns-in-Bool
value_of-returns-in-Bool t c =
    let bit : c.from.result ≡ (if c.in-Bool.value then 1 else 0) = search rules in
    boolean_valued (shape_of c.args.self.now) (names_of c.args.self.now.steps) (ty_of c.args.self.now c.args.ty.now) c.args.c.now c.in-Bool.value c.from.result
    c.in-Bool.is bit

pub value_of-returns-in-Null : goal.value_of-returns-in-Null
value_of-returns-in-Null t c =
    null_valued (shape_of c.args.self.now) (names_of c.args.self.now.steps) (ty_of c.args.self.now c.args.ty.now) c.args.c.now c.in-Null.is

pub value_of-returns-in-Zero : goal.value_of-returns-in-Zero
value_of-returns-in-Zero t c =
    let names = names_of c.args.self.now.steps in
    zero_valued (shape_of c.args.self.now) names (ty_of c.args.self.now c.args.ty.now) c.args.c.now (value_shape c.zero_of.result) c.in-Zero.is
    (c.zero_of.ensures names)

pub value_of-returns-in-Global : goal.value_of-returns-in-Global
value_of-returns-in-Global t c =
    global_valued (shape_of c.args.self.now) (names_of c.args.self.now.steps) (ty_of c.args.self.now c.args.ty.now) c.args.c.now c.in-Global.id
    (value_shape c.address_of.result) c.in-Global.is c.address_of.ensures

pub value_of-returns-in-Undef : goal.value_of-returns-in-Undef
value_of-returns-in-Undef t c =
    poison_valued_by (shape_of c.args.self.now) (names_of c.args.self.now.steps) (ty_of c.args.self.now c.args.ty.now) c.args.c.now c.in-Undef.is

pub value_of-returns-in-Undef-2 : goal.value_of-returns-in-Undef-2
value_of-returns-in-Undef-2 t c =
    poison_valued_by (shape_of c.args.self.now) (names_of c.args.self.now.steps) (ty_of c.args.self.now c.args.ty.now) c.args.c.now c.in-Undef.is

pub value_of-returns-in-Undef-3 : goal.value_of-returns-in-Undef-3
value_of-returns-in-Undef-3 t c =
    poison_valued_by (shape_of c.args.self.now) (names_of c.args.self.now.steps) (ty_of c.args.self.now c.args.ty.now) c.args.c.now c.in-Undef.is

pub value_of-returns-in-Undef-4 : goal.value_of-returns-in-Undef-4
value_of-returns-in-Undef-4 t c =
    poison_valued_by (shape_of c.args.self.now) (names_of c.args.self.now.steps) (ty_of c.args.self.now c.args.ty.now) c.args.c.now c.in-Undef.is

pub value_of-returns-in-Undef-5 : goal.value_of-returns-in-Undef-5
value_of-returns-in-Undef-5 t c =
    poison_valued_by (shape_of c.args.self.now) (names_of c.args.self.now.steps) (ty_of c.args.self.now c.args.ty.now) c.args.c.now c.in-Undef.is

pub value_of-returns-in_ok-start-in-Gep : goal.value_of-returns-in_ok-start-in-Gep
value_of-returns-in_ok-start-in-Gep t c =
    let m = shape_of c.args.self.now in
    let names = names_of c.args.self.now.steps in
    let s = c.in-Gep in
    let strides = λ (z : List Typed). strides_of m.types (ty_shape names s.inner) (row_indices (typed_row (map (typed_shape names) z))) in
    let start : value_shape c.in_ok-start-in-Gep.start ≡ typed_value m (typed_shape names s.base.value) =
    c.in_ok-start-in-Gep.ensures ∙ ap (λ (z : Typed). typed_value m (typed_shape names z)) c.deref.ensures in
    IfOk-weaker c.walk_from.result _ _
    (λ v is. address_valued m names (ty_of c.args.self.now c.args.ty.now) c.args.c.now s.inbounds s.inner s.base s.indices
    (value_shape c.in_ok-start-in-Gep.start) (value_shape v) s.is start
    (is ∙ ap (λ (z : List Typed). walked s.inbounds (strides z) (rooms m) (value_shape c.in_ok-start-in-Gep.start)
    (scaled_only (strides z) (row_values m (typed_row (map (typed_shape names) z))))) c.deref-in-Gep.ensures.value))
    c.walk_from.ensures

pub typed_value-value_of-requires : goal.typed_value-value_of-requires
typed_value-value_of-requires t c =
    let known = typed_parts (length (names_of c.args.self.now.steps)) c.args.typed.now c.requires.names in
    (search (rules, the_lemmas), (c.requires.constants, (known.ty, (known.value, c.requires.proper))))

pub typed_value-returns : goal.typed_value-returns
unfolding const_value typed_value
typed_value-returns t c =
    let names = names_of c.args.self.now.steps in
    IfOk-weaker c.value_of.result _ _ (λ v is. is ∙ ap (typed_value (shape_of c.args.self.now)) (sym (typed_is names c.args.typed.now))) c.value_of.ensures
