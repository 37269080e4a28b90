use Rattle.std.proofs.Common.{◌≡◌, List, Some, None, length, map, arith, sym, ◌∙◌, ap, subst}
use Rattle.ir_tree.specs.ShapeOf.{module_shape}
use Rattle.ir_tree.specs.declared.types.Ty.{Ty}
use Rattle.ir_tree.specs.declared.module.NamedTy.{NamedTy}
use Rattle.ir_layout.specs.Computed.{offset_from, ty_layout}
use Rattle.ir_layout.specs.Tables.{type_of_number}
use Rattle.ir_layout.proofs.Entries.{types_known, number_known}
use Rattle.ir_sizes.specs.Nested.{layouts_within}
use Rattle.ir_sizes.proofs.Places.{place_of_structure, place_inside, no_place_inside, no_place_at_once, opens_to_none}
use Rattle.ir_sizes.proofs.sizes.+offset_within.Goals as goal

pub offset_within-requires : goal.offset_within-requires
offset_within-requires t c =
    let stands = subst (λ (ts : List NamedTy). type_of_number ts c.in-Named.id.0 ≡ Some c.in-Some.ty.now) c.deref-in-Named.ensures.value (sym c.in-Some.ensures) in
    let known = number_known (length c.args.m.now.names) c.args.m.now.types.items c.in-Named.id.0 c.in-Some.ty.now (types_known c.args.m.now c.requires.known) stands in
    (omega (arith, c.decreases, c.if-depth-eq0.false), (c.requires.known, (known.0, c.requires.distinct)))

pub returns-in-Struct : goal.returns-in-Struct
returns-in-Struct t c at has =
    let layouts = layouts_within c.args.m.now.types.items (length c.args.m.now.names) c.args.depth in
    c.offset_among.ensures
    ∙ ap (λ (ts : List Ty). offset_from c.in-Struct.packed 0 (map (ty_layout layouts) ts) c.args.field) c.deref.ensures.value
    ∙ place_of_structure c.args.m.now c.requires.known c.requires.distinct c.args.depth c.args.ty.now c.in-Struct.fields c.in-Struct.packed c.args.field at c.in-Struct.is c.requires.names has

pub returns-in-Some : goal.returns-in-Some
returns-in-Some t c at has =
    let stands = subst (λ (ts : List NamedTy). type_of_number ts c.in-Named.id.0 ≡ Some c.in-Some.ty.now) c.deref-in-Named.ensures.value (sym c.in-Some.ensures) in
    c.offset_within.ensures at
    (place_inside c.args.m.now c.requires.known c.requires.distinct c.args.depth c.args.ty.now c.in-Some.ty.now c.in-Named.id c.args.field at c.in-Named.is c.requires.names stands has)

pub returns-in-None : goal.returns-in-None
returns-in-None t c at has =
    let stands = subst (λ (ts : List NamedTy). type_of_number ts c.in-Named.id.0 ≡ None) c.deref-in-Named.ensures.value (sym c.in-None.ensures) in
    absurd (no_place_inside c.args.m.now c.requires.known c.requires.distinct c.args.depth c.args.ty.now c.in-Named.id c.args.field at c.in-Named.is c.requires.names stands has)

pub returns-then-depth-eq0 : goal.returns-then-depth-eq0
returns-then-depth-eq0 t c at has =
    absurd (no_place_at_once c.args.m.now c.requires.known c.requires.distinct c.args.depth c.args.ty.now c.in-Named.id c.args.field at c.if-depth-eq0.true c.in-Named.is has)

pub returns-in_default : goal.returns-in_default
returns-in_default t c at has =
    absurd (opens_to_none c.args.m.now.names (module_shape c.args.m.now).types c.args.ty.now c.in_default.not-Struct c.in_default.not-Named has.0 has.1 has.4)
