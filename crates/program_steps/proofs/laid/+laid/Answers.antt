use Rattle.std.proofs.Common.{◌≡◌, true, List, length, map, inl, inr, sym, ◌∙◌, ap, subst, rules, arith}
use Rattle.std.proofs.lemmas.Grind.{common_steps}
use Rattle.std.specs.List.{list_all, AllByRecursion}
use Rattle.std.proofs.lemmas.List.Elements.{All-from_recursion}
use Rattle.ir_tree.specs.Known.{ty_known}
use Rattle.ir_tree.specs.ShapeOf.{module_shape, ty_shape}
use Rattle.ir_tree.specs.declared.types.Ty.{Ty, the_lemmas}
use Rattle.ir_layout.specs.declared.sizes.Layout.{Layout}
use Rattle.ir_layout.specs.Rules.{IsSized}
use Rattle.ir_openings.proofs.Types.{named_known}
use Rattle.ir_openings.proofs.Parts.{fields_known}
use Rattle.ir_program.specs.Sizes.{layout_of, ty_size}
use Rattle.program_steps.specs.Laid.{laid_of, starts_from}
use Rattle.program_steps.specs.LaidShapes.{laid_shape}
use Rattle.program_steps.proofs.Shaped.{integer_laid, pointer_laid, void_laid, array_laid, structure_laid, name_laid, element_known, element_sized, structure_small}
use Rattle.program_steps.proofs.laid.+laid.Goals as goal

pub lay-layout_at-size-requires-clause-sized : goal.lay-layout_at-size-requires-clause-sized
lay-layout_at-size-requires-clause-sized t c =
    let m = c.args.m.now in
    subst (λ (z : Ty). IsSized (module_shape m).types (ty_shape m.names z)) (sym c.deref.ensures)
    (element_sized m.names (module_shape m).types c.args.ty.now c.in-Array.field-0 c.in-Array.element c.in-Array.is c.requires.sized)

pub lay-lay-requires : goal.lay-lay-requires
lay-lay-requires t c =
    let m = c.args.m.now in
    let known : ty_known (length m.names) c.deref-in-Array.result.now ≡ true =
    subst (λ (z : Ty). ty_known (length m.names) z ≡ true) (sym c.deref-in-Array.ensures)
    (element_known (length m.names) c.args.ty.now c.in-Array.field-0 c.in-Array.element c.in-Array.is c.requires.names) in
    let sized : IsSized (module_shape m).types (ty_shape m.names c.deref-in-Array.result.now) =
    subst (λ (z : Ty). IsSized (module_shape m).types (ty_shape m.names z)) (sym c.deref-in-Array.ensures)
    (element_sized m.names (module_shape m).types c.args.ty.now c.in-Array.field-0 c.in-Array.element c.in-Array.is c.requires.sized) in
    (search (rules, the_lemmas), (c.requires.known, (c.requires.table, (known, sized))))

pub lay-starts_of-requires-clause-names : goal.lay-starts_of-requires-clause-names
lay-starts_of-requires-clause-names t c =
    let n = length c.args.m.now.names in
    subst (λ (z : List Ty). list_all (ty_known n) z ≡ true) (sym c.deref-in-Struct.ensures.value)
    (fields_known n c.args.ty.now c.in-Struct.fields c.in-Struct.packed c.in-Struct.is c.requires.names)

pub lay-starts_of-requires-clause-sized : goal.lay-starts_of-requires-clause-sized
lay-starts_of-requires-clause-sized t c =
    let m = c.args.m.now in
    let small = structure_small m.names (module_shape m).types c.args.ty.now c.in-Struct.fields c.in-Struct.packed c.in-Struct.is c.requires.sized in
    subst (λ (z : List Ty). AllByRecursion (λ (u : Ty). IsSized (module_shape m).types (ty_shape m.names u)) z) (sym c.deref-in-Struct.ensures.value) small.sized

pub lay-starts_of-requires-clause-small : goal.lay-starts_of-requires-clause-small
lay-starts_of-requires-clause-small t c =
    let m = c.args.m.now in
    let small = structure_small m.names (module_shape m).types c.args.ty.now c.in-Struct.fields c.in-Struct.packed c.in-Struct.is c.requires.sized in
    rw c.deref-in-Struct.ensures.value small.small

pub lay-lay_all-requires : goal.lay-lay_all-requires
lay-lay_all-requires t c =
    let m = c.args.m.now in
    let n = length m.names in
    let known : list_all (ty_known n) c.deref-in-Struct-2.result.now ≡ true =
    subst (λ (z : List Ty). list_all (ty_known n) z ≡ true) (sym c.deref-in-Struct-2.ensures.value)
    (fields_known n c.args.ty.now c.in-Struct.fields c.in-Struct.packed c.in-Struct.is c.requires.names) in
    let small = structure_small m.names (module_shape m).types c.args.ty.now c.in-Struct.fields c.in-Struct.packed c.in-Struct.is c.requires.sized in
    let sized : AllByRecursion (λ (u : Ty). IsSized (module_shape m).types (ty_shape m.names u)) c.deref-in-Struct-2.result.now =
    subst (λ (z : List Ty). AllByRecursion (λ (u : Ty). IsSized (module_shape m).types (ty_shape m.names u)) z) (sym c.deref-in-Struct-2.ensures.value) small.sized in
    (search (rules, the_lemmas), (c.requires.known, (c.requires.table, (known, sized))))

pub lay-returns-in_ok-new-in-Array : goal.lay-returns-in_ok-new-in-Array
lay-returns-in_ok-new-in-Array t c =
    let m = c.args.m.now in
    let ts = (module_shape m).types in
    let size : c.layout_at-size.result.size ≡ ty_size ts (ty_shape m.names c.in-Array.element.value) =
    ap (λ (l : Layout). l.size) c.layout_at-size.ensures ∙ ap (λ (z : Ty). ty_size ts (ty_shape m.names z)) c.deref.ensures in
    let inner : laid_shape m.names c.in_ok-new-in-Array.field-0.value ≡ laid_of ts (ty_shape m.names c.in-Array.element.value) =
    ap (laid_shape m.names) c.in_ok-new-in-Array.ensures.ok ∙ c.in_ok-inner-in-Array.ensures ∙ ap (λ (z : Ty). laid_of ts (ty_shape m.names z)) c.deref-in-Array.ensures in
    array_laid m.names ts c.args.ty.now c.in-Array.field-0 c.in-Array.element c.layout_at-size.result.size c.in_ok-new-in-Array.field-0 c.in-Array.is size inner

pub lay-returns-in_ok-inner-in-Struct : goal.lay-returns-in_ok-inner-in-Struct
lay-returns-in_ok-inner-in-Struct t c =
    let m = c.args.m.now in
    let ts = (module_shape m).types in
    structure_laid m.names ts c.args.ty.now c.in-Struct.fields c.in-Struct.packed c.in_ok-starts-in-Struct.starts c.in_ok-inner-in-Struct.inner c.in-Struct.is
    (c.in_ok-starts-in-Struct.ensures ∙ ap (λ (z : List Ty). starts_from c.in-Struct.packed 0 (map (λ (u : Ty). layout_of ts (ty_shape m.names u)) z)) c.deref-in-Struct.ensures.value)
    (c.in_ok-inner-in-Struct.ensures ∙ ap (λ (z : List Ty). map (λ (u : Ty). laid_of ts (ty_shape m.names u)) z) c.deref-in-Struct-2.ensures.value)

pub lay-returns-in-Named : goal.lay-returns-in-Named
lay-returns-in-Named t c =
    let m = c.args.m.now in
    name_laid m.names (module_shape m).types c.args.ty.now c.in-Named.id c.in-Named.is
    (sym (ap (ty_known (length m.names)) c.in-Named.is ∙ named_known (length m.names) c.in-Named.id) ∙ c.requires.names)

pub lay-returns-in-Int : goal.lay-returns-in-Int
lay-returns-in-Int t c =
    let m = c.args.m.now in
    let ts = (module_shape m).types in
    elim c.in-Int.is [
      | inl e ↦ integer_laid m.names ts c.args.ty.now e.0 e.1
      | inr e ↦ elim e [
        | inl f ↦ pointer_laid m.names ts c.args.ty.now f
        | inr f ↦ void_laid m.names ts c.args.ty.now f
      ]
    ]

pub lay_all-lay-requires : goal.lay_all-lay-requires
lay_all-lay-requires t c =
    let m = c.args.m.now in
    let known : ty_known (length m.names) c.ty-item.result ≡ true = grind (arith, common_steps) in
    let sized : IsSized (module_shape m).types (ty_shape m.names c.ty-item.result) =
    subst (λ (u : Ty). IsSized (module_shape m).types (ty_shape m.names u)) (sym c.ty-item.is)
    (All-from_recursion (λ (u : Ty). IsSized (module_shape m).types (ty_shape m.names u)) c.args.row.now c.requires.sized c.loop-ty.ty-index c.ty-item.result c.loop-ty-test.true) in
    (search (rules, the_lemmas), (c.requires.known, (c.requires.table, (known, sized))))
