use Rattle.std.proofs.Common.{◌≡◌, ◌≤◌, ◌+◌, ◌∷◌, [], ◌++◌, ℕ, List, arith, ap, sym, subst, ◌∙◌}
use Rattle.std.proofs.lemmas.List.Elements.{All-from_recursion}
use Rattle.ir_tree.specs.ShapeOf.{module_shape, ty_shape}
use Rattle.ir_tree.specs.declared.types.Ty.{Ty}
use Rattle.ir_layout.specs.declared.sizes.Layout.{Layout}
use Rattle.ir_layout.specs.Layout.{most_size, field_start, field_end}
use Rattle.ir_layout.specs.Rules.{IsSized}
use Rattle.ir_program.specs.Sizes.{layout_of}
use Rattle.program_steps.proofs.Starts.{StartsLeft, all_left, early, ends_early, one_less, none_left}
use Rattle.program_steps.proofs.sizes.starts_of.Goals as goal

pub layout_at-layout-requires-clause-sized : goal.layout_at-layout-requires-clause-sized
layout_at-layout-requires-clause-sized c =
    let m = c.args.m.now in
    subst (λ (t : Ty). IsSized (module_shape m).types (ty_shape m.names t)) (sym c.field-item.is)
    (All-from_recursion (λ (t : Ty). IsSized (module_shape m).types (ty_shape m.names t)) c.args.fields.now c.requires.sized c.loop-field.field-index c.field-item.result
    c.loop-field-test.true)

pub field_start-requires : goal.field_start-requires
field_start-requires c =
    let m = c.args.m.now in
    early (λ (t : Ty). layout_of (module_shape m).types (ty_shape m.names t)) c.args.packed c.args.fields.now c.loop-field.field-index c.loop-field.at c.loop-field.starts.items
    c.loop-field.invariant

pub overflow_cast-field_start : goal.overflow_cast-field_start
overflow_cast-field_start c =
    let m = c.args.m.now in
    let L = λ (t : Ty). layout_of (module_shape m).types (ty_shape m.names t) in
    let same : c.layout_at-layout.result ≡ L c.field-item.result = c.layout_at-layout.ensures in
    let end : field_end c.args.packed c.loop-field.at c.layout_at-layout.result ≤ most_size =
    subst (λ (l : Layout). field_end c.args.packed c.loop-field.at l ≤ most_size) (sym same)
    (ends_early L c.args.packed c.args.fields.now c.loop-field.field-index c.loop-field.at c.loop-field.starts.items c.field-item.result c.loop-field-test.true (sym c.field-item.is)
    c.loop-field.invariant) in
    omega (arith, end, c.field_start.ensures)

pub field_end-at-requires : goal.field_end-at-requires
field_end-at-requires c =
    let m = c.args.m.now in
    early (λ (t : Ty). layout_of (module_shape m).types (ty_shape m.names t)) c.args.packed c.args.fields.now c.loop-field.field-index c.loop-field.at c.loop-field.starts.items
    c.loop-field.invariant

pub loop-field-init : goal.loop-field-init
loop-field-init c =
    let m = c.args.m.now in
    let L = λ (t : Ty). layout_of (module_shape m).types (ty_shape m.names t) in
    rw c.new-starts.ensures.items (all_left L c.args.packed c.args.fields.now c.requires.small)

pub loop-field-preserved : goal.loop-field-preserved
loop-field-preserved c =
    let m = c.args.m.now in
    let L = λ (t : Ty). layout_of (module_shape m).types (ty_shape m.names t) in
    let same : c.layout_at-layout.result ≡ L c.field-item.result = c.layout_at-layout.ensures in
    let end : c.field_end-at.result ≡ field_end c.args.packed c.loop-field.at (L c.field-item.result) =
    c.field_end-at.ensures ∙ ap (λ (l : Layout). field_end c.args.packed c.loop-field.at l) same in
    let start : c.field_start.result ≡ field_start c.args.packed c.loop-field.at (L c.field-item.result) =
    c.field_start.ensures ∙ ap (λ (l : Layout). field_start c.args.packed c.loop-field.at l) same in
    let items : c.push.new.self.items ≡ c.loop-field.starts.items ++ field_start c.args.packed c.loop-field.at (L c.field-item.result) ∷ [] =
    c.in_ok-push.ensures.items ∙ ap (λ (n : ℕ). c.loop-field.starts.items ++ n ∷ []) start in
    subst (λ (n : ℕ). StartsLeft L c.args.packed c.args.fields.now (c.loop-field.field-index + 1) n c.push.new.self.items) (sym end)
    (subst (λ (z : List ℕ). StartsLeft L c.args.packed c.args.fields.now (c.loop-field.field-index + 1) (field_end c.args.packed c.loop-field.at (L c.field-item.result)) z) (sym items)
    (one_less L c.args.packed c.args.fields.now c.loop-field.field-index c.loop-field.at c.loop-field.starts.items c.field-item.result c.loop-field-test.true (sym c.field-item.is)
    c.loop-field.invariant))

pub returns : goal.returns
returns c =
    let m = c.args.m.now in
    let L = λ (t : Ty). layout_of (module_shape m).types (ty_shape m.names t) in
    none_left L c.args.packed c.args.fields.now c.loop-field.field-index c.loop-field.at c.loop-field.starts.items c.loop-field-test.false c.loop-field.invariant
