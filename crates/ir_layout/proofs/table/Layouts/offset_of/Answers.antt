use Rattle.std.proofs.Common.{◌≡◌, ℕ, suc, ◌+◌, List, Option, arith, sym, ◌∙◌, ap, subst, map, take}
use Rattle.std.proofs.lemmas.List.{take-map}
use Rattle.ir_tree.specs.Shape.{ty_row}
use Rattle.ir_tree.specs.ShapeOf.{ty_shape, module_shape}
use Rattle.ir_layout.specs.declared.sizes.Layout.{Layout}
use Rattle.ir_layout.specs.Layout.{fields_align, fields_end}
use Rattle.ir_layout.specs.Rules.{HaveLayouts}
use Rattle.ir_layout.specs.Computed.{offset_from, ty_layout}
use Rattle.ir_layout.proofs.Found.{next_grows}
use Rattle.ir_layout.proofs.Places.{offset_gives, offset_found}
use Rattle.ir_layout.proofs.Entries.{row_computed, row_sound, take_known}
use Rattle.ir_layout.proofs.table.Layouts.offset_of.Goals as goal

pub returns-clause-found : goal.returns-clause-found
returns-clause-found c m known whole names at e =
    let table : c.deref.result.now ≡ c.args.self.now = cc (c.deref.ensures.value, c.self.view_is) in
    let is = c.offset_in.ensures
    ∙ ap (λ (z : List (Option Layout)). offset_from c.args.packed 0 (map (ty_layout z) c.args.fields.now) c.args.index) table in
    let found = offset_found c.args.packed 0 (map (ty_layout c.args.self.now) c.args.fields.now) c.args.index at (sym is ∙ e) in
    let few = take_known _ (suc c.args.index) c.args.fields.now names in
    let next : suc c.args.index ≡ c.args.index + 1 = omega arith in
    let laid = row_sound m c.args.self.now whole.is_sound (take (suc c.args.index) c.args.fields.now) few found.0
    (sym (take-map (ty_layout c.args.self.now) (suc c.args.index) c.args.fields.now) ∙ found.1) in
    (found.0, found.2, subst (λ (n : ℕ). HaveLayouts (module_shape m).types (ty_row (map (ty_shape m.names) (take n c.args.fields.now))) found.0) next laid)

pub returns-clause-all : goal.returns-clause-all
returns-clause-all c m known whole names ls have small within =
    let table : c.deref.result.now ≡ c.args.self.now = cc (c.deref.ensures.value, c.self.view_is) in
    let laid = row_computed m known c.args.self.now whole have.0 c.args.fields.now names ls have.1 in
    c.offset_in.ensures
    ∙ ap (λ (z : List (Option Layout)). offset_from c.args.packed 0 (map (ty_layout z) c.args.fields.now) c.args.index) table
    ∙ ap (λ (os : List (Option Layout)). offset_from c.args.packed 0 os c.args.index) laid
    ∙ offset_gives c.args.packed 0 ls c.args.index
    (omega (arith, small, next_grows (fields_align c.args.packed 1 ls) (fields_end c.args.packed 0 ls))) within
