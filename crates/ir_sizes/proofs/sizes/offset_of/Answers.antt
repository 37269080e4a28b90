use Rattle.std.proofs.Common.{◌≡◌, ℕ, Option, Some, length, arith, refl, sym, ◌∙◌}
use Rattle.ir_tree.specs.ShapeOf.{ty_shape, module_shape}
use Rattle.ir_layout.specs.Layout.{field_offset}
use Rattle.ir_sizes.proofs.Depth.{as_many_types}
use Rattle.ir_sizes.proofs.Places.{has_place, some_place}
use Rattle.ir_sizes.proofs.sizes.offset_of.Goals as goal

pub unwrap-requires : goal.unwrap-requires
unwrap-requires c =
    let items : c.len.result ≡ length c.args.m.now.types.items = omega (arith, c.len.ensures, c.args.m.now.types.ok.0) in
    let deep = as_many_types c.args.m.now c.len.result items in
    let place = some_place (module_shape c.args.m.now).types (ty_shape c.args.m.now.names c.args.ty.now) c.args.field c.len.result deep c.requires.sized c.requires.field in
    rw (c.offset_within.ensures place.0 place.1) refl

some_number : (a b : ℕ) → ◌≡◌ {A = Option ℕ} (Some a) (Some b) → a ≡ b
some_number a b e = cc

pub returns : goal.returns
returns c row packed ls opens have =
    let items : c.len.result ≡ length c.args.m.now.types.items = omega (arith, c.len.ensures, c.args.m.now.types.ok.0) in
    let deep = as_many_types c.args.m.now c.len.result items in
    let place = has_place (module_shape c.args.m.now).types (ty_shape c.args.m.now.names c.args.ty.now) c.args.field c.len.result deep c.requires.sized c.requires.field
    row packed ls opens have in
    some_number c.unwrap.result (field_offset packed 0 ls c.args.field) (sym c.unwrap.ensures ∙ c.offset_within.ensures (field_offset packed 0 ls c.args.field) place)
