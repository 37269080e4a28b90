use Rattle.std.proofs.Common.{◌≡◌, List, map, sym, ap, ap₂, subst, ◌∙◌}
use Rattle.ir_tree.specs.Shape.{typed_row}
use Rattle.ir_tree.specs.ShapeOf.{typed_shape}
use Rattle.ir_rules.specs.Constants.{WalksBehind}
use Rattle.ir_model.specs.Values.{Value}
use Rattle.ir_model.specs.Pointers as model
use Rattle.ir_program.specs.Strides.{Index as IndexShape, strides_of, scaled_only}
use Rattle.ir_program.specs.Constants.{rooms, row_indices}
use Rattle.mem_cells.specs.Shapes.{value_shape}
use Rattle.program_tables.specs.Shapes.{stride_shape}
use Rattle.program_steps.specs.declared.index.Index.{Index}
use Rattle.program_steps.specs.Steps.{names_of, types_of, index_shape}
use Rattle.program_consts.specs.Constants.{shape_of, ty_of}
use Rattle.program_consts.specs.Rooms.{AreSizesOf}
use Rattle.program_consts.specs.Walks.{AreSteps, index_value}
use Rattle.program_consts.proofs.Numbered.{numbers_values, numbers_same, are_steps, numbers_mapped}
use Rattle.program_consts.proofs.Stepped.{rooms_sized}
use Rattle.program_consts.proofs.values.Constants.walk_from.Goals as goal

pub strides_of-requires-clause-walks : goal.strides_of-requires-clause-walks
strides_of-requires-clause-walks c =
    let names = names_of c.args.self.now.steps in
    let row = typed_row (map (typed_shape names) c.args.row.now) in
    let same : map (λ (i : Index). i.number) c.deref.result.now ≡ map (λ i. i.number) (row_indices row) =
    numbers_mapped c.deref.result.now (row_indices row) (ap (λ (z : List Index). map index_shape z) c.deref.ensures.value ∙ c.in_ok-indices.ensures names) in
    subst (WalksBehind (types_of c.args.self.now.steps) (ty_of c.args.self.now c.args.ty.now)) (sym (same ∙ numbers_same row)) c.requires.walks

pub walk-requires : goal.walk-requires
walk-requires c =
    let names = names_of c.args.self.now.steps in
    let row = typed_row (map (typed_shape names) c.args.row.now) in
    let ts = types_of c.args.self.now.steps in
    let ty = ty_of c.args.self.now c.args.ty.now in
    let indices : map index_shape c.deref-4.result.now ≡ row_indices row =
    ap (λ (z : List Index). map index_shape z) c.deref-4.ensures.value ∙ c.in_ok-indices.ensures names in
    let first : map index_shape c.deref.result.now ≡ row_indices row =
    ap (λ (z : List Index). map index_shape z) c.deref.ensures.value ∙ c.in_ok-indices.ensures names in
    let strides : map stride_shape c.deref-3.result.now ≡ strides_of ts ty (row_indices row) =
    ap (λ z. map stride_shape z) c.deref-3.ensures.value ∙ c.in_ok-strides.ensures ∙ ap (strides_of ts ty) first in
    subst (λ (z : List IndexShape). AreSteps (map stride_shape c.deref-3.result.now) z) (sym indices)
    (subst (λ (z : List model.Stride). AreSteps z (row_indices row)) (sym strides) (are_steps ts ty row c.requires.numbers))

pub returns : goal.returns
returns c =
    let m = shape_of c.args.self.now in
    let names = names_of c.args.self.now.steps in
    let row = typed_row (map (typed_shape names) c.args.row.now) in
    let ts = types_of c.args.self.now.steps in
    let ty = ty_of c.args.self.now c.args.ty.now in
    let start : Value = value_shape c.args.start in
    let indices : map index_shape c.deref-4.result.now ≡ row_indices row =
    ap (λ (z : List Index). map index_shape z) c.deref-4.ensures.value ∙ c.in_ok-indices.ensures names in
    let first : map index_shape c.deref.result.now ≡ row_indices row =
    ap (λ (z : List Index). map index_shape z) c.deref.ensures.value ∙ c.in_ok-indices.ensures names in
    let strides : map stride_shape c.deref-3.result.now ≡ strides_of ts ty (row_indices row) =
    ap (λ z. map stride_shape z) c.deref-3.ensures.value ∙ c.in_ok-strides.ensures ∙ ap (strides_of ts ty) first in
    let sizes : AreSizesOf (rooms m) c.deref-2.result.now =
    rooms_sized m c.deref-2.result.now (c.deref-2.ensures.value ∙ c.requires.constants.sizes) in
    c.walk.ensures (rooms m) sizes
    ∙ ap₂ (λ (ss : List model.Stride) (is : List IndexShape). model.walked c.args.inbounds ss (rooms m) start (scaled_only ss (map index_value is))) strides indices
    ∙ ap (λ (vs : List Value). model.walked c.args.inbounds (strides_of ts ty (row_indices row)) (rooms m) start (scaled_only (strides_of ts ty (row_indices row)) vs))
    (sym (numbers_values m row c.requires.numbers))
