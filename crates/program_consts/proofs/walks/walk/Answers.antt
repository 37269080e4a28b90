use Rattle.std.proofs.Common.{◌≡◌, map, length, sym, ap, ◌∙◌, rules}
use Rattle.std.proofs.lemmas.List.{length-map}
use Rattle.ir_model.specs.Values.{Value, Pointer}
use Rattle.ir_model.specs.Pointers.{stepped, walked}
use Rattle.ir_program.specs.Strides.{scaled_only}
use Rattle.mem_cells.specs.Shapes.{pointer_shape, value_shape}
use Rattle.program_tables.specs.Shapes.{stride_shape}
use Rattle.program_steps.specs.Steps.{index_shape}
use Rattle.program_consts.specs.Walks.{index_value, whole_length}
use Rattle.program_consts.proofs.Stepped.{stepped_cut, walked_far}
use Rattle.program_consts.proofs.walks.walk.Goals as goal

pub returns-in-Address : goal.returns-in-Address
returns-in-Address c memory are =
    let strides = map stride_shape c.args.strides.now in
    let indices = map index_shape c.args.indices.now in
    let q : Pointer = pointer_shape c.in-Address.p in
    let some : length c.args.strides.now ≡ 0 → ⊥ = search rules in
    c.step_by.ensures memory are
    ∙ ap (stepped c.args.inbounds memory q) c.whole_length.ensures
    ∙ stepped_cut c.args.inbounds memory q (whole_length strides indices)
    ∙ sym (walked_far c.args.inbounds strides memory q indices (λ none. some (sym (length-map c.args.strides.now stride_shape) ∙ none)) c.requires.counted)
    ∙ ap (λ (v : Value). walked c.args.inbounds strides memory v (scaled_only strides (map index_value indices))) (sym (ap value_shape c.in-Address.is))
