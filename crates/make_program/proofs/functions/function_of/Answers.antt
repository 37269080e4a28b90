use Rattle.std.proofs.Common.{◌≡◌, ℕ, List, map, length, sym, ap₂, ◌∙◌, rules}
use Rattle.ir_tree.specs.ShapeOf.{param_shape}
use Rattle.ir_model.specs.Programs.{Block, Function}
use Rattle.program_actions.specs.Around.{around_of, names_around}
use Rattle.ir_rules.specs.Values.{values as all_values}
use Rattle.program_tables.specs.Shapes.{block_shape}
use Rattle.make_program.proofs.Steps.{mapped_long}
use Rattle.make_program.proofs.functions.function_of.Goals as goal

pub returns : goal.returns
returns c =
    let a = c.args.around.now in
    let make : ℕ → ℕ → ℕ → List Block → Function = λ params values frame blocks. record { params = params; values = values; frame = frame; blocks = blocks } in
    let params = sym (mapped_long (param_shape (names_around a)) a.function.now.params.items) in
    let long : c.len.result ≡ length a.function.now.params.items = search rules in
    let values = c.len-2.ensures (names_around a) a.function.now c.requires.around.names in
    let frame = sym (c.frames_are_those_of_limits.ensures (around_of a).within.types (around_of a).function c.frame_in.result c.frame_in.ensures) in
    ap₂ (λ p v. make p v c.frame_in.result (map block_shape c.in_ok-blocks.blocks.items)) (long ∙ params) values
    ∙ ap₂ (λ f bs. make (length (around_of a).function.params) (length (all_values (around_of a).function)) f bs) frame c.in_ok-blocks.ensures
