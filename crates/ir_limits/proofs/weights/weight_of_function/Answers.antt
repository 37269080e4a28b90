use Rattle.std.proofs.Common.{◌≡◌, ◌+◌, ◌*◌, List, map, length, arith, sym, ◌∙◌, ap}
use Rattle.std.specs.Prelude.{sum_by}
use Rattle.std.proofs.lemmas.List.{length-map}
use Rattle.ir_tree.specs.Shape.{BlockShape}
use Rattle.ir_tree.specs.ShapeOf.{block_shape, param_shape, function_shape}
use Rattle.ir_tree.specs.declared.module.Block.{Block}
use Rattle.ir_proper.specs.Limits.{capped}
use Rattle.ir_limits.specs.Shares.{inst_weight}
use Rattle.ir_limits.proofs.Sums.{head_more, function_weighs}
use Rattle.ir_limits.proofs.weights.weight_of_function.Goals as goal

pub returns : goal.returns
returns c names =
    let f = function_shape names c.args.f.now in
    let sum = sum_by (λ (b : BlockShape). sum_by inst_weight b.insts) f.blocks in
    let blocks = c.weight_of_blocks.ensures names
    ∙ ap (λ (bs : List Block). capped (sum_by (λ (b : BlockShape). sum_by inst_weight b.insts) (map (block_shape names) bs))) c.deref.ensures.value in
    let count : c.len.result ≡ length f.params =
    omega (arith, c.len.ensures, c.args.f.now.params.ok.0, length-map c.args.f.now.params.items (param_shape names)) in
    let parts = c.saturating_mul.ensures ∙ ap (λ n. capped (n * 128)) count in
    let whole : 64 + length f.params * 128 + sum ≡ 64 + 128 * length f.params + sum = omega arith in
    head_more 18446744073709551615 128 64 (length f.params) sum c.saturating_mul.result c.saturating_add-head.result c.weight_of_blocks.result
    c.saturating_add.result parts c.saturating_add-head.ensures blocks c.saturating_add.ensures ∙ ap capped (whole ∙ sym (function_weighs f))
