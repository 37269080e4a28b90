use Rattle.std.proofs.Common.{◌≡◌, ℕ, ◌*◌, List, length, map, arith, lit≤, sym, ◌∙◌, ap, subst}
use Rattle.std.proofs.lemmas.List.{length-map}
use Rattle.ir_tree.specs.Shape.{BlockShape}
use Rattle.ir_tree.specs.ShapeOf.{block_shape, param_shape, function_shape, module_shape}
use Rattle.ir_tree.specs.declared.module.Block.{Block}
use Rattle.ir_layout.specs.Layout.{next_multiple}
use Rattle.ir_proper.specs.Limits.{capped}
use Rattle.ir_limits.specs.Sums.{HaveSum, IsTold}
use Rattle.ir_limits.specs.Shares.{TakesBytes}
use Rattle.ir_limits.proofs.Rooms.{blocks_have, frame_is, frame_sum, rounded_once}
use Rattle.ir_limits.proofs.frames.frame_in.Goals as goal

pub bytes_of_blocks-insts-requires-clause-sized : goal.bytes_of_blocks-insts-requires-clause-sized
bytes_of_blocks-insts-requires-clause-sized c =
    let ts = (module_shape c.args.m.now).types in
    let names = c.args.m.now.names in
    let frame = c.requires.sized in
    let has = blocks_have ts (function_shape names c.args.f.now).blocks frame.1.0 frame.1.1 in
    subst (λ (bs : List Block). (n : ℕ) × HaveSum (λ (b : BlockShape). HaveSum (TakesBytes ts) b.insts) (map (block_shape names) bs) n)
    (sym c.deref.ensures.value) has

pub returns : goal.returns
returns c =
    let ts = (module_shape c.args.m.now).types in
    let names = c.args.m.now.names in
    let f = function_shape names c.args.f.now in
    let told = subst
    (λ (bs : List Block). IsTold (HaveSum (λ (b : BlockShape). HaveSum (TakesBytes ts) b.insts) (map (block_shape names) bs)) c.bytes_of_blocks-insts.result)
    c.deref.ensures.value c.bytes_of_blocks-insts.ensures in
    let all = frame_is ts f told.0 told.1 in
    let count : c.len.result ≡ length f.params =
    omega (arith, c.len.ensures, c.args.f.now.params.ok.0, length-map c.args.f.now.params.items (param_shape names)) in
    let params = c.saturating_mul-params.ensures ∙ ap (λ n. capped (n * 48)) count in
    let sum = frame_sum 18446744073709551615 (length f.params) told.0 c.bytes_of_blocks-insts.result c.saturating_mul-params.result c.saturating_add.result
    c.saturating_add-2.result params told.2 c.saturating_add.ensures c.saturating_add-2.ensures in (
      all.0,
      all.1,
      c.rounded_up.ensures ∙ rounded_once 18446744073709551615 _ c.saturating_add-2.result sum (lit≤ tt) ∙ ap (λ n. capped (next_multiple 16 n)) all.2,
    )
