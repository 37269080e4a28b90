use Rattle.std.proofs.Common.{ℕ, List, map, sym, subst}
use Rattle.ir_tree.specs.Shape.{BlockShape}
use Rattle.ir_tree.specs.ShapeOf.{inst_shape, block_shape, module_shape}
use Rattle.ir_tree.specs.declared.module.Inst.{Inst}
use Rattle.ir_limits.specs.Sums.{HaveSum, IsTold}
use Rattle.ir_limits.specs.Shares.{TakesBytes}
use Rattle.ir_limits.proofs.Relations.{each_has, sum_more}
use Rattle.ir_limits.proofs.frames.bytes_of_blocks.Goals as goal

pub bytes_of_insts-requires-clause-sized : goal.bytes_of_insts-requires-clause-sized
bytes_of_insts-requires-clause-sized c =
    let ts = (module_shape c.args.m.now).types in
    let names = c.args.m.now.names in
    let has = each_has (λ (b : BlockShape). HaveSum (TakesBytes ts) b.insts) (block_shape names) c.args.blocks.now c.loop-block.block-index c.block-item.result
    c.loop-block-test.true c.block-item.is c.requires.sized in
    subst (λ (xs : List Inst). (n : ℕ) × HaveSum (TakesBytes ts) (map (inst_shape names) xs) n) (sym c.deref.ensures.value) has

pub loop-block-preserved : goal.loop-block-preserved
loop-block-preserved c =
    let ts = (module_shape c.args.m.now).types in
    let names = c.args.m.now.names in
    let told = subst (λ (xs : List Inst). IsTold (HaveSum (TakesBytes ts) (map (inst_shape names) xs)) c.bytes_of_insts.result) c.deref.ensures.value
    c.bytes_of_insts.ensures in
    sum_more (λ (b : BlockShape). HaveSum (TakesBytes ts) b.insts) (block_shape names) c.args.blocks.now c.loop-block.block-index c.block-item.result
    c.loop-block.total c.bytes_of_insts.result c.saturating_add-total.result c.loop-block-test.true c.block-item.is c.loop-block.invariant told
    c.saturating_add-total.ensures
