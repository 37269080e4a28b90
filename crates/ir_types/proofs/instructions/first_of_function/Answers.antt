use Rattle.std.proofs.Common.{arith}
use Rattle.ir_types.specs.Looks.{IsInBlock}
use Rattle.ir_types.proofs.Looking.{below_none, below_more}
use Rattle.ir_types.proofs.EachInst.{blocks_all}
use Rattle.ir_types.proofs.instructions.first_of_function.Goals as goal

pub loop-block-init : goal.loop-block-init
loop-block-init c = below_none c.args.p.now _

pub loop-block-preserved : goal.loop-block-preserved
loop-block-preserved c =
    below_more c.args.p.now (IsInBlock c.args.function) c.loop-block.block c.loop-block.found c.in_ok-first_of_block.field-0 c.first_of-found.result
    c.first_of-found.ensures c.loop-block.invariant c.in_ok-first_of_block.ensures

pub returns : goal.returns
returns c =
    blocks_all c.args.p.now c.args.function c.args.around.now.function.now c.loop-block.block c.loop-block.found c.requires.here.function (omega arith)
    c.loop-block.invariant
