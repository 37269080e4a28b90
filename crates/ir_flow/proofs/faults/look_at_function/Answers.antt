use Rattle.std.proofs.Common.{arith}
use Rattle.ir_flow.proofs.Looked.{function_looked}
use Rattle.ir_flow.proofs.faults.look_at_function.Goals as goal

pub returns : goal.returns
returns c =
    function_looked c.args.p.now c.args.function c.loop-block.block c.args.around.now.function.now c.loop-block.found c.requires.here.function
    (omega (arith, c.len-block-end.ensures)) c.loop-block.invariant
