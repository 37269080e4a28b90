use Rattle.std.proofs.Common.{sym, ◌∙◌, arith}
use Rattle.ir_const.proofs.DeepCount.{count_here, count_on, count_low, count_out}
use Rattle.ir_const.proofs.depth.deep_end.Goals as goal

pub returns-then-depth-eq65-clause-deep : goal.returns-then-depth-eq65-clause-deep
returns-then-depth-eq65-clause-deep c =
    count_here c.args.text.now c.args.toks.now c.loop-at.at c.loop-at.depth _ c.loop-at-test.true c.open_after-depth.result c.open_after-depth.ensures c.if-depth-eq65.true
    ∙ sym c.loop-at.invariant.0

pub loop-at-preserved : goal.loop-at-preserved
loop-at-preserved c = (
  c.loop-at.invariant.0
      ∙ count_on c.args.text.now c.args.toks.now c.loop-at.at c.loop-at.depth _ c.loop-at-test.true c.open_after-depth.result c.open_after-depth.ensures c.if-depth-eq65.false,
  count_low c.args.text.now c.args.toks.now c.loop-at.at c.loop-at.depth _ c.loop-at.invariant.1 c.open_after-depth.result c.open_after-depth.ensures c.if-depth-eq65.false,
)

pub returns-clause-deep : goal.returns-clause-deep
returns-clause-deep c = count_out c.args.text.now c.args.toks.now c.loop-at.at c.loop-at.depth (omega arith) ∙ sym c.loop-at.invariant.0
