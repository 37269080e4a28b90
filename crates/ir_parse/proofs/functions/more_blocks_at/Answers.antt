use Rattle.std.proofs.Common.{◌≡◌, ◌+◌, ◌-◌, suc, arith}
use Rattle.std.proofs.lemmas.Result.{err_from_is_err_and}
use Rattle.grammar.proofs.Loops.{until_stop, until_close, until_run_out}
use Rattle.ir_parse.proofs.Bodies.{blocks_next, blocks_closed}
use Rattle.ir_parse.proofs.functions.more_blocks_at.Goals as goal

pub returns-in-Some-clause-reads : goal.returns-in-Some-clause-reads
returns-in-Some-clause-reads c =
    let left : c.args.budget - c.loop.counter ≡ suc (c.args.budget - (c.loop.counter + 1)) = omega arith in
    (until_close _ c.loop.invariant.named.left left _ _ c.in-Some.ensures.tries.0, c.in-Some.ensures.tries.1)

pub returns-in-Some-clause-spots : goal.returns-in-Some-clause-spots
returns-in-Some-clause-spots c = blocks_closed c.loop.invariant c.in-Some.end c.in-Some.ensures.tries.0 c.in-Some.ensures.tries.1 c.in-Some.ensures.next

pub returns-in_err-read-clause-reads : goal.returns-in_err-read-clause-reads
returns-in_err-read-clause-reads c =
    let left : c.args.budget - c.loop.counter ≡ suc (c.args.budget - (c.loop.counter + 1)) = omega arith in
    let p = err_from_is_err_and c.from_residual.result c.from_residual.ensures.1 in
    rw (p.1, p.2)
    (until_stop _ c.loop.invariant.named.left left c.in_default.ensures.tries c.in_err-read.field-0.0 c.in_err-read.ensures.reads)

pub loop-preserved : goal.loop-preserved
loop-preserved c =
    let left : c.args.budget - c.loop.counter ≡ suc (c.args.budget - (c.loop.counter + 1)) = omega arith in
    rw (c.in_ok-push.ensures.items, c.in_ok-push-2.ensures.items)
    (blocks_next _ c.loop.invariant left c.in_default.ensures.tries c.in_ok-read.ensures.grows c.in_ok-read.read.block c.in_ok-read.read.spots c.in_ok-read.ensures.known c.in_ok-read.after_block c.in_ok-read.ensures.count c.in_ok-read.ensures.reads.0 c.in_ok-read.ensures.reads.1 c.in_ok-read.ensures.spots)

pub returns-clause-reads : goal.returns-clause-reads
returns-clause-reads c = (until_run_out c.loop.invariant.named.left (omega arith), c.loop.invariant.named.left.within)
