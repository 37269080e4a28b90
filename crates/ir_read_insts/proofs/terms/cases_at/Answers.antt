use Rattle.std.proofs.Common.{◌≡◌, ◌+◌, ◌-◌, suc, arith}
use Rattle.std.proofs.lemmas.Result.{err_from_is_err_and}
use Rattle.grammar.proofs.Loops.{until_stop, until_close, until_run_out}
use Rattle.ir_read_insts.proofs.ValueParts.{cases_keep, until_named_next}
use Rattle.ir_read_insts.proofs.terms.cases_at.Goals as goal

pub returns-in-Some-clause-reads : goal.returns-in-Some-clause-reads
returns-in-Some-clause-reads c =
    let left : c.args.budget - c.loop.counter ≡ suc (c.args.budget - (c.loop.counter + 1)) = omega arith in
    (until_close _ c.loop.invariant.left left _ _ c.in-Some.ensures.tries.0, c.in-Some.ensures.tries.1)

pub returns-in_err-case-clause-reads : goal.returns-in_err-case-clause-reads
returns-in_err-case-clause-reads c =
    let left : c.args.budget - c.loop.counter ≡ suc (c.args.budget - (c.loop.counter + 1)) = omega arith in
    let p = err_from_is_err_and c.from_residual.result c.from_residual.ensures.1 in
    rw (p.1, p.2) (until_stop _ c.loop.invariant.left left c.in_default.ensures.tries c.in_err-case.field-0.0 c.in_err-case.ensures.reads)

pub loop-preserved : goal.loop-preserved
loop-preserved c =
    let left : c.args.budget - c.loop.counter ≡ suc (c.args.budget - (c.loop.counter + 1)) = omega arith in
    rw c.in_ok-push.ensures.items
    (until_named_next cases_keep _ c.loop.invariant left c.in_default.ensures.tries c.in_ok-case.ensures.grows c.in_ok-case.case c.in_ok-case.ensures.known c.in_ok-case.after_case c.in_ok-case.ensures.count c.in_ok-case.ensures.reads.0 c.in_ok-case.ensures.reads.1)

pub returns-clause-reads : goal.returns-clause-reads
returns-clause-reads c = (until_run_out c.loop.invariant.left (omega arith), c.loop.invariant.left.within)
