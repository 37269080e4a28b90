use Rattle.std.proofs.Common.{◌≡◌, ◌+◌, ◌-◌, suc, arith}
use Rattle.std.proofs.lemmas.Result.{err_from_is_err_and}
use Rattle.grammar.proofs.Loops.{items_go_on, items_stop_in_item, items_stop_after_item, items_close, items_run_out}
use Rattle.grammar.proofs.sample.items_at.Goals as goal

pub returns-in_err-item : goal.returns-in_err-item
returns-in_err-item c =
    let left : c.args.budget - c.loop.counter ≡ suc (c.args.budget - (c.loop.counter + 1)) = omega arith in
    let p = err_from_is_err_and c.from_residual.result c.from_residual.ensures.1 in
    rw (p.1, p.2) (items_stop_in_item _ c.loop.invariant left c.in_err-item.field-0.0 c.in_err-item.ensures)

pub returns-in_err-next-in-None : goal.returns-in_err-next-in-None
returns-in_err-next-in-None c =
    let left : c.args.budget - c.loop.counter ≡ suc (c.args.budget - (c.loop.counter + 1)) = omega arith in
    let p = err_from_is_err_and c.from_residual-in_err-next-in-None.result c.from_residual-in_err-next-in-None.ensures.1 in
    rw (p.1, p.2)
    (items_stop_after_item _ c.loop.invariant left _ _ c.in_ok-item.ensures.0 c.in-None.ensures c.in_err-next-in-None.field-0.0 c.in_err-next-in-None.ensures)

pub returns-in-Some : goal.returns-in-Some
returns-in-Some c =
    let left : c.args.budget - c.loop.counter ≡ suc (c.args.budget - (c.loop.counter + 1)) = omega arith in
    rw c.in_ok-push.ensures.items
    (items_close _ c.loop.invariant left _ _ c.in_ok-item.ensures.0 _ _ c.in-Some.ensures.0, c.in-Some.ensures.1)

pub loop-preserved : goal.loop-preserved
loop-preserved c =
    let left : c.args.budget - c.loop.counter ≡ suc (c.args.budget - (c.loop.counter + 1)) = omega arith in
    rw c.in_ok-push.ensures.items
    (items_go_on _ c.loop.invariant left _ _ c.in_ok-item.ensures.0 c.in-None.ensures _ _ c.in_ok-next-in-None.ensures.0 c.in_ok-next-in-None.ensures.1)

pub returns : goal.returns
returns c = (items_run_out c.loop.invariant (omega arith), c.loop.invariant.within)
