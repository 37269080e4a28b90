use Rattle.std.proofs.Common.{◌≡◌, ◌+◌, ◌-◌, suc, arith}
use Rattle.std.proofs.lemmas.Result.{err_from_is_err_and}
use Rattle.grammar.proofs.Loops.{items_stop_in_item, items_stop_after_item, items_run_out}
use Rattle.ir_read_consts.proofs.NamedItems.{known_more, named_go_on, named_close}
use Rattle.ir_read_insts.proofs.ValueParts.{ty_vals_keep}
use Rattle.ir_read_insts.proofs.memory.arguments_at.Goals as goal

pub returns-in_err-argument-clause-reads : goal.returns-in_err-argument-clause-reads
returns-in_err-argument-clause-reads c =
    let left : c.args.budget - c.loop.counter ≡ suc (c.args.budget - (c.loop.counter + 1)) = omega arith in
    let p = err_from_is_err_and c.from_residual.result c.from_residual.ensures.1 in
    rw (p.1, p.2) (items_stop_in_item _ c.loop.invariant.left left c.in_err-argument.field-0.0 c.in_err-argument.ensures.reads)

pub returns-in-Some-after_mark-clause-known : goal.returns-in-Some-after_mark-clause-known
returns-in-Some-after_mark-clause-known c =
    rw c.in_ok-push.ensures.items
    (known_more ty_vals_keep c.in_ok-argument.ensures.grows c.loop.arguments.items c.loop.invariant.all_known c.in_ok-argument.argument c.in_ok-argument.ensures.known)

pub returns-in-Some-after_mark-clause-reads : goal.returns-in-Some-after_mark-clause-reads
returns-in-Some-after_mark-clause-reads c =
    let left : c.args.budget - c.loop.counter ≡ suc (c.args.budget - (c.loop.counter + 1)) = omega arith in
    rw c.in_ok-push.ensures.items
    (named_close ty_vals_keep _ c.loop.invariant left c.in_ok-argument.ensures.grows c.in_ok-argument.argument c.in_ok-argument.after_argument c.in_ok-argument.ensures.reads.0 _ _ c.in-Some-after_mark.ensures.tries.0, c.in-Some-after_mark.ensures.tries.1)

pub returns-in_err-next-in-None-clause-reads : goal.returns-in_err-next-in-None-clause-reads
returns-in_err-next-in-None-clause-reads c =
    let left : c.args.budget - c.loop.counter ≡ suc (c.args.budget - (c.loop.counter + 1)) = omega arith in
    let p = err_from_is_err_and c.from_residual-in_err-next-in-None.result c.from_residual-in_err-next-in-None.ensures.1 in
    rw (p.1, p.2)
    (items_stop_after_item _ c.loop.invariant.left left c.in_ok-argument.after_argument _ c.in_ok-argument.ensures.reads.0 c.in-None.ensures.tries c.in_err-next-in-None.field-0.0 c.in_err-next-in-None.ensures.steps)

pub loop-preserved : goal.loop-preserved
loop-preserved c =
    let left : c.args.budget - c.loop.counter ≡ suc (c.args.budget - (c.loop.counter + 1)) = omega arith in
    rw c.in_ok-push.ensures.items
    (named_go_on ty_vals_keep _ c.loop.invariant left c.in_ok-argument.ensures.grows c.in_ok-argument.argument c.in_ok-argument.ensures.known c.in_ok-argument.after_argument c.in_ok-argument.ensures.count c.in_ok-argument.ensures.reads.0 c.in-None.ensures.tries _ _ c.in_ok-next-in-None.ensures.steps.0 c.in_ok-next-in-None.ensures.steps.1 (omega (arith, c.in_ok-next-in-None.ensures.next)))

pub returns-clause-reads : goal.returns-clause-reads
returns-clause-reads c = (items_run_out c.loop.invariant.left (omega arith), c.loop.invariant.left.within)
