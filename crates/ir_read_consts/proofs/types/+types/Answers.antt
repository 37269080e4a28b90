use Rattle.std.proofs.Common.{◌≡◌, ◌+◌, ◌-◌, suc, arith}
use Rattle.std.proofs.lemmas.Result.{err_from_is_err_and}
use Rattle.grammar.proofs.Loops.{items_stop_in_item, items_stop_after_item, items_run_out}
use Rattle.ir_tree.proofs.Rows.{struct_known}
use Rattle.ir_read_consts.proofs.NamedItems.{tys_keep, known_more, named_go_on, named_close}
use Rattle.ir_read_consts.proofs.types.+types.Goals as goal

pub rest_at-returns-in_ok-fields-in-Fields-clause-known : goal.rest_at-returns-in_ok-fields-in-Fields-clause-known
rest_at-returns-in_ok-fields-in-Fields-clause-known t c = struct_known _ c.in_ok-fields-in-Fields.fields _ c.in_ok-fields-in-Fields.ensures.known

pub rest_at-returns-in_ok-end-in-Packed-clause-known : goal.rest_at-returns-in_ok-end-in-Packed-clause-known
rest_at-returns-in_ok-end-in-Packed-clause-known t c = struct_known _ c.in_ok-fields-in-Packed.fields _ c.in_ok-fields-in-Packed.ensures.known

pub fields_at-returns-in_err-field-clause-reads : goal.fields_at-returns-in_err-field-clause-reads
fields_at-returns-in_err-field-clause-reads t c =
    let left : c.args.budget - c.loop.counter ≡ suc (c.args.budget - (c.loop.counter + 1)) = omega arith in
    let p = err_from_is_err_and c.from_residual.result c.from_residual.ensures.1 in
    rw (p.1, p.2) (items_stop_in_item _ c.loop.invariant.left left c.in_err-field.field-0.0 c.in_err-field.ensures.reads)

pub fields_at-returns-in-Some-after_mark-clause-known : goal.fields_at-returns-in-Some-after_mark-clause-known
fields_at-returns-in-Some-after_mark-clause-known t c =
    rw c.in_ok-push.ensures.items
    (known_more tys_keep c.in_ok-field.ensures.grows c.loop.fields.items c.loop.invariant.all_known c.in_ok-field.field c.in_ok-field.ensures.known)

pub fields_at-returns-in-Some-after_mark-clause-reads : goal.fields_at-returns-in-Some-after_mark-clause-reads
fields_at-returns-in-Some-after_mark-clause-reads t c =
    let left : c.args.budget - c.loop.counter ≡ suc (c.args.budget - (c.loop.counter + 1)) = omega arith in
    rw c.in_ok-push.ensures.items
    (named_close tys_keep _ c.loop.invariant left c.in_ok-field.ensures.grows c.in_ok-field.field c.in_ok-field.after_field c.in_ok-field.ensures.reads.0 _ _ c.in-Some-after_mark.ensures.tries.0, c.in-Some-after_mark.ensures.tries.1)

pub fields_at-returns-in_err-next-in-None-clause-reads : goal.fields_at-returns-in_err-next-in-None-clause-reads
fields_at-returns-in_err-next-in-None-clause-reads t c =
    let left : c.args.budget - c.loop.counter ≡ suc (c.args.budget - (c.loop.counter + 1)) = omega arith in
    let p = err_from_is_err_and c.from_residual-in_err-next-in-None.result c.from_residual-in_err-next-in-None.ensures.1 in
    rw (p.1, p.2)
    (items_stop_after_item _ c.loop.invariant.left left c.in_ok-field.after_field _ c.in_ok-field.ensures.reads.0 c.in-None.ensures.tries c.in_err-next-in-None.field-0.0 c.in_err-next-in-None.ensures.steps)

pub fields_at-loop-preserved : goal.fields_at-loop-preserved
fields_at-loop-preserved t c =
    let left : c.args.budget - c.loop.counter ≡ suc (c.args.budget - (c.loop.counter + 1)) = omega arith in
    rw c.in_ok-push.ensures.items
    (named_go_on tys_keep _ c.loop.invariant left c.in_ok-field.ensures.grows c.in_ok-field.field c.in_ok-field.ensures.known c.in_ok-field.after_field c.in_ok-field.ensures.count c.in_ok-field.ensures.reads.0 c.in-None.ensures.tries _ _ c.in_ok-next-in-None.ensures.steps.0 c.in_ok-next-in-None.ensures.steps.1 (omega (arith, c.in_ok-next-in-None.ensures.next)))

pub fields_at-returns-clause-reads : goal.fields_at-returns-clause-reads
fields_at-returns-clause-reads t c = (items_run_out c.loop.invariant.left (omega arith), c.loop.invariant.left.within)
