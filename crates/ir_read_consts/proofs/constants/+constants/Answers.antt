use Rattle.std.proofs.Common.{◌≡◌, ◌+◌, ◌-◌, suc, arith, drop}
use Rattle.std.proofs.lemmas.Result.{err_from_is_err_and}
use Rattle.grammar.proofs.Loops.{items_stop_in_item, items_stop_after_item, items_run_out, until_stop, until_close, until_run_out}
use Rattle.ir_lex.specs.Symbols.{symbols_of}
use Rattle.ir_cursor.specs.Marks.{punct}
use Rattle.ir_tree.proofs.Rows.{elements_known, fields_known, address_known}
use Rattle.ir_grammar_consts.specs.Constants.{run_const, run_typed_const}
use Rattle.ir_read_consts.proofs.NamedItems.{typed_keep, known_more, named_go_on, named_close, until_named_go_on, skip_stops, skip_stops_in_item}
use Rattle.grammar.specs.Language.{mark}
use Rattle.ir_tree.proofs.Grows.{and_left, and_right}
use Rattle.ir_read_consts.proofs.ConstParts.{typed_known_of, typed_read, operands_known_of, operands_read}
use Rattle.ir_read_consts.proofs.constants.+constants.Goals as goal

pub rest_at-returns-in_ok-elements-in-Elements-clause-known : goal.rest_at-returns-in_ok-elements-in-Elements-clause-known
rest_at-returns-in_ok-elements-in-Elements-clause-known t c = elements_known _ c.in_ok-elements-in-Elements.elements c.in_ok-elements-in-Elements.ensures.known

pub rest_at-returns-in_ok-fields-in-Fields-clause-known : goal.rest_at-returns-in_ok-fields-in-Fields-clause-known
rest_at-returns-in_ok-fields-in-Fields-clause-known t c = fields_known _ c.in_ok-fields-in-Fields.fields _ c.in_ok-fields-in-Fields.ensures.known

pub rest_at-returns-in_ok-end-in-Packed-clause-known : goal.rest_at-returns-in_ok-end-in-Packed-clause-known
rest_at-returns-in_ok-end-in-Packed-clause-known t c = fields_known _ c.in_ok-fields-in-Packed.fields _ c.in_ok-fields-in-Packed.ensures.known

pub rest_at-returns-in_ok-base-in-Address-clause-known : goal.rest_at-returns-in_ok-base-in-Address-clause-known
rest_at-returns-in_ok-base-in-Address-clause-known t c =
    let known = c.in_ok-operands-in-Address.ensures.known in
    address_known _ _ c.in_ok-operands-in-Address.operands.ty c.in_ok-base-in-Address.base c.in_ok-operands-in-Address.operands.indices
    (and_left _ _ (and_left _ _ known)) (rw c.in_ok-base-in-Address.ensures.ok (and_right _ _ (and_left _ _ known))) (and_right _ _ known)

pub typed_at-returns-clause-known : goal.typed_at-returns-clause-known
typed_at-returns-clause-known t c =
    typed_known_of c.in_ok-value.ensures.grows c.in_ok-ty.ty c.in_ok-value.value c.in_ok-ty.ensures.known c.in_ok-value.ensures.known

pub typed_at-returns-clause-reads : goal.typed_at-returns-clause-reads
typed_at-returns-clause-reads t c = (
  typed_read c.in_ok-value.ensures.grows c.args.budget (run_const c.args.budget) _ _ _ c.in_ok-ty.ty c.in_ok-value.value c.in_ok-ty.ensures.known c.in_ok-ty.ensures.reads.0 c.in_ok-value.ensures.reads.0,
  c.in_ok-value.ensures.reads.1,
)

pub operands_at-returns-clause-known : goal.operands_at-returns-clause-known
operands_at-returns-clause-known t c =
    operands_known_of c.in_ok-base.ensures.grows c.in_ok-indices.ensures.grows c.in_ok-ty.ty c.in_ok-base.base c.in_ok-indices.indices c.in_ok-ty.ensures.known c.in_ok-base.ensures.known c.in_ok-indices.ensures.known

pub operands_at-returns-clause-reads : goal.operands_at-returns-clause-reads
operands_at-returns-clause-reads t c = (
  operands_read c.in_ok-base.ensures.grows c.in_ok-indices.ensures.grows c.args.budget (run_const c.args.budget) _ _ _ _ _ _ c.in_ok-ty.ty c.in_ok-base.base c.in_ok-indices.indices c.in_ok-ty.ensures.known c.in_ok-base.ensures.known
      c.in_ok-ty.ensures.reads.0 c.in_ok-next.ensures.steps.0 c.in_ok-base.ensures.reads.0 c.in_ok-indices.ensures.reads.0,
  c.in_ok-indices.ensures.reads.1,
)

pub list_at-returns-in_err-item-clause-reads : goal.list_at-returns-in_err-item-clause-reads
list_at-returns-in_err-item-clause-reads t c =
    let left : c.args.budget - c.loop.counter ≡ suc (c.args.budget - (c.loop.counter + 1)) = omega arith in
    let p = err_from_is_err_and c.from_residual.result c.from_residual.ensures.1 in
    rw (p.1, p.2) (items_stop_in_item _ c.loop.invariant.left left c.in_err-item.field-0.0 c.in_err-item.ensures.reads)

pub list_at-returns-in-Some-after_mark-clause-known : goal.list_at-returns-in-Some-after_mark-clause-known
list_at-returns-in-Some-after_mark-clause-known t c =
    rw c.in_ok-push.ensures.items
    (known_more typed_keep c.in_ok-item.ensures.grows c.loop.items.items c.loop.invariant.all_known c.in_ok-item.item c.in_ok-item.ensures.known)

pub list_at-returns-in-Some-after_mark-clause-reads : goal.list_at-returns-in-Some-after_mark-clause-reads
list_at-returns-in-Some-after_mark-clause-reads t c =
    let left : c.args.budget - c.loop.counter ≡ suc (c.args.budget - (c.loop.counter + 1)) = omega arith in
    rw c.in_ok-push.ensures.items
    (named_close typed_keep _ c.loop.invariant left c.in_ok-item.ensures.grows c.in_ok-item.item c.in_ok-item.after_item c.in_ok-item.ensures.reads.0 _ _ c.in-Some-after_mark.ensures.tries.0, c.in-Some-after_mark.ensures.tries.1)

pub list_at-returns-in_err-next-in-None-clause-reads : goal.list_at-returns-in_err-next-in-None-clause-reads
list_at-returns-in_err-next-in-None-clause-reads t c =
    let left : c.args.budget - c.loop.counter ≡ suc (c.args.budget - (c.loop.counter + 1)) = omega arith in
    let p = err_from_is_err_and c.from_residual-in_err-next-in-None.result c.from_residual-in_err-next-in-None.ensures.1 in
    rw (p.1, p.2)
    (items_stop_after_item _ c.loop.invariant.left left c.in_ok-item.after_item _ c.in_ok-item.ensures.reads.0 c.in-None.ensures.tries c.in_err-next-in-None.field-0.0 c.in_err-next-in-None.ensures.steps)

pub list_at-loop-preserved : goal.list_at-loop-preserved
list_at-loop-preserved t c =
    let left : c.args.budget - c.loop.counter ≡ suc (c.args.budget - (c.loop.counter + 1)) = omega arith in
    rw c.in_ok-push.ensures.items
    (named_go_on typed_keep _ c.loop.invariant left c.in_ok-item.ensures.grows c.in_ok-item.item c.in_ok-item.ensures.known c.in_ok-item.after_item c.in_ok-item.ensures.count c.in_ok-item.ensures.reads.0 c.in-None.ensures.tries _ _ c.in_ok-next-in-None.ensures.steps.0 c.in_ok-next-in-None.ensures.steps.1 (omega (arith, c.in_ok-next-in-None.ensures.next)))

pub list_at-returns-clause-reads : goal.list_at-returns-clause-reads
list_at-returns-clause-reads t c = (items_run_out c.loop.invariant.left (omega arith), c.loop.invariant.left.within)

pub indices_at-returns-in-Some-clause-reads : goal.indices_at-returns-in-Some-clause-reads
indices_at-returns-in-Some-clause-reads t c =
    let left : c.args.budget - c.loop.counter ≡ suc (c.args.budget - (c.loop.counter + 1)) = omega arith in
    (until_close _ c.loop.invariant.left left _ _ c.in-Some.ensures.tries.0, c.in-Some.ensures.tries.1)

pub indices_at-returns-in_err-after_comma-clause-reads : goal.indices_at-returns-in_err-after_comma-clause-reads
indices_at-returns-in_err-after_comma-clause-reads t c =
    let left : c.args.budget - c.loop.counter ≡ suc (c.args.budget - (c.loop.counter + 1)) = omega arith in
    let p = err_from_is_err_and c.from_residual.result c.from_residual.ensures.1 in
    rw (p.1, p.2)
    (until_stop _ c.loop.invariant.left left c.in_default.ensures.tries c.in_err-after_comma.field-0.0
    (skip_stops (punct 44) (run_typed_const c.args.budget (run_const c.args.budget)) (symbols_of c.args.text.now c.args.toks.now) (drop c.loop.next (symbols_of c.args.text.now c.args.toks.now)) c.in_err-after_comma.field-0.0 c.in_err-after_comma.ensures.steps))

pub indices_at-returns-in_err-index-clause-reads : goal.indices_at-returns-in_err-index-clause-reads
indices_at-returns-in_err-index-clause-reads t c =
    let left : c.args.budget - c.loop.counter ≡ suc (c.args.budget - (c.loop.counter + 1)) = omega arith in
    let p = err_from_is_err_and c.from_residual-in_err-index.result c.from_residual-in_err-index.ensures.1 in
    rw (p.1, p.2)
    (until_stop _ c.loop.invariant.left left c.in_default.ensures.tries c.in_err-index.field-0.0
    (skip_stops_in_item (punct 44) (run_typed_const c.args.budget (run_const c.args.budget)) (symbols_of c.args.text.now c.args.toks.now) (drop c.loop.next (symbols_of c.args.text.now c.args.toks.now)) (drop c.in_ok-after_comma.after_comma (symbols_of c.args.text.now c.args.toks.now)) mark c.in_ok-after_comma.ensures.steps.0 c.in_err-index.field-0.0 c.in_err-index.ensures.reads))

pub indices_at-loop-preserved : goal.indices_at-loop-preserved
indices_at-loop-preserved t c =
    let left : c.args.budget - c.loop.counter ≡ suc (c.args.budget - (c.loop.counter + 1)) = omega arith in
    rw c.in_ok-push.ensures.items
    (until_named_go_on (punct 44) (run_typed_const c.args.budget (run_const c.args.budget)) typed_keep _ c.loop.invariant left c.in_default.ensures.tries c.in_ok-after_comma.after_comma _ c.in_ok-after_comma.ensures.steps.0 (omega (arith, c.in_ok-after_comma.ensures.next))
    c.in_ok-index.ensures.grows c.in_ok-index.index c.in_ok-index.ensures.known c.in_ok-index.after_index c.in_ok-index.ensures.count c.in_ok-index.ensures.reads.0 c.in_ok-index.ensures.reads.1)

pub indices_at-returns-clause-reads : goal.indices_at-returns-clause-reads
indices_at-returns-clause-reads t c = (until_run_out c.loop.invariant.left (omega arith), c.loop.invariant.left.within)
