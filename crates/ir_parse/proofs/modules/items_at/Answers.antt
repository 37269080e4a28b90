use Rattle.std.proofs.Common.{◌≡◌, ◌+◌, ◌-◌, suc, true, false, length, drop, subst, arith, rules}
use Rattle.std.proofs.lemmas.Result.{err_from_is_err_and}
use Rattle.grammar.specs.Reader.{opens}
use Rattle.ir_lex.specs.Symbols.{symbols_of}
use Rattle.ir_grammar_modules.specs.Modules.{begins_item}
use Rattle.ir_parse.proofs.ItemsSoFar.{ItemsRead, items_start, items_next, items_close, items_run_out, items_stopped, draft_stays}
use Rattle.ir_parse.proofs.modules.items_at.Goals as goal

pub loop-init : goal.loop-init
loop-init c =
    let all : length c.args.toks.now ≡ length c.args.toks.now - 0 = omega arith in
    subst (λ n. ItemsRead n c.args.text.now c.args.toks.now c.args.names.now c.new-draft.result 0) all
    (items_start c.args.text.now c.args.toks.now c.args.names.now c.new-draft.result c.requires.empty (c.new-draft.ensures.shape c.args.names.now) c.new-draft.ensures.spots (c.new-draft.ensures.known (length c.args.names.now)))

pub returns-then-not-begins_item-clause-reads : goal.returns-then-not-begins_item-clause-reads
returns-then-not-begins_item-clause-reads c =
    let apart : opens begins_item (drop c.loop.next (symbols_of c.args.text.now c.args.toks.now)) ≡ false = search rules in
    (items_close c.loop.invariant apart, c.loop.invariant.left.within)

pub returns-in_err-item-clause-reads : goal.returns-in_err-item-clause-reads
returns-in_err-item-clause-reads c =
    let left : length c.args.toks.now - c.loop.counter ≡ suc (length c.args.toks.now - (c.loop.counter + 1)) = omega arith in
    let there : opens begins_item (drop c.loop.next (symbols_of c.args.text.now c.args.toks.now)) ≡ true = search rules in
    let p = err_from_is_err_and c.from_residual.result c.from_residual.ensures.1 in
    rw (p.1, p.2) (items_stopped _ c.loop.invariant left there c.in_err-item.field-0.0 c.in_err-item.ensures.reads)

pub loop-preserved : goal.loop-preserved
loop-preserved c =
    let left : length c.args.toks.now - c.loop.counter ≡ suc (length c.args.toks.now - (c.loop.counter + 1)) = omega arith in
    let there : opens begins_item (drop c.loop.next (symbols_of c.args.text.now c.args.toks.now)) ≡ true = search rules in
    items_next _ c.loop.invariant left there c.in_ok-item.ensures.grows c.in_ok-item.item c.in_ok-item.end c.in_ok-item.ensures.count c.in_ok-item.ensures.reads.0 c.in_ok-item.ensures.reads.1 c.in_ok-item.ensures.spots
    c.start_at-spot.result c.start_at-spot.ensures c.add.new.self (c.in_ok-add.ensures.shape c.item_at.new.names) (c.in_ok-add.ensures.spots c.item_at.new.names)
    (c.in_ok-add.ensures.known (length c.item_at.new.names) (draft_stays c.in_ok-item.ensures.grows c.loop.draft c.loop.invariant.all_known) c.in_ok-item.ensures.known)

pub returns-clause-reads : goal.returns-clause-reads
returns-clause-reads c = (items_run_out c.loop.invariant (omega arith), c.loop.invariant.left.within)
