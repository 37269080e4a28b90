use Rattle.std.proofs.Common.{◌≡◌, ◌+◌, ◌-◌, suc, drop, arith}
use Rattle.std.proofs.lemmas.Result.{err_from_is_err_and}
use Rattle.grammar.specs.Language.{mark}
use Rattle.grammar.proofs.Loops.{many_stop, many_close, many_run_out, opens_one}
use Rattle.ir_lex.specs.Symbols.{symbols_of}
use Rattle.ir_cursor.specs.Marks.{punct}
use Rattle.ir_grammar_insts.specs.Instructions.{run_phi_input}
use Rattle.ir_read_consts.proofs.NamedItems.{skip_stops_in_item}
use Rattle.ir_read_insts.proofs.ValueParts.{phi_ins_keep, many_named_next, skip_read}
use Rattle.ir_read_insts.proofs.phi.inputs_at.Goals as goal

pub returns-in_default-clause-reads : goal.returns-in_default-clause-reads
returns-in_default-clause-reads c = (many_close c.loop.invariant.left c.in_default.ensures.tries, c.loop.invariant.left.within)

pub returns-in_err-input-clause-reads : goal.returns-in_err-input-clause-reads
returns-in_err-input-clause-reads c =
    let left : c.args.budget - c.loop.counter ≡ suc (c.args.budget - (c.loop.counter + 1)) = omega arith in
    let ss = symbols_of c.args.text.now c.args.toks.now in
    let p = err_from_is_err_and c.from_residual-in_err-input.result c.from_residual-in_err-input.ensures.1 in
    rw (p.1, p.2)
    (many_stop _ c.loop.invariant.left left (opens_one (punct 44) (drop c.loop.next ss) (drop c.in-Some.after_comma ss) mark c.in-Some.ensures.tries.0) c.in_err-input.field-0.0
    (skip_stops_in_item (punct 44) (run_phi_input c.args.budget) ss (drop c.loop.next ss) (drop c.in-Some.after_comma ss) mark c.in-Some.ensures.tries.0 c.in_err-input.field-0.0 c.in_err-input.ensures.reads))

pub loop-preserved : goal.loop-preserved
loop-preserved c =
    let left : c.args.budget - c.loop.counter ≡ suc (c.args.budget - (c.loop.counter + 1)) = omega arith in
    let ss = symbols_of c.args.text.now c.args.toks.now in
    rw c.in_ok-push-2.ensures.items
    (many_named_next phi_ins_keep _ c.loop.invariant left (opens_one (punct 44) (drop c.loop.next ss) (drop c.in-Some.after_comma ss) mark c.in-Some.ensures.tries.0)
    c.in_ok-input.ensures.grows c.in_ok-input.input c.in_ok-input.ensures.known c.in_ok-input.after_input (omega (arith, c.in_ok-input.ensures.count, c.in-Some.ensures.next))
    (skip_read (punct 44) (run_phi_input c.args.budget) (drop c.loop.next ss) c.in-Some.ensures.tries.0 c.in_ok-input.ensures.reads.0) c.in_ok-input.ensures.reads.1)

pub returns-clause-reads : goal.returns-clause-reads
returns-clause-reads c = (many_run_out c.loop.invariant.left (omega arith), c.loop.invariant.left.within)
