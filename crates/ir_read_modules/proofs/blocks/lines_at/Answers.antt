use Rattle.std.proofs.Common.{◌≡◌, ◌+◌, ◌-◌, suc, [], ◌∷◌, ◌++◌, sym, ◌∙◌, ap, subst, arith}
use Rattle.std.proofs.lemmas.Result.{err_from_is_err_and}
use Rattle.grammar.specs.Code.{Gives}
use Rattle.ir_lex.specs.Symbols.{symbols_of}
use Rattle.ir_read_modules.specs.BlockShapes.{lines_shape}
use Rattle.ir_read_modules.proofs.LinesSoFar.{lines_go_on, lines_stop, lines_others, lines_run_out}
use Rattle.ir_read_modules.proofs.blocks.lines_at.Goals as goal

pub returns-then-not-begins_phi-clause-reads : goal.returns-then-not-begins_phi-clause-reads
returns-then-not-begins_phi-clause-reads c =
    let left : c.args.budget - c.loop-read.read ≡ suc (c.args.budget - (c.loop-read.read + 1)) = omega arith in
    subst (λ z. Gives (lines_shape c.others_at.new.names) (symbols_of c.args.text.now c.args.toks.now) c.others_at.result z)
    (lines_others _ c.loop-read.invariant left (sym c.if-not-begins_phi.ensures)) c.others_at.ensures.reads

pub returns-in_err-line-clause-reads : goal.returns-in_err-line-clause-reads
returns-in_err-line-clause-reads c =
    let left : c.args.budget - c.loop-read.read ≡ suc (c.args.budget - (c.loop-read.read + 1)) = omega arith in
    let p = err_from_is_err_and c.from_residual.result c.from_residual.ensures.1 in
    rw (p.1, p.2) (lines_stop _ c.loop-read.invariant left (sym c.if-not-begins_phi.ensures) c.in_err-line.field-0.0 c.in_err-line.ensures.reads)

pub loop-read-preserved : goal.loop-read-preserved
loop-read-preserved c =
    let left : c.args.budget - c.loop-read.read ≡ suc (c.args.budget - (c.loop-read.read + 1)) = omega arith in
    lines_go_on _ c.loop-read.invariant left (sym c.if-not-begins_phi.ensures) c.in_ok-line.ensures.grows c.in_ok-line.line c.in_ok-line.ensures.known c.in_ok-line.end c.in_ok-line.ensures.count
    c.in_ok-line.ensures.reads.0 c.in_ok-line.ensures.reads.1 c.push.new.self c.in_ok-push.ensures.insts
    (c.in_ok-push.ensures.spots ∙ ap (λ z. c.loop-read.lines.spots.items ++ z ∷ []) c.start_at.ensures)

pub returns-clause-reads : goal.returns-clause-reads
returns-clause-reads c = (lines_run_out c.loop-read.invariant (omega arith), c.loop-read.invariant.so_far.within)
