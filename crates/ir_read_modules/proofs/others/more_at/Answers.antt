use Rattle.std.proofs.Common.{◌≡◌, ◌+◌, ◌-◌, suc, [], ◌∷◌, ◌++◌, sym, ◌∙◌, ap, subst, arith}
use Rattle.std.proofs.lemmas.Result.{err_from_is_err_and}
use Rattle.grammar.specs.Code.{Gives}
use Rattle.ir_lex.specs.Symbols.{symbols_of}
use Rattle.ir_read_modules.specs.BlockShapes.{lines_shape}
use Rattle.ir_read_modules.proofs.LinesSoFar.{InstsLeft, insts_start, insts_go_on, insts_stop, insts_last, insts_end}
use Rattle.ir_read_modules.proofs.others.more_at.Goals as goal

pub loop-init : goal.loop-init
loop-init c =
    let all : c.args.budget ≡ c.args.budget - 0 = omega arith in
    subst (λ z. InstsLeft c.args.text.now c.args.toks.now c.args.budget z c.args.names.now c.args.names.now c.args.lines c.args.lines c.args.at c.args.at) all
    (insts_start c.args.text.now c.args.toks.now c.args.budget c.args.names.now c.args.lines c.args.at c.requires.within c.requires.kept)

pub returns-then-not-begins_inst-clause-reads : goal.returns-then-not-begins_inst-clause-reads
returns-then-not-begins_inst-clause-reads c =
    subst (λ z. Gives (lines_shape c.last_at.new.names) (symbols_of c.args.text.now c.args.toks.now) c.last_at.result z)
    (insts_last c.loop.invariant (sym c.if-not-begins_inst.ensures)) c.last_at.ensures.reads

pub returns-in_err-line-clause-reads : goal.returns-in_err-line-clause-reads
returns-in_err-line-clause-reads c =
    let left : c.args.budget - c.loop.counter ≡ suc (c.args.budget - (c.loop.counter + 1)) = omega arith in
    let p = err_from_is_err_and c.from_residual.result c.from_residual.ensures.1 in
    rw (p.1, p.2) (insts_stop _ c.loop.invariant left (sym c.if-not-begins_inst.ensures) c.in_err-line.field-0.0 c.in_err-line.ensures.reads)

pub loop-preserved : goal.loop-preserved
loop-preserved c =
    let left : c.args.budget - c.loop.counter ≡ suc (c.args.budget - (c.loop.counter + 1)) = omega arith in
    insts_go_on _ c.loop.invariant left (sym c.if-not-begins_inst.ensures) c.in_ok-line.ensures.grows c.in_ok-line.line c.in_ok-line.ensures.known c.in_ok-line.end c.in_ok-line.ensures.count
    c.in_ok-line.ensures.reads.0 c.in_ok-line.ensures.reads.1 c.push.new.self c.in_ok-push.ensures.insts
    (c.in_ok-push.ensures.spots ∙ ap (λ z. c.loop.lines.spots.items ++ z ∷ []) c.start_at.ensures)

pub returns-clause-reads : goal.returns-clause-reads
returns-clause-reads c =
    subst (λ z. Gives (lines_shape c.last_at-2.new.names) (symbols_of c.args.text.now c.args.toks.now) c.last_at-2.result z)
    (insts_end c.loop.invariant (omega arith)) c.last_at-2.ensures.reads
