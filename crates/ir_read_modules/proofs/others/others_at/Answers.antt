use Rattle.std.proofs.Common.{drop, [], ◌∷◌, ◌++◌, sym, ◌∙◌, ap, subst}
use Rattle.grammar.specs.Code.{Gives}
use Rattle.ir_lex.specs.Symbols.{symbols_of}
use Rattle.ir_read_modules.specs.BlockShapes.{lines_shape}
use Rattle.ir_read_modules.proofs.LinesSoFar.{inst_after, others_go_on}
use Rattle.ir_read_modules.proofs.others.others_at.Goals as goal

pub more_at-requires-clause-kept : goal.more_at-requires-clause-kept
more_at-requires-clause-kept c =
    let behind = inst_after c.args.text.now c.args.toks.now c.args.budget c.args.at c.in_ok-line.next c.in_ok-line.ensures.grows c.args.lines c.push.new.self c.in_ok-line.line c.requires.within c.requires.kept c.in_ok-line.ensures.known c.in_ok-line.ensures.count c.in_ok-line.ensures.reads.0 c.in_ok-line.ensures.reads.1
    c.in_ok-push.ensures.insts (c.in_ok-push.ensures.spots ∙ ap (λ z. c.args.lines.spots.items ++ z ∷ []) c.start_at.ensures) in
    behind.all_known

pub returns-clause-reads : goal.returns-clause-reads
returns-clause-reads c =
    subst (λ z. Gives (lines_shape c.more_at.new.names) (symbols_of c.args.text.now c.args.toks.now) c.more_at.result z)
    (others_go_on c.in_ok-line.ensures.grows c.args.budget (drop c.args.at (symbols_of c.args.text.now c.args.toks.now)) (drop c.in_ok-line.next (symbols_of c.args.text.now c.args.toks.now)) c.args.lines c.push.new.self c.in_ok-line.line c.requires.kept
    (sym c.if-not-begins_inst.ensures) c.in_ok-line.ensures.reads.0 c.in_ok-push.ensures.insts)
    c.more_at.ensures.reads

pub returns-clause-spots : goal.returns-clause-spots
returns-clause-spots c = λ from lines.
    let behind = inst_after c.args.text.now c.args.toks.now c.args.budget c.args.at c.in_ok-line.next c.in_ok-line.ensures.grows c.args.lines c.push.new.self c.in_ok-line.line c.requires.within c.requires.kept c.in_ok-line.ensures.known c.in_ok-line.ensures.count c.in_ok-line.ensures.reads.0 c.in_ok-line.ensures.reads.1
    c.in_ok-push.ensures.insts (c.in_ok-push.ensures.spots ∙ ap (λ z. c.args.lines.spots.items ++ z ∷ []) c.start_at.ensures) in
    c.more_at.ensures.spots from (behind.pieces from lines)
