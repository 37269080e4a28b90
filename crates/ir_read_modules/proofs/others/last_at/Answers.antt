use Rattle.std.proofs.Common.{drop, None, ◌∙◌, ap, [], ◌∷◌, ◌++◌}
use Rattle.ir_lex.specs.Symbols.{symbols_of}
use Rattle.ir_tree.specs.ShapeOf.{body_shape}
use Rattle.ir_read_modules.specs.Lines.{AreLinesAt}
use Rattle.ir_read_modules.specs.BlockShapes.{lines_shape}
use Rattle.ir_read_modules.proofs.LinesSoFar.{SoFar, so_far_start, so_far_more, term_between, last_read}
use Rattle.ir_read_modules.proofs.others.last_at.Goals as goal

all_lines : (c : goal.In_ok-push) → SoFar c.args.text.now c.args.toks.now
    (λ from. AreLinesAt c.args.text.now c.args.toks.now from c.args.at (lines_shape c.args.names.now c.args.lines) c.args.lines.spots.items)
    c.args.names.now c.term_at.new.names c.push.new.self c.args.at c.in_ok-body.next
all_lines c =
    so_far_more (so_far_start c.args.text.now c.args.toks.now c.args.names.now c.args.lines c.args.at c.requires.within c.requires.kept)
    c.in_ok-body.ensures.grows (record { result = None; body = c.in_ok-body.body }) c.in_ok-body.ensures.known c.in_ok-body.next c.in_ok-body.ensures.count c.in_ok-body.ensures.reads.1
    (term_between c.args.budget c.args.text.now c.args.toks.now c.args.at c.in_ok-body.next (body_shape c.term_at.new.names c.in_ok-body.body) c.requires.within c.in_ok-body.ensures.reads.1 c.in_ok-body.ensures.reads.0)
    c.push.new.self c.in_ok-push.ensures.insts (c.in_ok-push.ensures.spots ∙ ap (λ z. c.args.lines.spots.items ++ z ∷ []) c.start_at.ensures)

pub returns-clause-known : goal.returns-clause-known
returns-clause-known c = (all_lines c).all_known

pub returns-clause-reads : goal.returns-clause-reads
returns-clause-reads c = (
  last_read c.in_ok-body.ensures.grows c.args.budget (drop c.args.at (symbols_of c.args.text.now c.args.toks.now)) _ c.args.lines c.push.new.self c.in_ok-body.body c.requires.kept c.in_ok-body.ensures.reads.0 c.in_ok-push.ensures.insts,
  c.in_ok-body.ensures.reads.1,
)

pub returns-clause-spots : goal.returns-clause-spots
returns-clause-spots c = λ from lines. (all_lines c).pieces from lines
