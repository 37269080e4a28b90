use Rattle.std.proofs.Common.{length, sym, subst, arith, refl, Ok, Err}
use Rattle.ir_tree.specs.ShapeOf.{const_shape}
use Rattle.ir_grammar_consts.specs.Constants.{const}
use Rattle.ir_grammar_consts.proofs.ConstLaw.{good_const}
use Rattle.ir_grammar_consts.proofs.ClosedEnds.{ends_const}
use Rattle.ir_const.specs.Answers.{Answers}
use Rattle.ir_const.proofs.Wholes.{whole_const}
use Rattle.ir_const.proofs.Deep.{answers}
use Rattle.ir_const.proofs.reading.read_const.Goals as goal

pub returns-in-Ok-clause-reads : goal.returns-in-Ok-clause-reads
returns-in-Ok-clause-reads c =
    answers good_const ends_const whole_const (const_shape c.const_at.new.names) (length c.args.toks.now) c.args.text.now c.args.toks.now c.args.from c.requires.from (omega arith)
    c.reach_of-reach.result.end c.reach_of-reach.result.deep c.reach_of-reach.ensures.end c.reach_of-reach.ensures.deep _ refl (Ok c.in-Ok.read) c.in-Ok.ensures.reads

pub returns-in-Err-clause-reads : goal.returns-in-Err-clause-reads
returns-in-Err-clause-reads c =
    subst (λ z. Answers const (const_shape c.const_at.new.names) c.args.text.now c.args.toks.now c.args.from (Err z)) (sym c.error_of.ensures)
    (answers good_const ends_const whole_const (const_shape c.const_at.new.names) (length c.args.toks.now) c.args.text.now c.args.toks.now c.args.from c.requires.from (omega arith)
    c.reach_of-reach.result.end c.reach_of-reach.result.deep c.reach_of-reach.ensures.end c.reach_of-reach.ensures.deep _ refl (Err c.in-Err.stop) c.in-Err.ensures.reads)
