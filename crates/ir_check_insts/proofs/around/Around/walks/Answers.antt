use Rattle.std.proofs.Common.{sym}
use Rattle.ir_check_insts.specs.Surroundings.{names_of, around_shape, ty_in}
use Rattle.ir_check_insts.proofs.Walks.{walk_next, walk_fails}
use Rattle.ir_check_insts.proofs.around.Around.walks.Goals as goal

pub returns-in-None : goal.returns-in-None
returns-in-None c = (
  λ no. cc,
  λ all.
      absurd (walk_fails (around_shape c.args.self.now).within.types (names_of c.args.self.now) c.args.indices.now c.loop-index.index-index c.index-item.result
      c.number_of.result (ty_in c.args.self.now c.loop-index.at.now) c.loop-index-test.true (sym c.index-item.is) (c.number_of.ensures (names_of c.args.self.now))
      c.in-None.ensures.none _ c.loop-index.invariant.1 all),
)

pub loop-index-preserved : goal.loop-index-preserved
loop-index-preserved c = (
  c.in-Some.ensures.known,
  walk_next (around_shape c.args.self.now).within.types (names_of c.args.self.now) c.args.indices.now c.loop-index.index-index c.index-item.result
      c.number_of.result (ty_in c.args.self.now c.loop-index.at.now) _ c.loop-index-test.true (sym c.index-item.is) (c.number_of.ensures (names_of c.args.self.now))
      c.in-Some.ensures.steps _ c.loop-index.invariant.1,
)
