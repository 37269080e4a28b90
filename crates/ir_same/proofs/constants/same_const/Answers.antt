use Rattle.ir_same.proofs.ConstNumbers.{one_const_shape, same_const_numbers}
use Rattle.ir_same.proofs.constants.same_const.Goals as goal

pub returns : goal.returns
returns c names distinct known also = (
  (λ yes. one_const_shape names c.args.a.now c.args.b.now (c.equal_const.ensures.0 yes)),
  λ e. c.equal_const.ensures.1 (same_const_numbers names distinct c.args.a.now c.args.b.now known also e),
)
