use Rattle.ir_same.proofs.TypeNumbers.{one_shape, same_numbers}
use Rattle.ir_same.proofs.types.same_ty.Goals as goal

pub returns : goal.returns
returns c names distinct known also = (
  (λ yes. one_shape names c.args.a.now c.args.b.now (c.equal_ty.ensures.0 yes)),
  λ e. c.equal_ty.ensures.1 (same_numbers names distinct c.args.a.now c.args.b.now known also e),
)
