use Rattle.ir_same.proofs.ConstNumbers.{one_const_shape, same_const_numbers}
use Rattle.ir_same.proofs.laws.same_constants_are_equal.Goals as goal

pub returns-clause-equal : goal.returns-clause-equal
returns-clause-equal c names distinct a b known also e = same_const_numbers names distinct a b known also e

pub returns-clause-same : goal.returns-clause-same
returns-clause-same c names a b e = one_const_shape names a b e
