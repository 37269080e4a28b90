use Rattle.ir_type_tests.proofs.Sized.{sized}
use Rattle.ir_type_tests.proofs.sizes.is_sized.Goals as goal

pub returns : goal.returns
returns c m known whole names = rw c.is_some.ensures (sized _ _ c.layout_of.result (c.layout_of.ensures m known whole names))
