use Rattle.ir_program.proofs.Sized.{const_sized}
use Rattle.ir_program.proofs.laws.constants_fill_their_types.Goals as goal

pub returns : goal.returns
returns c m constant t l has fits = const_sized m constant t l has fits
