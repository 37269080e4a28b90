use Rattle.ir_check_insts.specs.Surroundings.{names_of}
use Rattle.ir_check_insts.proofs.around.Around.is_return_void.Goals as goal

pub returns : goal.returns
returns c = c.is_void.ensures (names_of c.args.self.now)
