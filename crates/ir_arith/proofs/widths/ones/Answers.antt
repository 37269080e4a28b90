use Rattle.ir_arith.proofs.Cuts.{mask_is}
use Rattle.ir_arith.proofs.widths.ones.Goals as goal

pub returns : goal.returns
returns c = mask_is c.args.width c.requires.most
