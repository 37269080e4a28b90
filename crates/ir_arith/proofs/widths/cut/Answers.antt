use Rattle.std.proofs.Common.{ap, ◌∙◌}
use Rattle.std.specs.Prelude.{bit_and}
use Rattle.std.proofs.lemmas.Nat.{and_mask}
use Rattle.ir_arith.proofs.widths.cut.Goals as goal

pub returns : goal.returns
returns c = ap (bit_and c.args.n) c.ones.ensures ∙ and_mask c.args.n c.args.width
