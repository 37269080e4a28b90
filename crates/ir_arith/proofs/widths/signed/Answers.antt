use Rattle.std.proofs.Common.{◌-◌, arith}
use Rattle.std.proofs.lemmas.Nat.{one_shl}
use Rattle.ir_arith.proofs.Signs.{signed_word}
use Rattle.ir_arith.proofs.widths.signed.Goals as goal

pub returns-else-n-width : goal.returns-else-n-width
returns-else-n-width c =
    let w = c.args.width in
    signed_word w c.args.n c.requires.bits.some c.requires.bits.most c.requires.below
    (omega (arith, one_shl (w - 1) 64 (omega arith)))
