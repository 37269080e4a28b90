use Rattle.std.proofs.Common.{ℕ, ◌%◌, ◌^◌, w64, of_z, ap, sym, ◌∙◌}
use Rattle.std.proofs.lemmas.Int.{to_z-of_z}
use Rattle.ir_arith.proofs.Signs.{bits_are}
use Rattle.ir_arith.proofs.widths.bits_of.Goals as goal

pub returns : goal.returns
returns c =
    c.cut.ensures
    ∙ ap (λ (n : ℕ). n % 2 ^ c.args.width) (c.cast_unsigned.ensures ∙ ap (of_z w64) (to_z-of_z w64 c.args.z c.ranges.z))
    ∙ sym (bits_are c.args.width c.args.z c.requires.most c.ranges.z)
