use Rattle.std.proofs.Common.{ℤ, FitsSigned, w64, ap, ap₂, ◌∙◌}
use Rattle.std.specs.Prelude.{int_div}
use Rattle.std.specs.Int.{int_wrapping_div}
use Rattle.std.proofs.lemmas.Int.{to_z-of_z}
use Rattle.ir_model.specs.Integers.{bits_of}
use Rattle.ir_arith.proofs.Signs.{quotient_bits}
use Rattle.ir_arith.proofs.operations.signed_quotient_bits.Goals as goal

pub returns : goal.returns
returns c =
    let w = c.args.width in
    let x = c.signed.result in
    let y = c.signed-2.result in
    let q = c.wrapping_div.result in
    let left : FitsSigned w64 x = record { sfits = c.signed.type_inv } in
    let right : FitsSigned w64 y = record { sfits = c.signed-2.type_inv } in
    let room : FitsSigned w64 q = record { sfits = c.wrapping_div.type_inv } in
    c.bits_of.ensures
    ∙ ap (bits_of w) (to_z-of_z w64 q room)
    ∙ quotient_bits w x y q c.requires.numbers.bits.most left room
    (c.wrapping_div.ensures ∙ ap₂ (int_wrapping_div w64) (to_z-of_z w64 x left) (to_z-of_z w64 y right))
    ∙ ap₂ (λ (a b : ℤ). bits_of w (int_div a b)) c.signed.ensures c.signed-2.ensures
