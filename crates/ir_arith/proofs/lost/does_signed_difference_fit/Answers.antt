use Rattle.std.proofs.Common.{ℤ, ◌-ℤ◌, ap, ap₂, ◌∙◌}
use Rattle.ir_model.specs.Integers.{fits_signed}
use Rattle.ir_arith.proofs.Signs.{with_room, difference_fits}
use Rattle.ir_arith.proofs.lost.does_signed_difference_fit.Goals as goal

pub returns : goal.returns
returns c =
    let x = c.wide_signed.result in
    let y = c.wide_signed-2.result in
    let room = difference_fits x y c.wide_signed.ensures.word c.wide_signed-2.ensures.word in
    c.fits_signed.ensures
    ∙ ap (fits_signed c.args.width)
    (with_room (λ (a b : ℤ). a -ℤ b) x y c.wide_signed.ensures.word c.wide_signed-2.ensures.word room
    ∙ ap₂ (λ (a b : ℤ). a -ℤ b) c.wide_signed.ensures.value c.wide_signed-2.ensures.value)
