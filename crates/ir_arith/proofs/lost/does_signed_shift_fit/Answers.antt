use Rattle.std.proofs.Common.{◌≡◌, ◌≤◌, ◌^◌, ℕ, ℤ, ◌*ℤ◌, pos, FitsSigned, w64, to_z, of_z, arith, ap, ap₂, sym, subst, ◌∙◌}
use Rattle.std.specs.Int.{w128}
use Rattle.std.proofs.lemmas.Int.{to_z-of_z}
use Rattle.ir_model.specs.Integers.{fits_signed}
use Rattle.ir_arith.proofs.Signs.{wide, shift_fits}
use Rattle.ir_arith.proofs.lost.does_signed_shift_fit.Goals as goal

-- the factors as they were
factors : (x y : ℤ) (n : ℕ) → FitsSigned w64 x → y ≡ pos n → n ≤ 2 ^ 63
    → to_z w128 (of_z w128 x) *ℤ to_z w128 (of_z w128 y) ≡ x *ℤ pos n
factors x y n fits is small =
    let wide_y : FitsSigned w128 y = subst (FitsSigned w128) (sym is) (record { sfits = omega arith }) in
    ap₂ (λ (a b : ℤ). a *ℤ b) (to_z-of_z w128 x (wide x fits)) (to_z-of_z w128 y wide_y ∙ is)

pub overflow_mul-wide_signed : goal.overflow_mul-wide_signed
overflow_mul-wide_signed c =
    let x = c.wide_signed.result in
    let n : ℕ = 2 ^ c.args.b in
    subst (FitsSigned w128) (sym (factors x c.power.result n c.wide_signed.ensures.word c.power.ensures.value c.power.ensures.small))
    (shift_fits x n c.wide_signed.ensures.word c.power.ensures.small)

pub returns : goal.returns
returns c =
    let x = c.wide_signed.result in
    let n : ℕ = 2 ^ c.args.b in
    c.fits_signed.ensures
    ∙ ap (λ (z : ℤ). fits_signed c.args.width (to_z w128 (of_z w128 z)))
    (factors x c.power.result n c.wide_signed.ensures.word c.power.ensures.value c.power.ensures.small)
    ∙ ap (fits_signed c.args.width)
    (to_z-of_z w128 (x *ℤ pos n) (shift_fits x n c.wide_signed.ensures.word c.power.ensures.small)
    ∙ ap (λ (z : ℤ). z *ℤ pos n) c.wide_signed.ensures.value)
