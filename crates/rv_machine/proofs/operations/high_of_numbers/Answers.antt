use Rattle.std.proofs.Common.{◌≡◌, ◌*◌, ◌^◌, ◌<◌, ◌≤◌, ℤ, ◌*ℤ◌, FitsSigned, of_z, refl, ◌∙◌, arith, w64}
use Rattle.std.specs.Prelude.{pos, negsuc, unsigned_abs}
use Rattle.std.specs.Int.{w128, int_shr}
use Rattle.std.proofs.lemmas.Int.{to_z-of_z, fits_signed_mul, unsigned_abs-mul}
use Rattle.std.proofs.lemmas.Nat.{mul-le}
use Rattle.rv_model.specs.Operations.{bits64}
use Rattle.rv_machine.proofs.operations.high_of_numbers.Goals as goal

abs_small : (z : ℤ) → FitsSigned w64 z → unsigned_abs z ≤ 2 ^ 63
abs_small (pos n) h = let lt : n < 2 ^ 63 = h.sfits in omega arith
abs_small (negsuc n) h = let lt : n < 2 ^ 63 = h.sfits in omega arith

wide : (z : ℤ) → FitsSigned w64 z → FitsSigned w128 z
wide (pos n) h = let lt : n < 2 ^ 63 = h.sfits in record { sfits = omega arith }
wide (negsuc n) h = let lt : n < 2 ^ 63 = h.sfits in record { sfits = omega arith }

upper_fits : (z : ℤ) → unsigned_abs z ≤ 2 ^ 63 * 2 ^ 63 → FitsSigned w64 (int_shr z 64)
upper_fits (pos n) h = record { sfits = omega arith }
upper_fits (negsuc n) h = record { sfits = omega arith }

same_bits : (z : ℤ) → of_z w64 z ≡ bits64 z
same_bits (pos n) = refl
same_bits (negsuc n) = refl

pub returns : goal.returns
returns c =
    let a = c.args.a in
    let b = c.args.b in
    let small : unsigned_abs (a *ℤ b) ≤ 2 ^ 63 * 2 ^ 63 =
    rw (unsigned_abs-mul a b) (mul-le (unsigned_abs a) (unsigned_abs b) (2 ^ 63) (2 ^ 63) (abs_small a c.ranges.a) (abs_small b c.ranges.b)) in
    let product : FitsSigned w128 (a *ℤ b) = fits_signed_mul w128 a b (2 ^ 63) (2 ^ 63) (abs_small a c.ranges.a) (abs_small b c.ranges.b) (omega arith) in
    let upper : FitsSigned w64 (int_shr (a *ℤ b) 64) = upper_fits (a *ℤ b) small in
    c.cast_unsigned.ensures
    ∙ simp (to_z-of_z w64 a c.ranges.a, to_z-of_z w64 b c.ranges.b, to_z-of_z w128 a (wide a c.ranges.a), to_z-of_z w128 b (wide b c.ranges.b), to_z-of_z w128 (a *ℤ b) product, to_z-of_z w128 (int_shr (a *ℤ b) 64) (wide (int_shr (a *ℤ b) 64) upper), to_z-of_z w64 (int_shr (a *ℤ b) 64) upper)
    (same_bits (int_shr (a *ℤ b) 64))
