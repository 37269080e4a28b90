-- The operations of RV64I and M give words of 64 bits.
use Rattle.std.proofs.Common.{◌≡◌, ℕ, zero, suc, ◌+◌, ◌-◌, ◌*◌, ◌/◌, ◌%◌, ◌<◌, ◌≤◌, ◌^◌, ◌==◌, Bool, true, false, cond, refl, sym, ◌∙◌, ap, subst, arith, bit_and}
use Rattle.std.specs.Prelude.{ℤ, pos, negsuc, ◌*ℤ◌, neg_ℤ, nat_lt, unsigned_abs, int_div, int_rem}
use Rattle.std.specs.Int.{int_shr}
use Rattle.std.proofs.lemmas.Bool.Decides.{nat_tests}
use Rattle.std.proofs.lemmas.Int.{unsigned_abs-mul}
use Rattle.std.proofs.lemmas.Nat.{mul-le, and_le_l, or_lt, xor_lt}
use Rattle.std.proofs.Math.Nat.{div-le_self, mod-le}
use Rattle.rv_inst.specs.declared.table.Format.{Format}
use Rattle.rv_inst.specs.declared.table.Format.TheVariants.{Upper, Jump, Immediate, Branch, Store, Register, Shift, ShiftWord, System}
use Rattle.rv_inst.specs.declared.table.Operands.{Operands}
use Rattle.rv_inst.specs.declared.instruction.Form.{Form}
use Rattle.rv_inst.specs.Table.{row}
use Rattle.rv_inst.specs.Forms.{kind_of, operands_of}
use Rattle.rv_inst.specs.Word.{IsBelow, IsSigned, FitsFormat, Fits}
use Rattle.rv_inst.proofs.EachKind.{trim, operands_of-form_of, form_of-kind_of}
use Rattle.rv_inst.specs.declared.table.Kind.{Kind}
use Rattle.rv_inst.specs.declared.table.Kind.TheVariants.{OpAddi, OpSlti, OpSltiu, OpXori, OpOri, OpAndi, OpSlli, OpSrli, OpSrai, OpAdd, OpSub, OpSll, OpSlt, OpSltu, OpXor, OpSrl, OpSra, OpOr, OpAnd, OpAddiw, OpSlliw, OpSrliw, OpSraiw, OpAddw, OpSubw, OpSllw, OpSrlw, OpSraw, OpMul, OpMulh, OpMulhsu, OpMulhu, OpDiv, OpDivu, OpRem, OpRemu, OpMulw, OpDivw, OpDivuw, OpRemw, OpRemuw}
use Rattle.rv_model.specs.State.{plus64}
use Rattle.rv_model.specs.Operations.{bits64, bits32, signed64, signed32, sign_extended, word32, truth, shifted_right, shifted_signed, shifted_signed32, quotient, quotient_unsigned, remainder, remainder_unsigned, quotient32, quotient_unsigned32, remainder32, remainder_unsigned32, high_signed, high_mixed, high_unsigned, minus64, less_signed, shifted_left, times64, operation}

-- the low 64 bits
pub low_wide : (n : ℕ) → n % 2 ^ 64 < 2 ^ 64
low_wide n = omega arith

extended_wide : (n : ℕ) → n < 2 ^ 32 → sign_extended (2 ^ 31) n < 2 ^ 64
extended_wide n h = by_sign (nat_lt n (2 ^ 31))
  where
    by_sign : (b : Bool) → cond b n (n + 2 ^ 64 - 2 * 2 ^ 31) < 2 ^ 64
    by_sign true = omega arith
    by_sign false = omega arith

pub word32_wide : (n : ℕ) → word32 n < 2 ^ 64
word32_wide n = extended_wide (n % 2 ^ 32) (omega arith)

pub truth_wide : (b : Bool) → truth b < 2 ^ 64
truth_wide true = omega arith
truth_wide false = omega arith

pub and_wide : (a b : ℕ) → a < 2 ^ 64 → bit_and a b < 2 ^ 64
and_wide a b h = omega (arith, and_le_l a b)

-- the bits of a signed number
bits64_wide : (z : ℤ) → unsigned_abs z < 2 ^ 64 → bits64 z < 2 ^ 64
bits64_wide (pos n) h = h
bits64_wide (negsuc n) h = omega arith

bits32_small : (z : ℤ) → unsigned_abs z < 2 ^ 32 → bits32 z < 2 ^ 32
bits32_small (pos n) h = h
bits32_small (negsuc n) h = omega arith

-- absolute values
abs-signed64 : (a : ℕ) → a < 2 ^ 64 → unsigned_abs (signed64 a) ≤ 2 ^ 63
abs-signed64 a h = by_half (nat_lt a (2 ^ 63)) refl
  where
    by_half : (b : Bool) → nat_lt a (2 ^ 63) ≡ b → unsigned_abs (cond b (pos a) (negsuc (2 ^ 64 - suc a))) ≤ 2 ^ 63
    by_half true e = grind (arith, nat_tests)
    by_half false e = grind (arith, nat_tests)

abs-signed32 : (a : ℕ) → unsigned_abs (signed32 a) ≤ 2 ^ 31
abs-signed32 a = by_half (a % 2 ^ 32) (omega arith) (nat_lt (a % 2 ^ 32) (2 ^ 31)) refl
  where
    by_half : (n : ℕ) → n < 2 ^ 32 → (b : Bool) → nat_lt n (2 ^ 31) ≡ b → unsigned_abs (cond b (pos n) (negsuc (2 ^ 32 - suc n))) ≤ 2 ^ 31
    by_half n h true e = grind (arith, nat_tests)
    by_half n h false e = grind (arith, nat_tests)

abs-neg : (n : ℕ) → unsigned_abs (neg_ℤ (pos n)) ≡ n
abs-neg zero = refl
abs-neg (suc n) = refl

abs-shr : (z : ℤ) (k : ℕ) → unsigned_abs (int_shr z k) ≤ unsigned_abs z
abs-shr (pos n) k = div-le_self n (2 ^ k)
abs-shr (negsuc n) k = omega (arith, div-le_self n (2 ^ k))

abs-div : (a d : ℤ) → unsigned_abs (int_div a d) ≤ unsigned_abs a
abs-div (pos a) (pos b) = div-le_self a b
abs-div (pos a) (negsuc b) = omega (arith, abs-neg (a / suc b), div-le_self a (suc b))
abs-div (negsuc a) (pos b) = omega (arith, abs-neg (suc a / b), div-le_self (suc a) b)
abs-div (negsuc a) (negsuc b) = div-le_self (suc a) (suc b)

abs-rem : (a d : ℤ) → unsigned_abs (int_rem a d) ≤ unsigned_abs a
abs-rem (pos a) d = mod-le a (unsigned_abs d)
abs-rem (negsuc a) d = omega (arith, abs-neg (suc a % unsigned_abs d), mod-le (suc a) (unsigned_abs d))

-- the upper half of a product
abs-high : (z : ℤ) → unsigned_abs z ≤ 2 ^ 127 → unsigned_abs (int_shr z 64) < 2 ^ 64
abs-high (pos n) h = omega arith
abs-high (negsuc n) h = omega arith

product_small : (a b : ℤ) (m n : ℕ) → unsigned_abs a ≤ m → unsigned_abs b ≤ n → unsigned_abs (a *ℤ b) ≤ m * n
product_small a b m n p q = rw (unsigned_abs-mul a b) (mul-le (unsigned_abs a) (unsigned_abs b) m n p q)

-- shifts to the right
pub shifted_right_wide : (a k : ℕ) → a < 2 ^ 64 → shifted_right a k < 2 ^ 64
shifted_right_wide a k h = omega (arith, div-le_self a (2 ^ (k % 64)))

pub shifted_signed_wide : (a k : ℕ) → a < 2 ^ 64 → shifted_signed a k < 2 ^ 64
shifted_signed_wide a k h =
    bits64_wide (int_shr (signed64 a) (k % 64)) (omega (arith, abs-shr (signed64 a) (k % 64), abs-signed64 a h))

pub shifted_signed32_wide : (a k : ℕ) → shifted_signed32 a k < 2 ^ 64
shifted_signed32_wide a k =
    bits64_wide (int_shr (signed32 a) (k % 32)) (omega (arith, abs-shr (signed32 a) (k % 32), abs-signed32 a))

-- upper halves of products
pub high_signed_wide : (a b : ℕ) → a < 2 ^ 64 → b < 2 ^ 64 → high_signed a b < 2 ^ 64
high_signed_wide a b h k =
    let small : unsigned_abs (signed64 a *ℤ signed64 b) ≤ 2 ^ 63 * 2 ^ 63 = product_small (signed64 a) (signed64 b) (2 ^ 63) (2 ^ 63) (abs-signed64 a h) (abs-signed64 b k) in
    bits64_wide (int_shr (signed64 a *ℤ signed64 b) 64) (abs-high (signed64 a *ℤ signed64 b) (omega (arith, small)))

pub high_mixed_wide : (a b : ℕ) → a < 2 ^ 64 → b < 2 ^ 64 → high_mixed a b < 2 ^ 64
high_mixed_wide a b h k =
    let small : unsigned_abs (signed64 a *ℤ pos b) ≤ 2 ^ 63 * 2 ^ 64 = product_small (signed64 a) (pos b) (2 ^ 63) (2 ^ 64) (abs-signed64 a h) (omega arith) in
    bits64_wide (int_shr (signed64 a *ℤ pos b) 64) (abs-high (signed64 a *ℤ pos b) (omega (arith, small)))

pub high_unsigned_wide : (a b : ℕ) → a < 2 ^ 64 → b < 2 ^ 64 → high_unsigned a b < 2 ^ 64
high_unsigned_wide a b h k =
    let small : a * b ≤ (2 ^ 64 - 1) * (2 ^ 64 - 1) = mul-le a b (2 ^ 64 - 1) (2 ^ 64 - 1) (omega arith) (omega arith) in
    omega (arith, small)

-- quotients and remainders, of which a division by zero has its own
chosen_wide : (b : Bool) (x y : ℕ) → x < 2 ^ 64 → y < 2 ^ 64 → cond b x y < 2 ^ 64
chosen_wide true x y h k = h
chosen_wide false x y h k = k

pub quotient_wide : (a b : ℕ) → a < 2 ^ 64 → quotient a b < 2 ^ 64
quotient_wide a b h =
    chosen_wide (b == 0) (2 ^ 64 - 1) (bits64 (int_div (signed64 a) (signed64 b))) (omega arith)
    (bits64_wide (int_div (signed64 a) (signed64 b)) (omega (arith, abs-div (signed64 a) (signed64 b), abs-signed64 a h)))

pub quotient_unsigned_wide : (a b : ℕ) → a < 2 ^ 64 → quotient_unsigned a b < 2 ^ 64
quotient_unsigned_wide a b h =
    chosen_wide (b == 0) (2 ^ 64 - 1) (a / b) (omega arith) (omega (arith, div-le_self a b))

pub remainder_wide : (a b : ℕ) → a < 2 ^ 64 → remainder a b < 2 ^ 64
remainder_wide a b h =
    chosen_wide (b == 0) a (bits64 (int_rem (signed64 a) (signed64 b))) h
    (bits64_wide (int_rem (signed64 a) (signed64 b)) (omega (arith, abs-rem (signed64 a) (signed64 b), abs-signed64 a h)))

pub remainder_unsigned_wide : (a b : ℕ) → a < 2 ^ 64 → remainder_unsigned a b < 2 ^ 64
remainder_unsigned_wide a b h = chosen_wide (b == 0) a (a % b) h (omega (arith, mod-le a b))

pub quotient32_wide : (a b : ℕ) → quotient32 a b < 2 ^ 64
quotient32_wide a b =
    let small : bits32 (int_div (signed32 a) (signed32 b)) < 2 ^ 32 = bits32_small (int_div (signed32 a) (signed32 b)) (omega (arith, abs-div (signed32 a) (signed32 b), abs-signed32 a)) in
    chosen_wide (b % 2 ^ 32 == 0) (2 ^ 64 - 1) (sign_extended (2 ^ 31) (bits32 (int_div (signed32 a) (signed32 b)))) (omega arith)
    (extended_wide (bits32 (int_div (signed32 a) (signed32 b))) small)

pub quotient_unsigned32_wide : (a b : ℕ) → quotient_unsigned32 a b < 2 ^ 64
quotient_unsigned32_wide a b =
    chosen_wide (b % 2 ^ 32 == 0) (2 ^ 64 - 1) (word32 (a % 2 ^ 32 / (b % 2 ^ 32))) (omega arith) (word32_wide (a % 2 ^ 32 / (b % 2 ^ 32)))

pub remainder32_wide : (a b : ℕ) → remainder32 a b < 2 ^ 64
remainder32_wide a b =
    let small : bits32 (int_rem (signed32 a) (signed32 b)) < 2 ^ 32 = bits32_small (int_rem (signed32 a) (signed32 b)) (omega (arith, abs-rem (signed32 a) (signed32 b), abs-signed32 a)) in
    chosen_wide (b % 2 ^ 32 == 0) (word32 a) (sign_extended (2 ^ 31) (bits32 (int_rem (signed32 a) (signed32 b)))) (word32_wide a)
    (extended_wide (bits32 (int_rem (signed32 a) (signed32 b))) small)

pub remainder_unsigned32_wide : (a b : ℕ) → remainder_unsigned32 a b < 2 ^ 64
remainder_unsigned32_wide a b =
    chosen_wide (b % 2 ^ 32 == 0) (word32 a) (word32 (a % 2 ^ 32 % (b % 2 ^ 32))) (word32_wide a) (word32_wide (a % 2 ^ 32 % (b % 2 ^ 32)))

-- what an instruction computes of words of 64 bits
pub operation_wide : (kind : Kind) (a b : ℕ) → a < 2 ^ 64 → b < 2 ^ 64 → operation kind a b < 2 ^ 64
operation_wide OpAddi a b h k = low_wide (a + b)
operation_wide OpSlti a b h k = truth_wide (less_signed a b)
operation_wide OpSltiu a b h k = truth_wide (nat_lt a b)
operation_wide OpXori a b h k = xor_lt 64 a b h k
operation_wide OpOri a b h k = or_lt 64 a b h k
operation_wide OpAndi a b h k = and_wide a b h
operation_wide OpSlli a b h k = low_wide (a * 2 ^ (b % 64))
operation_wide OpSrli a b h k = shifted_right_wide a b h
operation_wide OpSrai a b h k = shifted_signed_wide a b h
operation_wide OpAddiw a b h k = word32_wide (plus64 a b)
operation_wide OpSlliw a b h k = word32_wide (shifted_left a (b % 32))
operation_wide OpSrliw a b h k = word32_wide (a % 2 ^ 32 / 2 ^ (b % 32))
operation_wide OpSraiw a b h k = shifted_signed32_wide a b
operation_wide OpAdd a b h k = low_wide (a + b)
operation_wide OpSub a b h k = low_wide (a + (2 ^ 64 - b))
operation_wide OpSll a b h k = low_wide (a * 2 ^ (b % 64))
operation_wide OpSlt a b h k = truth_wide (less_signed a b)
operation_wide OpSltu a b h k = truth_wide (nat_lt a b)
operation_wide OpXor a b h k = xor_lt 64 a b h k
operation_wide OpSrl a b h k = shifted_right_wide a b h
operation_wide OpSra a b h k = shifted_signed_wide a b h
operation_wide OpOr a b h k = or_lt 64 a b h k
operation_wide OpAnd a b h k = and_wide a b h
operation_wide OpAddw a b h k = word32_wide (plus64 a b)
operation_wide OpSubw a b h k = word32_wide (minus64 a b)
operation_wide OpSllw a b h k = word32_wide (shifted_left a (b % 32))
operation_wide OpSrlw a b h k = word32_wide (a % 2 ^ 32 / 2 ^ (b % 32))
operation_wide OpSraw a b h k = shifted_signed32_wide a b
operation_wide OpMul a b h k = low_wide (a * b)
operation_wide OpMulh a b h k = high_signed_wide a b h k
operation_wide OpMulhsu a b h k = high_mixed_wide a b h k
operation_wide OpMulhu a b h k = high_unsigned_wide a b h k
operation_wide OpDiv a b h k = quotient_wide a b h
operation_wide OpDivu a b h k = quotient_unsigned_wide a b h
operation_wide OpRem a b h k = remainder_wide a b h
operation_wide OpRemu a b h k = remainder_unsigned_wide a b h
operation_wide OpMulw a b h k = word32_wide (times64 a b)
operation_wide OpDivw a b h k = quotient32_wide a b
operation_wide OpDivuw a b h k = quotient_unsigned32_wide a b
operation_wide OpRemw a b h k = remainder32_wide a b
operation_wide OpRemuw a b h k = remainder_unsigned32_wide a b
operation_wide _ a b h k = omega arith

-- the bits of an immediate
below_wide : (limit : ℕ) (imm : ℤ) → limit ≤ 2 ^ 63 → IsBelow limit imm → bits64 imm < 2 ^ 64
below_wide limit (pos n) le h = omega arith
below_wide limit (negsuc n) le h = absurd h

signed_wide : (half : ℕ) (imm : ℤ) → half ≤ 2 ^ 63 → IsSigned half imm → bits64 imm < 2 ^ 64
signed_wide half (pos n) le h = omega arith
signed_wide half (negsuc n) le h = omega arith

by_format : (format : Format) (o : Operands) → FitsFormat format o → bits64 (trim format o).imm < 2 ^ 64
by_format Upper o h = below_wide (2 ^ 20) o.imm (omega arith) h.1
by_format Jump o h = signed_wide (2 ^ 20) o.imm (omega arith) h.1
by_format Immediate o h = signed_wide (2 ^ 11) o.imm (omega arith) h.2
by_format Branch o h = signed_wide (2 ^ 12) o.imm (omega arith) h.2
by_format Store o h = signed_wide (2 ^ 11) o.imm (omega arith) h.2
by_format Register o h = omega arith
by_format Shift o h = below_wide 64 o.imm (omega arith) h.2
by_format ShiftWord o h = below_wide 32 o.imm (omega arith) h.2
by_format System o h = omega arith

pub immediate_wide : (i : Form) → Fits i → bits64 (operands_of i).imm < 2 ^ 64
immediate_wide i h =
    let P : Operands → Type 0 = λ o. bits64 o.imm < 2 ^ 64 in
    let trimmed : trim ((row (kind_of i)).format) (operands_of i) ≡ operands_of i = sym (operands_of-form_of (kind_of i) (operands_of i)) ∙ ap operands_of (form_of-kind_of i) in
    subst P trimmed (by_format ((row (kind_of i)).format) (operands_of i) h)
