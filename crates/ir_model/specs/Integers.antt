-- Arithmetic on integers of a width (Language Reference, "Binary Operations", "Bitwise Binary Operations", "Conversion Operations", "icmp").
-- A number of a width is its bits, below 2^width; a result is taken modulo 2^width.
use Rattle.std.specs.Prelude.{ℕ, ℤ, pos, ◌+ℤ◌, ◌-ℤ◌, ◌*ℤ◌, neg_ℤ, ◌+◌, ◌-◌, ◌*◌, ◌/◌, ◌%◌, ◌^◌, ◌==◌, nat_lt, nat_le, Bool, false, not, ◌&&◌, ◌||◌, if◌then◌else◌, int_lt, int_le, int_div, int_rem, bit_and, bit_or, bit_xor, unsigned_abs}
use Rattle.std.specs.Int.{int_rem_euclid, int_shr}
use Rattle.ir_tree.specs.declared.module.Bin.{Bin}
use Rattle.ir_tree.specs.declared.module.Bin.TheVariants.{Add, Sub, Mul, Shl, Udiv, Sdiv, Lshr, Ashr, Urem, Srem, And, Or, Xor}
use Rattle.ir_tree.specs.declared.module.Flags.{Flags}
use Rattle.ir_tree.specs.declared.module.Pred.{Pred}
use Rattle.ir_tree.specs.declared.module.Pred.TheVariants.{Eq, Ne, Ugt, Uge, Ult, Ule, Sgt, Sge, Slt, Sle}
use Rattle.ir_tree.specs.declared.module.Conv.{Conv}
use Rattle.ir_tree.specs.declared.module.Conv.TheVariants.{Zext, Sext, Trunc}
use Rattle.ir_model.specs.declared.Why.TheVariants as why
use Rattle.ir_model.specs.Values.{Value, Integer, Address, Poison, Answer, Gives, Fails}

-- the signed number that bits mean, in two's complement
abbrev pub signed : ℕ → ℕ → ℤ
signed width n = if nat_lt n (2 ^ (width - 1)) then pos n else pos n -ℤ pos (2 ^ width)

-- the bits of a signed number
abbrev pub bits_of : ℕ → ℤ → ℕ
bits_of width z = unsigned_abs (int_rem_euclid z (pos (2 ^ width)))

-- what each operation makes of two numbers of a width. An amount of a shift is below the width, and a divisor isn't zero
abbrev pub result_of : Bin → ℕ → ℕ → ℕ → ℕ
result_of Add width a b = (a + b) % 2 ^ width
result_of Sub width a b = (a + (2 ^ width - b)) % 2 ^ width
result_of Mul width a b = a * b % 2 ^ width
result_of Shl width a b = a * 2 ^ b % 2 ^ width
result_of Udiv width a b = a / b
result_of Sdiv width a b = bits_of width (int_div (signed width a) (signed width b))
result_of Lshr width a b = a / 2 ^ b
result_of Ashr width a b = bits_of width (int_shr (signed width a) b)
result_of Urem width a b = a % b
result_of Srem width a b = bits_of width (int_rem (signed width a) (signed width b))
result_of And width a b = bit_and a b
result_of Or width a b = bit_or a b
result_of Xor width a b = bit_xor a b

-- a number fits a width without a sign, and with one
abbrev pub fits : ℕ → ℤ → Bool
fits width z = int_le (pos 0) z && int_lt z (pos (2 ^ width))

abbrev pub fits_signed : ℕ → ℤ → Bool
fits_signed width z = int_le (neg_ℤ (pos (2 ^ (width - 1)))) z && int_lt z (pos (2 ^ (width - 1)))

-- an exact result doesn't fit as the flags say: with `nuw` the one of the numbers without signs, with `nsw` the one of the signed numbers
abbrev pub overflows : Flags → ℕ → ℤ → ℤ → Bool
overflows flags width plain with_signs = (flags.nuw && not (fits width plain)) || (flags.nsw && not (fits_signed width with_signs))

-- whether the amount of a shift isn't below the width
abbrev pub is_far : ℕ → ℕ → Bool
is_far width amount = nat_le width amount

-- when the result is poison: a flag's promise isn't kept, or a shift is by the width or more. `exact` promises that no remainder is left
-- and that no bit that is set is shifted out
abbrev pub is_lost : Bin → Flags → ℕ → ℕ → ℕ → Bool
is_lost Add flags width a b = overflows flags width (pos a +ℤ pos b) (signed width a +ℤ signed width b)
is_lost Sub flags width a b = overflows flags width (pos a -ℤ pos b) (signed width a -ℤ signed width b)
is_lost Mul flags width a b = overflows flags width (pos a *ℤ pos b) (signed width a *ℤ signed width b)
is_lost Shl flags width a b = is_far width b || overflows flags width (pos a *ℤ pos (2 ^ b)) (signed width a *ℤ pos (2 ^ b))
is_lost Udiv flags width a b = flags.exact && not (a % b == 0)
is_lost Sdiv flags width a b = flags.exact && not (unsigned_abs (int_rem (signed width a) (signed width b)) == 0)
is_lost Lshr flags width a b = is_far width b || (flags.exact && not (a % 2 ^ b == 0))
is_lost Ashr flags width a b = is_far width b || (flags.exact && not (a % 2 ^ b == 0))
is_lost Urem flags width a b = false
is_lost Srem flags width a b = false
is_lost And flags width a b = false
is_lost Or flags width a b = false
is_lost Xor flags width a b = false

-- the result of an operation on two numbers
abbrev pub computed : Bin → Flags → ℕ → ℕ → ℕ → Value
computed operation flags width a b = if is_lost operation flags width a b then Poison else Integer width (result_of operation width a b)

-- the result of an operation that isn't a division; that of poison is poison
abbrev pub combined : Bin → Flags → ℕ → Value → Value → Answer
combined operation flags width (Integer w a) (Integer u b) = Gives (computed operation flags width a b)
combined operation flags width x y = Gives Poison

-- whether a quotient has no number: that of the least number by -1, where numbers have signs
abbrev pub has_no_quotient : Bin → ℕ → ℕ → ℕ → Bool
has_no_quotient Sdiv width a b = a == 2 ^ (width - 1) && b == 2 ^ width - 1
has_no_quotient Srem width a b = a == 2 ^ (width - 1) && b == 2 ^ width - 1
has_no_quotient operation width a b = false

-- a division of a value by a number that isn't zero
abbrev pub divided_by : Bin → Flags → ℕ → Value → ℕ → Answer
divided_by operation flags width (Integer w a) b =
    if has_no_quotient operation width a b then Fails why.Divide else Gives (computed operation flags width a b)
divided_by operation flags width (Address q) b = Gives Poison
divided_by operation flags width Poison b = Gives Poison

-- a division. The divisor decides first: poison and zero are undefined behavior, whatever is divided
abbrev pub divided : Bin → Flags → ℕ → Value → Value → Answer
divided operation flags width x (Integer w b) = if b == 0 then Fails why.Divide else divided_by operation flags width x b
divided operation flags width x (Address q) = Fails why.Poison
divided operation flags width x Poison = Fails why.Poison

-- a binary operation on two values
abbrev pub binary : Bin → Flags → ℕ → Value → Value → Answer
binary Add flags width x y = combined Add flags width x y
binary Sub flags width x y = combined Sub flags width x y
binary Mul flags width x y = combined Mul flags width x y
binary Shl flags width x y = combined Shl flags width x y
binary Udiv flags width x y = divided Udiv flags width x y
binary Sdiv flags width x y = divided Sdiv flags width x y
binary Lshr flags width x y = combined Lshr flags width x y
binary Ashr flags width x y = combined Ashr flags width x y
binary Urem flags width x y = divided Urem flags width x y
binary Srem flags width x y = divided Srem flags width x y
binary And flags width x y = combined And flags width x y
binary Or flags width x y = combined Or flags width x y
binary Xor flags width x y = combined Xor flags width x y

-- whether a comparison of two numbers of a width holds
abbrev pub holds : Pred → ℕ → ℕ → ℕ → Bool
holds Eq width a b = a == b
holds Ne width a b = not (a == b)
holds Ugt width a b = nat_lt b a
holds Uge width a b = nat_le b a
holds Ult width a b = nat_lt a b
holds Ule width a b = nat_le a b
holds Sgt width a b = int_lt (signed width b) (signed width a)
holds Sge width a b = int_le (signed width b) (signed width a)
holds Slt width a b = int_lt (signed width a) (signed width b)
holds Sle width a b = int_le (signed width a) (signed width b)

-- the `i1` of a test: 1 where it holds, else 0
abbrev pub truth : Bool → Value
truth test = Integer 1 (if test then 1 else 0)

-- a number of one width as one of another: extended by zeros, extended by its sign, or cut off
abbrev pub converted : Conv → ℕ → ℕ → ℕ → ℕ
converted Zext from to n = n
converted Sext from to n = bits_of to (signed from n)
converted Trunc from to n = n % 2 ^ to
