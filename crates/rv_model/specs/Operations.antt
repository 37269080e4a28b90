-- The operations of RV64I and M on words of 64 bits (RISC-V Unprivileged ISA), and the tables of the instructions that compute, branch,
-- load and store: a line an instruction.
use Rattle.std.specs.Prelude.{ℕ, ℤ, pos, ◌*ℤ◌, Bool, false, not, ◌+◌, ◌-◌, ◌*◌, ◌/◌, ◌%◌, ◌^◌, nat_lt, nat_le, ◌==◌, int_lt, int_le, int_div, int_rem, if◌then◌else◌, bit_and, bit_or, bit_xor}
use Rattle.std.specs.Int.{w32, w64, cast_signed, int_shr}
use Rattle.rv_inst.specs.declared.table.Kind.{Kind}
use Rattle.rv_inst.specs.declared.table.Kind.TheVariants.{OpBeq, OpBne, OpBlt, OpBge, OpBltu, OpBgeu, OpLb, OpLh, OpLw, OpLd, OpLbu, OpLhu, OpLwu, OpSb, OpSh, OpSw, OpSd, OpAddi, OpSlti, OpSltiu, OpXori, OpOri, OpAndi, OpSlli, OpSrli, OpSrai, OpAdd, OpSub, OpSll, OpSlt, OpSltu, OpXor, OpSrl, OpSra, OpOr, OpAnd, OpAddiw, OpSlliw, OpSrliw, OpSraiw, OpAddw, OpSubw, OpSllw, OpSrlw, OpSraw, OpMul, OpMulh, OpMulhsu, OpMulhu, OpDiv, OpDivu, OpRem, OpRemu, OpMulw, OpDivw, OpDivuw, OpRemw, OpRemuw, OpLui, OpAuipc, OpJal, OpJalr, OpEcall}
use Rattle.rv_inst.specs.Format.{bits_of, unsigned}
use Rattle.rv_model.specs.State.{plus64}

-- the 64 bits of a signed number
abbrev pub bits64 : ℤ → ℕ
bits64 z = bits_of (2 ^ 63) z

-- its 32 bits
abbrev pub bits32 : ℤ → ℕ
bits32 z = bits_of (2 ^ 31) z

-- the signed number that 64 bits mean
abbrev pub signed64 : ℕ → ℤ
signed64 a = cast_signed w64 a

-- the signed number that the low 32 bits mean
abbrev pub signed32 : ℕ → ℤ
signed32 a = cast_signed w32 (a % 2 ^ 32)

-- the 64 bits of a number of 2 * half values, extended by its sign
abbrev pub sign_extended : ℕ → ℕ → ℕ
sign_extended half n = if nat_lt n half then n else n + 2 ^ 64 - 2 * half

-- the low 32 bits, extended by their sign
abbrev pub word32 : ℕ → ℕ
word32 a = sign_extended (2 ^ 31) (a % 2 ^ 32)

-- the value of LUI: its 20 bits above 12 zeros, extended by their sign
abbrev pub upper_value : ℤ → ℕ
upper_value imm = sign_extended (2 ^ 31) (2 ^ 12 * unsigned imm)

-- a difference of 64 bits
abbrev pub minus64 : ℕ → ℕ → ℕ
minus64 a b = (a + (2 ^ 64 - b)) % 2 ^ 64

-- signed comparison
abbrev pub less_signed : ℕ → ℕ → Bool
less_signed a b = int_lt (signed64 a) (signed64 b)

-- 1 where a test holds, and else 0
abbrev pub truth : Bool → ℕ
truth test = if test then 1 else 0

-- without bit 0
abbrev pub even_part : ℕ → ℕ
even_part a = a - a % 2

-- shifted to the left by the low six bits of an amount
abbrev pub shifted_left : ℕ → ℕ → ℕ
shifted_left a amount = a * 2 ^ (amount % 64) % 2 ^ 64

-- shifted to the right by them, with zeros
abbrev pub shifted_right : ℕ → ℕ → ℕ
shifted_right a amount = a / 2 ^ (amount % 64)

-- shifted to the right by them, with the sign
abbrev pub shifted_signed : ℕ → ℕ → ℕ
shifted_signed a amount = bits64 (int_shr (signed64 a) (amount % 64))

-- a sum of the low 32 bits, extended by its sign
abbrev pub plus32 : ℕ → ℕ → ℕ
plus32 a b = word32 (plus64 a b)

-- a difference of the low 32 bits, extended by its sign
abbrev pub minus32 : ℕ → ℕ → ℕ
minus32 a b = word32 (minus64 a b)

-- the low 32 bits shifted to the left by the low five bits of an amount, and extended by their sign
abbrev pub shifted_left32 : ℕ → ℕ → ℕ
shifted_left32 a amount = word32 (shifted_left a (amount % 32))

-- the low 32 bits shifted to the right by them, with zeros, and extended by their sign
abbrev pub shifted_right32 : ℕ → ℕ → ℕ
shifted_right32 a amount = word32 (a % 2 ^ 32 / 2 ^ (amount % 32))

-- the low 32 bits shifted to the right by them, with the sign
abbrev pub shifted_signed32 : ℕ → ℕ → ℕ
shifted_signed32 a amount = bits64 (int_shr (signed32 a) (amount % 32))

-- the lowest 64 bits of a product
abbrev pub times64 : ℕ → ℕ → ℕ
times64 a b = a * b % 2 ^ 64

-- the lowest 32 bits of a product, extended by their sign
abbrev pub times32 : ℕ → ℕ → ℕ
times32 a b = word32 (times64 a b)

-- all bits set: the quotient of a division by zero
abbrev pub all_ones : ℕ
all_ones = 2 ^ 64 - 1

-- the signed quotient, rounded toward zero; that of the least number by -1 is 2 ^ 63, whose bits are the dividend's
abbrev pub quotient : ℕ → ℕ → ℕ
quotient a b = if b == 0 then all_ones else bits64 (int_div (signed64 a) (signed64 b))

-- the unsigned quotient
abbrev pub quotient_unsigned : ℕ → ℕ → ℕ
quotient_unsigned a b = if b == 0 then all_ones else a / b

-- the signed remainder, with the dividend's sign; a division by zero leaves the dividend
abbrev pub remainder : ℕ → ℕ → ℕ
remainder a b = if b == 0 then a else bits64 (int_rem (signed64 a) (signed64 b))

-- the unsigned remainder
abbrev pub remainder_unsigned : ℕ → ℕ → ℕ
remainder_unsigned a b = if b == 0 then a else a % b

-- the signed quotient of the low 32 bits, extended by its sign
abbrev pub quotient32 : ℕ → ℕ → ℕ
quotient32 a b = if b % 2 ^ 32 == 0 then all_ones else sign_extended (2 ^ 31) (bits32 (int_div (signed32 a) (signed32 b)))

-- the unsigned quotient of the low 32 bits, extended by its sign
abbrev pub quotient_unsigned32 : ℕ → ℕ → ℕ
quotient_unsigned32 a b = if b % 2 ^ 32 == 0 then all_ones else word32 (a % 2 ^ 32 / (b % 2 ^ 32))

-- the signed remainder of the low 32 bits, extended by its sign
abbrev pub remainder32 : ℕ → ℕ → ℕ
remainder32 a b = if b % 2 ^ 32 == 0 then word32 a else sign_extended (2 ^ 31) (bits32 (int_rem (signed32 a) (signed32 b)))

-- the unsigned remainder of the low 32 bits, extended by its sign
abbrev pub remainder_unsigned32 : ℕ → ℕ → ℕ
remainder_unsigned32 a b = if b % 2 ^ 32 == 0 then word32 a else word32 (a % 2 ^ 32 % (b % 2 ^ 32))

-- the upper 64 bits of a product of signed numbers
abbrev pub high_signed : ℕ → ℕ → ℕ
high_signed a b = bits64 (int_shr (signed64 a *ℤ signed64 b) 64)

-- the upper 64 bits of a product, of which the first number is signed and the second unsigned
abbrev pub high_mixed : ℕ → ℕ → ℕ
high_mixed a b = bits64 (int_shr (signed64 a *ℤ pos b) 64)

-- the upper 64 bits of a product of unsigned numbers
abbrev pub high_unsigned : ℕ → ℕ → ℕ
high_unsigned a b = a * b / 2 ^ 64

-- what an instruction that computes makes of rs1 and of rs2 or its immediate; the others, which stand last, compute nothing
abbrev pub operation : Kind → ℕ → ℕ → ℕ
operation OpAddi a b = plus64 a b
operation OpSlti a b = truth (less_signed a b)
operation OpSltiu a b = truth (nat_lt a b)
operation OpXori a b = bit_xor a b
operation OpOri a b = bit_or a b
operation OpAndi a b = bit_and a b
operation OpSlli a b = shifted_left a b
operation OpSrli a b = shifted_right a b
operation OpSrai a b = shifted_signed a b
operation OpAdd a b = plus64 a b
operation OpSub a b = minus64 a b
operation OpSll a b = shifted_left a b
operation OpSlt a b = truth (less_signed a b)
operation OpSltu a b = truth (nat_lt a b)
operation OpXor a b = bit_xor a b
operation OpSrl a b = shifted_right a b
operation OpSra a b = shifted_signed a b
operation OpOr a b = bit_or a b
operation OpAnd a b = bit_and a b
operation OpAddiw a b = plus32 a b
operation OpSlliw a b = shifted_left32 a b
operation OpSrliw a b = shifted_right32 a b
operation OpSraiw a b = shifted_signed32 a b
operation OpAddw a b = plus32 a b
operation OpSubw a b = minus32 a b
operation OpSllw a b = shifted_left32 a b
operation OpSrlw a b = shifted_right32 a b
operation OpSraw a b = shifted_signed32 a b
operation OpMul a b = times64 a b
operation OpMulh a b = high_signed a b
operation OpMulhsu a b = high_mixed a b
operation OpMulhu a b = high_unsigned a b
operation OpDiv a b = quotient a b
operation OpDivu a b = quotient_unsigned a b
operation OpRem a b = remainder a b
operation OpRemu a b = remainder_unsigned a b
operation OpMulw a b = times32 a b
operation OpDivw a b = quotient32 a b
operation OpDivuw a b = quotient_unsigned32 a b
operation OpRemw a b = remainder32 a b
operation OpRemuw a b = remainder_unsigned32 a b
operation OpLui a b = 0
operation OpAuipc a b = 0
operation OpJal a b = 0
operation OpJalr a b = 0
operation OpBeq a b = 0
operation OpBne a b = 0
operation OpBlt a b = 0
operation OpBge a b = 0
operation OpBltu a b = 0
operation OpBgeu a b = 0
operation OpLb a b = 0
operation OpLh a b = 0
operation OpLw a b = 0
operation OpLd a b = 0
operation OpLbu a b = 0
operation OpLhu a b = 0
operation OpLwu a b = 0
operation OpSb a b = 0
operation OpSh a b = 0
operation OpSw a b = 0
operation OpSd a b = 0
operation OpEcall a b = 0

-- whether a branch is taken, by rs1 and rs2; no other instruction is a branch
abbrev pub is_taken : Kind → ℕ → ℕ → Bool
is_taken OpBeq a b = a == b
is_taken OpBne a b = not (a == b)
is_taken OpBlt a b = less_signed a b
is_taken OpBge a b = int_le (signed64 b) (signed64 a)
is_taken OpBltu a b = nat_lt a b
is_taken OpBgeu a b = nat_le b a
is_taken _ a b = false

-- how many bytes a load or a store moves; no other instruction moves any
abbrev pub width : Kind → ℕ
width OpLb = 1
width OpLh = 2
width OpLw = 4
width OpLd = 8
width OpLbu = 1
width OpLhu = 2
width OpLwu = 4
width OpSb = 1
width OpSh = 2
width OpSw = 4
width OpSd = 8
width _ = 0

-- the 64 bits that a load makes of the number of its bytes: LB, LH and LW extend it by its sign, the others by zeros
abbrev pub extended : Kind → ℕ → ℕ
extended OpLb n = sign_extended (2 ^ 7) n
extended OpLh n = sign_extended (2 ^ 15) n
extended OpLw n = sign_extended (2 ^ 31) n
extended _ n = n
