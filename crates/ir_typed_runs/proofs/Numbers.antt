-- The numbers that operations make are below 2^width.
use Rattle.std.specs.Prelude.{◌≤◌, ◌<◌, ⊤, ℕ, zero, suc, ◌+◌, ◌-◌, ◌*◌, ◌/◌, ◌^◌, ℤ, pos, negsuc, List, [], ◌∷◌, take, map, Option, Some, None}
use Rattle.std.specs.Option.{option_map}
use Rattle.std.specs.Int.{byte_at, bytes_low_first}
use Rattle.std.specs.List.{AllByRecursion}
use Rattle.std.proofs.Common.{arith}
use Rattle.std.proofs.Math.Nat.{mod-lt, mod-le, div-le_self, pow-suc}
use Rattle.std.proofs.Math.Pow.{pow_mono}
use Rattle.std.proofs.lemmas.Nat.{pow_pos, and_le_l, or_lt, xor_lt}
use Rattle.ir_tree.specs.declared.module.Bin.{Bin}
use Rattle.ir_tree.specs.declared.module.Bin.TheVariants.{Add, Sub, Mul, Shl, Udiv, Sdiv, Lshr, Ashr, Urem, Srem, And, Or, Xor}
use Rattle.ir_tree.specs.declared.module.Conv.{Conv}
use Rattle.ir_tree.specs.declared.module.Conv.TheVariants.{Zext, Sext, Trunc}
use Rattle.ir_model.specs.Values.{Cell, Unknown, Byte, Part}
use Rattle.ir_model.specs.Memory.{number_in}
use Rattle.ir_model.specs.Integers.{signed, bits_of, result_of, converted}
use Rattle.ir_typed_runs.specs.Kinds.{IsCell, Converts}

pub bits_below : (width : ℕ) (z : ℤ) → bits_of width z < 2 ^ width
bits_below width (pos n) = mod-lt n (pow_pos width)
bits_below width (negsuc n) = omega (arith, pow_pos width)

pub result_below : (operation : Bin) (width a b : ℕ) → a < 2 ^ width → b < 2 ^ width → result_of operation width a b < 2 ^ width
result_below Add width a b la lb = mod-lt (a + b) (pow_pos width)
result_below Sub width a b la lb = mod-lt (a + (2 ^ width - b)) (pow_pos width)
result_below Mul width a b la lb = mod-lt (a * b) (pow_pos width)
result_below Shl width a b la lb = mod-lt (a * 2 ^ b) (pow_pos width)
result_below Udiv width a b la lb = omega (arith, div-le_self a b)
result_below Sdiv width a b la lb = bits_below width _
result_below Lshr width a b la lb = omega (arith, div-le_self a (2 ^ b))
result_below Ashr width a b la lb = bits_below width _
result_below Urem width a b la lb = omega (arith, mod-le a b)
result_below Srem width a b la lb = bits_below width _
result_below And width a b la lb = omega (arith, and_le_l a b)
result_below Or width a b la lb = or_lt width a b la lb
result_below Xor width a b la lb = xor_lt width a b la lb

pub converted_below : (conversion : Conv) (from to n : ℕ) → Converts conversion from to → n < 2 ^ from → converted conversion from to n < 2 ^ to
converted_below Zext from to n leads lt =
    let wide : from ≤ to = omega arith in
    omega (arith, pow_mono wide)
converted_below Sext from to n leads lt = bits_below to (signed from n)
converted_below Trunc from to n leads lt = mod-lt n (pow_pos to)

-- a number that is spelled by bytes, if they spell one, is below 256 to their count
abbrev pub IsBelow : ℕ → Option ℕ → Type 0
IsBelow bound None = ⊤
IsBelow bound (Some n) = n < bound

one_more : (n k : ℕ) (rest : Option ℕ) → n < 256 → IsBelow (256 ^ k) rest → IsBelow (256 ^ suc k) (option_map (λ high. n + 256 * high) rest)
one_more n k None lt below = tt
one_more n k (Some high) lt below = omega (arith, pow-suc 256 k)

positive : (k : ℕ) → 0 < 256 ^ k
positive zero = omega arith
positive (suc k) = omega (arith, positive k, pow-suc 256 k)

pub number_below : (blocks k : ℕ) (cells : List Cell) → AllByRecursion (IsCell blocks) cells → IsBelow (256 ^ k) (number_in (take k cells))
number_below blocks zero cells all = omega arith
number_below blocks (suc k) [] all = positive (suc k)
number_below blocks (suc k) (Unknown ∷ cells) all = tt
number_below blocks (suc k) (Byte n ∷ cells) all = one_more n k (number_in (take k cells)) all.0 (number_below blocks k cells all.1)
number_below blocks (suc k) (Part q j ∷ cells) all = tt

byte_below : (i n : ℕ) → byte_at i n < 256
byte_below zero n = mod-lt n (omega arith)
byte_below (suc i) n = mod-lt (n / 256 ^ suc i) (omega arith)

-- and the bytes of a number are bytes
pub bytes_below : (blocks i k n : ℕ) → AllByRecursion (IsCell blocks) (map Byte (bytes_low_first i k n))
bytes_below blocks i zero n = tt
bytes_below blocks i (suc k) n = (byte_below i n, bytes_below blocks (suc i) k n)
