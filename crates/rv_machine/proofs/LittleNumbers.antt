-- The number of bytes is below a power of 256.
use Rattle.std.proofs.Common.{◌≡◌, ℕ, zero, suc, ◌*◌, ◌<◌, ◌^◌, List, slice_index, arith}
use Rattle.std.proofs.Math.Nat.{pow-suc}
use Rattle.byteorder.specs.Endian.{little_from}

pub little_from-below : (i n : ℕ) (xs : List ℕ) → ((k : ℕ) → slice_index xs k < 256) → little_from i n xs < 256 ^ n
little_from-below i zero xs small = omega arith
little_from-below i (suc n) xs small =
    let rest : little_from (suc i) n xs < 256 ^ n = little_from-below (suc i) n xs small in
    let first : slice_index xs i < 256 = small i in
    let power : 256 ^ suc n ≡ 256 ^ n * 256 = pow-suc 256 n in
    omega arith
