-- Numbers in memory.
use Rattle.std.specs.Prelude.{◌≡◌, ℕ, ◌^◌, ◌<◌, List, Option, Some}
use Rattle.byteorder.specs.Endian.{little_number}

-- there are bytes, and this is their number, the lowest first
pub record HasNumber (number count : ℕ) (found : Option (List ℕ)) : Type 0 where
  pub bytes : List ℕ
  pub there : found ≡ Some bytes
  pub value : number ≡ little_number count bytes
  pub bound : number < 256 ^ count
