-- What is known of the bytes of the data: the number of some of them, and what a store of some of them leaves.
use Rattle.std.specs.Prelude.{ℕ, zero, suc, ◌+◌, ◌-◌, ◌*◌, nat_le, nat_lt, ◌&&◌, ◌||◌, if◌then◌else◌, Option, Some, None}
use Rattle.std.specs.Int.{byte_at}
use Rattle.rv_flips.specs.Cells.{Cell, Free}
use Rattle.rv_flips.specs.Assertion.{KnownByte, AnyByte, IsByte, Assertion}

-- a lowest byte before the number of the others, where both are known
abbrev pub lowest_first : KnownByte → Option ℕ → Option ℕ
lowest_first AnyByte rest = None
lowest_first (IsByte b) None = None
lowest_first (IsByte b) (Some rest) = Some (b + 256 * rest)

-- the number of n bytes from the offset o, the lowest first, where all are known
abbrev pub known_number : (ℕ → KnownByte) → ℕ → ℕ → Option ℕ
known_number bytes o zero = Some 0
known_number bytes o (suc n) = lowest_first (bytes o) (known_number bytes (suc o) n)

-- what is known of byte j of a value, counted from its lowest one
abbrev pub value_byte : Option ℕ → ℕ → KnownByte
value_byte None j = AnyByte
value_byte (Some v) j = IsByte (byte_at j v)

-- what is known of single bytes after the lowest n bytes of a value were stored at the offset o
unfoldable pub with_bytes : (ℕ → KnownByte) → ℕ → ℕ → Option ℕ → ℕ → KnownByte
with_bytes bytes o n value q = if nat_le o q && nat_lt q (o + n) then value_byte value (q - o) else bytes q

-- what is known of words of eight bytes after n bytes were stored at the offset o: nothing of those of which a byte was stored
unfoldable pub without_slots : (ℕ → Cell) → ℕ → ℕ → ℕ → Cell
without_slots slots o n k = if nat_le (8 * k + 8) o || nat_le (o + n) (8 * k) then slots k else Free

-- what is known at the address p after that store
abbrev pub after_bytes : Assertion → ℕ → ℕ → Option ℕ → ℕ → Assertion
after_bytes c o n value p = record c { pc = p; slots = without_slots c.slots o n; bytes = with_bytes c.bytes o n value }
