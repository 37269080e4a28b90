-- What is known of the data after a store.
use Rattle.std.specs.Prelude.{ℕ, ◌/◌, ◌==◌, if◌then◌else◌}
use Rattle.rv_flips.specs.Cells.{Cell}
use Rattle.rv_flips.specs.Assertion.{KnownByte, AnyByte, Assertion, with_register}

-- what is known of single bytes after word k of the data is written: nothing of its eight
unfoldable pub without_bytes : (ℕ → KnownByte) → ℕ → ℕ → KnownByte
without_bytes bytes k o = if o / 8 == k then AnyByte else bytes o

-- what is known at the address p after word k of the data is written
abbrev pub after_store : Assertion → ℕ → Cell → ℕ → Assertion
after_store c k cell p = record c { pc = p; slots = with_register c.slots k cell; bytes = without_bytes c.bytes k }
