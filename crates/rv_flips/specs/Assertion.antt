-- What is known of the machine's state at an address of the text.
use Rattle.std.specs.Prelude.{◌≡◌, ℕ, ◌+◌, ◌*◌, ◌<◌, ◌^◌, ◌==◌, List, length, slice_index, slice_range, if◌then◌else◌}
use Rattle.byteorder.specs.Endian.{little_number}
use Rattle.rv_model.specs.State.{MachineState, register}
use Rattle.rv_model.specs.Text.{layout}
use Rattle.rv_flips.specs.Cells.{Cell, Damage, Holds, SaysLess}

-- what is known of a byte of the data: nothing, or that it has this value whatever is damaged
pub data KnownByte : Type 0 where
  AnyByte : KnownByte
  IsByte : (value : ℕ) → KnownByte

-- what is known when the machine comes to an address: what each register holds, what the data hold by words of eight bytes, of which
-- word k is the bytes 8 k to 8 k + 7, which single bytes are known, how many bytes the data have, the input not yet read, and the output
-- so far
pub record Assertion : Type 0 where
  pub pc : ℕ
  pub regs : ℕ → Cell
  pub slots : ℕ → Cell
  pub bytes : ℕ → KnownByte
  pub size : ℕ
  pub input : List ℕ
  pub out : List ℕ

-- the number in the eight bytes at an offset
abbrev pub number_at : ℕ → List ℕ → ℕ
number_at offset place = little_number 8 (slice_range place offset (offset + 8))

-- each word of eight bytes holds what it is known to hold
abbrev pub SlotsHold : (ℕ → Cell) → Damage → List ℕ → Type 0
SlotsHold slots damage place = (k : ℕ) → Holds (slots k) damage (number_at (8 * k) place)

-- x is what is known of the byte
abbrev pub HoldsByte : KnownByte → ℕ → Type 0
HoldsByte AnyByte x = Unit {0}
HoldsByte (IsByte v) x = x ≡ v

-- each byte is what is known of it
abbrev pub BytesHold : (ℕ → KnownByte) → List ℕ → Type 0
BytesHold bytes place = (o : ℕ) → HoldsByte (bytes o) (slice_index place o)

-- the numbers are bytes
abbrev pub AreBytes : List ℕ → Type 0
AreBytes place = (o : ℕ) → slice_index place o < 2 ^ 8

-- a state meets an assertion with this damage: all that it says holds, but for what the damage takes away
pub record Meets (words : List ℕ) (c : Assertion) (damage : Damage) (s : MachineState) : Type 0 where
  pub data_bytes : List ℕ
  pub pc : s.pc ≡ c.pc
  pub regs : (q : ℕ) → Holds (c.regs q) damage (register s q)
  pub wide : (q : ℕ) → register s q < 2 ^ 64
  pub count : length s.regs ≡ 32
  pub segments : s.segments ≡ layout words data_bytes
  pub size : length data_bytes ≡ c.size
  pub small : AreBytes data_bytes
  pub slots : SlotsHold c.slots damage data_bytes
  pub bytes : BytesHold c.bytes data_bytes
  pub input : s.input ≡ c.input
  pub out : s.out ≡ c.out

-- what is known of places, as of registers, after the place d is written
unfoldable pub with_register : (ℕ → Cell) → ℕ → Cell → ℕ → Cell
with_register regs d cell q = if q == d then cell else regs q

-- what is known at the address p after register d is written
abbrev pub after_write : Assertion → ℕ → Cell → ℕ → Assertion
after_write c d cell p = record c { pc = p; regs = with_register c.regs d cell }

-- a second byte says no more than a first one
abbrev pub ByteSaysLess : KnownByte → KnownByte → Type 0
ByteSaysLess more less = (x : ℕ) → HoldsByte more x → HoldsByte less x

-- a second assertion at the same address says no more than a first one, of each register, each word and each byte of the data
pub record KnowsLess (more less : Assertion) : Type 0 where
  pub pc : less.pc ≡ more.pc
  pub regs : (q : ℕ) → SaysLess (more.regs q) (less.regs q)
  pub slots : (k : ℕ) → SaysLess (more.slots k) (less.slots k)
  pub bytes : (o : ℕ) → ByteSaysLess (more.bytes o) (less.bytes o)
  pub size : less.size ≡ more.size
  pub input : less.input ≡ more.input
  pub out : less.out ≡ more.out
