-- How the bytes of memory are kept: a slot for each.
use Rattle.std.specs.Prelude.{◌≡◌, ◌≤◌, ⊤, ℕ, zero, suc, ◌+◌, ◌*◌, ◌^◌, ◌<◌, ◌==◌, ◌&&◌, Bool, true, if◌then◌else◌, List, [], ◌∷◌, length}
use Rattle.std.specs.Int.{byte_at}
use Rattle.std.specs.Simd.Lanes.{chunk}
use Rattle.ir_model.specs.Values.{Pointer, Value, Integer, Address, Poison, Cell, Unknown, Byte, Part, is_null}
use Rattle.ir_model.specs.Memory.{parts_from}
use Rattle.mem_cells.specs.declared.slots.Slot.{Slot}

-- the number that bytes of slots spell, the first of them its lowest
abbrev pub word_of : (Slot → ℕ) → List Slot → ℕ
word_of byte [] = 0
word_of byte (s ∷ slots) = byte s + 256 * word_of byte slots

-- whether slots keep the parts of an address in order, from part k on
abbrev pub are_in_order : ℕ → List Slot → Bool
are_in_order k [] = true
are_in_order k (s ∷ slots) = s.kind == 2 + k && are_in_order (suc k) slots

-- the address whose bytes slots keep
abbrev pub pointer_in : List Slot → Pointer
pointer_in slots = record { block = word_of (λ s. s.high) slots; offset = word_of (λ s. s.low) slots }

-- a slot keeps a byte: that it is poison, its number, or which part it is, of whatever address
abbrev pub Keeps : Slot → Cell → Type 0
Keeps s Unknown = s.kind ≡ 0
Keeps s (Byte n) = (s.kind ≡ 1) × (s.low ≡ n)
Keeps s (Part q k) = s.kind ≡ 2 + k

-- each slot keeps the byte at its place
abbrev pub KeepEach : List Slot → List Cell → Type 0
KeepEach [] [] = ⊤
KeepEach [] (c ∷ cells) = ⊥
KeepEach (s ∷ slots) [] = ⊥
KeepEach (s ∷ slots) (c ∷ cells) = Keeps s c × KeepEach slots cells

-- eight slots that keep the parts of an address in order keep the address
abbrev pub KeepAddress : List Slot → List Cell → Type 0
KeepAddress slots cells = are_in_order 0 slots ≡ true → cells ≡ parts_from 0 8 (pointer_in slots)

-- a slot that has byte k of two words, and whose kind is k steps above the first
abbrev pub slot_in : (first step low high k : ℕ) → Slot
slot_in first step low high k = record { kind = first + step * k; low = byte_at k low; high = byte_at k high }

-- a slot that keeps a number
abbrev pub byte_slot : ℕ → Slot
byte_slot n = record { kind = 1; low = n; high = 0 }

-- so many slots, from number k on
abbrev pub slots_from : (ℕ → Slot) → (k count : ℕ) → List Slot
slots_from slot k zero = []
slots_from slot k (suc count) = slot k ∷ slots_from slot (suc k) count

-- the slots in which a value is kept
abbrev pub kept_slots : Value → List Slot
kept_slots (Integer width n) = slots_from (slot_in 1 0 n 0) 0 8
kept_slots (Address q) = if is_null q then slots_from (slot_in 1 0 0 0) 0 8 else slots_from (slot_in 2 1 q.offset q.block) 0 8
kept_slots Poison = slots_from (slot_in 0 0 0 0) 0 8

-- the numbers of an address are those of words
abbrev pub HasWords : Value → Type 0
HasWords (Integer width n) = ⊤
HasWords (Address q) = (q.block < 2 ^ 64) × (q.offset < 2 ^ 64)
HasWords Poison = ⊤

-- slots keep the bytes of a block
pub record KeepCells (slots : List Slot) (cells : List Cell) : Type 0 where
  pub each : KeepEach slots cells
  pub whole : (o : ℕ) → o + 8 ≤ length slots → KeepAddress (chunk o 8 slots) (chunk o 8 cells)
