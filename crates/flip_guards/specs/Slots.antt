-- Slots of the frame, near or far, that come into any register or go from it, while the other registers keep what they keep.
use Rattle.std.specs.Prelude.{◌≡◌, ◌≢◌, ℕ, ◌+◌, ◌*◌, ◌<◌, ◌≤◌, List, [], length, Option}
use Rattle.rv_flips.specs.Cells.{Tag, Free, Has, Sure, One, Two, Three}
use Rattle.rv_flips.specs.Assertion.{Assertion, after_write}
use Rattle.rv_flips.specs.Known.{Sures}
use Rattle.flip_words.specs.Memory.{after_store}
use Rattle.flip_words.specs.Placed.{WindowPoints, Excepted, Carries}
use Rattle.flip_words.specs.Words.{slot_address}
use Rattle.flip_frames.specs.Views.{version}
use Rattle.flip_frames.specs.Slots.{any_load, any_store}

-- the frame begins at this word of the data: x2 to x4 have the copies of the stack pointer, and nothing but x0 is kept for sure; no
-- address in the data wraps around
pub record IsFramed (c : Assertion) (base : ℕ) : Type 0 where
  pub zero : c.regs 0 ≡ Has Sure 0
  pub one : c.regs 2 ≡ Has One (slot_address base)
  pub two : c.regs 3 ≡ Has Two (slot_address base)
  pub three : c.regs 4 ≡ Has Three (slot_address base)
  pub sures : Sures c.regs []
  pub size : c.size ≤ 0x4000_0000
  pub frame : 8 * base ≤ 0x4000_0000

-- slot n of that frame lies in the data, and its offset is one of 30 bits
pub record IsReached (c : Assertion) (base n : ℕ) : Type 0 where
  pub within : 8 * (base + n) + 8 ≤ c.size
  pub small : n < 0x800_0000

-- x28 and x29 are used up
abbrev pub used_up : Assertion → ℕ → Assertion
used_up c p = after_write (after_write c 28 Free p) 29 Free p

-- slot n comes into register r, which then keeps what the slot keeps
abbrev pub SlotsComeIn : Type 0
SlotsComeIn = (words : List ℕ) (c : Assertion) (base r n : ℕ) (tag : Tag) (o : Option ℕ) → IsFramed c base → IsReached c base n
    → c.slots (base + n) ≡ version tag o → 4 < r
    → Carries words (Excepted WindowPoints words) (any_load r n) c
    (after_write (used_up c (c.pc + 4 * length (any_load r n))) r (version tag o) (c.pc + 4 * length (any_load r n)))

-- slot n keeps what register r keeps
abbrev pub SlotsTakeUp : Type 0
SlotsTakeUp = (words : List ℕ) (c : Assertion) (base r n : ℕ) → IsFramed c base → IsReached c base n → 4 < r → r ≢ 28 → r ≢ 29
    → Carries words (Excepted WindowPoints words) (any_store r n) c
    (after_store (used_up c (c.pc + 4 * length (any_store r n))) (base + n) (c.regs r) (c.pc + 4 * length (any_store r n)))
