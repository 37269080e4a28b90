-- The vote on the stack pointer, and loads and stores of the frame's slots, near and far. Slot n of the frame is word base + n of the data.
use Rattle.std.specs.Prelude.{◌≡◌, ◌≢◌, ◌+◌, ◌*◌, ◌/◌, ◌<◌, ◌≤◌, ◌-ℤ◌, nat_lt, Bool, if◌then◌else◌, ℕ, ℤ, pos, IsTrue, List, [], ◌∷◌, ◌++◌, Option, None}
use Rattle.rv_inst.specs.declared.instruction.Form.{Form}
use Rattle.rv_inst.specs.declared.instruction.Form.TheVariants.{LUI, ADDI, ADD, BEQ, LD, SD}
use Rattle.rv_model.specs.State.{plus64}
use Rattle.rv_model.specs.Operations.{bits64, upper_value}
use Rattle.rv_flips.specs.Cells.{Has, Sure}
use Rattle.rv_flips.specs.Assertion.{with_register, after_write}
use Rattle.flip_words.specs.Memory.{without_bytes}
use Rattle.flip_words.specs.Placed.{WindowPoints, Excepted, Carries}
use Rattle.flip_words.specs.Words.{slot_address}
use Rattle.flip_frames.specs.Views.{Stage, View, IsView, Runs, version, is_scratch, at_address, with_scratch}

-- the first copy of the stack pointer is right after these words: where the first two differ the third one is taken
abbrev pub vote_words : List Form
vote_words = BEQ 2 3 (pos 8) ∷ ADDI 2 4 (pos 0) ∷ []

-- the vote makes x2 right for sure, and leaves all else
abbrev pub VotesHold : Type 0
VotesHold = (words : List ℕ) (v : View) (p : ℕ) → IsView v
    → Carries words (Excepted WindowPoints words) vote_words (at_address v p)
    (after_write (at_address v p) 2 (Has Sure (slot_address v.stage.base)) (p + 8))

-- slot n comes into r; and r goes to slot n
abbrev pub near_load : ℕ → ℕ → List Form
near_load r n = vote_words ++ LD r 2 (pos (8 * n)) ∷ []

abbrev pub near_store : ℕ → ℕ → List Form
near_store r n = vote_words ++ SD 2 r (pos (8 * n)) ∷ []

-- the stack pointer with an upper part added comes into x28, by two copies that are compared, else by the third
abbrev pub far_address : ℤ → List Form
far_address high = LUI 28 high ∷ ADD 28 28 2 ∷ LUI 29 high ∷ ADD 29 29 3 ∷ BEQ 28 29 (pos 12) ∷ LUI 28 high ∷ ADD 28 28 4 ∷ []

abbrev pub far_load : ℕ → ℤ → ℤ → List Form
far_load r high low = far_address high ++ LD r 28 low ∷ []

abbrev pub far_store : ℕ → ℤ → ℤ → List Form
far_store r high low = far_address high ++ SD 28 r low ∷ []

-- the upper and the lower part of the offset of slot n
abbrev pub IsOffset : ℤ → ℤ → ℕ → Type 0
IsOffset high low n = plus64 (upper_value high) (bits64 low) ≡ 8 * n

-- slot n of the frame lies in the data
abbrev pub IsInData : View → ℕ → Type 0
IsInData v n = 8 * (v.stage.base + n) + 8 ≤ v.stage.size

-- the stage after slot n was written
abbrev pub stage_keeps : Stage → ℕ → Option ℕ → View → Stage
stage_keeps g n o v = record g { slots = with_register g.slots (g.base + n) (version v.tag o); bytes = without_bytes g.bytes (g.base + n) }

abbrev pub with_slot : View → ℕ → Option ℕ → View
with_slot v n o = record v { stage = stage_keeps v.stage n o v }

-- a version is loaded into a scratch register
abbrev pub NearSlotsAreLoaded : Type 0
NearSlotsAreLoaded = (words : List ℕ) (v : View) (r n : ℕ) (o : Option ℕ) → IsTrue (is_scratch r) → IsInData v n
    → v.stage.slots (v.stage.base + n) ≡ version v.tag o → Runs words (near_load r n) v (with_scratch v r o)

-- a version is stored from a scratch register
abbrev pub NearSlotsAreStored : Type 0
NearSlotsAreStored = (words : List ℕ) (v : View) (r n : ℕ) → IsTrue (is_scratch r) → IsInData v n
    → Runs words (near_store r n) v (with_slot v n (v.file r))

-- x28 and x29 are used up
abbrev pub far_view : View → View
far_view v = with_scratch (with_scratch v 28 None) 29 None

-- the same of slots at any offset
abbrev pub FarSlotsAreLoaded : Type 0
FarSlotsAreLoaded = (words : List ℕ) (v : View) (r n : ℕ) (high low : ℤ) (o : Option ℕ) → IsTrue (is_scratch r) → IsInData v n
    → IsOffset high low n → v.stage.slots (v.stage.base + n) ≡ version v.tag o
    → Runs words (far_load r high low) v (with_scratch (far_view v) r o)

abbrev pub FarSlotsAreStored : Type 0
FarSlotsAreStored = (words : List ℕ) (v : View) (r n : ℕ) (high low : ℤ) → IsTrue (is_scratch r) → r ≢ 28 → r ≢ 29 → IsInData v n
    → IsOffset high low n → Runs words (far_store r high low) v (with_slot (far_view v) n (v.file r))

-- the parts of the offset of slot n, of which the lower one is signed
abbrev pub far_high : ℕ → ℤ
far_high n = pos ((8 * n + 2048) / 4096)

abbrev pub far_low : ℕ → ℤ
far_low n = pos (8 * n) -ℤ pos (4096 * ((8 * n + 2048) / 4096))

-- slot n is near where its offset fits into a load
abbrev pub is_near : ℕ → Bool
is_near n = nat_lt n 256

-- slot n comes into r, and r goes to slot n, wherever the slot is
abbrev pub any_load : ℕ → ℕ → List Form
any_load r n = if is_near n then near_load r n else far_load r (far_high n) (far_low n)

abbrev pub any_store : ℕ → ℕ → List Form
any_store r n = if is_near n then near_store r n else far_store r (far_high n) (far_low n)

-- the same of any slot
abbrev pub AnySlotsAreLoaded : Type 0
AnySlotsAreLoaded = (words : List ℕ) (v : View) (r n : ℕ) (o : Option ℕ) → IsTrue (is_scratch r) → n < 0x800_0000 → IsInData v n
    → v.stage.slots (v.stage.base + n) ≡ version v.tag o → Runs words (any_load r n) v (with_scratch (far_view v) r o)

abbrev pub AnySlotsAreStored : Type 0
AnySlotsAreStored = (words : List ℕ) (v : View) (r n : ℕ) → IsTrue (is_scratch r) → r ≢ 28 → r ≢ 29 → n < 0x800_0000 → IsInData v n
    → Runs words (any_store r n) v (with_slot (far_view v) n (v.file r))
