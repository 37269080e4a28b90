-- Whole texts under one flip, from moves between their places: a text begins with the copies of the stack pointer, goes on by moves, as
-- many as it takes, also over the same words again, and ends.
use Rattle.std.specs.Prelude.{◌≡◌, ℕ, suc, ◌+◌, ◌*◌, ◌<◌, ◌≤◌, ◌^◌, List, ◌++◌, length, replicate, Some, None, All}
use Rattle.rv_inst.specs.declared.instruction.Form.{Form}
use Rattle.rv_inst.specs.Window.{IsWindowPoint}
use Rattle.rv_model.specs.Text.{text_base}
use Rattle.rv_model.specs.Start.{program_image}
use Rattle.rv_flips.specs.Cells.{One}
use Rattle.rv_flips.specs.Assertion.{Assertion, KnowsLess}
use Rattle.rv_flips.specs.Moves.{Moves, Finishes}
use Rattle.rv_flips.specs.Survives.{IsListed, Survives}
use Rattle.flip_words.specs.Placed.{WindowPoints, Excepted, IsPlaced}
use Rattle.flip_words.specs.Words.{slot_address}
use Rattle.flip_frames.specs.Views.{View, IsView, Runs, at_address}
use Rattle.flip_versions.specs.Operations.{resting}
use Rattle.flip_guards.specs.Sources.{Part, part_words, made}
use Rattle.flip_programs.specs.Programs.{start_stage}

-- a sequence that stands somewhere moves from one view to another
abbrev pub SequencesMove : Type 0
SequencesMove = (words : List ℕ) (code : List Form) (v w : View) (p : ℕ) → Runs words code v w → IsView v → IsPlaced words p code
    → Moves words (Excepted WindowPoints words) (at_address v p) (length code) (at_address w (p + 4 * length code))

-- what is known after each of n moves, of which each takes at most so many instructions
abbrev pub IsWay : List ℕ → (ℕ → Assertion) → ℕ → ℕ → Type 0
IsWay words known n cost = (k : ℕ) → k < n → Moves words (Excepted WindowPoints words) (known k) cost (known (suc k))

-- a way and an end are an end
abbrev pub WaysEnd : Type 0
WaysEnd = (words : List ℕ) (known : ℕ → Assertion) (n cost m : ℕ) (out : List ℕ) (status : ℕ) → IsWay words known n cost
    → Finishes words (Excepted WindowPoints words) (known n) m out status
    → Finishes words (Excepted WindowPoints words) (known 0) (n * cost + m) out status

-- a relation between the number of moves so far and what is known: from wherever it holds, a move leads to where it holds for one more
abbrev pub IsKept : List ℕ → (ℕ → Assertion → Type 0) → ℕ → ℕ → Type 0
IsKept words holds n cost = (k : ℕ) (c : Assertion) → k < n → holds k c
    → (d : Assertion) × holds (suc k) d × Moves words (Excepted WindowPoints words) c cost d

-- where it holds after n moves an end follows, and it holds at the begin: that is an end
abbrev pub RelationEnds : (ℕ → Assertion → Type 0) → Type 0
RelationEnds holds = (words : List ℕ) (c : Assertion) (n cost m : ℕ) (out : List ℕ) (status : ℕ) → IsKept words holds n cost
    → ((d : Assertion) → holds n d → Finishes words (Excepted WindowPoints words) d m out status) → holds 0 c
    → Finishes words (Excepted WindowPoints words) c (n * cost + m) out status

-- each copy of the stack pointer is made by words of its own
abbrev pub start_code : List Part → List Form
start_code parts = part_words 2 parts ++ (part_words 3 parts ++ part_words 4 parts)

-- where the start leads to: the frame begins at a word of the data, and each byte is that of the file or 0
abbrev pub started_at : ℕ → List ℕ → List ℕ → ℕ → ℕ → Assertion
started_at base init input extra p = at_address (resting (start_stage base init input extra) One) p

-- the text begins with the words that make the frame's address three times, the data are bytes, and they have room
pub record IsText (words init : List ℕ) (extra base : ℕ) (parts : List Part) : Type 0 where
  pub placed : IsPlaced words text_base (start_code parts)
  pub address : made parts None ≡ Some (slot_address base)
  pub bytes : All (λ b. b < 2 ^ 8) init
  pub size : length (init ++ replicate extra 0) ≤ 0x4000_0000
  pub frame : 8 * base ≤ 0x4000_0000

-- a text whose start is followed by an end survives every flip outside a list that has all of its window points
abbrev pub TextsSurvive : Type 0
TextsSurvive = (words init input : List ℕ) (extra base : ℕ) (parts : List Part) (points : List (ℕ × ℕ)) (n bound : ℕ) (out : List ℕ) (status : ℕ)
    → IsText words init extra base parts
    → Finishes words (Excepted WindowPoints words) (started_at base init input extra (text_base + 4 * length (start_code parts))) n out status
    → ((p r : ℕ) → IsWindowPoint words text_base p r → IsListed points p r)
    → length (start_code parts) + n ≤ bound → Survives (program_image words init extra) points input out status bound

-- and so does one whose start is followed by a way and an end, of which each move takes at most as many instructions as there are words,
-- and the start and the end together too: within one more than the moves times one more than the words
abbrev pub WaysSurvive : Type 0
WaysSurvive = (words init input : List ℕ) (extra base : ℕ) (parts : List Part) (points : List (ℕ × ℕ)) (known : ℕ → Assertion) (n m : ℕ)
    (out : List ℕ) (status : ℕ) → IsText words init extra base parts
    → KnowsLess (started_at base init input extra (text_base + 4 * length (start_code parts))) (known 0)
    → IsWay words known n (length words) → Finishes words (Excepted WindowPoints words) (known n) m out status
    → ((p r : ℕ) → IsWindowPoint words text_base p r → IsListed points p r) → length (start_code parts) + m ≤ length words
    → Survives (program_image words init extra) points input out status ((n + 1) * (length words + 1))
