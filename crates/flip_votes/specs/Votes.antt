-- One vote on the stack pointer serves several accesses to slots of the frame, as long as a flip of x2 before each word falls at a window
-- point.
use Rattle.std.specs.Prelude.{◌≡◌, ℕ, ◌+◌, ◌*◌, ◌<◌, ◌≤◌, ◌==◌, pos, Bool, false, IsTrue, not, ◌&&◌, ◌||◌, List, [], ◌∷◌, ◌++◌, length, Option}
use Rattle.std.specs.List.{list_all}
use Rattle.rv_inst.specs.declared.instruction.Form.{Form}
use Rattle.rv_inst.specs.declared.instruction.Form.TheVariants.{LD, SD}
use Rattle.rv_inst.specs.Registers.{reads, writes}
use Rattle.rv_inst.specs.Window.{IsWindowPoint}
use Rattle.rv_model.specs.Text.{text_base}
use Rattle.rv_flips.specs.Cells.{Has, Sure}
use Rattle.rv_flips.specs.Assertion.{Assertion, after_write}
use Rattle.flip_words.specs.Placed.{WindowPoints, Excepted, Carries}
use Rattle.flip_words.specs.Words.{slot_address, only_computes}
use Rattle.flip_frames.specs.Views.{View, IsView, Runs, is_scratch, version, at_address, with_scratch}
use Rattle.flip_frames.specs.Computing.{effect_of, is_pure}
use Rattle.flip_frames.specs.Slots.{vote_words, IsInData, with_slot}

-- what the view says at the address p while the vote stands: x2 is right for sure
abbrev pub voted : View → ℕ → Assertion
voted v p = after_write (at_address v p) 2 (Has Sure (slot_address v.stage.base)) p

-- the vote stands all along the code: before each of its words, x2 is at a window point
abbrev pub VoteStands : List ℕ → ℕ → List Form → Type 0
VoteStands words p code = (k : ℕ) → k < length code → IsWindowPoint words text_base (p + 4 * k) 2

-- wherever the code stands, as long as the vote does, it carries one view to the other, outside the window points
pub record RunsVoted (words : List ℕ) (code : List Form) (v w : View) : Type 0 where
  pub carries : IsView v → (p : ℕ) → VoteStands words p code → Carries words (Excepted WindowPoints words) code (voted v p) (voted w (p + 4 * length code))
  pub kept : IsView v → IsView w

-- one sequence and then another is one sequence
abbrev pub VotedRunsJoin : Type 0
VotedRunsJoin = (words : List ℕ) (xs ys : List Form) (u v w : View) → RunsVoted words xs u v → RunsVoted words ys v w → RunsVoted words (xs ++ ys) u w

-- slot n comes into r. That the offset fits into the word is in that it stands in a text
abbrev pub voted_load : ℕ → ℕ → List Form
voted_load r n = LD r 2 (pos (8 * n)) ∷ []

-- r goes to slot n
abbrev pub voted_store : ℕ → ℕ → List Form
voted_store r n = SD 2 r (pos (8 * n)) ∷ []

-- a version is loaded into a scratch register
abbrev pub VotedSlotsAreLoaded : Type 0
VotedSlotsAreLoaded = (words : List ℕ) (v : View) (r n : ℕ) (o : Option ℕ) → IsTrue (is_scratch r) → IsInData v n
    → v.stage.slots (v.stage.base + n) ≡ version v.tag o → RunsVoted words (voted_load r n) v (with_scratch v r o)

-- a version is stored from a scratch register
abbrev pub VotedSlotsAreStored : Type 0
VotedSlotsAreStored = (words : List ℕ) (v : View) (r n : ℕ) → IsTrue (is_scratch r) → IsInData v n
    → RunsVoted words (voted_store r n) v (with_slot v n (v.file r))

-- words that compute
abbrev pub VotedComputingRuns : Type 0
VotedComputingRuns = (words : List ℕ) (code : List Form) (v : View) → IsTrue (list_all is_pure code)
    → RunsVoted words code v (record v { file = effect_of code v.file })

-- the word is an access by x2, which it leaves as it is
abbrev pub is_access : Form → Bool
is_access (LD rd rs1 imm) = rs1 == 2 && is_scratch rd
is_access (SD rs1 rs2 imm) = rs1 == 2
is_access _ = false

-- the word is such an access, or computes of other registers
abbrev pub lets_stand : Form → Bool
lets_stand i = only_computes i && (not (reads i 2) && not (writes i 2)) || is_access i

-- the last word is an access
abbrev pub ends_in_access : List Form → Bool
ends_in_access [] = false
ends_in_access (i ∷ []) = is_access i
ends_in_access (i ∷ j ∷ is) = ends_in_access (j ∷ is)

-- one vote before the code serves all of it: with the vote's branch these are at most 32 words, of which the last uses x2
pub record IsServed (code : List Form) : Type 0 where
  pub short : length code ≤ 31
  pub stands : IsTrue (list_all lets_stand code)
  pub last : IsTrue (ends_in_access code)

-- then the vote and the code are a sequence
abbrev pub VotesServe : Type 0
VotesServe = (words : List ℕ) (code : List Form) (v w : View) → IsServed code → RunsVoted words code v w → Runs words (vote_words ++ code) v w
