-- Operations in three versions, of which each takes one vote for its operands in near slots and for a result that goes to one. Other operands
-- come in before the vote, so that nothing but these accesses and the code lies between.
use Rattle.std.specs.Prelude.{◌≡◌, ℕ, ◌≤◌, Bool, false, IsTrue, if◌then◌else◌, List, [], ◌∷◌, ◌++◌, length, Option, Some, None}
use Rattle.std.specs.List.{list_all}
use Rattle.rv_inst.specs.declared.instruction.Form.{Form}
use Rattle.rv_inst.specs.declared.instruction.Form.TheVariants.{ADDW}
use Rattle.rv_model.specs.Operations.{plus32}
use Rattle.rv_flips.specs.Cells.{One}
use Rattle.flip_frames.specs.Views.{Stage, Runs}
use Rattle.flip_frames.specs.Computing.{is_pure}
use Rattle.flip_frames.specs.Fetching.{Triple}
use Rattle.flip_frames.specs.Slots.{vote_words, is_near}
use Rattle.flip_versions.specs.Operations.{resting, AreSlots, HoldsVersions, defined, Leaves, IsApart}
use Rattle.flip_guards.specs.Sources.{Source, InSlot, bring}
use Rattle.flip_guards.specs.Fetching.{Operand, in_slots, IsGiven}
use Rattle.flip_copies.specs.Copies.{IsReadInTime}
use Rattle.flip_operations.specs.Operations.{version_of_two, version_of_one}
use Rattle.flip_votes.specs.Votes.{voted_load, voted_store}

-- the source is a slot whose offset fits into an access
abbrev pub is_near_slot : Source → Bool
is_near_slot (InSlot n) = is_near n
is_near_slot _ = false

-- a version from elsewhere comes into register r before the vote
abbrev pub early : ℕ → Source → List Form
early r s = if is_near_slot s then [] else bring r s

-- the load of a slot by the vote
abbrev pub slot_load : ℕ → Source → List Form
slot_load r (InSlot n) = voted_load r n
slot_load r _ = []

-- a version from a near slot comes after it
abbrev pub late : ℕ → Source → List Form
late r s = if is_near_slot s then slot_load r s else []

-- one version of an operation on two operands, with its result in a near slot: they come into x5 and x6, the code computes, and x5 is stored
abbrev pub near_two : List Form → Source → Source → ℕ → List Form
near_two code x y d = early 5 x ++ (early 6 y ++ (vote_words ++ (late 5 x ++ (late 6 y ++ (code ++ voted_store 5 d)))))

-- and of one operand
abbrev pub near_one : List Form → Source → ℕ → List Form
near_one code x d = early 5 x ++ (vote_words ++ (late 5 x ++ (code ++ voted_store 5 d)))

-- with a result in any slot: a far one has no use of the vote
abbrev pub voted_two : List Form → Source → Source → ℕ → List Form
voted_two code x y d = if is_near d then near_two code x y d else version_of_two code x y d

-- and of one operand
abbrev pub voted_one : List Form → Source → ℕ → List Form
voted_one code x d = if is_near d then near_one code x d else version_of_one code x d

-- all three versions, of two operands
abbrev pub two_voted : List Form → Operand → Operand → Triple → List Form
two_voted code x y d = voted_two code x.one y.one d.one ++ (voted_two code x.two y.two d.two ++ voted_two code x.three y.three d.three)

-- and of one
abbrev pub one_voted : List Form → Operand → Triple → List Form
one_voted code x d = voted_one code x.one d.one ++ (voted_one code x.two d.two ++ voted_one code x.three d.three)

-- an operation on two operands, for any code that computes and is short enough for the vote to stand
abbrev pub TwoAreVoted : Type 0
TwoAreVoted = (words : List ℕ) (code : List Form) (g : Stage) (x y : Operand) (d : Triple) (o1 o2 o : Option ℕ) → IsTrue (list_all is_pure code)
    → length code ≤ 28 → Leaves code o1 o2 o → IsGiven g x o1 → IsGiven g y o2 → AreSlots g d → IsReadInTime d x → IsReadInTime d y
    → Runs words (two_voted code x y d) (resting g One) (resting (defined g d o) One)

-- an operation on one operand; without code it is a copy
abbrev pub OneIsVoted : Type 0
OneIsVoted = (words : List ℕ) (code : List Form) (g : Stage) (x : Operand) (d : Triple) (o1 o : Option ℕ) → IsTrue (list_all is_pure code)
    → length code ≤ 28 → Leaves code o1 None o → IsGiven g x o1 → AreSlots g d → IsReadInTime d x
    → Runs words (one_voted code x d) (resting g One) (resting (defined g d o) One)

-- an addition of 32 bits
abbrev pub voted_addition : Triple → Triple → Triple → List Form
voted_addition x y d = two_voted (ADDW 5 5 6 ∷ []) (in_slots x) (in_slots y) d

-- of values in slots it makes the sum
abbrev pub AdditionsAreVoted : Type 0
AdditionsAreVoted = (words : List ℕ) (g : Stage) (x y d : Triple) (a b : ℕ) → AreSlots g x → AreSlots g y → AreSlots g d
    → HoldsVersions g x (Some a) → HoldsVersions g y (Some b) → IsApart d x → IsApart d y
    → Runs words (voted_addition x y d) (resting g One) (resting (defined g d (Some (plus32 a b))) One)

-- the three slots are near
pub record AreNear (x : Triple) : Type 0 where
  pub one : IsTrue (is_near x.one)
  pub two : IsTrue (is_near x.two)
  pub three : IsTrue (is_near x.three)

-- where all slots are near these are 18 words
abbrev pub AdditionsAreShort : Type 0
AdditionsAreShort = (x y d : Triple) → AreNear x → AreNear y → AreNear d → length (voted_addition x y d) ≡ 18
