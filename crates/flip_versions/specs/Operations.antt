-- An operation on values of which three versions are kept in slots: the same words are taken three times, each time on one version.
use Rattle.std.specs.Prelude.{◌≡◌, ◌≢◌, ◌+◌, ◌<◌, ℕ, IsTrue, List, ◌++◌, Option}
use Rattle.std.specs.List.{list_all}
use Rattle.rv_inst.specs.declared.instruction.Form.{Form}
use Rattle.rv_flips.specs.Cells.{Tag, One, Two, Three}
use Rattle.rv_flips.specs.Assertion.{with_register}
use Rattle.flip_words.specs.Memory.{without_bytes}
use Rattle.flip_frames.specs.Views.{Stage, View, Runs, version, with_value, no_values}
use Rattle.flip_frames.specs.Computing.{effect_of, is_pure}
use Rattle.flip_frames.specs.Fetching.{Triple}
use Rattle.flip_frames.specs.Slots.{any_load, any_store, IsInData}

-- the view between groups: nothing is known of scratch registers, and a version with this tag has its turn
abbrev pub resting : Stage → Tag → View
resting g tag = record { stage = g; tag = tag; file = no_values }

-- a slot that a sequence may reach: it lies in the data
pub record IsSlot (g : Stage) (n : ℕ) : Type 0 where
  pub within : IsInData (resting g One) n
  pub small : n < 0x800_0000

pub record AreSlots (g : Stage) (x : Triple) : Type 0 where
  pub one : IsSlot g x.one
  pub two : IsSlot g x.two
  pub three : IsSlot g x.three

-- the slots hold three versions of a value, or nothing is known of them where the value isn't known
pub record HoldsVersions (g : Stage) (x : Triple) (o : Option ℕ) : Type 0 where
  pub one : g.slots (g.base + x.one) ≡ version One o
  pub two : g.slots (g.base + x.two) ≡ version Two o
  pub three : g.slots (g.base + x.three) ≡ version Three o

-- the stage after a version was stored in slot n
abbrev pub stored : Stage → ℕ → Tag → Option ℕ → Stage
stored g n tag o = record g { slots = with_register g.slots (g.base + n) (version tag o); bytes = without_bytes g.bytes (g.base + n) }

-- the stage after all three were
abbrev pub defined : Stage → Triple → Option ℕ → Stage
defined g d o = stored (stored (stored g d.one One o) d.two Two o) d.three Three o

-- one version: the operands come into x5 and x6, the code computes, and x5 goes to the result's slot
abbrev pub version_words : List Form → ℕ → ℕ → ℕ → List Form
version_words code x y d = any_load 5 x ++ (any_load 6 y ++ (code ++ any_store 5 d))

abbrev pub operation_words : List Form → Triple → Triple → Triple → List Form
operation_words code x y d =
    version_words code x.one y.one d.one ++ (version_words code x.two y.two d.two ++ version_words code x.three y.three d.three)

-- one version of a copy, or of a constant, is shorter
abbrev pub copy_words : Triple → Triple → List Form
copy_words x d =
    (any_load 5 x.one ++ any_store 5 d.one) ++ ((any_load 5 x.two ++ any_store 5 d.two) ++ (any_load 5 x.three ++ any_store 5 d.three))

abbrev pub constant_words : List Form → Triple → List Form
constant_words code d = (code ++ any_store 5 d.one) ++ ((code ++ any_store 5 d.two) ++ (code ++ any_store 5 d.three))

-- the code makes of o1 in x5 and o2 in x6 the value o in x5
abbrev pub Leaves : List Form → Option ℕ → Option ℕ → Option ℕ → Type 0
Leaves code o1 o2 o = effect_of code (with_value (with_value no_values 5 o1) 6 o2) 5 ≡ o

-- the code makes the value o in x5 of nothing
abbrev pub Makes : List Form → Option ℕ → Type 0
Makes code o = effect_of code no_values 5 ≡ o

-- no later version of an operand lies where an earlier one of the result does
pub record IsApart (d x : Triple) : Type 0 where
  pub two_one : x.two ≢ d.one
  pub three_one : x.three ≢ d.one
  pub three_two : x.three ≢ d.two

-- three versions of an operation, for any code that computes, any slots near or far, and whatever else is known
abbrev pub OperationsRun : Type 0
OperationsRun = (words : List ℕ) (code : List Form) (g : Stage) (x y d : Triple) (o1 o2 o : Option ℕ) → IsTrue (list_all is_pure code)
    → Leaves code o1 o2 o → AreSlots g x → AreSlots g y → AreSlots g d → HoldsVersions g x o1 → HoldsVersions g y o2 → IsApart d x → IsApart d y
    → Runs words (operation_words code x y d) (resting g One) (resting (defined g d o) One)

-- three versions of a copy
abbrev pub CopiesRun : Type 0
CopiesRun = (words : List ℕ) (g : Stage) (x d : Triple) (o : Option ℕ) → AreSlots g x → AreSlots g d → HoldsVersions g x o → IsApart d x
    → Runs words (copy_words x d) (resting g One) (resting (defined g d o) One)

-- three versions of a constant, each made by words of its own
abbrev pub ConstantsRun : Type 0
ConstantsRun = (words : List ℕ) (code : List Form) (g : Stage) (d : Triple) (o : Option ℕ) → IsTrue (list_all is_pure code) → Makes code o
    → AreSlots g d → Runs words (constant_words code d) (resting g One) (resting (defined g d o) One)

-- the three slots differ
pub record AreDifferent (d : Triple) : Type 0 where
  pub one_two : d.one ≢ d.two
  pub one_three : d.one ≢ d.three
  pub two_three : d.two ≢ d.three

-- then they hold the result
abbrev pub DefinedHold : Type 0
DefinedHold = (g : Stage) (d : Triple) (o : Option ℕ) → AreDifferent d → HoldsVersions (defined g d o) d o

-- slot n is none of the result's
pub record IsOther (d : Triple) (n : ℕ) : Type 0 where
  pub one : n ≢ d.one
  pub two : n ≢ d.two
  pub three : n ≢ d.three

-- and of each other slot is known what was known
abbrev pub OthersStay : Type 0
OthersStay = (g : Stage) (d : Triple) (o : Option ℕ) (n : ℕ) → IsOther d n
    → (defined g d o).slots (g.base + n) ≡ g.slots (g.base + n)
