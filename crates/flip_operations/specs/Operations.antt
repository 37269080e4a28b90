-- Operations on operands of any kind, in slots near or far, in registers or constant: the same words are taken three times, each time on one
-- version, and the result goes to slots.
use Rattle.std.specs.Prelude.{◌≡◌, ℕ, IsTrue, List, ◌++◌, Option, None}
use Rattle.std.specs.List.{list_all}
use Rattle.rv_inst.specs.declared.instruction.Form.{Form}
use Rattle.rv_flips.specs.Cells.{One}
use Rattle.flip_frames.specs.Views.{Stage, Runs}
use Rattle.flip_frames.specs.Computing.{is_pure}
use Rattle.flip_frames.specs.Fetching.{Triple}
use Rattle.flip_frames.specs.Slots.{any_store}
use Rattle.flip_versions.specs.Operations.{resting, AreSlots, defined, Leaves}
use Rattle.flip_guards.specs.Sources.{Source, bring}
use Rattle.flip_guards.specs.Fetching.{Operand, IsGiven}
use Rattle.flip_copies.specs.Copies.{IsReadInTime}

-- one version of an operation on two operands: they come into x5 and x6, the code computes, and x5 goes to the result's slot
abbrev pub version_of_two : List Form → Source → Source → ℕ → List Form
version_of_two code x y d = bring 5 x ++ (bring 6 y ++ (code ++ any_store 5 d))

-- and of one operand
abbrev pub version_of_one : List Form → Source → ℕ → List Form
version_of_one code x d = bring 5 x ++ (code ++ any_store 5 d)

-- all three versions
abbrev pub two_operands : List Form → Operand → Operand → Triple → List Form
two_operands code x y d =
    version_of_two code x.one y.one d.one ++ (version_of_two code x.two y.two d.two ++ version_of_two code x.three y.three d.three)

abbrev pub one_operand : List Form → Operand → Triple → List Form
one_operand code x d = version_of_one code x.one d.one ++ (version_of_one code x.two d.two ++ version_of_one code x.three d.three)

-- an operation on two operands, for any code that computes
abbrev pub TwoOperandsRun : Type 0
TwoOperandsRun = (words : List ℕ) (code : List Form) (g : Stage) (x y : Operand) (d : Triple) (o1 o2 o : Option ℕ) → IsTrue (list_all is_pure code)
    → Leaves code o1 o2 o → IsGiven g x o1 → IsGiven g y o2 → AreSlots g d → IsReadInTime d x → IsReadInTime d y
    → Runs words (two_operands code x y d) (resting g One) (resting (defined g d o) One)

-- an operation on one
abbrev pub OneOperandRuns : Type 0
OneOperandRuns = (words : List ℕ) (code : List Form) (g : Stage) (x : Operand) (d : Triple) (o1 o : Option ℕ) → IsTrue (list_all is_pure code)
    → Leaves code o1 None o → IsGiven g x o1 → AreSlots g d → IsReadInTime d x
    → Runs words (one_operand code x d) (resting g One) (resting (defined g d o) One)
