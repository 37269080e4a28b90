-- Branches on a value of which three versions are kept. The value is fetched, and compared with 0 where it is right for sure.
use Rattle.std.specs.Prelude.{◌+◌, ◌*◌, ◌==◌, if◌then◌else◌, ℕ, ℤ, pos, List, [], ◌∷◌, ◌++◌, length, Some}
use Rattle.rv_inst.specs.declared.instruction.Form.{Form}
use Rattle.rv_inst.specs.declared.instruction.Form.TheVariants.{BNE, JAL}
use Rattle.rv_flips.specs.Cells.{One}
use Rattle.flip_words.specs.Placed.{IsPlaced}
use Rattle.flip_frames.specs.Views.{Stage, View}
use Rattle.flip_versions.specs.Operations.{resting}
use Rattle.flip_guards.specs.Fetching.{Operand, IsGiven, fetch_operand}
use Rattle.flip_jumps.specs.Jumps.{target}
use Rattle.flip_jumps.specs.Places.{Goes}

-- where the value isn't 0 the machine goes on at this offset from the last word, and else at the next word
abbrev pub test_words : Operand → ℤ → List Form
test_words x offset = fetch_operand x ++ BNE 5 0 offset ∷ []

-- where a test at p on the value v goes on
abbrev pub test_target : ℕ → Operand → ℤ → ℕ → ℕ
test_target p x offset v = if v == 0 then p + 4 * length (test_words x offset) else target (p + 4 * length (fetch_operand x)) offset

-- of any value, in slots near or far, in places or a constant, both ways
abbrev pub TestsTurn : Type 0
TestsTurn = (words : List ℕ) (g : Stage) (x : Operand) (v p : ℕ) (offset : ℤ) → IsGiven g x (Some v) → IsPlaced words p (test_words x offset)
    → Goes words (resting g One) p (length (test_words x offset)) (resting g One) (test_target p x offset v)

-- a branch to any two places: the test goes over a jump to another jump
abbrev pub branch_words : Operand → ℤ → ℤ → List Form
branch_words x zero other = test_words x (pos 8) ++ JAL 0 zero ∷ JAL 0 other ∷ []

-- where a branch at p on the value v goes on
abbrev pub branch_target : ℕ → Operand → ℤ → ℤ → ℕ → ℕ
branch_target p x zero other v =
    if v == 0 then target (p + 4 * length (test_words x (pos 8))) zero else target (p + 4 * length (test_words x (pos 8)) + 4) other

-- of any value, to any two places
abbrev pub BranchesTurn : Type 0
BranchesTurn = (words : List ℕ) (g : Stage) (x : Operand) (v p : ℕ) (zero other : ℤ) → IsGiven g x (Some v)
    → IsPlaced words p (branch_words x zero other)
    → Goes words (resting g One) p (length (branch_words x zero other)) (resting g One) (branch_target p x zero other v)

-- a place that no run of a program with a meaning comes to: a jump to itself
abbrev pub unreachable_words : List Form
unreachable_words = JAL 0 (pos 0) ∷ []

-- a run that comes there stays there
abbrev pub UnreachableStays : Type 0
UnreachableStays = (words : List ℕ) (v : View) (p : ℕ) → IsPlaced words p unreachable_words → Goes words v p 1 v p
