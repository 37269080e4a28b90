-- How code is joined: one list of words after another, a repair after a check, and less that is known.
use Rattle.std.specs.Prelude.{◌≡◌, ℕ, ◌+◌, ◌*◌, pos, List, ◌∷◌, ◌++◌, length}
use Rattle.rv_inst.specs.declared.instruction.Form.{Form}
use Rattle.rv_inst.specs.declared.instruction.Form.TheVariants.{BEQ}
use Rattle.rv_flips.specs.Cells.{Cell, Free, Has, Sure, One, Two, Three}
use Rattle.rv_flips.specs.Assertion.{Assertion, KnowsLess, after_write}
use Rattle.rv_flips.specs.Moves.{Covered}
use Rattle.flip_words.specs.Placed.{Points, WindowPoints, AllPoints, Excepted, Carries}

-- one list of words and then another is one list of words
abbrev pub ListsJoin : Type 0
ListsJoin = (points : Points) (words : List ℕ) (xs ys : List Form) (c d e : Assertion) → Carries words (Excepted points words) xs c d
    → Carries words (Excepted points words) ys d e → Carries words (Excepted points words) (xs ++ ys) c e

-- what code does from less, and what less is known after it, it does also
abbrev pub LessIsCarried : Type 0
LessIsCarried = (points : Points) (words : List ℕ) (code : List Form) (c c' d' d : Assertion) → KnowsLess c c'
    → Carries words (Excepted points words) code c' d' → KnowsLess d' d → Carries words (Excepted points words) code c d

-- what is known where a first and a second copy differ: a third copy is right
abbrev pub promoted_cell : Cell → Cell
promoted_cell Free = Free
promoted_cell (Has Three v) = Has Sure v
promoted_cell (Has tag v) = Has tag v

-- the same of all registers and all words of the data, at the address p
abbrev pub promoted : Assertion → ℕ → Assertion
promoted c p = record c { pc = p; regs = λ q. promoted_cell (c.regs q); slots = λ k. promoted_cell (c.slots k) }

-- a branch on a first copy in d and a second one in b over the repair
abbrev pub checked : ℕ → ℕ → List Form → List Form
checked d b repair = BEQ d b (pos (4 * length repair + 4)) ∷ repair

-- the check joins both ways: where the copies are equal the first is right, and the repair is passed over; where they differ, third
-- copies are right and no flip is to come, so the repair's words may be taken without a thought of flips
abbrev pub ChecksJoin : Type 0
ChecksJoin = (words : List ℕ) (c e : Assertion) (d b v : ℕ) (repair : List Form) → c.regs d ≡ Has One v → c.regs b ≡ Has Two v
    → Covered (Excepted WindowPoints words) c → KnowsLess (after_write c d (Has Sure v) (c.pc + 4 * length (checked d b repair))) e
    → Carries words (Excepted AllPoints words) repair (promoted c (c.pc + 4)) e → Carries words (Excepted WindowPoints words) (checked d b repair) c e
