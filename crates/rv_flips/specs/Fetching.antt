-- The fetch of a value that is kept as three copies, by a majority vote.
use Rattle.std.specs.Prelude.{◌≡◌, ◌≢◌, ◌+◌, ◌<◌, ◌^◌, ℕ, pos, List, [], ◌∷◌}
use Rattle.rv_inst.specs.declared.instruction.Form.{Form}
use Rattle.rv_inst.specs.declared.instruction.Form.TheVariants.{ADDI, BEQ}
use Rattle.rv_model.specs.Text.{StandsAll}
use Rattle.rv_flips.specs.Cells.{Cell, Has, Sure, One, Two, Three}
use Rattle.rv_flips.specs.Assertion.{Assertion, after_write}
use Rattle.rv_flips.specs.Known.{Sures, AllListed}
use Rattle.rv_flips.specs.Moves.{Moves}
use Rattle.rv_flips.specs.Survives.{IsListed}

-- the copy a comes into d; where it equals the copy b it is right, and else the copy t is
abbrev pub fetch_words : ℕ → ℕ → ℕ → ℕ → List Form
fetch_words d a b t = ADDI d a (pos 0) ∷ BEQ d b (pos 8) ∷ ADDI d t (pos 0) ∷ []

-- a, b and t hold three copies of v, of which at most one is wrong
pub record IsTriple (regs : ℕ → Cell) (a b t v : ℕ) : Type 0 where
  pub one : regs a ≡ Has One v
  pub two : regs b ≡ Has Two v
  pub three : regs t ≡ Has Three v

-- wherever these words stand, and whatever else is known there: where each register that is kept for sure is listed before the first
-- word and before the second one, d holds v for sure after at most three instructions, whatever flip outside the list comes
abbrev pub Fetches : Type 0
Fetches = (words : List ℕ) (points : List (ℕ × ℕ)) (c : Assertion) (d a b t v : ℕ) (rs : List ℕ)
    → IsTriple c.regs a b t v → 0 < d → d ≢ b → d ≢ t → c.pc + 12 < 2 ^ 64
    → StandsAll words c.pc (fetch_words d a b t) → Sures c.regs rs
    → AllListed (IsListed points) c.pc rs → AllListed (IsListed points) (c.pc + 4) rs
    → Moves words (IsListed points) c 3 (after_write c d (Has Sure v) (c.pc + 4 + 8))
