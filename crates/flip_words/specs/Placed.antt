-- Code at its place in a text, and what is known before and after it.
use Rattle.std.specs.Prelude.{◌≡◌, ℕ, ◌+◌, ◌*◌, ◌≤◌, List, length}
use Rattle.rv_inst.specs.declared.instruction.Form.{Form}
use Rattle.rv_inst.specs.Window.{IsWindowPoint}
use Rattle.rv_model.specs.Text.{text_base, data_base, StandsAll}
use Rattle.rv_flips.specs.Assertion.{Assertion}
use Rattle.rv_flips.specs.Moves.{Moves}

-- points at which no flip falls: the window points of the text; or all of them, as in code before which the flip has fallen
pub data Points : Type 0 where
  WindowPoints : Points
  AllPoints : Points

-- the pairs of an address and a register that these are
abbrev pub Excepted : Points → List ℕ → ℕ → ℕ → Type 0
Excepted WindowPoints words p r = IsWindowPoint words text_base p r
Excepted AllPoints words p r = Unit {0}

-- the instructions stand in the text from p on, below the data, and so does the text
pub record IsPlaced (words : List ℕ) (p : ℕ) (code : List Form) : Type 0 where
  pub stands : StandsAll words p code
  pub room : p + 4 * length code ≤ data_base
  pub short : text_base + 4 * length words ≤ data_base

-- where the code stands at the address of c, each run that comes there as c says goes on as d says, after at most as many instructions
-- as the code has and at the word after it, whatever flip outside the list comes
pub record Carries (words : List ℕ) (listed : ℕ → ℕ → Type 0) (code : List Form) (c d : Assertion) : Type 0 where
  pub moves : IsPlaced words c.pc code → Moves words listed c (length code) d
  pub ends : d.pc ≡ c.pc + 4 * length code
