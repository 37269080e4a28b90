-- What is known inside of a guarded sequence: what is known all along it, and of some registers more.
use Rattle.std.specs.Prelude.{ℕ, ◌==◌, List, [], ◌∷◌, Option, if◌then◌else◌}
use Rattle.rv_flips.specs.Cells.{Tag, One, Cell}
use Rattle.rv_flips.specs.Assertion.{Assertion}
use Rattle.flip_frames.specs.Views.{Stage, version, at_address}
use Rattle.flip_versions.specs.Operations.{resting}

-- a register that keeps a value with a tag; where the value isn't known, nothing is known of it
pub data KeptRegister : Type 0 where
  Kept : (reg : ℕ) (tag : Tag) (value : Option ℕ) → KeptRegister

-- what is known of register q: its own cell where it is kept, and else what is known all along
abbrev pub over : List KeptRegister → (ℕ → Cell) → ℕ → Cell
over [] regs q = regs q
over (Kept r tag o ∷ ks) regs q = if q == r then version tag o else over ks regs q

-- what is known all along, and the registers that are kept besides
pub record Guard : Type 0 where
  pub around : Assertion
  pub kept : List KeptRegister

-- what the guard says at the address p
abbrev pub guard_at : Guard → ℕ → Assertion
guard_at γ p = record γ.around { pc = p; regs = over γ.kept γ.around.regs }

-- a stage with no version in scratch registers, and registers that are kept
abbrev pub guarded : Stage → List KeptRegister → Guard
guarded g ks = record { around = at_address (resting g One) 0; kept = ks }
