-- An executable that survives every flip outside a list.
use Rattle.std.specs.Prelude.{◌≡◌, ℕ, ◌≤◌, List, Option, Some, None, Any}
use Rattle.elf_file.specs.Image.{ProgramImage}
use Rattle.rv_model.specs.declared.Flip.{Flip}
use Rattle.rv_model.specs.State.{MachineState}
use Rattle.rv_model.specs.Run.{HasEnded, FlipFits, IsOutside, run}
use Rattle.rv_model.specs.Start.{started}

-- the point, a pc and a register, is in the list
abbrev pub IsListed : List (ℕ × ℕ) → ℕ → ℕ → Type 0
IsListed points p r = Any (λ q. (q.0 ≡ p) × (q.1 ≡ r)) points

-- the run ends with this output and status within the bound
pub record Ends (bound : ℕ) (s : MachineState) (f : Option Flip) (out : List ℕ) (status : ℕ) : Type 0 where
  pub steps : ℕ
  pub within : steps ≤ bound
  pub ends : run bound s f ≡ HasEnded out status steps

-- on this input, without a flip and with every flip outside the list, the program ends with this output and status within the bound
pub record Survives (image : ProgramImage) (points : List (ℕ × ℕ)) (input out : List ℕ) (status bound : ℕ) : Type 0 where
  pub unflipped : Ends bound (started image input) None out status
  pub flipped : (f : Flip) → FlipFits f → IsOutside (IsListed points) (started image input) f → Ends bound (started image input) (Some f) out status
