-- The first bytes of the data, by which single bytes go out and come in. No frame has them: it begins at a later word.
use Rattle.std.specs.Prelude.{◌≡◌, ◌≤◌, ℕ, pos}
use Rattle.rv_inst.specs.declared.instruction.Form.{Form}
use Rattle.rv_inst.specs.declared.instruction.Form.TheVariants.{LUI}
use Rattle.rv_flips.specs.Cells.{Free}
use Rattle.rv_flips.specs.Assertion.{with_register}
use Rattle.flip_words.specs.Memory.{without_bytes}
use Rattle.flip_frames.specs.Views.{Stage}

-- the address of the byte cell, the first of the data, by one word
abbrev pub cell_address : ℕ → Form
cell_address d = LUI d (pos 65536)

-- no version lies in a register that a call of the environment takes, and the data have the word of the byte cell
pub record MayCall (g : Stage) : Type 0 where
  pub file : g.places 10 ≡ Free
  pub address : g.places 11 ≡ Free
  pub count : g.places 12 ≡ Free
  pub number : g.places 17 ≡ Free
  pub cell : 8 ≤ g.size

-- the stage after the byte cell was used: nothing is known of the first word of the data
abbrev pub cell_used : Stage → Stage
cell_used g = record g { slots = with_register g.slots 0 Free; bytes = without_bytes g.bytes 0 }
