-- The form `compile IN OUT`.
use Rattle.std.specs.Prelude.{◌≡◌, ◌<◌, ◌≤◌, ℕ, ℤ, List, [], length, Some, None}
use Rattle.sr_base.specs.Files.{held, Holds}
use Rattle.point_list.specs.Points.{points_text}
use Rattle.point_list.specs.declared.list.Point.{Point}
use Rattle.sr_command.specs.FirstForm.{Returns, exit_status}
use Rattle.sr_command.specs.Hardened.{IsHardened}
use Rattle.sr_command.specs.Loads.{most_text}
use Rattle.sr_command.specs.Promise.{Promise}
use Rattle.sr_command.specs.Outputs.{output_name, output_bytes}
use Rattle.sr_command.specs.declared.job.Job.{Job}
use Rattle.sr_command.specs.declared.job.Job.TheVariants.{Whole, Refuse}
use Rattle.sr_command.specs.Yield.{Yield}
use Rattle.sr_command.specs.declared.refusal.Refusal.{Refusal}
use Rattle.sr_command.specs.declared.refusal.Refusal.TheVariants.{TooLong, NotBuilt}

-- the text is within its limit, and returns the number
abbrev pub IsAccepted : List ℕ → ℤ → Type 0
IsAccepted text number = (length text ≤ most_text) × Returns text number

-- what compiling a text gives: an executable that ends with the number's status and survives every flip outside the points whose
-- text is put
abbrev pub GivesExecutable : List ℕ → Yield → Type 0
GivesExecutable text given = (number : ℤ) × (bytes : List ℕ) × (points : List Point) × IsAccepted text number × IsHardened bytes points (exit_status number)
    × (given ≡ record { image = Some bytes; text = points_text points; line = [] })

-- why a text is refused that is to be compiled: it is too long, or it is not, and returns no number
abbrev pub RefusesText : List ℕ → Refusal → Type 0
RefusesText text (TooLong most) = (most ≡ most_text) × (most_text < length text)
RefusesText text NotBuilt = (length text ≤ most_text) × ((number : ℤ) → Returns text number → ⊥)
RefusesText text other = ⊥

-- the job of a text that was read
abbrev pub IsBuilt : List ℕ → List ℕ → Job → Type 0
IsBuilt text output (Whole whole out line) =
    (output_name whole ≡ Some output) × GivesExecutable text (record { image = output_bytes whole; text = out.items; line = line.items })
IsBuilt text output (Refuse why) = RefusesText text why
IsBuilt text output other = ⊥

-- the promise: IN holds a text, of which the executable is made, and OUT is written
abbrev pub compiling : List ℕ → List ℕ → Promise
compiling input output = record {
  gives = λ files given. (text : List ℕ) × Holds files input (Some text) × GivesExecutable text given;
  halts = λ files status given. ⊥;
  refuses = λ files why. (text : List ℕ) × Holds files input (Some text) × RefusesText text why;
  lacks = λ files. Holds files input None;
  output = Some output;
  can_be_done = λ files. (text : List ℕ) × (number : ℤ) × (held files input ≡ Some (Some text)) × IsAccepted text number;
}
