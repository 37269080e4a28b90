-- The form `print IN`.
use Rattle.std.specs.Prelude.{◌≡◌, ◌<◌, ◌≤◌, ℕ, List, [], length, Some, None}
use Rattle.ir_tree.specs.Shape.{ModuleShape}
use Rattle.ir_print.specs.Printed.{module_text}
use Rattle.ir_source.specs.Texts.{IsModuleOf}
use Rattle.sr_command.specs.Loads.{most_text}
use Rattle.sr_command.specs.Yield.{Yield}
use Rattle.sr_command.specs.declared.refusal.Refusal.{Refusal}
use Rattle.sr_command.specs.declared.refusal.Refusal.TheVariants.{TooLong}
use Rattle.sr_command.specs.Promise.{Promise}
use Rattle.sr_command.specs.Refusals.{HasNoModule}
use Rattle.sr_command.specs.Outputs.{output_name, output_bytes}
use Rattle.sr_command.specs.declared.job.Job.{Job}
use Rattle.sr_command.specs.declared.job.Job.TheVariants.{Whole, Refuse}
use Rattle.sr_base.specs.Files.{held, Holds}

-- why a text is refused: it is too long, or it is not, and refused
abbrev pub RefusesPrint : List ℕ → Refusal → Type 0
RefusesPrint text (TooLong most) = (most ≡ most_text) × (most_text < length text)
RefusesPrint text refusal = (length text ≤ most_text) × HasNoModule text refusal

-- the text is within its limit, and has this module
abbrev pub HasModule : List ℕ → ModuleShape → Type 0
HasModule text m = (length text ≤ most_text) × IsModuleOf text m

-- what printing a text gives: its module in its printed form
abbrev pub GivesPrinted : List ℕ → Yield → Type 0
GivesPrinted text given = (m : ModuleShape) × HasModule text m × (given ≡ record { image = None; text = module_text m; line = [] })

-- the job of a text that was read
abbrev pub IsPrinted : List ℕ → Job → Type 0
IsPrinted text (Whole whole out line) =
    (output_name whole ≡ None) × GivesPrinted text (record { image = output_bytes whole; text = out.items; line = line.items })
IsPrinted text (Refuse why) = HasNoModule text why
IsPrinted text other = ⊥

-- the promise: IN holds a text, of which the module is printed
abbrev pub printing : List ℕ → Promise
printing input = record {
  gives = λ files given. (text : List ℕ) × Holds files input (Some text) × GivesPrinted text given;
  halts = λ files status given. ⊥;
  refuses = λ files why. (text : List ℕ) × Holds files input (Some text) × RefusesPrint text why;
  lacks = λ files. Holds files input None;
  output = None;
  can_be_done = λ files. (text : List ℕ) × (m : ModuleShape) × (held files input ≡ Some (Some text)) × HasModule text m;
}
