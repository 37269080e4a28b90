-- The form `eval IN INPUT STEPS`.
use Rattle.std.specs.Prelude.{◌≡◌, ℕ, List, [], ◌∷◌, ◌++◌, codes, Option, None, IsSome}
use Rattle.sr_base.specs.Files.{Files}
use Rattle.ir_tree.specs.Shape.{ModuleShape}
use Rattle.ir_source.specs.Texts.{IsModuleOf}
use Rattle.ir_proper.specs.Proper.{IsProper}
use Rattle.ir_proper.specs.Limits.{IsWithin as IsWithinLimits}
use Rattle.ir_model.specs.declared.Why.{Why}
use Rattle.ir_model.specs.declared.Why.TheVariants.{Divide, Poison, OutOfBounds, Dead, Compare, Unreachable}
use Rattle.ir_model.specs.Runs as model
use Rattle.ir_meaning.specs.Meaning.{module_run}
use Rattle.sr_command.specs.Forms.Execute.{ended_line}
use Rattle.sr_command.specs.Loads.{most_text, HasPair, HasTooLong, LacksPair}
use Rattle.sr_command.specs.Refusals.{IsNotAccepted}
use Rattle.sr_command.specs.Statuses.{line_of}
use Rattle.sr_command.specs.Yield.{Yield}
use Rattle.sr_command.specs.declared.refusal.Refusal.{Refusal}
use Rattle.sr_command.specs.declared.refusal.Refusal.TheVariants.{TooLong}
use Rattle.sr_command.specs.declared.status.Status.{Status}
use Rattle.sr_command.specs.declared.status.Status.TheVariants.{Done, Stopped, StepsOver}
use Rattle.sr_command.specs.Promise.{Promise}
use Rattle.sr_command.specs.Outputs.{output_name, output_bytes}
use Rattle.sr_command.specs.declared.job.Job.{Job}
use Rattle.sr_command.specs.declared.job.Job.TheVariants.{Whole, Refuse, Halt, Unended}

-- the word for why a module has no meaning
abbrev pub why_word : Why → List ℕ
why_word Divide = codes "Divide"
why_word Poison = codes "Poison"
why_word OutOfBounds = codes "OutOfBounds"
why_word Dead = codes "Dead"
why_word Compare = codes "Compare"
why_word Unreachable = codes "Unreachable"

-- the line of a module that has no meaning
abbrev pub undefined_line : Why → List ℕ
undefined_line why = codes "undefined why=" ++ (why_word why ++ 10 ∷ [])

-- the status with which a run of a module is answered: it has ended, has no meaning, or goes on
abbrev pub meaning_status : model.Outcome → Status
meaning_status (model.HasEnded out status steps) = Done
meaning_status (model.IsUndefined why out) = Stopped
meaning_status (model.StepsOver out) = StepsOver

-- what is put on `out`, which is the output so far, and on `note`
abbrev pub meaning_yield : model.Outcome → Yield
meaning_yield (model.HasEnded out status steps) = record { image = None; text = out; line = ended_line status steps }
meaning_yield (model.IsUndefined why out) = record { image = None; text = out; line = undefined_line why }
meaning_yield (model.StepsOver out) = record { image = None; text = out; line = line_of StepsOver }

-- a run of a module is answered with the status, and gives this
abbrev pub IsTold : model.Outcome → Status → Yield → Type 0
IsTold outcome status given = (status ≡ meaning_status outcome) × (given ≡ meaning_yield outcome)

-- the text has this module, which is proper and within the limits
abbrev pub HasProperModule : List ℕ → ModuleShape → Type 0
HasProperModule text m = IsModuleOf text m × IsProper m × IsWithinLimits m

-- the text has a module, of which the run on an input for at most so many steps is answered with the status, and gives this
abbrev pub IsEvaluated : List ℕ → List ℕ → ℕ → Status → Yield → Type 0
IsEvaluated text content steps status given =
    (m : ModuleShape) × HasProperModule text m × IsTold (module_run m content steps) status given

-- so it is for the text and the input in these files
abbrev pub Evaluates : Option Files → List ℕ → Option (List ℕ) → ℕ → Status → Yield → Type 0
Evaluates files name input steps status given =
    (text content : List ℕ) × HasPair files name most_text input text content × IsEvaluated text content steps status given

-- why they are refused: one is too long; or neither is, and the text has no module that is proper and within the limits
abbrev pub RefusesEvaluation : Option Files → List ℕ → Option (List ℕ) → Refusal → Type 0
RefusesEvaluation files name input (TooLong most) = HasTooLong files name most_text input most
RefusesEvaluation files name input why =
    (text content : List ℕ) × HasPair files name most_text input text content × IsNotAccepted text why

-- the job of a run of a module
abbrev pub IsTelling : model.Outcome → Job → Type 0
IsTelling outcome (Whole output text line) =
    (output_name output ≡ None) × IsTold outcome Done (record { image = output_bytes output; text = text.items; line = line.items })
IsTelling outcome (Refuse why) = ⊥
IsTelling outcome (Halt text line) = IsTold outcome Stopped (record { image = None; text = text.items; line = line.items })
IsTelling outcome (Unended text) = IsTold outcome StepsOver (record { image = None; text = text.items; line = line_of StepsOver })

-- the job of a text that was read, and an input
abbrev pub IsEvaluation : List ℕ → List ℕ → ℕ → Job → Type 0
IsEvaluation text content steps (Refuse why) = IsNotAccepted text why
IsEvaluation text content steps job = (m : ModuleShape) × HasProperModule text m × IsTelling (module_run m content steps) job

-- the promise: the module of the text is run on the input, and ends, has no meaning or goes on
abbrev pub evaluating : List ℕ → Option (List ℕ) → ℕ → Promise
evaluating name input steps = record {
  gives = λ files given. Evaluates files name input steps Done given;
  halts = λ files status given. Evaluates files name input steps status given;
  refuses = λ files why. RefusesEvaluation files name input why;
  lacks = λ files. LacksPair files name most_text input;
  output = None;
  can_be_done = λ files. IsSome files × ((given : Yield) × Evaluates files name input steps Done given);
}
