-- The forms `run EXE INPUT STEPS` and `flip EXE INPUT STEPS N R B`: one form, with a flip or with none.
use Rattle.std.specs.Prelude.{◌≡◌, ℕ, List, [], ◌∷◌, ◌++◌, codes, decimal, Option, None, IsSome}
use Rattle.sr_base.specs.Files.{Files}
use Rattle.elf_file.specs.Image.{ProgramImage}
use Rattle.rv_model.specs.declared.Cause.{Cause}
use Rattle.rv_model.specs.declared.Cause.TheVariants.{Fetch, Illegal, Load, Store, Call}
use Rattle.rv_model.specs.declared.Flip.{Flip}
use Rattle.rv_model.specs.Run.{RunResult, HasEnded, HasTrapped, GoesOn, run}
use Rattle.rv_model.specs.Start.{started}
use Rattle.sr_command.specs.Hexadecimal.{eight_digits}
use Rattle.sr_command.specs.Loads.{IsLoaded, RefusesLoad, LacksLoad}
use Rattle.sr_command.specs.Statuses.{line_of}
use Rattle.sr_command.specs.Yield.{Yield}
use Rattle.sr_command.specs.declared.status.Status.{Status}
use Rattle.sr_command.specs.declared.status.Status.TheVariants.{Done, Stopped, StepsOver}
use Rattle.sr_command.specs.Promise.{Promise}
use Rattle.sr_command.specs.Outputs.{output_name, output_bytes}
use Rattle.sr_command.specs.declared.job.Job.{Job}
use Rattle.sr_command.specs.declared.job.Job.TheVariants.{Whole, Refuse, Halt, Unended}

-- the line of a program that ended with a status after so many steps
abbrev pub ended_line : ℕ → ℕ → List ℕ
ended_line status steps = codes "ended status=" ++ (decimal status ++ (codes " steps=" ++ (decimal steps ++ 10 ∷ [])))

-- the word for why an instruction traps
abbrev pub cause_word : Cause → List ℕ
cause_word Fetch = codes "Fetch"
cause_word Illegal = codes "Illegal"
cause_word Load = codes "Load"
cause_word Store = codes "Store"
cause_word Call = codes "Call"

-- the line of a program whose instruction at pc traps
abbrev pub trap_line : ℕ → Cause → List ℕ
trap_line pc cause = codes "trap pc=" ++ (eight_digits pc ++ (codes " cause=" ++ (cause_word cause ++ 10 ∷ [])))

-- the status with which a run is answered: it has ended, has trapped, or goes on
abbrev pub run_status : RunResult → Status
run_status (HasEnded out status steps) = Done
run_status (HasTrapped pc cause out) = Stopped
run_status (GoesOn state) = StepsOver

-- what is put on `out`, which is the output so far, and on `note`
abbrev pub run_yield : RunResult → Yield
run_yield (HasEnded out status steps) = record { image = None; text = out; line = ended_line status steps }
run_yield (HasTrapped pc cause out) = record { image = None; text = out; line = trap_line pc cause }
run_yield (GoesOn state) = record { image = None; text = state.out; line = line_of StepsOver }

-- a run is answered with the status, and gives this
abbrev pub IsAnswered : RunResult → Status → Yield → Type 0
IsAnswered result status given = (status ≡ run_status result) × (given ≡ run_yield result)

-- the run of the program in a file, of at most so many steps and with the flip handed in, is answered with the status, and gives this
abbrev pub Runs : Option Files → List ℕ → Option (List ℕ) → ℕ → Option Flip → Status → Yield → Type 0
Runs files program input steps flip status given =
    (image : ProgramImage) × (content : List ℕ) × IsLoaded files program input image content × IsAnswered (run steps (started image content) flip) status given

-- the job of a run
abbrev pub IsReport : RunResult → Job → Type 0
IsReport result (Whole output text line) =
    (output_name output ≡ None) × IsAnswered result Done (record { image = output_bytes output; text = text.items; line = line.items })
IsReport result (Refuse why) = ⊥
IsReport result (Halt text line) = IsAnswered result Stopped (record { image = None; text = text.items; line = line.items })
IsReport result (Unended text) = IsAnswered result StepsOver (record { image = None; text = text.items; line = line_of StepsOver })

-- the promise: the program is run on its input, and ends, traps or goes on
abbrev pub executing : List ℕ → Option (List ℕ) → ℕ → Option Flip → Promise
executing program input steps flip = record {
  gives = λ files given. Runs files program input steps flip Done given;
  halts = λ files status given. Runs files program input steps flip status given;
  refuses = λ files why. RefusesLoad files program input why;
  lacks = λ files. LacksLoad files program input;
  output = None;
  can_be_done = λ files. IsSome files × ((given : Yield) × Runs files program input steps flip Done given);
}
