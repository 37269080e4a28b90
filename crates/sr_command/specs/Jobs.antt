-- What is left to do once the files are read and all texts are made.
use Rattle.std.specs.Prelude.{◌≡◌, ◌⊎◌, ℕ, ◌≤◌, List, Option, Some, None, Vec, Result, Err, MatchResult, IsSome}
use Rattle.std.specs.declared.alloc.Global.{Global}
use Rattle.sr_base.specs.Counts.{Rose}
use Rattle.sr_base.specs.Bytes.{TakesPrefix}
use Rattle.sr_base.specs.Files.{Files, Holds}
use Rattle.sr_base.specs.Meanings.{StoreMeaning, SinkMeaning}
use Rattle.elf_file.specs.Image.{ProgramImage}
use Rattle.elf_file.specs.Reading.{reading_of, IsAnswer}
use Rattle.elf_file.specs.declared.error.ElfError.{ElfError}
use Rattle.sr_command.specs.Promise.{Promise}
use Rattle.sr_command.specs.Outputs.{output_name, output_bytes}
use Rattle.sr_command.specs.Statuses.{line_of}
use Rattle.sr_command.specs.Answers.{IsWritten}
use Rattle.sr_command.specs.Loads.{HasBoth, HasFile, HasLonger, HasInput, HasLongerInput, LacksInput, IsLoaded, RefusesLoad, LacksLoad}
use Rattle.sr_command.specs.declared.loading.Loaded.{Loaded}
use Rattle.sr_command.specs.declared.loading.Loaded.TheVariants.{Program, Refused}
use Rattle.sr_command.specs.declared.status.Status.{Status}
use Rattle.sr_command.specs.declared.status.Status.TheVariants.{Stopped, StepsOver, ReadFault, WriteFault, NoMemory, Absent}
use Rattle.sr_command.specs.declared.job.Output.{Output}
use Rattle.sr_command.specs.declared.job.Job.{Job}
use Rattle.sr_command.specs.declared.job.Job.TheVariants.{Whole, Refuse, Halt, Unended}

-- the job is that of a form with this promise: what it gives, or why it is refused
abbrev pub IsJobOf : Promise → Option Files → Job → Type 0
IsJobOf p files (Whole output text line) =
    (output_name output ≡ p.output) × p.gives files (record { image = output_bytes output; text = text.items; line = line.items })
IsJobOf p files (Refuse why) = p.refuses files why
IsJobOf p files (Halt text line) = p.halts files Stopped (record { image = None; text = text.items; line = line.items })
IsJobOf p files (Unended text) = p.halts files StepsOver (record { image = None; text = text.items; line = line_of StepsOver })

-- why a form ends before anything is written or put
abbrev pub StopsEarly : Promise → StoreMeaning → StoreMeaning → Status → Type 0
StopsEarly p s s' ReadFault = Rose s.read_faults s'.read_faults
StopsEarly p s s' NoMemory = Unit {0}
StopsEarly p s s' Absent = p.lacks s.files
StopsEarly p s s' status = ⊥

-- the store was only read
pub record IsOnlyRead (s s' : StoreMeaning) : Type 0 where
  pub files : s'.files ≡ s.files
  pub write_faults : s'.write_faults ≡ s.write_faults
  pub write_wants : s'.write_wants ≡ s.write_wants
  pub later : s.read_faults ≤ s'.read_faults

-- the job was made by reading alone
pub record IsMade (p : Promise) (s s' : StoreMeaning) (made : Result Job Status) : Type 0 where
  pub read : IsOnlyRead s s'
  pub job : MatchResult made (IsJobOf p s.files) (StopsEarly p s s')

-- what the reading of a file of at most so many bytes found: the file, or one that is longer
abbrev pub IsReadWithin : ℕ → Option Files → List ℕ → Option (Vec ℕ Global) → Type 0
IsReadWithin most files name None = HasLonger files name most
IsReadWithin most files name (Some content) = HasFile files name most content.items

-- why a file was not read
abbrev pub StopsReading : StoreMeaning → StoreMeaning → List ℕ → Status → Type 0
StopsReading s s' name ReadFault = Rose s.read_faults s'.read_faults
StopsReading s s' name NoMemory = Unit {0}
StopsReading s s' name Absent = Holds s.files name None
StopsReading s s' name status = ⊥

-- the status of a write or a put that failed, by the counts of faults and of wants
abbrev pub FailsBy : ℕ → ℕ → ℕ → ℕ → Status → Type 0
FailsBy faults faults' wants wants' WriteFault = Rose faults faults'
FailsBy faults faults' wants wants' NoMemory = Rose wants wants'
FailsBy faults faults' wants wants' status = ⊥

-- a put of a text failed after the output was written
abbrev pub FailsInPut : Option Output → List ℕ → StoreMeaning → SinkMeaning → SinkMeaning → Type 0
FailsInPut output text s' o o' = IsWritten (output_name output) s'.files (output_bytes output) × TakesPrefix o.taken o'.taken text

-- the status of a write of this output and a put of a text, of which one failed
abbrev pub FailsInHandOut : Option Output → List ℕ → StoreMeaning → StoreMeaning → SinkMeaning → SinkMeaning → Status → Type 0
FailsInHandOut output text s s' o o' WriteFault =
    (IsSome (output_name output) × Rose s.write_faults s'.write_faults) ⊎ (FailsInPut output text s' o o' × Rose o.faults o'.faults)
FailsInHandOut output text s s' o o' NoMemory =
    ((o' ≡ o) × Rose s.write_wants s'.write_wants) ⊎ (FailsInPut output text s' o o' × Rose o.wants o'.wants)
FailsInHandOut output text s s' o o' status = ⊥

-- what the reading of an input found: its bytes, or a file that is too long
abbrev pub IsInputAs : Option Files → Option (List ℕ) → Option (Vec ℕ Global) → Type 0
IsInputAs files input None = HasLongerInput files input
IsInputAs files input (Some content) = HasInput files input content.items

-- why an input was not read
abbrev pub StopsInput : StoreMeaning → StoreMeaning → Option (List ℕ) → Status → Type 0
StopsInput s s' input ReadFault = Rose s.read_faults s'.read_faults
StopsInput s s' input NoMemory = Unit {0}
StopsInput s s' input Absent = LacksInput s.files input
StopsInput s s' input status = ⊥

-- what the files of an executable and an input are
abbrev pub IsLoadedAs : Option Files → List ℕ → Option (List ℕ) → Loaded → Type 0
IsLoadedAs files program input (Program image content) = IsLoaded files program input image content.items
IsLoadedAs files program input (Refused why) = RefusesLoad files program input why

-- the files are there and within their limits, and reading the program's ended with this error
abbrev pub FailsToLoad : Option Files → List ℕ → Option (List ℕ) → ElfError → Type 0
FailsToLoad files program input error =
    (bytes content : List ℕ) × HasBoth files program input bytes content × IsAnswer {X = ProgramImage} (Err error) (reading_of bytes)

-- why they were not read
abbrev pub StopsLoading : StoreMeaning → StoreMeaning → List ℕ → Option (List ℕ) → Status → Type 0
StopsLoading s s' program input ReadFault = Rose s.read_faults s'.read_faults
StopsLoading s s' program input NoMemory = Unit {0}
StopsLoading s s' program input Absent = LacksLoad s.files program input
StopsLoading s s' program input status = ⊥
