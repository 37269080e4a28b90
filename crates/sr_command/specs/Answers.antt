-- What the command has done with the store and the sinks, by the form of its words and its status.
use Rattle.std.specs.Prelude.{◌≡◌, ◌≢◌, ◌⊎◌, ◌<◌, ℕ, List, [], Option, Some, None, IsSome}
use Rattle.sr_base.specs.Counts.{Rose}
use Rattle.sr_base.specs.Bytes.{Takes, TakesPrefix}
use Rattle.sr_base.specs.Files.{Files, Holds, SameBut}
use Rattle.sr_base.specs.Meanings.{StoreMeaning, SinkMeaning}
use Rattle.sr_command.specs.Words.{Form}
use Rattle.sr_command.specs.Promise.{Promise}
use Rattle.sr_command.specs.Forms.{promise_of}
use Rattle.sr_command.specs.Statuses.{line_of}
use Rattle.sr_command.specs.Refusals.{refused_line}
use Rattle.sr_command.specs.Yield.{Yield}
use Rattle.sr_command.specs.declared.refusal.Refusal.{Refusal}
use Rattle.sr_command.specs.declared.status.Status.{Status}
use Rattle.sr_command.specs.declared.status.Status.TheVariants.{Done, Usage, Refused, Stopped, StepsOver, ReadFault, WriteFault, NoMemory, Absent}

-- what the command acts on: the files, and what `out` and `note` have taken, each with its counts
pub record World : Type 0 where
  pub store : StoreMeaning
  pub out : SinkMeaning
  pub note : SinkMeaning

-- the world of these three
abbrev pub world : StoreMeaning → SinkMeaning → SinkMeaning → World
world store out note = record { store = store; out = out; note = note }

-- a text was put: a prefix was taken, the whole of it unless a count of the sink rose
pub record Tells (old new : SinkMeaning) (text : List ℕ) : Type 0 where
  pub prefix : TakesPrefix old.taken new.taken text
  pub whole : Takes old.taken new.taken text ⊎ (Rose old.faults new.faults ⊎ Rose old.wants new.wants)

-- the file of the name, if there is one, holds the executable, if there is one
abbrev pub IsWritten : Option (List ℕ) → Option Files → Option (List ℕ) → Type 0
IsWritten None files image = Unit {0}
IsWritten (Some name) files image = Holds files name image

-- no file but the one of the name, if there is one, is changed
abbrev pub KeepsOthers : Option (List ℕ) → Option Files → Option Files → Type 0
KeepsOthers None old new = new ≡ old
KeepsOthers (Some name) old new = SameBut name old new

-- the store failed to write: its count rose
abbrev pub StoreFails : World → World → Type 0
StoreFails w w' = Rose w.store.write_faults w'.store.write_faults

-- `out` failed
abbrev pub OutFails : World → World → Type 0
OutFails w w' = Rose w.out.faults w'.out.faults

-- `note` failed
abbrev pub NoteFails : World → World → Type 0
NoteFails w w' = Rose w.note.faults w'.note.faults

-- what a write fault comes from: the store's count where there is an output, that of `out`, and that of `note` where the form
-- gives a line of its own
abbrev pub HasWriteFault : Promise → Yield → World → World → Type 0
HasWriteFault p given w w' = (IsSome p.output × StoreFails w w') ⊎ (OutFails w w' ⊎ ((given.line ≢ []) × NoteFails w w'))

-- all is done: the output holds what the form gives, and `out` has taken the text that goes with it
abbrev pub IsDone : Promise → World → World → Type 0
IsDone p w w' = (given : Yield) × p.gives w.store.files given × IsWritten p.output w'.store.files given.image
    × Takes w.out.taken w'.out.taken given.text

-- why words of this form end with a status; memory may run out at any time
abbrev pub IsCausedBy : Promise → Status → World → World → Type 0
IsCausedBy p Done w w' = IsDone p w w'
IsCausedBy p Usage w w' = ⊥
IsCausedBy p Refused w w' = (why : Refusal) × p.refuses w.store.files why
IsCausedBy p Stopped w w' = (given : Yield) × p.halts w.store.files Stopped given
IsCausedBy p StepsOver w w' = (given : Yield) × p.halts w.store.files StepsOver given
IsCausedBy p ReadFault w w' = Rose w.store.read_faults w'.store.read_faults
IsCausedBy p WriteFault w w' = (given : Yield) × p.gives w.store.files given × HasWriteFault p given w w'
IsCausedBy p NoMemory w w' = Unit {0}
IsCausedBy p Absent w w' = p.lacks w.store.files

-- why words end with a status: without a form it is a usage, and only then
abbrev pub IsCaused : Option Form → Status → World → World → Type 0
IsCaused None status w w' = status ≡ Usage
IsCaused (Some form) status w w' = IsCausedBy (promise_of form) status w w'

-- what becomes of the files: only the output of the form may change, and only where a write was begun
abbrev pub LeavesFilesOf : Promise → Status → World → World → Type 0
LeavesFilesOf p Done w w' = KeepsOthers p.output w.store.files w'.store.files
LeavesFilesOf p WriteFault w w' = KeepsOthers p.output w.store.files w'.store.files
LeavesFilesOf p NoMemory w w' = KeepsOthers p.output w.store.files w'.store.files
    × ((w'.store.files ≡ w.store.files) ⊎ (Rose w.store.write_wants w'.store.write_wants ⊎ Rose w.out.wants w'.out.wants))
LeavesFilesOf p status w w' = w'.store.files ≡ w.store.files

-- words without a form leave the store as it was
abbrev pub LeavesFiles : Option Form → Status → World → World → Type 0
LeavesFiles None status w w' = w'.store ≡ w.store
LeavesFiles (Some form) status w w' = LeavesFilesOf (promise_of form) status w w'

-- the output holds what the form gives, and `out` has taken a prefix of the text that goes with it
abbrev pub Delivers : Promise → World → World → Type 0
Delivers p w w' = (given : Yield) × p.gives w.store.files given × IsWritten p.output w'.store.files given.image
    × TakesPrefix w.out.taken w'.out.taken given.text

-- so it is too where only `out` failed, or wanted memory
abbrev pub DeliversOf : Promise → Status → World → World → Type 0
DeliversOf p WriteFault w w' = (StoreFails w w' → ⊥) → Delivers p w w'
DeliversOf p NoMemory w w' = w.out.wants < w'.out.wants → Delivers p w w'
DeliversOf p status w w' = Unit {0}

-- words without a form deliver nothing
abbrev pub DeliversStill : Option Form → Status → World → World → Type 0
DeliversStill None status w w' = Unit {0}
DeliversStill (Some form) status w w' = DeliversOf (promise_of form) status w w'

-- what `out` has taken: nothing; the output so far, unless a count of it rose; or a prefix of the text that the form gives
abbrev pub PutsOutOf : Promise → Status → World → World → Type 0
PutsOutOf p Usage w w' = w'.out ≡ w.out
PutsOutOf p Refused w w' = w'.out ≡ w.out
PutsOutOf p Stopped w w' = (given : Yield) × p.halts w.store.files Stopped given × Tells w.out w'.out given.text
PutsOutOf p StepsOver w w' = (given : Yield) × p.halts w.store.files StepsOver given × Tells w.out w'.out given.text
PutsOutOf p ReadFault w w' = w'.out ≡ w.out
PutsOutOf p Absent w w' = w'.out ≡ w.out
PutsOutOf p status w w' =
    (w'.out ≡ w.out) ⊎ ((given : Yield) × p.gives w.store.files given × TakesPrefix w.out.taken w'.out.taken given.text)

-- words without a form put nothing on `out`
abbrev pub PutsOut : Option Form → Status → World → World → Type 0
PutsOut None status w w' = w'.out ≡ w.out
PutsOut (Some form) status w w' = PutsOutOf (promise_of form) status w w'

-- `note` failed in the form's own line, of which it has taken a prefix and nothing more: this count of it rose
abbrev pub BreaksOff : Promise → World → World → ℕ → ℕ → Type 0
BreaksOff p w w' count count' =
    (given : Yield) × p.gives w.store.files given × TakesPrefix w.note.taken w'.note.taken given.line × Rose count count'

-- what `note` has taken: where all was done the form's own line, which may be none, and else the status's line
abbrev pub NotesOf : Promise → Status → World → World → Type 0
NotesOf p Done w w' = (given : Yield) × p.gives w.store.files given × Takes w.note.taken w'.note.taken given.line
    × (given.line ≡ [] → w'.note ≡ w.note)
NotesOf p Refused w w' = (why : Refusal) × p.refuses w.store.files why × Tells w.note w'.note (refused_line why)
NotesOf p Stopped w w' = (given : Yield) × p.halts w.store.files Stopped given × Tells w.note w'.note given.line
NotesOf p WriteFault w w' = Tells w.note w'.note (line_of WriteFault) ⊎ BreaksOff p w w' w.note.faults w'.note.faults
NotesOf p NoMemory w w' = Tells w.note w'.note (line_of NoMemory) ⊎ BreaksOff p w w' w.note.wants w'.note.wants
NotesOf p status w w' = Tells w.note w'.note (line_of status)

-- words without a form are told as a usage
abbrev pub Notes : Option Form → Status → World → World → Type 0
Notes None status w w' = Tells w.note w'.note (line_of Usage)
Notes (Some form) status w w' = NotesOf (promise_of form) status w w'

-- no fault came that a status tells
abbrev pub IsFaultless : Promise → World → World → Type 0
IsFaultless p w w' = (Rose w.store.read_faults w'.store.read_faults → ⊥)
    × ((given : Yield) → p.gives w.store.files given → HasWriteFault p given w w' → ⊥)

-- where the form can be done and no fault comes, all is done, or memory runs out
abbrev pub IsComplete : Option Form → Status → World → World → Type 0
IsComplete None status w w' = Unit {0}
IsComplete (Some form) status w w' = (promise_of form).can_be_done w.store.files → IsFaultless (promise_of form) w w' → (status ≡ Done) ⊎ (status ≡ NoMemory)

-- what the command promises of words with this form, or with none: its status, from the world before to the world after
pub record IsAnswer (form : Option Form) (status : Status) (w w' : World) : Type 0 where
  -- why the status comes
  pub cause : IsCaused form status w w'
  -- what becomes of the files
  pub files : LeavesFiles form status w w'
  -- what `out` has taken
  pub out : PutsOut form status w w'
  -- what is delivered still, where only `out` failed
  pub delivers : DeliversStill form status w w'
  -- what `note` has taken
  pub note : Notes form status w w'
  -- words of a form, files that are there and accepted, and no fault: all is done, or memory runs out
  pub complete : IsComplete form status w w'
