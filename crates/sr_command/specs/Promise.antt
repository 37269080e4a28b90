-- What a form of words promises, over the files that the store tells before.
use Rattle.std.specs.Prelude.{ℕ, List, Option}
use Rattle.sr_base.specs.Files.{Files}
use Rattle.sr_command.specs.Yield.{Yield}
use Rattle.sr_command.specs.declared.refusal.Refusal.{Refusal}
use Rattle.sr_command.specs.declared.status.Status.{Status}
use Rattle.sr_command.specs.declared.status.Status.TheVariants.{Done, Refused, Stopped, StepsOver, Absent}

pub record Promise : Type 1 where
  -- what it gives: an executable, a text, and a line of its own, which may be none
  pub gives : Option Files → Yield → Type 0
  -- a program is stopped or goes on, so that the form ends with this status, and gives this
  pub halts : Option Files → Status → Yield → Type 0
  -- a file that it reads is refused, for this reason
  pub refuses : Option Files → Refusal → Type 0
  -- a file that it reads isn't there
  pub lacks : Option Files → Type 0
  -- the name that it writes to
  pub output : Option (List ℕ)
  -- the store tells that the files which it reads are there, and they are accepted
  pub can_be_done : Option Files → Type 0

-- by what it promises the files alone decide this status, which comes where no fault does and memory suffices
abbrev pub Decides : Promise → Option Files → Status → Type 0
Decides p files Done = (given : Yield) × p.gives files given
Decides p files Refused = (why : Refusal) × p.refuses files why
Decides p files Stopped = (given : Yield) × p.halts files Stopped given
Decides p files StepsOver = (given : Yield) × p.halts files StepsOver given
Decides p files Absent = p.lacks files
Decides p files status = ⊥
