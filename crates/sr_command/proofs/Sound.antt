-- What each form's promise keeps: what can be done gives something, and files that are told decide one status at most.
use Rattle.std.proofs.Common.{◌≡◌, ℕ, List, refl, sym, Option, None, Some, IsSome}
use Rattle.sr_base.specs.Files.{Files, held, Holds}
use Rattle.sr_command.specs.Promise.{Promise, Decides}
use Rattle.sr_command.specs.Yield.{Yield}
use Rattle.sr_command.specs.declared.refusal.Refusal.{Refusal}
use Rattle.sr_command.specs.declared.status.Status.{Status}
use Rattle.sr_command.specs.declared.status.Status.TheVariants.{Done, Refused, Stopped, StepsOver, Absent}

pub record IsSound (p : Promise) : Type 0 where
  pub can : (files : Option Files) → p.can_be_done files → IsSome files × ((given : Yield) × p.gives files given)
  pub given_refused : (files : Option Files) (given : Yield) (why : Refusal) → IsSome files → p.gives files given → p.refuses files why → ⊥
  pub given_lacking : (files : Option Files) (given : Yield) → IsSome files → p.gives files given → p.lacks files → ⊥
  pub given_halted : (files : Option Files) (status : Status) (given other : Yield) → IsSome files → p.gives files given → p.halts files status other → Done ≡ status
  pub halted_once : (files : Option Files) (a b : Status) (given other : Yield) → IsSome files → p.halts files a given → p.halts files b other → a ≡ b
  pub halted_refused : (files : Option Files) (status : Status) (given : Yield) (why : Refusal) → IsSome files → p.halts files status given → p.refuses files why → ⊥
  pub halted_lacking : (files : Option Files) (status : Status) (given : Yield) → IsSome files → p.halts files status given → p.lacks files → ⊥
  pub refused_lacking : (files : Option Files) (why : Refusal) → IsSome files → p.refuses files why → p.lacks files → ⊥

-- a file that is told to be there is told
pub told_of : (files : Option Files) (name text : List ℕ) → held files name ≡ Some (Some text) → IsSome files
told_of None name text there = absurd (cc)
told_of (Some told) name text there = refl

-- and is that file
pub holds_of : (files : Option Files) (name text : List ℕ) → held files name ≡ Some (Some text) → Holds files name (Some text)
holds_of None name text there = absurd (cc)
holds_of (Some told) name text there = there

-- two contents of one file that is told are the same, and it isn't absent
pub one_file : (files : Option Files) (name a b : List ℕ) → IsSome files → Holds files name (Some a) → Holds files name (Some b) → a ≡ b
one_file None name a b told p q = absurd (cc)
one_file (Some m) name a b told p q = cc

pub not_absent : (files : Option Files) (name a : List ℕ) → IsSome files → Holds files name (Some a) → Holds files name None → ⊥
not_absent None name a told p q = cc
not_absent (Some m) name a told p q = cc

from_done : (p : Promise) → IsSound p → (files : Option Files) → IsSome files → (given : Yield) → p.gives files given → (b : Status) → Decides p files b → Done ≡ b
from_done p s files told given g Done y = refl
from_done p s files told given g Refused (why, r) = absurd (s.given_refused files given why told g r)
from_done p s files told given g Stopped (other, h) = s.given_halted files Stopped given other told g h
from_done p s files told given g StepsOver (other, h) = s.given_halted files StepsOver given other told g h
from_done p s files told given g Absent y = absurd (s.given_lacking files given told g y)
from_done p s files told given g status y = absurd y

from_refused : (p : Promise) → IsSound p → (files : Option Files) → IsSome files → (why : Refusal) → p.refuses files why → (b : Status) → Decides p files b → Refused ≡ b
from_refused p s files told why r Done (given, g) = absurd (s.given_refused files given why told g r)
from_refused p s files told why r Refused y = refl
from_refused p s files told why r Stopped (given, h) = absurd (s.halted_refused files Stopped given why told h r)
from_refused p s files told why r StepsOver (given, h) = absurd (s.halted_refused files StepsOver given why told h r)
from_refused p s files told why r Absent y = absurd (s.refused_lacking files why told r y)
from_refused p s files told why r status y = absurd y

from_halted : (p : Promise) → IsSound p → (files : Option Files) → IsSome files → (a : Status) (other : Yield) → p.halts files a other → (b : Status) → Decides p files b → a ≡ b
from_halted p s files told a other h Done (given, g) = sym (s.given_halted files a given other told g h)
from_halted p s files told a other h Refused (why, r) = absurd (s.halted_refused files a other why told h r)
from_halted p s files told a other h Stopped (given, k) = s.halted_once files a Stopped other given told h k
from_halted p s files told a other h StepsOver (given, k) = s.halted_once files a StepsOver other given told h k
from_halted p s files told a other h Absent y = absurd (s.halted_lacking files a other told h y)
from_halted p s files told a other h status y = absurd y

from_absent : (p : Promise) → IsSound p → (files : Option Files) → IsSome files → p.lacks files → (b : Status) → Decides p files b → Absent ≡ b
from_absent p s files told l Done (given, g) = absurd (s.given_lacking files given told g l)
from_absent p s files told l Refused (why, r) = absurd (s.refused_lacking files why told r l)
from_absent p s files told l Stopped (given, h) = absurd (s.halted_lacking files Stopped given told h l)
from_absent p s files told l StepsOver (given, h) = absurd (s.halted_lacking files StepsOver given told h l)
from_absent p s files told l Absent y = refl
from_absent p s files told l status y = absurd y

pub decides_one : (p : Promise) → IsSound p → (files : Option Files) → IsSome files → (a b : Status) → Decides p files a → Decides p files b → a ≡ b
decides_one p s files told Done b (given, g) y = from_done p s files told given g b y
decides_one p s files told Refused b (why, r) y = from_refused p s files told why r b y
decides_one p s files told Stopped b (given, h) y = from_halted p s files told Stopped given h b y
decides_one p s files told StepsOver b (given, h) y = from_halted p s files told StepsOver given h b y
decides_one p s files told Absent b l y = from_absent p s files told l b y
decides_one p s files told status b x y = absurd x
