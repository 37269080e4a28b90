-- Copies of values of which three versions are kept, one after another. Each version comes from a slot, a register or words that make a
-- constant, and goes to a slot.
use Rattle.std.specs.Prelude.{◌≡◌, ◌≢◌, ℕ, ◌+◌, ◌/◌, List, [], ◌∷◌, ◌++◌, Option}
use Rattle.rv_inst.specs.declared.instruction.Form.{Form}
use Rattle.rv_flips.specs.Cells.{One}
use Rattle.flip_frames.specs.Views.{Stage, Runs}
use Rattle.flip_frames.specs.Fetching.{Triple}
use Rattle.flip_frames.specs.Slots.{any_store}
use Rattle.flip_versions.specs.Operations.{resting, AreSlots, HoldsVersions, defined, AreDifferent, IsOther}
use Rattle.flip_guards.specs.Sources.{Source, InSlot, InRegister, Constant, bring}
use Rattle.flip_guards.specs.Fetching.{Operand, IsGiven}

-- a copy: where the value comes from, the slots that it goes to, and the number of the value that it is to be
pub record Copy : Type 0 where
  pub source : Operand
  pub goal : Triple
  pub id : ℕ

-- one version
abbrev pub version_copy : Source → ℕ → List Form
version_copy s n = bring 5 s ++ any_store 5 n

-- all three versions
abbrev pub operand_copy : Operand → Triple → List Form
operand_copy x d = version_copy x.one d.one ++ (version_copy x.two d.two ++ version_copy x.three d.three)

-- the words of copies one after another
abbrev pub copies_words : List Copy → List Form
copies_words [] = []
copies_words (c ∷ cs) = operand_copy c.source c.goal ++ copies_words cs

-- each source gives the value with the copy's number, and each goal is in reach
abbrev pub CanCopy : Stage → List Copy → (ℕ → Option ℕ) → Type 0
CanCopy g [] values = Unit {0}
CanCopy g (c ∷ cs) values = IsGiven g c.source (values c.id) × AreSlots g c.goal × CanCopy g cs values

-- the version isn't read from slot n
abbrev pub IsElsewhere : ℕ → Source → Type 0
IsElsewhere n (InSlot m) = m ≢ n
IsElsewhere n (InRegister r) = Unit {0}
IsElsewhere n (Constant parts) = Unit {0}

-- no later version is read from where an earlier one goes to
pub record IsReadInTime (d : Triple) (x : Operand) : Type 0 where
  pub two_one : IsElsewhere d.one x.two
  pub three_one : IsElsewhere d.one x.three
  pub three_two : IsElsewhere d.two x.three

-- the version is read from none of the slots
pub record IsUnread (d : Triple) (s : Source) : Type 0 where
  pub one : IsElsewhere d.one s
  pub two : IsElsewhere d.two s
  pub three : IsElsewhere d.three s

-- none of the slots of x is one of d's
pub record IsClear (d x : Triple) : Type 0 where
  pub one : IsOther d x.one
  pub two : IsOther d x.two
  pub three : IsOther d x.three

-- a later copy neither reads nor writes what goes to d
pub record LeavesAlone (d : Triple) (later : Copy) : Type 0 where
  pub one : IsUnread d later.source.one
  pub two : IsUnread d later.source.two
  pub three : IsUnread d later.source.three
  pub written : IsClear d later.goal

-- none of the later copies does
abbrev pub AllLeaveAlone : Triple → List Copy → Type 0
AllLeaveAlone d [] = Unit {0}
AllLeaveAlone d (c ∷ cs) = LeavesAlone d c × AllLeaveAlone d cs

-- made one after another, the copies do what they would all at once: each source is read before a copy writes there
abbrev pub Compatible : List Copy → Type 0
Compatible [] = Unit {0}
Compatible (c ∷ cs) = AreDifferent c.goal × IsReadInTime c.goal c.source × AllLeaveAlone c.goal cs × Compatible cs

-- the stage after the copies
abbrev pub copied : Stage → List Copy → (ℕ → Option ℕ) → Stage
copied g [] values = g
copied g (c ∷ cs) values = copied (defined g c.goal (values c.id)) cs values

-- lists of copies, in any frame and at any place
abbrev pub CopyListsRun : Type 0
CopyListsRun = (words : List ℕ) (g : Stage) (cs : List Copy) (values : ℕ → Option ℕ) → CanCopy g cs values → Compatible cs
    → Runs words (copies_words cs) (resting g One) (resting (copied g cs values) One)

-- the slots of each goal hold the value with its number
abbrev pub AreSet : Stage → List Copy → (ℕ → Option ℕ) → Type 0
AreSet g [] values = Unit {0}
AreSet g (c ∷ cs) values = HoldsVersions g c.goal (values c.id) × AreSet g cs values

-- after the copies they do
abbrev pub GoalsAreSet : Type 0
GoalsAreSet = (g : Stage) (cs : List Copy) (values : ℕ → Option ℕ) → Compatible cs → AreSet (copied g cs values) cs values

-- word k of the data is none of the slots, in the frame at this base
pub record IsBeside (base : ℕ) (d : Triple) (k : ℕ) : Type 0 where
  pub one : k ≢ base + d.one
  pub two : k ≢ base + d.two
  pub three : k ≢ base + d.three

-- it is none of the slots that the copies write
abbrev pub IsBesideAll : ℕ → List Copy → ℕ → Type 0
IsBesideAll base [] k = Unit {0}
IsBesideAll base (c ∷ cs) k = IsBeside base c.goal k × IsBesideAll base cs k

-- a second stage is as the first one, but of its data are known to be so only the words with this property
pub record SameWhere (stays : ℕ → Type 0) (g h : Stage) : Type 0 where
  pub base : h.base ≡ g.base
  pub places : h.places ≡ g.places
  pub slots : (k : ℕ) → stays k → h.slots k ≡ g.slots k
  pub bytes : (o : ℕ) → stays (o / 8) → h.bytes o ≡ g.bytes o
  pub size : h.size ≡ g.size
  pub input : h.input ≡ g.input
  pub out : h.out ≡ g.out

-- what no copy writes stays, in this frame and in all others
abbrev pub CopiesLeaveTheRest : Type 0
CopiesLeaveTheRest = (g : Stage) (cs : List Copy) (values : ℕ → Option ℕ) → SameWhere (IsBesideAll g.base cs) g (copied g cs values)

-- no copy writes a slot of x
abbrev pub IsClearOfAll : List Copy → Triple → Type 0
IsClearOfAll [] x = Unit {0}
IsClearOfAll (c ∷ cs) x = IsClear c.goal x × IsClearOfAll cs x

-- then x holds its value still
abbrev pub OtherValuesStay : Type 0
OtherValuesStay = (g : Stage) (cs : List Copy) (values : ℕ → Option ℕ) (x : Triple) (o : Option ℕ) → HoldsVersions g x o → IsClearOfAll cs x
    → HoldsVersions (copied g cs values) x o
