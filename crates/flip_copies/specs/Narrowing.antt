-- What is known of a stage is narrowed to values in slots, as at a place where several ways meet: a block, or the entry of a function.
use Rattle.std.specs.Prelude.{ℕ, ◌/◌, Bool, List, [], ◌∷◌, Option, if◌then◌else◌}
use Rattle.rv_flips.specs.Cells.{Free}
use Rattle.rv_flips.specs.Assertion.{AnyByte}
use Rattle.flip_frames.specs.Views.{Stage}
use Rattle.flip_frames.specs.Fetching.{Triple}
use Rattle.flip_versions.specs.Operations.{HoldsVersions, defined, AreDifferent}
use Rattle.flip_jumps.specs.Places.{StageSaysLess}
use Rattle.flip_copies.specs.Copies.{IsClear}

-- a value by its number, and the slots that hold it
pub record HeldValue : Type 0 where
  pub slots : Triple
  pub id : ℕ

-- the slots of each hold the value with its number
abbrev pub AreHeld : Stage → List HeldValue → (ℕ → Option ℕ) → Type 0
AreHeld g [] values = Unit {0}
AreHeld g (x ∷ xs) values = HoldsVersions g x.slots (values x.id) × AreHeld g xs values

-- nothing is known of the words of the data for which the test holds
abbrev pub forgotten : (ℕ → Bool) → Stage → Stage
forgotten gone g =
    record g {
      slots = λ k. if gone k then Free else g.slots k;
      bytes = λ o. if gone (o / 8) then AnyByte else g.bytes o;
    }

-- of these words the values are known, and nothing else
abbrev pub knowing : (ℕ → Bool) → Stage → List HeldValue → (ℕ → Option ℕ) → Stage
knowing gone g [] values = forgotten gone g
knowing gone g (x ∷ xs) values = defined (knowing gone g xs values) x.slots (values x.id)

-- a stage that holds the values says all that
abbrev pub StagesAreNarrowed : Type 0
StagesAreNarrowed = (gone : ℕ → Bool) (g : Stage) (xs : List HeldValue) (values : ℕ → Option ℕ) → AreHeld g xs values
    → StageSaysLess g (knowing gone g xs values)

-- none of the values has one of the slots
abbrev pub AllClear : Triple → List HeldValue → Type 0
AllClear d [] = Unit {0}
AllClear d (x ∷ xs) = IsClear d x.slots × AllClear d xs

-- the values have slots of their own
abbrev pub AreSeparate : List HeldValue → Type 0
AreSeparate [] = Unit {0}
AreSeparate (x ∷ xs) = AreDifferent x.slots × AllClear x.slots xs × AreSeparate xs

-- then the narrowed stage holds them all
abbrev pub NarrowedStagesHold : Type 0
NarrowedStagesHold = (gone : ℕ → Bool) (g : Stage) (xs : List HeldValue) (values : ℕ → Option ℕ) → AreSeparate xs
    → AreHeld (knowing gone g xs values) xs values
