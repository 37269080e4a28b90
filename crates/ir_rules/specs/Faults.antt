-- Where in a text a rule fails first.
use Rattle.std.specs.Prelude.{◌≡◌, ℕ, ◌≤◌, ◌⊎◌, max, Option, Some, None}
use Rattle.ir_tree.specs.ShapeOf.{module_shape}
use Rattle.ir_tree.specs.declared.parsed.Parsed.{Parsed}
use Rattle.ir_rules.specs.Places.{Place, spot_of}
use Rattle.ir_rules.specs.NameRules.{AreThere, IsRepeated, Clash}
use Rattle.ir_rules.specs.TypeRules.{HasProperTypes}

-- a name that is used at this offset isn't there
abbrev pub MissingFault : Parsed → ℕ → Type 0
MissingFault p at = (place : Place) × (spot_of p.spots place ≡ Some at) × (AreThere (module_shape p.«module») place → ⊥)

-- a function gives a name a second time at this offset
abbrev pub RepeatFault : Parsed → ℕ → Type 0
RepeatFault p at = (place : Place) × (spot_of p.spots place ≡ Some at) × IsRepeated (module_shape p.«module») place

-- two items have one name, and the later of them is at this offset
pub record ClashFault (p : Parsed) (at : ℕ) : Type 0 where
  pub one : Place
  pub other : Place
  pub one_spot : ℕ
  pub other_spot : ℕ
  pub one_at : spot_of p.spots one ≡ Some one_spot
  pub other_at : spot_of p.spots other ≡ Some other_spot
  pub clash : Clash (module_shape p.«module») one other
  pub later : at ≡ max one_spot other_spot

-- a rule of names fails at this offset
abbrev pub NameFault : Parsed → ℕ → Type 0
NameFault p at = MissingFault p at ⊎ RepeatFault p at ⊎ ClashFault p at

-- a rule of types fails at this offset
abbrev pub TypeFault : Parsed → ℕ → Type 0
TypeFault p at = (place : Place) × (spot_of p.spots place ≡ Some at) × (HasProperTypes (module_shape p.«module») place → ⊥)

-- the first offset with a fault, or none where there is no fault
abbrev pub IsFirst : (ℕ → Type 0) → Option ℕ → Type 0
IsFirst Fault None = (at : ℕ) → Fault at → ⊥
IsFirst Fault (Some at) = Fault at × ((other : ℕ) → Fault other → at ≤ other)
