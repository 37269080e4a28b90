-- What was found where the types at some places were looked at.
use Rattle.std.specs.Prelude.{◌≡◌, ℕ, ◌≤◌, ◌⊎◌, Bool, if◌then◌else◌, Option, Some, None}
use Rattle.ir_tree.specs.ShapeOf.{module_shape}
use Rattle.ir_tree.specs.declared.parsed.Parsed.{Parsed}
use Rattle.ir_rules.specs.Places.{Place, type_at, global_at, declare_at, function_at, inst_at_place, spot_of}
use Rattle.ir_rules.specs.TypeRules.{HasProperTypes}
use Rattle.ir_rules.specs.Faults.{TypeFault}

-- the place of a named type
abbrev pub IsTypePlace : Place → Type 0
IsTypePlace place = (k : ℕ) × (place ≡ type_at k)

-- the place of a global
abbrev pub IsGlobalPlace : Place → Type 0
IsGlobalPlace place = (k : ℕ) × (place ≡ global_at k)

-- the place of a declared function
abbrev pub IsDeclarePlace : Place → Type 0
IsDeclarePlace place = (k : ℕ) × (place ≡ declare_at k)

-- the place of the head of a function
abbrev pub IsHeadPlace : Place → Type 0
IsHeadPlace place = (k : ℕ) × (place ≡ function_at k)

-- the place of an instruction of a block, by the numbers of its function and in it
abbrev pub IsInBlock : ℕ → ℕ → Place → Type 0
IsInBlock k b place = (i : ℕ) × (place ≡ inst_at_place k b i)

-- the place of an instruction of a function
abbrev pub IsInFunction : ℕ → Place → Type 0
IsInFunction k place = (b : ℕ) × IsInBlock k b place

-- the place of an instruction
abbrev pub IsInstPlace : Place → Type 0
IsInstPlace place = (k : ℕ) × IsInFunction k place

-- an offset was found, and it isn't after this one
abbrev pub IsFoundBy : Option ℕ → ℕ → Type 0
IsFoundBy found at = (least : ℕ) × (found ≡ Some least) × (least ≤ at)

-- the types at some places were looked at: where an offset was found, it is that of a fault; each of the places is proper, or an offset was
-- found that isn't after it
pub record HasLooked (p : Parsed) (Among : Place → Type 0) (found : Option ℕ) : Type 0 where
  pub fault : (at : ℕ) → found ≡ Some at → TypeFault p at
  pub all : (place : Place) (at : ℕ) → Among place → spot_of p.spots place ≡ Some at → HasProperTypes (module_shape p.«module») place ⊎ IsFoundBy found at

-- the offset of what isn't proper
abbrev pub fault_at : Bool → ℕ → Option ℕ
fault_at is_proper spot = if is_proper then None else Some spot
