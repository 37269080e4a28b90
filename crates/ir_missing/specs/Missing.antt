-- Which names aren't there, place by place, and the earlier of two offsets.
use Rattle.std.specs.Prelude.{◌≡◌, ℕ, min, Option, Some, None, slice_get, Vec}
use Rattle.std.specs.Option.{option_and_then}
use Rattle.std.specs.declared.alloc.Global.{Global}
use Rattle.ir_tree.specs.ShapeOf.{module_shape}
use Rattle.ir_tree.specs.declared.parsed.Parsed.{Parsed}
use Rattle.ir_tree.specs.declared.parsed.Spots.{Spots}
use Rattle.ir_rules.specs.Places.{Place, inst_at_place, spot_of}
use Rattle.ir_rules.specs.NameRules.{AreThere}

-- a place stands at this offset, and a name that is used there isn't there
pub record IsMissing (p : Parsed) (place : Place) (at : ℕ) : Type 0 where
  pub spot : spot_of p.spots place ≡ Some at
  pub not_there : AreThere (module_shape p.«module») place → ⊥

-- an instruction of a block uses a name that isn't there, and stands at this offset
abbrev pub InBlock : Parsed → ℕ → ℕ → ℕ → Type 0
InBlock p f b at = (i : ℕ) × IsMissing p (inst_at_place f b i) at

-- an instruction of a function uses a name that isn't there, and stands at this offset
abbrev pub InFunction : Parsed → ℕ → ℕ → Type 0
InFunction p f at = (b : ℕ) × InBlock p f b at

-- the earlier of two offsets, of those that there are
abbrev pub earlier : Option ℕ → Option ℕ → Option ℕ
earlier None other = other
earlier (Some at) None = Some at
earlier (Some at) (Some other) = Some (min at other)

-- the offsets of the instructions of a block
abbrev pub block_spots : Spots → ℕ → ℕ → Option (Vec ℕ Global)
block_spots s f b = option_and_then (λ blocks. slice_get blocks.items b) (slice_get s.insts.items f)
