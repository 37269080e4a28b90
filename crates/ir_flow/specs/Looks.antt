-- What was found where the flow at some instructions was looked at.
use Rattle.std.specs.Prelude.{◌≡◌, ℕ, ◌<◌, ◌≤◌, ◌⊎◌, length, Option, Some, slice_get}
use Rattle.ir_tree.specs.Shape.{FunctionShape, InstShape}
use Rattle.ir_tree.specs.ShapeOf.{module_shape}
use Rattle.ir_tree.specs.declared.module.Block.{Block}
use Rattle.ir_tree.specs.declared.module.Function.{Function}
use Rattle.ir_tree.specs.declared.parsed.Parsed.{Parsed}
use Rattle.ir_rules.specs.Places.{inst_at_place, spot_of}
use Rattle.ir_rules.specs.Values.{inst_at}
use Rattle.ir_proper.specs.FlowRules.{HasProperFlow, FlowFault}

-- an offset was found, and it isn't after this one
abbrev pub IsFoundBy : Option ℕ → ℕ → Type 0
IsFoundBy found at = (least : ℕ) × (found ≡ Some least) × (least ≤ at)

-- the flow at the instruction of these numbers is proper, or there is none
abbrev pub IsProperAt : Parsed → ℕ → ℕ → ℕ → Type 0
IsProperAt p k b i = (f : FunctionShape) (x : InstShape) → slice_get (module_shape p.«module»).functions k ≡ Some f → inst_at f b i ≡ Some x
    → HasProperFlow f b i x

-- the flow at some instructions was looked at: where an offset was found, it is that of a fault; each of the instructions is proper, or an
-- offset was found that isn't after it
pub record HasLooked (p : Parsed) (Among : ℕ → ℕ → ℕ → Type 0) (found : Option ℕ) : Type 0 where
  pub fault : (at : ℕ) → found ≡ Some at → FlowFault p at
  pub all : (k b i at : ℕ) → Among k b i → spot_of p.spots (inst_at_place k b i) ≡ Some at → IsProperAt p k b i ⊎ IsFoundBy found at

-- a function has an instruction of these numbers
abbrev pub IsInstOf : Function → ℕ → ℕ → Type 0
IsInstOf f b i = (block : Block) × (slice_get f.blocks.items b ≡ Some block) × (i < length block.insts.items)

-- the instructions before the one of these numbers, in the order of the text
abbrev pub AreBefore : ℕ → ℕ → ℕ → ℕ → ℕ → ℕ → Type 0
AreBefore k b i j c h = (j < k) ⊎ ((j ≡ k) × ((c < b) ⊎ ((c ≡ b) × (h < i))))
