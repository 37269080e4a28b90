-- Which values are there where they are used, whatever path of the function was taken.
use Rattle.std.specs.Prelude.{◌≡◌, ℕ, ◌<◌, ◌⊎◌, List, ◌∷◌, Option, slice_get, Contains}
use Rattle.std.specs.Option.{option_map, option_and_then}
use Rattle.ir_tree.specs.Shape.{FunctionShape}
use Rattle.ir_rules.specs.declared.Site.{Site}
use Rattle.ir_rules.specs.declared.Site.TheVariants.{Param, Inst}
use Rattle.ir_rules.specs.Values.{values, value_of}
use Rattle.graph_paths.specs.Paths.{Path}
use Rattle.ir_proper.specs.Edges.{successors}

-- what gives the value that a name stands for
abbrev pub site_of : FunctionShape → List ℕ → Option Site
site_of f name = option_map (λ v. v.site) (option_and_then (slice_get (values f)) (value_of f name))

-- at the instruction of the second number in the block of the first, a value is there: it is a parameter, or on each path from the first
-- block to this one its block is passed before, or it is given earlier in the same block. Where no path leads, each value is there
abbrev pub IsThere : FunctionShape → Site → ℕ → ℕ → Type 0
IsThere f (Param k) b i = Unit {0}
IsThere f (Inst d j) b i = (passed : List ℕ) → Path (successors f) b passed → Contains passed d ⊎ ((d ≡ b) × (j < i))

-- the same at the end of a block
abbrev pub IsThereAtEnd : FunctionShape → Site → ℕ → Type 0
IsThereAtEnd f (Param k) b = Unit {0}
IsThereAtEnd f (Inst d j) b = (passed : List ℕ) → Path (successors f) b passed → Contains (b ∷ passed) d
