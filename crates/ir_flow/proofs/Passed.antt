-- When a value is there, by what all paths have passed.
use Rattle.std.proofs.Common.{◌≡◌, ℕ, zero, suc, ◌<◌, inl, inr, List, ◌∷◌, Contains, sym, arith}
use Rattle.std.specs.Prelude.{◌↔◌}
use Rattle.ir_tree.specs.Shape.{FunctionShape}
use Rattle.ir_rules.specs.declared.Site.TheVariants.{Inst}
use Rattle.graph_paths.specs.Paths.{AlwaysPasses}
use Rattle.ir_proper.specs.Edges.{successors}
use Rattle.ir_proper.specs.Availability.{IsThere, IsThereAtEnd}

-- a value that isn't given earlier in the block is there just where each path has passed its block
pub there_by_paths : (f : FunctionShape) (d j b i : ℕ) → ((d ≡ b) × (j < i) → ⊥) → IsThere f (Inst d j) b i ↔ AlwaysPasses (successors f) d b
there_by_paths f d j b i apart = (
  λ there passed path. elim (there passed path) [ inl before ↦ before | inr here ↦ absurd (apart here) ],
  λ always passed path. inl (always passed path),
)

-- what a list with one more in front contains
head_or_rest : (b d : ℕ) (passed : List ℕ) → (d ≡ b → ⊥) → Contains (b ∷ passed) d → Contains passed d
head_or_rest b d passed apart (zero, within, is) = absurd (apart (sym is))
head_or_rest b d passed apart (suc k, within, is) = (k, omega arith, is)

in_rest : (b d : ℕ) (passed : List ℕ) → Contains passed d → Contains (b ∷ passed) d
in_rest b d passed (k, within, is) = (suc k, omega arith, is)

pub at_end_by_paths : (f : FunctionShape) (d j b : ℕ) → (d ≡ b → ⊥) → IsThereAtEnd f (Inst d j) b ↔ AlwaysPasses (successors f) d b
at_end_by_paths f d j b apart = (
  λ there passed path. head_or_rest b d passed apart (there passed path),
  λ always passed path. in_rest b d passed (always passed path),
)
