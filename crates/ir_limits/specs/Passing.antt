-- The first count that is more than a limit allows.
use Rattle.std.specs.Prelude.{◌≡◌, ℕ, List, ◌∷◌, ◌++◌, Option, find, nat_lt}
use Rattle.ir_tree.specs.Shape.{ModuleShape}
use Rattle.ir_proper.specs.declared.Which.{Which}
use Rattle.ir_proper.specs.Limits.{AreKept, IsPassed}

-- the first of these counts that is more than the most
abbrev pub first_above : ℕ → List ℕ → Option ℕ
first_above most counts = find (λ n. nat_lt most n) counts

-- of these limits one is the first that is passed, with this count
pub record IsFirstAmong (m : ModuleShape) (limits : List Which) (which : Which) (found : ℕ) : Type 0 where
  pub before : List Which
  pub after : List Which
  pub here : before ++ (which ∷ after) ≡ limits
  pub kept : AreKept m before
  pub passed : IsPassed m which found
