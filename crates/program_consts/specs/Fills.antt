-- Constants that may be the content of a global.
use Rattle.std.specs.Prelude.{ℕ, List}
use Rattle.std.specs.List.{AllByRecursion}
use Rattle.ir_tree.specs.Shape.{NamedTyShape, TyShape, ConstShape}
use Rattle.ir_tree.specs.ShapeOf.{ty_shape, const_shape}
use Rattle.ir_tree.specs.declared.types.Typed.{Typed}
use Rattle.ir_layout.specs.Rules.{IsSized}
use Rattle.ir_rules.specs.Constants.{HasConst}

-- a constant is one of a type that has a layout
pub record Fills (ts : List NamedTyShape) (t : TyShape) (c : ConstShape) : Type 0 where
  pub sized : IsSized ts t
  pub proper : HasConst ts c t

-- each constant is one of the type that is stated with it
abbrev pub AllFill : List (List ℕ) → List NamedTyShape → List Typed → Type 0
AllFill names ts row = AllByRecursion (λ v. Fills ts (ty_shape names v.ty) (const_shape names v.value)) row
