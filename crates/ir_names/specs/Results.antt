-- The values of a function as code has them, and their types.
use Rattle.std.specs.Prelude.{◌≡◌, ℕ, Bool, true, List, option_map}
use Rattle.ir_tree.specs.Shape.{TyShape, integer, pointer, void}
use Rattle.ir_tree.specs.ShapeOf.{ty_shape, name_shape}
use Rattle.ir_tree.specs.Known.{result_known, ty_known}
use Rattle.ir_rules.specs.Values.{ValueShape}
use Rattle.ir_names.specs.declared.results.ResultTy.{ResultTy}
use Rattle.ir_names.specs.declared.results.ResultTy.TheVariants.{Stated, Bit, Address, Nothing}
use Rattle.ir_names.specs.declared.values.Value.{Value}

-- the type of what an instruction gives
abbrev pub result_shape : List (List ℕ) → ResultTy → TyShape
result_shape names (Stated ty) = ty_shape names ty.now
result_shape names Bit = integer 1
result_shape names Address = pointer
result_shape names Nothing = void

-- its names are below the count
abbrev pub IsKnownResult : ℕ → ResultTy → Type 0
IsKnownResult count (Stated ty) = ty_known count ty.now ≡ true
IsKnownResult count Bit = Unit {0}
IsKnownResult count Address = Unit {0}
IsKnownResult count Nothing = Unit {0}

-- a value's shape
abbrev pub value_shape : List (List ℕ) → Value → ValueShape
value_shape names v = record { name = option_map (name_shape names) v.name; site = v.site }

-- the name of a value, if it has one, is below the count of names
abbrev pub value_known : ℕ → Value → Bool
value_known count v = result_known count v.name
