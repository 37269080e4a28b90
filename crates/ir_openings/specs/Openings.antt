-- What a table of openings says, and when it says all.
use Rattle.std.specs.Prelude.{◌≡◌, ℕ, ◌<◌, true, if◌then◌else◌, List, length, Option, Some, None, IsSome, is_some, is_none, slice_get, slice_set, unwrap_or, count_by}
use Rattle.std.specs.Option.{option_and_then}
use Rattle.std.specs.List.{IsDistinct}
use Rattle.std.specs.Str.{bytes_eq}
use Rattle.ir_tree.specs.NameTable.{text_of}
use Rattle.ir_tree.specs.Shape.{TyShape, named}
use Rattle.ir_tree.specs.ShapeOf.{module_shape, ty_shape}
use Rattle.ir_tree.specs.Known.{module_known}
use Rattle.ir_tree.specs.declared.types.Ty.{Ty, out-Ty}
use Rattle.ir_tree.specs.declared.types.Ty.TheOpen as ty
use Rattle.ir_tree.specs.declared.module.NamedTy.{NamedTy}
use Rattle.ir_tree.specs.declared.module.Module.{Module}
use Rattle.ir_layout.specs.Tables.{first_from}
use Rattle.ir_rules.specs.Constants.{Opens}

-- which named type a table has for a name
abbrev pub opening_in : List (Option ℕ) → ℕ → Option ℕ
opening_in openings id = unwrap_or (slice_get openings id) None

-- the name of the first number opens to the type of the named type with the second
pub record IsOpening (m : Module) (id at : ℕ) : Type 0 where
  pub item : NamedTy
  pub is_there : slice_get m.types.items at ≡ Some item
  pub opens : Opens (module_shape m).types (named (text_of m.names id)) (ty_shape m.names item.ty)

-- what a table has for a name is what the name opens to
pub record AreSoundOpenings (m : Module) (openings : List (Option ℕ)) : Type 0 where
  pub known : module_known m ≡ true
  pub distinct : IsDistinct bytes_eq m.names
  pub long : length openings ≡ length m.names
  pub sound : (id at : ℕ) → opening_in openings id ≡ Some at → IsOpening m id at

-- and it has something for each name that opens to a type
pub record AreOpenings (m : Module) (openings : List (Option ℕ)) : Type 0 where
  pub are_sound : AreSoundOpenings m openings
  pub whole : (id : ℕ) (u : TyShape) → id < length m.names → Opens (module_shape m).types (named (text_of m.names id)) u
      → IsSome (opening_in openings id)

-- what one layer of the type of the named type with a number opens to, by a table: the named type itself where it is an array or a structure
abbrev pub layer_opening : List (Option ℕ) → ℕ → ty.Ty-F Ty → Option ℕ
layer_opening openings at (ty.Int bits) = None
layer_opening openings at ty.Ptr = None
layer_opening openings at ty.Void = None
layer_opening openings at (ty.Array count element) = Some at
layer_opening openings at (ty.Struct v packed) = Some at
layer_opening openings at (ty.Named id) = opening_in openings id.0

-- what the type of the named type with a number opens to, by a table
abbrev pub item_opening : List NamedTy → List (Option ℕ) → ℕ → Option ℕ
item_opening ts openings at = option_and_then (λ t. layer_opening openings at (out-Ty t.ty)) (slice_get ts at)

-- what a name opens to by the others in the table
abbrev pub name_opening : List NamedTy → List (Option ℕ) → ℕ → Option ℕ
name_opening ts openings id = option_and_then (item_opening ts openings) (first_from 0 ts id)

-- the same for a name that has nothing in the table
abbrev pub new_opening : List NamedTy → List (Option ℕ) → ℕ → Option ℕ
new_opening ts openings id = if is_some (opening_in openings id) then None else name_opening ts openings id

-- the table where a name has got something, if it got it
abbrev pub with_opening : List (Option ℕ) → ℕ → Option ℕ → List (Option ℕ)
with_opening openings id None = openings
with_opening openings id (Some at) = slice_set openings id (Some at)

-- how many names have nothing
abbrev pub count_empty : List (Option ℕ) → ℕ
count_empty openings = count_by is_none openings

-- no name below the number gets anything by the others
abbrev pub AreStuck : List NamedTy → List (Option ℕ) → ℕ → Type 0
AreStuck ts openings below = (id : ℕ) → id < below → new_opening ts openings id ≡ None
