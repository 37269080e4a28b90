-- The kinds of the values of a module's program, by the types that the module states.
use Rattle.std.specs.Prelude.{List, map, Option, Some, None}
use Rattle.std.specs.Option.{option_map_or}
use Rattle.ir_tree.specs.Shape.{TyShape, integer, pointer, void, array, structure, named, FunctionShape, ModuleShape}
use Rattle.ir_rules.specs.declared.Site.{Site}
use Rattle.ir_rules.specs.Values.{values, site_ty}
use Rattle.ir_typed_runs.specs.Kinds.{Kind, OfWidth, OfPointer}
use Rattle.ir_typed_runs.specs.TypedPrograms.{FunctionKinds}

-- the kind of the values of a type. An array or a structure is no value's type
abbrev pub kind_of_ty : TyShape → Kind
kind_of_ty (integer bits) = OfWidth bits
kind_of_ty pointer = OfPointer
kind_of_ty void = OfPointer
kind_of_ty (array count element) = OfPointer
kind_of_ty (structure row packed) = OfPointer
kind_of_ty (named name) = OfPointer

-- the kind of what a function returns, if it returns something
abbrev pub returned_kind : TyShape → Option Kind
returned_kind (integer bits) = Some (OfWidth bits)
returned_kind pointer = Some OfPointer
returned_kind void = None
returned_kind (array count element) = None
returned_kind (structure row packed) = None
returned_kind (named name) = None

-- the kind of the value that is given somewhere in a function
abbrev pub site_kind : FunctionShape → Site → Kind
site_kind f site = option_map_or kind_of_ty (site_ty f site) OfPointer

-- the kinds of a function
abbrev pub function_kinds : FunctionShape → FunctionKinds
function_kinds f = record { values = map (λ v. site_kind f v.site) (values f); result = returned_kind f.ret }

-- the kinds of all functions of a module
abbrev pub module_kinds : ModuleShape → List FunctionKinds
module_kinds m = map function_kinds m.functions
