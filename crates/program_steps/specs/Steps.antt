-- What the steps of a module's types are.
use Rattle.std.specs.Prelude.{◌≡◌, ℕ, true, List, map, Some, slice_get}
use Rattle.ir_tree.specs.Known.{module_known}
use Rattle.ir_tree.specs.Shape.{TyShape, NamedTyShape}
use Rattle.ir_tree.specs.ShapeOf.{ty_shape, module_shape}
use Rattle.ir_tree.specs.declared.module.Module.{Module}
use Rattle.ir_tree.specs.declared.types.Ty.{Ty}
use Rattle.ir_layout.specs.Rules.{IsSized}
use Rattle.ir_layout.specs.Tables.{IsWholeTable}
use Rattle.ir_openings.specs.Openings.{AreOpenings}
use Rattle.ir_program.specs.Sizes.{opened}
use Rattle.ir_program.specs.Strides.{Index as IndexShape, stride_into}
use Rattle.program_tables.specs.declared.operations.Stride.{Stride}
use Rattle.program_tables.specs.Shapes.{stride_shape}
use Rattle.program_steps.specs.declared.index.Index.{Index}
use Rattle.program_steps.specs.declared.laid.Laid.{Laid}
use Rattle.program_steps.specs.declared.steps.TypeSteps.{TypeSteps}
use Rattle.program_steps.specs.Laid.{laid_of}
use Rattle.program_steps.specs.LaidShapes.{laid_shape}

-- each named type has a layout
abbrev pub AreTypesSized : Module → Type 0
AreTypesSized m = (k : ℕ) (t : NamedTyShape) → slice_get (module_shape m).types k ≡ Some t → IsSized (module_shape m).types t.ty

-- the names and the named types of the module
abbrev pub names_of : TypeSteps → List (List ℕ)
names_of s = s.module.now.names

abbrev pub types_of : TypeSteps → List NamedTyShape
types_of s = (module_shape s.module.now).types

-- a type's shape, by those names
abbrev pub ty_in : TypeSteps → Ty → TyShape
ty_in s = ty_shape (names_of s)

-- the tables are those of the module, and its types are laid out
pub record AreTypeSteps (s : TypeSteps) : Type 0 where
  pub known : module_known s.module.now ≡ true
  pub sized : AreTypesSized s.module.now
  pub layouts : IsWholeTable s.module.now s.layouts
  pub openings : AreOpenings s.module.now s.openings
  pub laid : map (laid_shape (names_of s)) s.laid.items ≡ map (λ t. laid_of (types_of s) (ty_in s t.ty)) s.module.now.types.items

abbrev pub index_shape : Index → IndexShape
index_shape i = record { width = i.width; number = i.number }

-- what an index takes is its step from one type into another, and what it leads to is laid out as the other is
pub record IsStep (s : TypeSteps) (t u : TyShape) (index : Index) (taken : Stride) (reached : Laid) : Type 0 where
  pub stride : stride_shape taken ≡ stride_into (types_of s) (opened (types_of s) t) (index_shape index)
  pub inside : laid_shape (names_of s) reached ≡ laid_of (types_of s) u
