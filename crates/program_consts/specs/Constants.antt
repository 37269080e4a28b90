-- What is kept to find what the constants of a module stand for.
use Rattle.std.specs.Prelude.{◌≡◌}
use Rattle.ir_tree.specs.Shape.{ConstShape, TyShape, ModuleShape}
use Rattle.ir_tree.specs.ShapeOf.{module_shape, const_shape}
use Rattle.ir_tree.specs.declared.types.Const.{Const}
use Rattle.ir_tree.specs.declared.types.Ty.{Ty}
use Rattle.ir_names.specs.Tables.{AreNamesOf}
use Rattle.program_steps.specs.Steps.{AreTypeSteps, names_of, ty_in}
use Rattle.program_consts.specs.Rooms.{block_sizes}
use Rattle.program_consts.specs.declared.values.Constants.{Constants}

-- the module's shape, and those of a type and of a constant in it
abbrev pub shape_of : Constants → ModuleShape
shape_of c = module_shape c.steps.«module».now

abbrev pub ty_of : Constants → Ty → TyShape
ty_of c = ty_in c.steps

abbrev pub const_of : Constants → Const → ConstShape
const_of c = const_shape (names_of c.steps)

-- the steps of types, the names and the sizes of blocks are those of one module
pub record AreConstants (c : Constants) : Type 0 where
  pub steps : AreTypeSteps c.steps
  pub names : AreNamesOf c.steps.«module».now c.names.now
  pub sizes : c.sizes.items ≡ block_sizes (shape_of c)
