-- What code has around an instruction, and what it stands for.
use Rattle.std.specs.Prelude.{◌≡◌, ℕ, true, List, length}
use Rattle.ir_tree.specs.Known.{module_known, function_known, ty_known, val_known, ty_val_known}
use Rattle.ir_tree.specs.Shape.{TyShape, ValShape, TyValShape}
use Rattle.ir_tree.specs.ShapeOf.{module_shape, function_shape, ty_shape, val_shape, ty_val_shape}
use Rattle.ir_tree.specs.declared.types.Ty.{Ty}
use Rattle.ir_tree.specs.declared.module.Val.{Val}
use Rattle.ir_tree.specs.declared.module.TyVal.{TyVal}
use Rattle.ir_rules.specs.Instructions.{Around as AroundShape}
use Rattle.ir_names.specs.Tables.{AreNamesOf, AreNamesIn}
use Rattle.ir_check_consts.specs.Tables.{AreTypeTables}
use Rattle.ir_check_insts.specs.declared.around.Around.{Around}

-- the names of the module around an instruction
abbrev pub names_of : Around → List (List ℕ)
names_of a = a.module.now.names

-- the shapes of the module and of the function around an instruction
abbrev pub around_shape : Around → AroundShape
around_shape a = record { within = module_shape a.module.now; function = function_shape (names_of a) a.function.now }

-- a type's shape, by the names of that module
abbrev pub ty_in : Around → Ty → TyShape
ty_in a = ty_shape (names_of a)

-- an operand's shape
abbrev pub val_in : Around → Val → ValShape
val_in a = val_shape (names_of a)

-- the shape of an operand with its type
abbrev pub ty_val_in : Around → TyVal → TyValShape
ty_val_in a = ty_val_shape (names_of a)

-- how many names that module has
abbrev pub count_of : Around → ℕ
count_of a = length (names_of a)

-- the names of a type are among them
abbrev pub KnowsTy : Around → Ty → Type 0
KnowsTy a t = ty_known (count_of a) t ≡ true

-- the names of an operand are among them
abbrev pub KnowsVal : Around → Val → Type 0
KnowsVal a v = val_known (count_of a) v ≡ true

-- the names of an operand with its type are among them
abbrev pub KnowsTyVal : Around → TyVal → Type 0
KnowsTyVal a x = ty_val_known (count_of a) x ≡ true

-- all names are known, and each table is that of the module or of the function
pub record IsAround (a : Around) : Type 0 where
  pub module_names : module_known a.module.now ≡ true
  pub function_names : function_known (count_of a) a.function.now ≡ true
  pub types : AreTypeTables a.module.now a.types.now
  pub names : AreNamesOf a.module.now a.names.now
  pub values : AreNamesIn (names_of a) a.function.now a.values.now
