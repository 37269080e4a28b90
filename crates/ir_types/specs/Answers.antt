-- What the answers to a check of names and types say.
use Rattle.std.specs.Prelude.{Some, Result, Ok, Err}
use Rattle.ir_tree.specs.ShapeOf.{module_shape}
use Rattle.ir_tree.specs.declared.parsed.Parsed.{Parsed}
use Rattle.ir_rules.specs.NameRules.{HasNames}
use Rattle.ir_rules.specs.TypeRules.{HasTypes}
use Rattle.ir_rules.specs.Faults.{NameFault, TypeFault, IsFirst}
use Rattle.ir_types.specs.declared.error.TypeError.{TypeError}
use Rattle.ir_types.specs.declared.error.TypeError.TheVariants.{Name, Typing, OutOfMemory}

-- names and types are proper; or a rule of names fails first at an offset; or names are proper, and a rule of types fails first at an offset;
-- or there was no memory, which says nothing of the module
abbrev pub IsChecked : Parsed → Result (Unit {0}) TypeError → Type 0
IsChecked p (Ok done) = HasNames (module_shape p.«module») × HasTypes (module_shape p.«module»)
IsChecked p (Err (Name at)) = IsFirst (NameFault p) (Some at)
IsChecked p (Err (Typing at)) = HasNames (module_shape p.«module») × IsFirst (TypeFault p) (Some at)
IsChecked p (Err OutOfMemory) = Unit {0}
