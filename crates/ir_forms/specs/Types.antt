-- The form of types and constants: how wide integers are, and how many elements an array has.
use Rattle.std.specs.Prelude.{◌^◌, ◌<◌, ◌≤◌}
use Rattle.ir_tree.specs.Shape.{TyShape, TyShapes, integer, pointer, void, array, structure, named, no_types, types, ConstShape, number, boolean, null, undef, poison, zero_value, text, elements, fields, global, address, TypedShape, typed, TypedShapes, no_values, values}

-- in a type each integer type has 1 to 64 bits, and each array less than 2^64 elements
unfoldable mutual
  pub HasTyForm : TyShape → Type 0
  HasTyForm (integer bits) = (1 ≤ bits) × (bits ≤ 64)
  HasTyForm pointer = Unit {0}
  HasTyForm void = Unit {0}
  HasTyForm (array count element) = (count < 2 ^ 64) × HasTyForm element
  HasTyForm (structure row packed) = HaveTyForms row
  HasTyForm (named name) = Unit {0}

  -- so it is in each type of a row
  pub HaveTyForms : TyShapes → Type 0
  HaveTyForms no_types = Unit {0}
  HaveTyForms (types t row) = HasTyForm t × HaveTyForms row

-- so it is in each type that a constant states
unfoldable mutual
  pub HasConstForm : ConstShape → Type 0
  HasConstForm (number value) = Unit {0}
  HasConstForm (boolean value) = Unit {0}
  HasConstForm null = Unit {0}
  HasConstForm undef = Unit {0}
  HasConstForm poison = Unit {0}
  HasConstForm zero_value = Unit {0}
  HasConstForm (text bytes) = Unit {0}
  HasConstForm (elements row) = HaveTypedForms row
  HasConstForm (fields row packed) = HaveTypedForms row
  HasConstForm (global name) = Unit {0}
  HasConstForm (address inbounds t base indices) = HasTyForm t × HasTypedForm base × HaveTypedForms indices

  -- and in the type of a constant that is stated with it
  pub HasTypedForm : TypedShape → Type 0
  HasTypedForm (typed t c) = HasTyForm t × HasConstForm c

  -- and in each of such constants in a row
  pub HaveTypedForms : TypedShapes → Type 0
  HaveTypedForms no_values = Unit {0}
  HaveTypedForms (values v row) = HasTypedForm v × HaveTypedForms row
