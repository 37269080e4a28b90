-- Which constant may stand where a value of a type is needed.
use Rattle.std.specs.Prelude.{◌≡◌, ℕ, zero, suc, ℤ, pos, negsuc, ◌+◌, ◌-◌, ◌^◌, ◌<◌, ◌≤◌, Bool, List, [], ◌∷◌, length, Option, Some, None}
use Rattle.ir_tree.specs.Shape.{TyShape, TyShapes, integer, pointer, void, array, structure, named, no_types, types, ConstShape, number, boolean, null, undef, poison, zero_value, text, elements, fields, global, address, TypedShape, typed, TypedShapes, no_values, values, NamedTyShape}
use Rattle.ir_layout.specs.Rules.{named_ty, IsSized}

-- an integer type of 1 to 64 bits
abbrev pub IsInteger : TyShape → Type 0
IsInteger t = (width : ℕ) × (t ≡ integer width) × (1 ≤ width) × (width ≤ 64)

-- an integer type of 1 to 64 bits, or the type of addresses
abbrev pub IsScalar : TyShape → Type 0
IsScalar (integer bits) = (1 ≤ bits) × (bits ≤ 64)
IsScalar pointer = Unit {0}
IsScalar void = ⊥
IsScalar (array count element) = ⊥
IsScalar (structure row packed) = ⊥
IsScalar (named name) = ⊥

-- a number is one of so many bits, with a sign or without one
abbrev pub IsInWidth : ℕ → ℤ → Type 0
IsInWidth width (pos n) = n < 2 ^ width
IsInWidth width (negsuc n) = n + 1 ≤ 2 ^ (width - 1)

-- a number may stand for a value of the type
abbrev pub IsLiteral : ℤ → TyShape → Type 0
IsLiteral value t = (width : ℕ) × (t ≡ integer width) × (1 ≤ width) × (width ≤ 64) × IsInWidth width value

-- a type is another one, which is no name, by the types that names stand for
pub data Opens (ts : List NamedTyShape) : TyShape → TyShape → Type 0 where
  is_array : (count : ℕ) (element : TyShape) → Opens ts (array count element) (array count element)
  is_structure : (row : TyShapes) (packed : Bool) → Opens ts (structure row packed) (structure row packed)
  is_name : (name : List ℕ) (t u : TyShape) → named_ty ts name ≡ Some t → Opens ts t u → Opens ts (named name) u

-- the type of a row with a number
abbrev pub row_at : TyShapes → ℕ → Option TyShape
row_at no_types k = None
row_at (types t row) zero = Some t
row_at (types t row) (suc k) = row_at row k

-- a constant is a number of an integer type
pub record IsIndex (t : TyShape) (c : ConstShape) (value : ℤ) : Type 0 where
  pub is_number : c ≡ number value
  pub fits : IsLiteral value t

-- an index leads from a type into that of an array's elements, or of the structure's field of this number
pub data StepsBy (ts : List NamedTyShape) (index : Option ℤ) : TyShape → TyShape → Type 0 where
  to_element : (t : TyShape) (count : ℕ) (element : TyShape) → Opens ts t (array count element) → StepsBy ts index t element
  to_field : (t : TyShape) (row : TyShapes) (packed : Bool) (k : ℕ) (field : TyShape) → Opens ts t (structure row packed) → index ≡ Some (pos k)
      → row_at row k ≡ Some field → StepsBy ts index t field

-- the numbers of constant indices
abbrev pub const_number : ConstShape → Option ℤ
const_number (number value) = Some value
const_number (boolean value) = None
const_number null = None
const_number undef = None
const_number poison = None
const_number zero_value = None
const_number (text bytes) = None
const_number (elements vs) = None
const_number (fields vs packed) = None
const_number (global name) = None
const_number (address inbounds t base indices) = None

-- indices, each with its number if it has one, lead one after the other into a type
abbrev pub Walks : List NamedTyShape → TyShape → List (Option ℤ) → Type 0
Walks ts t [] = Unit {0}
Walks ts t (index ∷ indices) = (u : TyShape) × StepsBy ts index t u × Walks ts u indices

-- the same, after a first index that steps from one value of the type to others beside it
abbrev pub WalksBehind : List NamedTyShape → TyShape → List (Option ℤ) → Type 0
WalksBehind ts t [] = Unit {0}
WalksBehind ts t (index ∷ indices) = Walks ts t indices

-- the number of a constant with its type, if it is one
abbrev pub typed_number : TypedShape → Option ℤ
typed_number (typed t c) = const_number c

-- the numbers of constants in a row
abbrev pub row_numbers : TypedShapes → List (Option ℤ)
row_numbers no_values = []
row_numbers (values v vs) = typed_number v ∷ row_numbers vs

-- each of these is a number of its integer type
abbrev pub AreNumbers : TypedShapes → Type 0
AreNumbers no_values = Unit {0}
AreNumbers (values (typed t c) vs) = ((value : ℤ) × IsIndex t c value) × AreNumbers vs

-- the address of a global, or what steps from there
abbrev pub IsAddress : ConstShape → Type 0
IsAddress (number value) = ⊥
IsAddress (boolean value) = ⊥
IsAddress null = ⊥
IsAddress undef = ⊥
IsAddress poison = ⊥
IsAddress zero_value = ⊥
IsAddress (text bytes) = ⊥
IsAddress (elements vs) = ⊥
IsAddress (fields vs packed) = ⊥
IsAddress (global name) = Unit {0}
IsAddress (address inbounds t base indices) = Unit {0}

-- a constant may be the content of a global of the type
unfoldable mutual
  pub HasConst : List NamedTyShape → ConstShape → TyShape → Type 0
  HasConst ts (number value) t = IsLiteral value t
  HasConst ts (boolean value) t = t ≡ integer 1
  HasConst ts null t = t ≡ pointer
  HasConst ts undef t = IsSized ts t
  HasConst ts poison t = IsSized ts t
  HasConst ts zero_value t = IsSized ts t
  HasConst ts (text bytes) t = Opens ts t (array (length bytes) (integer 8))
  HasConst ts (elements vs) t = (count : ℕ) × (element : TyShape) × Opens ts t (array count element) × HaveElements ts vs count element
  HasConst ts (fields vs packed) t = (row : TyShapes) × Opens ts t (structure row packed) × HaveFields ts vs row
  HasConst ts (global name) t = t ≡ pointer
  HasConst ts (address inbounds u base indices) t =
      (t ≡ pointer) × IsSized ts u × HasBase ts base × AreNumbers indices × WalksBehind ts u (row_numbers indices)

  -- so many values of one type
  pub HaveElements : List NamedTyShape → TypedShapes → ℕ → TyShape → Type 0
  HaveElements ts no_values count element = count ≡ 0
  HaveElements ts (values v vs) zero element = ⊥
  HaveElements ts (values v vs) (suc count) element = HasTyped ts v element × HaveElements ts vs count element

  -- a value for each field
  pub HaveFields : List NamedTyShape → TypedShapes → TyShapes → Type 0
  HaveFields ts no_values no_types = Unit {0}
  HaveFields ts no_values (types t row) = ⊥
  HaveFields ts (values v vs) no_types = ⊥
  HaveFields ts (values v vs) (types t row) = HasTyped ts v t × HaveFields ts vs row

  -- a constant that states this type, and has it
  pub HasTyped : List NamedTyShape → TypedShape → TyShape → Type 0
  HasTyped ts (typed u c) t = (u ≡ t) × HasConst ts c t

  -- what a constant address steps from
  pub HasBase : List NamedTyShape → TypedShape → Type 0
  HasBase ts (typed u c) = (u ≡ pointer) × IsAddress c × HasConst ts c pointer

-- what a constant must besides be, where it stands as an operand of an instruction: not written out part by part, as an array or a
-- structure is (a string may stand, and fits no instruction's type), and of an integer type or an address where it is written without its value
abbrev pub IsPlain : ConstShape → TyShape → Type 0
IsPlain (number value) t = Unit {0}
IsPlain (boolean value) t = Unit {0}
IsPlain null t = Unit {0}
IsPlain undef t = IsScalar t
IsPlain poison t = IsScalar t
IsPlain zero_value t = IsScalar t
IsPlain (text bytes) t = Unit {0}
IsPlain (elements vs) t = ⊥
IsPlain (fields vs packed) t = ⊥
IsPlain (global name) t = Unit {0}
IsPlain (address inbounds u base indices) t = Unit {0}
