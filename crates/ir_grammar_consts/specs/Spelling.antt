-- How types and constants are spelled: one list of symbols for each.
use Rattle.std.specs.Prelude.{◌<◌, ◌^◌, Bool, true, false, List, [], ◌∷◌, ◌++◌, pos}
use Rattle.ir_tree.specs.Shape.{TyShape, integer, pointer, void, array, structure, named, TyShapes, no_types, types, ConstShape, number, boolean, null, undef, poison, zero_value, text, elements, fields, global, address, TypedShape, typed, TypedShapes, no_values, values}
use Rattle.ir_words.specs.declared.words.Keyword.TheVariants.{Integer, Ptr, Void, X, True, False, Null, Undef, Poison, ZeroInitializer, GetElementPtr, InBounds}
use Rattle.ir_lex.specs.Symbols.{Symbol, KeywordSymbol, LocalSymbol, GlobalSymbol, NumberSymbol, TextSymbol, MarkSymbol}

-- symbols between `{` and `}`, or `<{` and `}>`
abbrev pub in_braces : Bool → List Symbol → List Symbol
in_braces false ss = MarkSymbol 123 ∷ (ss ++ MarkSymbol 125 ∷ [])
in_braces true ss = MarkSymbol 60 ∷ MarkSymbol 123 ∷ ((ss ++ MarkSymbol 125 ∷ []) ++ MarkSymbol 62 ∷ [])

unfoldable mutual
  pub ty_spelling : TyShape → List Symbol
  ty_spelling (integer bits) = KeywordSymbol (Integer bits) ∷ []
  ty_spelling pointer = KeywordSymbol Ptr ∷ []
  ty_spelling void = KeywordSymbol Void ∷ []
  ty_spelling (array count element) =
      MarkSymbol 91 ∷ ((NumberSymbol (pos count) ∷ KeywordSymbol X ∷ ty_spelling element) ++ MarkSymbol 93 ∷ [])
  ty_spelling (structure row packed) = in_braces packed (ty_list_spelling row)
  ty_spelling (named name) = LocalSymbol name ∷ []

  -- types with commas between them
  pub ty_list_spelling : TyShapes → List Symbol
  ty_list_spelling no_types = []
  ty_list_spelling (types t row) = ty_spelling t ++ ty_more_spelling row

  -- types with a comma before each
  pub ty_more_spelling : TyShapes → List Symbol
  ty_more_spelling no_types = []
  ty_more_spelling (types t row) = (MarkSymbol 44 ∷ ty_spelling t) ++ ty_more_spelling row

-- `getelementptr` and its flag
abbrev pub flag_spelling : Bool → List Symbol
flag_spelling true = KeywordSymbol InBounds ∷ []
flag_spelling false = []

unfoldable mutual
  pub const_spelling : ConstShape → List Symbol
  const_spelling (number z) = NumberSymbol z ∷ []
  const_spelling (boolean true) = KeywordSymbol True ∷ []
  const_spelling (boolean false) = KeywordSymbol False ∷ []
  const_spelling null = KeywordSymbol Null ∷ []
  const_spelling undef = KeywordSymbol Undef ∷ []
  const_spelling poison = KeywordSymbol Poison ∷ []
  const_spelling zero_value = KeywordSymbol ZeroInitializer ∷ []
  const_spelling (text bytes) = TextSymbol bytes ∷ []
  const_spelling (elements row) = MarkSymbol 91 ∷ (typed_list_spelling row ++ MarkSymbol 93 ∷ [])
  const_spelling (fields row packed) = in_braces packed (typed_list_spelling row)
  const_spelling (global name) = GlobalSymbol name ∷ []
  const_spelling (address inbounds t base row) =
      KeywordSymbol GetElementPtr ∷ (flag_spelling inbounds ++ MarkSymbol 40 ∷ (ty_spelling t ++ MarkSymbol 44 ∷ (typed_spelling base ++ (typed_more_spelling row ++ MarkSymbol 41 ∷ []))))

  -- a constant after its type
  pub typed_spelling : TypedShape → List Symbol
  typed_spelling (typed t c) = ty_spelling t ++ const_spelling c

  -- constants with their types, and commas between them
  pub typed_list_spelling : TypedShapes → List Symbol
  typed_list_spelling no_values = []
  typed_list_spelling (values v row) = typed_spelling v ++ typed_more_spelling row

  -- constants with their types, and a comma before each
  pub typed_more_spelling : TypedShapes → List Symbol
  typed_more_spelling no_values = []
  typed_more_spelling (values v row) = (MarkSymbol 44 ∷ typed_spelling v) ++ typed_more_spelling row

-- types that a text can spell: a width is 1 to 64, and a count of elements fits 64 bits
unfoldable mutual
  pub FitsTy : TyShape → Type 0
  FitsTy (integer bits) = (0 < bits) × (bits < 65)
  FitsTy (array count element) = (count < 2 ^ 64) × FitsTy element
  FitsTy (structure row packed) = FitTys row
  FitsTy pointer = Unit {0}
  FitsTy void = Unit {0}
  FitsTy (named name) = Unit {0}

  pub FitTys : TyShapes → Type 0
  FitTys no_types = Unit {0}
  FitTys (types t row) = FitsTy t × FitTys row

-- constants whose types a text can spell
unfoldable mutual
  pub FitsConst : ConstShape → Type 0
  FitsConst (elements row) = FitTyped row
  FitsConst (fields row packed) = FitTyped row
  FitsConst (address inbounds t base row) = FitsTy t × FitsTyped base × FitTyped row
  FitsConst (number z) = Unit {0}
  FitsConst (boolean b) = Unit {0}
  FitsConst null = Unit {0}
  FitsConst undef = Unit {0}
  FitsConst poison = Unit {0}
  FitsConst zero_value = Unit {0}
  FitsConst (text bytes) = Unit {0}
  FitsConst (global name) = Unit {0}

  pub FitsTyped : TypedShape → Type 0
  FitsTyped (typed t c) = FitsTy t × FitsConst c

  pub FitTyped : TypedShapes → Type 0
  FitTyped no_values = Unit {0}
  FitTyped (values v row) = FitsTyped v × FitTyped row
