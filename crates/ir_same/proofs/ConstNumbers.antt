-- A constant's shape comes of the numbers of its names, and under distinct names the numbers come of the shape.
use Rattle.std.proofs.Common.{◌≡◌, ℕ, Bool, true, List, [], ◌∷◌, length, map, refl, sym, ◌∙◌, ap, subst, ltb-true, Vec, Box}
use Rattle.std.specs.declared.alloc.Global.{Global}
use Rattle.ir_tree.specs.declared.types.Ty.{Ty}
use Rattle.std.specs.List.{list_all, IsDistinct}
use Rattle.std.specs.Str.{bytes_eq}
use Rattle.ir_tree.specs.Shape.{TyShape, ConstShape, number, boolean, null, undef, poison, zero_value, text, elements, fields, global, address, TypedShape, typed, TypedShapes, no_values, values, typed_row}
use Rattle.ir_tree.specs.ShapeOf.{const_step, typed_step, const_shape, typed_shape}
use Rattle.ir_tree.specs.Known.{const_known_step, typed_known_step, const_known, typed_known}
use Rattle.ir_tree.specs.declared.types.Const.{Const}
use Rattle.ir_tree.specs.declared.types.Const.TheOpen as constant
use Rattle.ir_tree.specs.declared.types.Const.TheVariants as variants
use Rattle.ir_tree.specs.declared.types.Const.TheFolds.{fold-roll-Const, fold-roll-Typed, ind-Const, map-Const, map-Typed}
use Rattle.ir_tree.specs.declared.types.Typed.{Typed}
use Rattle.ir_tree.proofs.Grows.{and_left, and_right}
use Rattle.ir_same.specs.Numbered.{numbered_ty, numbered_const_step, numbered_typed_step, numbered_const, numbered_typed}
use Rattle.ir_same.proofs.Numbers.{number_at, to_text, to_number}
use Rattle.ir_same.proofs.TypeNumbers.{renamed, has_texts, has_numbers}

-- an array, a structure and an address by their parts
pub elements_numbered : (v : Vec Typed Global) → numbered_const (variants.Array v) ≡ elements (typed_row (map numbered_typed v.items))
elements_numbered v =
    ap numbered_const (sym (variants.rolls-Array v)) ∙ fold-roll-Const ConstShape TypedShape numbered_const_step numbered_typed_step (constant.Array v)

pub fields_numbered : (v : Vec Typed Global) (packed : Bool) → numbered_const (variants.Struct v packed) ≡ fields (typed_row (map numbered_typed v.items)) packed
fields_numbered v packed =
    ap numbered_const (sym (variants.rolls-Struct v packed))
    ∙ fold-roll-Const ConstShape TypedShape numbered_const_step numbered_typed_step (constant.Struct v packed)

pub address_numbered : (inbounds : Bool) (t : Ty) (base : Box Typed Global) (v : Vec Typed Global)
    → numbered_const (variants.Gep inbounds t base v) ≡ address inbounds (numbered_ty t) (numbered_typed base.value) (typed_row (map numbered_typed v.items))
address_numbered inbounds t base v =
    ap numbered_const (sym (variants.rolls-Gep inbounds t base v))
    ∙ fold-roll-Const ConstShape TypedShape numbered_const_step numbered_typed_step (constant.Gep inbounds t base v)

-- a constant with other names
unfoldable mutual
  pub renamed_const : (List ℕ → List ℕ) → ConstShape → ConstShape
  renamed_const f (number value) = number value
  renamed_const f (boolean value) = boolean value
  renamed_const f null = null
  renamed_const f undef = undef
  renamed_const f poison = poison
  renamed_const f zero_value = zero_value
  renamed_const f (text bytes) = text bytes
  renamed_const f (elements row) = elements (renamed_values f row)
  renamed_const f (fields row packed) = fields (renamed_values f row) packed
  renamed_const f (global name) = global (f name)
  renamed_const f (address inbounds t base indices) = address inbounds (renamed f t) (renamed_typed f base) (renamed_values f indices)

  pub renamed_typed : (List ℕ → List ℕ) → TypedShape → TypedShape
  renamed_typed f (typed t value) = typed (renamed f t) (renamed_const f value)

  pub renamed_values : (List ℕ → List ℕ) → TypedShapes → TypedShapes
  renamed_values f no_values = no_values
  renamed_values f (values v row) = values (renamed_typed f v) (renamed_values f row)

both : {v w : TypedShape} {row other : TypedShapes} → v ≡ w → row ≡ other → values v row ≡ values w other
both e f = cc

both_typed : {t u : TyShape} {c d : ConstShape} → t ≡ u → c ≡ d → typed t c ≡ typed u d
both_typed e f = cc

all_parts : {inbounds : Bool} {t u : TyShape} {v w : TypedShape} {row other : TypedShapes} → t ≡ u → v ≡ w → row ≡ other
    → address inbounds t v row ≡ address inbounds u w other
all_parts e f g = cc

-- a constant's shape comes of its numbers
abbrev pub HasTextsConst : List (List ℕ) → Const → Type 0
HasTextsConst names c = const_shape names c ≡ renamed_const (to_text names) (numbered_const c)

abbrev pub HasTextsTyped : List (List ℕ) → Typed → Type 0
HasTextsTyped names v = typed_shape names v ≡ renamed_typed (to_text names) (numbered_typed v)

-- a constant with a proof beside it
abbrev TextsConst : List (List ℕ) → Type 0
TextsConst names = (c : Const) × HasTextsConst names c

abbrev TextsTyped : List (List ℕ) → Type 0
TextsTyped names = (v : Typed) × HasTextsTyped names v

-- one layer, with what is shown of the constants in it
abbrev const_at : List (List ℕ) → constant.Const-F Const Typed → ConstShape
const_at names z = const_step names (map-Const Const Typed ConstShape TypedShape (const_shape names) (typed_shape names) z)

abbrev typed_at : List (List ℕ) → constant.Typed-F Const Typed → TypedShape
typed_at names z = typed_step names (map-Typed Const Typed ConstShape TypedShape (const_shape names) (typed_shape names) z)

abbrev numbered_const_at : constant.Const-F Const Typed → ConstShape
numbered_const_at z = numbered_const_step (map-Const Const Typed ConstShape TypedShape numbered_const numbered_typed z)

abbrev numbered_typed_at : constant.Typed-F Const Typed → TypedShape
numbered_typed_at z = numbered_typed_step (map-Typed Const Typed ConstShape TypedShape numbered_const numbered_typed z)

texts_in_values : (names : List (List ℕ)) (vs : List (TextsTyped names))
    → typed_row (map (typed_shape names) (map (λ e. e.0) vs)) ≡ renamed_values (to_text names) (typed_row (map numbered_typed (map (λ e. e.0) vs)))
unfolding renamed_values
texts_in_values names [] = refl
texts_in_values names (v ∷ vs) = both v.1 (texts_in_values names vs)

texts_at : (names : List (List ℕ)) (y : constant.Const-F (TextsConst names) (TextsTyped names))
    → const_at names (map-Const (TextsConst names) (TextsTyped names) Const Typed (λ e. e.0) (λ e. e.0) y)
    ≡ renamed_const (to_text names) (numbered_const_at (map-Const (TextsConst names) (TextsTyped names) Const Typed (λ e. e.0) (λ e. e.0) y))
unfolding renamed_const
texts_at names (constant.Int value) = refl
texts_at names (constant.Bool value) = refl
texts_at names constant.Null = refl
texts_at names constant.Undef = refl
texts_at names constant.Poison = refl
texts_at names constant.Zero = refl
texts_at names (constant.Text v) = refl
texts_at names (constant.Array v) = ap elements (texts_in_values names v.items)
texts_at names (constant.Struct v packed) = ap (λ z. fields z packed) (texts_in_values names v.items)
texts_at names (constant.Global id) = refl
texts_at names (constant.Gep inbounds t base v) = all_parts (has_texts names t) base.value.1 (texts_in_values names v.items)

texts_at_typed : (names : List (List ℕ)) (y : constant.Typed-F (TextsConst names) (TextsTyped names))
    → typed_at names (map-Typed (TextsConst names) (TextsTyped names) Const Typed (λ e. e.0) (λ e. e.0) y)
    ≡ renamed_typed (to_text names) (numbered_typed_at (map-Typed (TextsConst names) (TextsTyped names) Const Typed (λ e. e.0) (λ e. e.0) y))
unfolding renamed_typed
texts_at_typed names y = both_typed (has_texts names y.ty) y.value.1

pub const_has_texts : (names : List (List ℕ)) (c : Const) → HasTextsConst names c
const_has_texts names = ind-Const (HasTextsConst names) (HasTextsTyped names)
    (λ x y is.
    fold-roll-Const ConstShape TypedShape (const_step names) (typed_step names) x
    ∙ subst (λ z. const_at names z ≡ renamed_const (to_text names) (numbered_const_at z)) is (texts_at names y)
    ∙ ap (renamed_const (to_text names)) (sym (fold-roll-Const ConstShape TypedShape numbered_const_step numbered_typed_step x)))
    (λ x y is.
    fold-roll-Typed ConstShape TypedShape (const_step names) (typed_step names) x
    ∙ subst (λ z. typed_at names z ≡ renamed_typed (to_text names) (numbered_typed_at z)) is (texts_at_typed names y)
    ∙ ap (renamed_typed (to_text names)) (sym (fold-roll-Typed ConstShape TypedShape numbered_const_step numbered_typed_step x)))

-- a constant's numbers come of its shape
abbrev pub HasNumbersConst : List (List ℕ) → Const → Type 0
HasNumbersConst names c = const_known (length names) c ≡ true → numbered_const c ≡ renamed_const (to_number names) (const_shape names c)

abbrev pub HasNumbersTyped : List (List ℕ) → Typed → Type 0
HasNumbersTyped names v = typed_known (length names) v ≡ true → numbered_typed v ≡ renamed_typed (to_number names) (typed_shape names v)

abbrev NumbersConst : List (List ℕ) → Type 0
NumbersConst names = (c : Const) × HasNumbersConst names c

abbrev NumbersTyped : List (List ℕ) → Type 0
NumbersTyped names = (v : Typed) × HasNumbersTyped names v

abbrev ConstKnownAt : ℕ → constant.Const-F Const Typed → Type 0
ConstKnownAt n z = const_known_step n (map-Const Const Typed Bool Bool (const_known n) (typed_known n) z) ≡ true

abbrev TypedKnownAt : ℕ → constant.Typed-F Const Typed → Type 0
TypedKnownAt n z = typed_known_step n (map-Typed Const Typed Bool Bool (const_known n) (typed_known n) z) ≡ true

numbers_in_values : (names : List (List ℕ)) (vs : List (NumbersTyped names))
    → list_all (λ b. b) (map (typed_known (length names)) (map (λ e. e.0) vs)) ≡ true
    → typed_row (map numbered_typed (map (λ e. e.0) vs)) ≡ renamed_values (to_number names) (typed_row (map (typed_shape names) (map (λ e. e.0) vs)))
unfolding renamed_values
numbers_in_values names [] h = refl
numbers_in_values names (v ∷ vs) h = both (v.1 (and_left _ _ h)) (numbers_in_values names vs (and_right _ _ h))

numbers_at : (names : List (List ℕ)) → IsDistinct bytes_eq names → (y : constant.Const-F (NumbersConst names) (NumbersTyped names))
    → ConstKnownAt (length names) (map-Const (NumbersConst names) (NumbersTyped names) Const Typed (λ e. e.0) (λ e. e.0) y)
    → numbered_const_at (map-Const (NumbersConst names) (NumbersTyped names) Const Typed (λ e. e.0) (λ e. e.0) y)
    ≡ renamed_const (to_number names) (const_at names (map-Const (NumbersConst names) (NumbersTyped names) Const Typed (λ e. e.0) (λ e. e.0) y))
unfolding renamed_const
numbers_at names distinct (constant.Int value) h = refl
numbers_at names distinct (constant.Bool value) h = refl
numbers_at names distinct constant.Null h = refl
numbers_at names distinct constant.Undef h = refl
numbers_at names distinct constant.Poison h = refl
numbers_at names distinct constant.Zero h = refl
numbers_at names distinct (constant.Text v) h = refl
numbers_at names distinct (constant.Array v) h = ap elements (numbers_in_values names v.items h)
numbers_at names distinct (constant.Struct v packed) h = ap (λ z. fields z packed) (numbers_in_values names v.items h)
numbers_at names distinct (constant.Global id) h =
    ap (λ (n : ℕ). global (n ∷ [])) (sym (number_at names distinct id.0 (ltb-true id.0 (length names) h)))
numbers_at names distinct (constant.Gep inbounds t base v) h =
    all_parts (has_numbers names distinct t (and_left _ _ (and_left _ _ h))) (base.value.1 (and_right _ _ (and_left _ _ h)))
    (numbers_in_values names v.items (and_right _ _ h))

numbers_at_typed : (names : List (List ℕ)) → IsDistinct bytes_eq names → (y : constant.Typed-F (NumbersConst names) (NumbersTyped names))
    → TypedKnownAt (length names) (map-Typed (NumbersConst names) (NumbersTyped names) Const Typed (λ e. e.0) (λ e. e.0) y)
    → numbered_typed_at (map-Typed (NumbersConst names) (NumbersTyped names) Const Typed (λ e. e.0) (λ e. e.0) y)
    ≡ renamed_typed (to_number names) (typed_at names (map-Typed (NumbersConst names) (NumbersTyped names) Const Typed (λ e. e.0) (λ e. e.0) y))
unfolding renamed_typed
numbers_at_typed names distinct y h = both_typed (has_numbers names distinct y.ty (and_left _ _ h)) (y.value.1 (and_right _ _ h))

pub const_has_numbers : (names : List (List ℕ)) → IsDistinct bytes_eq names → (c : Const) → HasNumbersConst names c
const_has_numbers names distinct = ind-Const (HasNumbersConst names) (HasNumbersTyped names)
    (λ x y is known.
    fold-roll-Const ConstShape TypedShape numbered_const_step numbered_typed_step x
    ∙ subst (λ z. ConstKnownAt (length names) z → numbered_const_at z ≡ renamed_const (to_number names) (const_at names z)) is (numbers_at names distinct y)
    (sym (fold-roll-Const Bool Bool (const_known_step (length names)) (typed_known_step (length names)) x) ∙ known)
    ∙ ap (renamed_const (to_number names)) (sym (fold-roll-Const ConstShape TypedShape (const_step names) (typed_step names) x)))
    (λ x y is known.
    fold-roll-Typed ConstShape TypedShape numbered_const_step numbered_typed_step x
    ∙ subst (λ z. TypedKnownAt (length names) z → numbered_typed_at z ≡ renamed_typed (to_number names) (typed_at names z)) is (numbers_at_typed names distinct y)
    (sym (fold-roll-Typed Bool Bool (const_known_step (length names)) (typed_known_step (length names)) x) ∙ known)
    ∙ ap (renamed_typed (to_number names)) (sym (fold-roll-Typed ConstShape TypedShape (const_step names) (typed_step names) x)))

-- constants with the same numbers have one shape under each table
pub one_const_shape : (names : List (List ℕ)) (a b : Const) → numbered_const a ≡ numbered_const b → const_shape names a ≡ const_shape names b
one_const_shape names a b e = const_has_texts names a ∙ ap (renamed_const (to_text names)) e ∙ sym (const_has_texts names b)

-- known constants of one shape under distinct names have the same numbers
pub same_const_numbers : (names : List (List ℕ)) → IsDistinct bytes_eq names → (a b : Const) → const_known (length names) a ≡ true
    → const_known (length names) b ≡ true → const_shape names a ≡ const_shape names b → numbered_const a ≡ numbered_const b
same_const_numbers names distinct a b known also e =
    const_has_numbers names distinct a known ∙ ap (renamed_const (to_number names)) e ∙ sym (const_has_numbers names distinct b also)
