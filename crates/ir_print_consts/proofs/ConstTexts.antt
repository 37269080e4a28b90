-- The printed form of constants, by their parts.
use Rattle.std.proofs.Common.{◌≡◌, ℕ, ℤ, Bool, true, false, List, [], ◌∷◌, ◌++◌, map, refl, sym, ap, ◌∙◌, if◌then◌else◌, append_assoc, append-nil, Vec, Box, pos}
use Rattle.std.specs.Prelude.{◌||◌, ◌&&◌}
use Rattle.std.specs.declared.alloc.Global.{Global}
use Rattle.ir_lex.specs.Symbols.{Symbol, KeywordSymbol, LocalSymbol, GlobalSymbol, NumberSymbol, TextSymbol, MarkSymbol}
use Rattle.ir_words.specs.declared.words.Keyword.TheVariants.{Integer, Ptr, Void, X, True, False, Null, Undef, Poison, ZeroInitializer, GetElementPtr}
use Rattle.ir_print_symbols.specs.Printed.{text_of_symbol, is_opening, is_closing, is_global, is_mark, touches, joined, joined_after, last_of}
use Rattle.ir_print_symbols.proofs.Joining.{joined-append}
use Rattle.ir_tree.specs.NameTable.{text_of}
use Rattle.ir_tree.specs.Shape.{TyShape, integer, pointer, void, array, structure, named, ConstShape, number, boolean, null, undef, poison, zero_value, text, elements, fields, global, address, TypedShape, typed, typed_row}
use Rattle.ir_tree.specs.ShapeOf.{ty_shape, const_step, typed_step, const_shape, typed_shape}
use Rattle.ir_tree.specs.declared.names.NameId.{NameId}
use Rattle.ir_tree.specs.declared.types.Ty.{Ty}
use Rattle.ir_tree.specs.declared.types.Const.TheOpen as constant
use Rattle.ir_tree.specs.declared.types.Const.TheVariants as constants
use Rattle.ir_tree.specs.declared.types.Const.TheFolds.{fold-roll-Const, fold_out-Typed}
use Rattle.ir_tree.specs.declared.types.Typed.{Typed, out-Typed}
use Rattle.ir_grammar_consts.specs.Spelling.{in_braces, ty_spelling, ty_list_spelling, ty_more_spelling, flag_spelling, const_spelling, typed_spelling, typed_list_spelling, typed_more_spelling}
use Rattle.ir_print_consts.specs.Texts.{in_row, open_brace, close_brace, ty_text, const_text, typed_text, flag_text, address_start}
use Rattle.ir_print_consts.proofs.Rows.{Starts, commas, listed_rows, last_of_end, opening_text, closing_text, spaced_text, closed_text, braces_text, comma_text, commas_text, first_and_more, list_text}
use Rattle.ir_print_consts.proofs.TypeTexts.{ty_starts, map_twice}

-- a row whose last symbol may stand before a blank: it doesn't open, and touches only what closes, or `>`
record Ends (row : List Symbol) : Type 0 where
  pub first : Symbol
  pub rest : List Symbol
  pub is : row ≡ first ∷ rest
  pub not_opening : is_opening (last_of first rest) ≡ false
  pub not_global : is_global (last_of first rest) ≡ false
  pub not_angle : is_mark 60 (last_of first rest) ≡ false

-- a row that doesn't begin with `>` or a mark that closes
record Begins (row : List Symbol) : Type 0 where
  pub first : Symbol
  pub rest : List Symbol
  pub is : row ≡ first ∷ rest
  pub not_closing : is_closing first ≡ false
  pub not_angle : is_mark 62 first ≡ false

ends_with : (a b : Symbol) (ss : List Symbol) → is_opening b ≡ false → is_global b ≡ false → is_mark 60 b ≡ false → Ends (a ∷ (ss ++ b ∷ []))
ends_with a b ss e f g = record {
  first = a;
  rest = ss ++ b ∷ [];
  is = refl;
  not_opening = ap is_opening (last_of_end a b ss) ∙ e;
  not_global = ap is_global (last_of_end a b ss) ∙ f;
  not_angle = ap (is_mark 60) (last_of_end a b ss) ∙ g;
}

braces_end : (packed : Bool) (ss : List Symbol) → Ends (in_braces packed ss)
braces_end false ss = ends_with (MarkSymbol 123) (MarkSymbol 125) ss refl refl refl
braces_end true ss = ends_with (MarkSymbol 60) (MarkSymbol 62) (MarkSymbol 123 ∷ (ss ++ MarkSymbol 125 ∷ [])) refl refl refl

ty_ends : (t : TyShape) → Ends (ty_spelling t)
unfolding ty_spelling ty_list_spelling ty_more_spelling
ty_ends (integer bits) = record { first = KeywordSymbol (Integer bits); rest = []; is = refl; not_opening = refl; not_global = refl; not_angle = refl }
ty_ends pointer = record { first = KeywordSymbol Ptr; rest = []; is = refl; not_opening = refl; not_global = refl; not_angle = refl }
ty_ends void = record { first = KeywordSymbol Void; rest = []; is = refl; not_opening = refl; not_global = refl; not_angle = refl }
ty_ends (array count element) = ends_with (MarkSymbol 91) (MarkSymbol 93) (NumberSymbol (pos count) ∷ KeywordSymbol X ∷ ty_spelling element) refl refl refl
ty_ends (structure row packed) = braces_end packed (ty_list_spelling row)
ty_ends (named name) = record { first = LocalSymbol name; rest = []; is = refl; not_opening = refl; not_global = refl; not_angle = refl }

braces_begin : (packed : Bool) (ss : List Symbol) → Begins (in_braces packed ss)
braces_begin false ss = record { first = MarkSymbol 123; rest = _; is = refl; not_closing = refl; not_angle = refl }
braces_begin true ss = record { first = MarkSymbol 60; rest = _; is = refl; not_closing = refl; not_angle = refl }

const_begins : (c : ConstShape) → Begins (const_spelling c)
unfolding const_spelling typed_spelling typed_list_spelling typed_more_spelling
const_begins (number z) = record { first = NumberSymbol z; rest = []; is = refl; not_closing = refl; not_angle = refl }
const_begins (boolean true) = record { first = KeywordSymbol True; rest = []; is = refl; not_closing = refl; not_angle = refl }
const_begins (boolean false) = record { first = KeywordSymbol False; rest = []; is = refl; not_closing = refl; not_angle = refl }
const_begins null = record { first = KeywordSymbol Null; rest = []; is = refl; not_closing = refl; not_angle = refl }
const_begins undef = record { first = KeywordSymbol Undef; rest = []; is = refl; not_closing = refl; not_angle = refl }
const_begins poison = record { first = KeywordSymbol Poison; rest = []; is = refl; not_closing = refl; not_angle = refl }
const_begins zero_value = record { first = KeywordSymbol ZeroInitializer; rest = []; is = refl; not_closing = refl; not_angle = refl }
const_begins (text bytes) = record { first = TextSymbol bytes; rest = []; is = refl; not_closing = refl; not_angle = refl }
const_begins (elements row) = record { first = MarkSymbol 91; rest = _; is = refl; not_closing = refl; not_angle = refl }
const_begins (fields row packed) = braces_begin packed (typed_list_spelling row)
const_begins (global name) = record { first = GlobalSymbol name; rest = []; is = refl; not_closing = refl; not_angle = refl }
const_begins (address inbounds t base row) = record { first = KeywordSymbol GetElementPtr; rest = _; is = refl; not_closing = refl; not_angle = refl }

apart : (o c g p q r : Bool) (x y : Bool) → o ≡ false → c ≡ false → g ≡ false → p ≡ false → r ≡ false → (o || c || (g && x) || (p && y) || (q && r)) ≡ false
apart false false false false false false x y e f g h i = refl
apart false false false false true false x y e f g h i = refl
apart true c g p q r x y e f g' h i = cc
apart false true g p q r x y e f g' h i = cc
apart false false true p q r x y e f g' h i = cc
apart false false false true q r x y e f g' h i = cc
apart false false false false false true x y e f g' h i = cc
apart false false false false true true x y e f g' h i = cc

-- a row, a blank and another row
apart_text : (a b : List Symbol) → Ends a → Begins b → joined (a ++ b) ≡ joined a ++ (32 ∷ joined b)
apart_text a b ends begins =
    let last = last_of ends.first ends.rest in
    let t : touches last begins.first ≡ false =
    apart (is_opening last) (is_closing begins.first) (is_global last) (is_mark 60 last) (is_mark 125 last) (is_mark 62 begins.first) (is_mark 40 begins.first) (is_mark 123 begins.first) ends.not_opening begins.not_closing ends.not_global ends.not_angle begins.not_angle in
    rw (ends.is, begins.is)
    (joined-append ends.first ends.rest (begins.first ∷ begins.rest)
    ∙ ap (λ z. joined (ends.first ∷ ends.rest) ++ z) (spaced_text last begins.first begins.rest t))

-- a type, a blank and the constant
pub typed_shape_text : (t : TyShape) (c : ConstShape) → joined (typed_spelling (typed t c)) ≡ joined (ty_spelling t) ++ (32 ∷ joined (const_spelling c))
unfolding const_spelling typed_spelling typed_list_spelling typed_more_spelling
typed_shape_text t c = apart_text (ty_spelling t) (const_spelling c) (ty_ends t) (const_begins c)

more_starts : (row more : List Symbol) → Starts row → Starts (row ++ more)
more_starts row more s = rw s.is (record { first = s.first; rest = s.rest ++ more; is = refl; apart = s.apart })

typed_starts : (v : TypedShape) → Starts (typed_spelling v)
unfolding const_spelling typed_spelling typed_list_spelling typed_more_spelling
typed_starts (typed t c) = more_starts (ty_spelling t) (const_spelling c) (ty_starts t)

typed_more : (vs : List TypedShape) → typed_more_spelling (typed_row vs) ≡ commas (map typed_spelling vs)
unfolding const_spelling typed_spelling typed_list_spelling typed_more_spelling
typed_more [] = refl
typed_more (v ∷ vs) = ap (λ z. (MarkSymbol 44 ∷ typed_spelling v) ++ z) (typed_more vs)

typed_listed : (vs : List TypedShape) → typed_list_spelling (typed_row vs) ≡ listed_rows (map typed_spelling vs)
unfolding const_spelling typed_spelling typed_list_spelling typed_more_spelling
typed_listed [] = refl
typed_listed (v ∷ vs) = ap (λ z. typed_spelling v ++ z) (typed_more vs)

row_text : (vs : List TypedShape) → joined (typed_list_spelling (typed_row vs)) ≡ in_row false (map (λ v. joined (typed_spelling v)) vs)
row_text vs = ap joined (typed_listed vs) ∙ list_text typed_spelling typed_starts vs

-- the elements in brackets
pub elements_text : (vs : List TypedShape) → joined (const_spelling (elements (typed_row vs))) ≡ 91 ∷ (in_row false (map (λ v. joined (typed_spelling v)) vs) ++ 93 ∷ [])
unfolding const_spelling typed_spelling typed_list_spelling typed_more_spelling
elements_text vs =
    ap (λ z. 91 ∷ z)
    (opening_text 91 (typed_list_spelling (typed_row vs) ++ MarkSymbol 93 ∷ []) refl
    ∙ closed_text (typed_list_spelling (typed_row vs)) 93 refl
    ∙ ap (λ z. z ++ 93 ∷ []) (row_text vs))

-- the fields in braces
pub fields_text : (vs : List TypedShape) (packed : Bool)
    → joined (const_spelling (fields (typed_row vs) packed)) ≡ open_brace packed ++ (in_row false (map (λ v. joined (typed_spelling v)) vs) ++ close_brace packed)
unfolding const_spelling typed_spelling typed_list_spelling typed_more_spelling
fields_text vs packed =
    braces_text packed (typed_list_spelling (typed_row vs)) ∙ ap (λ z. open_brace packed ++ (z ++ close_brace packed)) (row_text vs)

-- the indices, each after a comma, and `)`
indices_text : (vs : List TypedShape) (a : Symbol)
    → joined_after a (typed_more_spelling (typed_row vs) ++ MarkSymbol 41 ∷ []) ≡ in_row true (map (λ v. joined (typed_spelling v)) vs) ++ 41 ∷ []
indices_text vs a =
    ap (λ z. joined_after a (z ++ MarkSymbol 41 ∷ [])) (typed_more vs)
    ∙ commas_text typed_spelling typed_starts (MarkSymbol 41 ∷ []) (41 ∷ []) (λ b. closing_text b 41 [] refl) vs a

-- the pointer and the indices, and `)`
base_text : (base : TypedShape) (vs : List TypedShape)
    → joined_after (MarkSymbol 44) (typed_spelling base ++ (typed_more_spelling (typed_row vs) ++ MarkSymbol 41 ∷ []))
    ≡ 32 ∷ (joined (typed_spelling base) ++ (in_row true (map (λ v. joined (typed_spelling v)) vs) ++ 41 ∷ []))
base_text base vs = comma_text (typed_spelling base) (typed_more_spelling (typed_row vs) ++ MarkSymbol 41 ∷ []) (typed_starts base) _ (indices_text vs)

-- `(`, the operands and `)`
operands_text : (t : TyShape) (base : TypedShape) (vs : List TypedShape)
    → joined (MarkSymbol 40 ∷ (ty_spelling t ++ MarkSymbol 44 ∷ (typed_spelling base ++ (typed_more_spelling (typed_row vs) ++ MarkSymbol 41 ∷ []))))
    ≡ 40 ∷ (joined (ty_spelling t) ++ (44 ∷ 32 ∷ (joined (typed_spelling base) ++ (in_row true (map (λ v. joined (typed_spelling v)) vs) ++ 41 ∷ []))))
operands_text t base vs =
    let more = typed_spelling base ++ (typed_more_spelling (typed_row vs) ++ MarkSymbol 41 ∷ []) in
    ap (λ z. 40 ∷ z)
    (opening_text 40 (ty_spelling t ++ MarkSymbol 44 ∷ more) refl
    ∙ first_and_more (ty_spelling t) (MarkSymbol 44 ∷ more) (ty_starts t) (44 ∷ 32 ∷ (joined (typed_spelling base) ++ (in_row true (map (λ v. joined (typed_spelling v)) vs) ++ 41 ∷ []))) (λ a. closing_text a 44 more refl ∙ ap (λ z. 44 ∷ z) (base_text base vs)))

flagged_text : (inbounds : Bool) (ss : List Symbol)
    → joined (KeywordSymbol GetElementPtr ∷ (flag_spelling inbounds ++ MarkSymbol 40 ∷ ss)) ≡ text_of_symbol (KeywordSymbol GetElementPtr) ++ (flag_text inbounds ++ (32 ∷ joined (MarkSymbol 40 ∷ ss)))
flagged_text false ss = refl
flagged_text true ss = refl

pub address_text : (inbounds : Bool) (t : TyShape) (base : TypedShape) (vs : List TypedShape)
    → joined (const_spelling (address inbounds t base (typed_row vs)))
    ≡ text_of_symbol (KeywordSymbol GetElementPtr) ++ (flag_text inbounds ++ (32 ∷ 40 ∷ (joined (ty_spelling t) ++ (44 ∷ 32 ∷ (joined (typed_spelling base) ++ (in_row true (map (λ v. joined (typed_spelling v)) vs) ++ 41 ∷ []))))))
unfolding const_spelling typed_spelling typed_list_spelling typed_more_spelling
address_text inbounds t base vs =
    flagged_text inbounds (ty_spelling t ++ MarkSymbol 44 ∷ (typed_spelling base ++ (typed_more_spelling (typed_row vs) ++ MarkSymbol 41 ∷ [])))
    ∙ ap (λ z. text_of_symbol (KeywordSymbol GetElementPtr) ++ (flag_text inbounds ++ (32 ∷ z))) (operands_text t base vs)

start_text : (inbounds : Bool) (t rest : List ℕ)
    → (text_of_symbol (KeywordSymbol GetElementPtr) ++ (flag_text inbounds ++ (32 ∷ 40 ∷ (t ++ (44 ∷ 32 ∷ []))))) ++ rest
    ≡ text_of_symbol (KeywordSymbol GetElementPtr) ++ (flag_text inbounds ++ (32 ∷ 40 ∷ (t ++ (44 ∷ 32 ∷ rest))))
start_text inbounds t rest =
    append_assoc (text_of_symbol (KeywordSymbol GetElementPtr)) (flag_text inbounds ++ (32 ∷ 40 ∷ (t ++ (44 ∷ 32 ∷ [])))) rest
    ∙ ap (λ z. text_of_symbol (KeywordSymbol GetElementPtr) ++ z) (append_assoc (flag_text inbounds) (32 ∷ 40 ∷ (t ++ (44 ∷ 32 ∷ []))) rest)
    ∙ ap (λ z. text_of_symbol (KeywordSymbol GetElementPtr) ++ (flag_text inbounds ++ (32 ∷ 40 ∷ z))) (append_assoc t (44 ∷ 32 ∷ []) rest)

layer : (s t : ConstShape) → s ≡ t → joined (const_spelling s) ≡ joined (const_spelling t)
layer s t e = ap (λ z. joined (const_spelling z)) e

number_alone : (z : ℤ) → joined (const_spelling (number z)) ≡ text_of_symbol (NumberSymbol z)
unfolding const_spelling typed_spelling typed_list_spelling typed_more_spelling
number_alone z = append-nil (text_of_symbol (NumberSymbol z))

-- `true` or `false`
pub boolean_alone : (b : Bool) → joined (const_spelling (boolean b)) ≡ text_of_symbol (KeywordSymbol (if b then True else False))
unfolding const_spelling typed_spelling typed_list_spelling typed_more_spelling
boolean_alone true = refl
boolean_alone false = refl

null_alone : joined (const_spelling null) ≡ text_of_symbol (KeywordSymbol Null)
unfolding const_spelling typed_spelling typed_list_spelling typed_more_spelling
null_alone = append-nil (text_of_symbol (KeywordSymbol Null))

undef_alone : joined (const_spelling undef) ≡ text_of_symbol (KeywordSymbol Undef)
unfolding const_spelling typed_spelling typed_list_spelling typed_more_spelling
undef_alone = append-nil (text_of_symbol (KeywordSymbol Undef))

poison_alone : joined (const_spelling poison) ≡ text_of_symbol (KeywordSymbol Poison)
unfolding const_spelling typed_spelling typed_list_spelling typed_more_spelling
poison_alone = append-nil (text_of_symbol (KeywordSymbol Poison))

zero_alone : joined (const_spelling zero_value) ≡ text_of_symbol (KeywordSymbol ZeroInitializer)
unfolding const_spelling typed_spelling typed_list_spelling typed_more_spelling
zero_alone = append-nil (text_of_symbol (KeywordSymbol ZeroInitializer))

text_alone : (bytes : List ℕ) → joined (const_spelling (text bytes)) ≡ text_of_symbol (TextSymbol bytes)
unfolding const_spelling typed_spelling typed_list_spelling typed_more_spelling
text_alone bytes = append-nil (text_of_symbol (TextSymbol bytes))

global_alone : (name : List ℕ) → joined (const_spelling (global name)) ≡ text_of_symbol (GlobalSymbol name)
unfolding const_spelling typed_spelling typed_list_spelling typed_more_spelling
global_alone name = append-nil (text_of_symbol (GlobalSymbol name))

pub int_printed : (names : List (List ℕ)) (z : ℤ) → const_text names (constants.Int z) ≡ text_of_symbol (NumberSymbol z)
int_printed names z =
    layer _ _ (ap (const_shape names) (sym (constants.rolls-Int z)) ∙ fold-roll-Const ConstShape TypedShape (const_step names) (typed_step names) (constant.Int z))
    ∙ number_alone z

pub bool_printed : (names : List (List ℕ)) (b : Bool) → const_text names (constants.Bool b) ≡ text_of_symbol (KeywordSymbol (if b then True else False))
bool_printed names b =
    layer _ _ (ap (const_shape names) (sym (constants.rolls-Bool b)) ∙ fold-roll-Const ConstShape TypedShape (const_step names) (typed_step names) (constant.Bool b))
    ∙ boolean_alone b

pub null_printed : (names : List (List ℕ)) → const_text names constants.Null ≡ text_of_symbol (KeywordSymbol Null)
null_printed names =
    layer _ _ (ap (const_shape names) (sym constants.rolls-Null) ∙ fold-roll-Const ConstShape TypedShape (const_step names) (typed_step names) constant.Null)
    ∙ null_alone

pub undef_printed : (names : List (List ℕ)) → const_text names constants.Undef ≡ text_of_symbol (KeywordSymbol Undef)
undef_printed names =
    layer _ _ (ap (const_shape names) (sym constants.rolls-Undef) ∙ fold-roll-Const ConstShape TypedShape (const_step names) (typed_step names) constant.Undef)
    ∙ undef_alone

pub poison_printed : (names : List (List ℕ)) → const_text names constants.Poison ≡ text_of_symbol (KeywordSymbol Poison)
poison_printed names =
    layer _ _ (ap (const_shape names) (sym constants.rolls-Poison) ∙ fold-roll-Const ConstShape TypedShape (const_step names) (typed_step names) constant.Poison)
    ∙ poison_alone

pub zero_printed : (names : List (List ℕ)) → const_text names constants.Zero ≡ text_of_symbol (KeywordSymbol ZeroInitializer)
zero_printed names =
    layer _ _ (ap (const_shape names) (sym constants.rolls-Zero) ∙ fold-roll-Const ConstShape TypedShape (const_step names) (typed_step names) constant.Zero)
    ∙ zero_alone

pub text_printed : (names : List (List ℕ)) (v : Vec ℕ Global) → const_text names (constants.Text v) ≡ text_of_symbol (TextSymbol v.items)
text_printed names v =
    layer _ _ (ap (const_shape names) (sym (constants.rolls-Text v)) ∙ fold-roll-Const ConstShape TypedShape (const_step names) (typed_step names) (constant.Text v))
    ∙ text_alone v.items

pub global_printed : (names : List (List ℕ)) (id : NameId) → const_text names (constants.Global id) ≡ text_of_symbol (GlobalSymbol (text_of names id.0))
global_printed names id =
    layer _ _ (ap (const_shape names) (sym (constants.rolls-Global id)) ∙ fold-roll-Const ConstShape TypedShape (const_step names) (typed_step names) (constant.Global id))
    ∙ global_alone (text_of names id.0)

pub array_printed : (names : List (List ℕ)) (v : Vec Typed Global) → const_text names (constants.Array v) ≡ 91 ∷ (in_row false (map (typed_text names) v.items) ++ 93 ∷ [])
array_printed names v =
    layer _ _ (ap (const_shape names) (sym (constants.rolls-Array v)) ∙ fold-roll-Const ConstShape TypedShape (const_step names) (typed_step names) (constant.Array v))
    ∙ elements_text (map (typed_shape names) v.items)
    ∙ ap (λ z. 91 ∷ (in_row false z ++ 93 ∷ [])) (map_twice (typed_shape names) (λ v. joined (typed_spelling v)) v.items)

pub struct_printed : (names : List (List ℕ)) (v : Vec Typed Global) (packed : Bool) → const_text names (constants.Struct v packed) ≡ open_brace packed ++ (in_row false (map (typed_text names) v.items) ++ close_brace packed)
struct_printed names v packed =
    layer _ _ (ap (const_shape names) (sym (constants.rolls-Struct v packed)) ∙ fold-roll-Const ConstShape TypedShape (const_step names) (typed_step names) (constant.Struct v packed))
    ∙ fields_text (map (typed_shape names) v.items) packed
    ∙ ap (λ z. open_brace packed ++ (in_row false z ++ close_brace packed)) (map_twice (typed_shape names) (λ v. joined (typed_spelling v)) v.items)

pub address_printed : (names : List (List ℕ)) (inbounds : Bool) (t : Ty) (base : Box Typed Global) (v : Vec Typed Global) → const_text names (constants.Gep inbounds t base v) ≡ address_start names inbounds t ++ (typed_text names base.value ++ (in_row true (map (typed_text names) v.items) ++ 41 ∷ []))
address_printed names inbounds t base v =
    layer _ _ (ap (const_shape names) (sym (constants.rolls-Gep inbounds t base v)) ∙ fold-roll-Const ConstShape TypedShape (const_step names) (typed_step names) (constant.Gep inbounds t base v))
    ∙ address_text inbounds (ty_shape names t) (typed_shape names base.value) (map (typed_shape names) v.items)
    ∙ sym (start_text inbounds (ty_text names t) (typed_text names base.value ++ (in_row true (map (λ x. joined (typed_spelling x)) (map (typed_shape names) v.items)) ++ 41 ∷ [])))
    ∙ ap (λ z. address_start names inbounds t ++ (typed_text names base.value ++ (in_row true z ++ 41 ∷ []))) (map_twice (typed_shape names) (λ x. joined (typed_spelling x)) v.items)

-- a type, a blank and the constant, with their names from a table
pub typed_printed : (names : List (List ℕ)) (v : Typed) → typed_text names v ≡ ty_text names (out-Typed v).ty ++ (32 ∷ const_text names (out-Typed v).value)
typed_printed names v =
    ap (λ z. joined (typed_spelling z)) (fold_out-Typed ConstShape TypedShape (const_step names) (typed_step names) v)
    ∙ typed_shape_text (ty_shape names (out-Typed v).ty) (const_shape names (out-Typed v).value)

-- what is appended in three steps
pub in_three : (a x y z b c d : List ℕ) → b ≡ a ++ x → c ≡ b ++ y → d ≡ c ++ z → d ≡ a ++ (x ++ (y ++ z))
in_three a x y z b c d p q r =
    r ∙ ap (λ t. t ++ z) (q ∙ ap (λ t. t ++ y) p) ∙ append_assoc (a ++ x) y z ∙ append_assoc a x (y ++ z)

-- what is appended in four steps
pub in_four : (a x y z w b c d e : List ℕ) → b ≡ a ++ x → c ≡ b ++ y → d ≡ c ++ z → e ≡ d ++ w → e ≡ a ++ (x ++ (y ++ (z ++ w)))
in_four a x y z w b c d e p q r s =
    s ∙ ap (λ t. t ++ w) (r ∙ ap (λ t. t ++ z) (q ∙ ap (λ t. t ++ y) p))
    ∙ append_assoc ((a ++ x) ++ y) z w
    ∙ append_assoc (a ++ x) y (z ++ w)
    ∙ append_assoc a x (y ++ (z ++ w))
