-- The printed form of types, by their parts.
use Rattle.std.proofs.Common.{◌≡◌, ℕ, Bool, true, false, List, [], ◌∷◌, ◌++◌, map, refl, sym, ap, ◌∙◌, append-nil, pos, Vec, Box}
use Rattle.ir_lex.specs.Symbols.{Symbol, KeywordSymbol, LocalSymbol, NumberSymbol, MarkSymbol}
use Rattle.ir_words.specs.declared.words.Keyword.TheVariants.{Integer, Ptr, Void, X}
use Rattle.ir_print_symbols.specs.Printed.{text_of_symbol, touches, joined, joined_after}
use Rattle.ir_tree.specs.Shape.{TyShape, integer, pointer, void, array, structure, named, ty_row}
use Rattle.ir_tree.specs.NameTable.{text_of}
use Rattle.ir_tree.specs.ShapeOf.{ty_shape, ty_step}
use Rattle.ir_tree.specs.declared.names.NameId.{NameId}
use Rattle.ir_tree.specs.declared.types.Ty.{Ty}
use Rattle.ir_tree.specs.declared.types.Ty.TheOpen as ty
use Rattle.ir_tree.specs.declared.types.Ty.TheVariants as types
use Rattle.ir_tree.specs.declared.types.Ty.TheFolds.{fold-roll-Ty}
use Rattle.std.specs.declared.alloc.Global.{Global}
use Rattle.ir_grammar_consts.specs.Spelling.{in_braces, ty_spelling, ty_list_spelling, ty_more_spelling}
use Rattle.ir_print_consts.specs.Texts.{in_row, open_brace, close_brace, ty_text}
use Rattle.ir_print_consts.proofs.Rows.{Starts, commas, listed_rows, spaced_text, closed_text, braces_text, list_text}

braces_start : (packed : Bool) (ss : List Symbol) → Starts (in_braces packed ss)
braces_start false ss = record { first = MarkSymbol 123; rest = _; is = refl; apart = refl }
braces_start true ss = record { first = MarkSymbol 60; rest = _; is = refl; apart = refl }

pub ty_starts : (t : TyShape) → Starts (ty_spelling t)
unfolding ty_spelling ty_list_spelling ty_more_spelling
ty_starts (integer bits) = record { first = KeywordSymbol (Integer bits); rest = []; is = refl; apart = refl }
ty_starts pointer = record { first = KeywordSymbol Ptr; rest = []; is = refl; apart = refl }
ty_starts void = record { first = KeywordSymbol Void; rest = []; is = refl; apart = refl }
ty_starts (array count element) = record { first = MarkSymbol 91; rest = _; is = refl; apart = refl }
ty_starts (structure row packed) = braces_start packed (ty_list_spelling row)
ty_starts (named name) = record { first = LocalSymbol name; rest = []; is = refl; apart = refl }

pub integer_text : (bits : ℕ) → joined (ty_spelling (integer bits)) ≡ text_of_symbol (KeywordSymbol (Integer bits))
unfolding ty_spelling ty_list_spelling ty_more_spelling
integer_text bits = append-nil (text_of_symbol (KeywordSymbol (Integer bits)))

pub pointer_text : joined (ty_spelling pointer) ≡ text_of_symbol (KeywordSymbol Ptr)
unfolding ty_spelling ty_list_spelling ty_more_spelling
pointer_text = append-nil (text_of_symbol (KeywordSymbol Ptr))

pub void_text : joined (ty_spelling void) ≡ text_of_symbol (KeywordSymbol Void)
unfolding ty_spelling ty_list_spelling ty_more_spelling
void_text = append-nil (text_of_symbol (KeywordSymbol Void))

pub named_text : (name : List ℕ) → joined (ty_spelling (named name)) ≡ text_of_symbol (LocalSymbol name)
unfolding ty_spelling ty_list_spelling ty_more_spelling
named_text name = append-nil (text_of_symbol (LocalSymbol name))

times_text : (row : List Symbol) → Starts row → joined_after (KeywordSymbol X) (row ++ MarkSymbol 93 ∷ []) ≡ 32 ∷ (joined row ++ 93 ∷ [])
times_text row starts =
    let t : touches (KeywordSymbol X) starts.first ≡ false = rw starts.apart refl in
    rw starts.is
    (spaced_text (KeywordSymbol X) starts.first (starts.rest ++ MarkSymbol 93 ∷ []) t
    ∙ ap (λ z. 32 ∷ z) (closed_text (starts.first ∷ starts.rest) 93 refl))

-- `[`, the count, `x`, the element and `]`
pub array_text : (count : ℕ) (t : TyShape)
    → joined (ty_spelling (array count t)) ≡ 91 ∷ (text_of_symbol (NumberSymbol (pos count)) ++ (32 ∷ 120 ∷ 32 ∷ (joined (ty_spelling t) ++ 93 ∷ [])))
unfolding ty_spelling ty_list_spelling ty_more_spelling
array_text count t =
    ap (λ z. 91 ∷ (text_of_symbol (NumberSymbol (pos count)) ++ (32 ∷ 120 ∷ z))) (times_text (ty_spelling t) (ty_starts t))

tys_more : (ts : List TyShape) → ty_more_spelling (ty_row ts) ≡ commas (map ty_spelling ts)
unfolding ty_spelling ty_list_spelling ty_more_spelling
tys_more [] = refl
tys_more (t ∷ ts) = ap (λ z. (MarkSymbol 44 ∷ ty_spelling t) ++ z) (tys_more ts)

tys_listed : (ts : List TyShape) → ty_list_spelling (ty_row ts) ≡ listed_rows (map ty_spelling ts)
unfolding ty_spelling ty_list_spelling ty_more_spelling
tys_listed [] = refl
tys_listed (t ∷ ts) = ap (λ z. ty_spelling t ++ z) (tys_more ts)

-- the fields in braces, with commas between them
pub structure_text : (ts : List TyShape) (packed : Bool)
    → joined (ty_spelling (structure (ty_row ts) packed)) ≡ open_brace packed ++ (in_row false (map (λ t. joined (ty_spelling t)) ts) ++ close_brace packed)
unfolding ty_spelling ty_list_spelling ty_more_spelling
structure_text ts packed =
    braces_text packed (ty_list_spelling (ty_row ts))
    ∙ ap (λ z. open_brace packed ++ (joined z ++ close_brace packed)) (tys_listed ts)
    ∙ ap (λ z. open_brace packed ++ (z ++ close_brace packed)) (list_text ty_spelling ty_starts ts)

pub map_twice : {A B C : Type 0} (f : A → B) (g : B → C) (xs : List A) → map g (map f xs) ≡ map (λ x. g (f x)) xs
map_twice f g [] = refl
map_twice f g (x ∷ xs) = ap (λ z. g (f x) ∷ z) (map_twice f g xs)

-- the same for types with their names from a table
layer : (s t : TyShape) → s ≡ t → joined (ty_spelling s) ≡ joined (ty_spelling t)
layer s t e = ap (λ z. joined (ty_spelling z)) e

pub integer_printed : (names : List (List ℕ)) (bits : ℕ) → ty_text names (types.Int bits) ≡ text_of_symbol (KeywordSymbol (Integer bits))
integer_printed names bits =
    layer _ _ (ap (ty_shape names) (sym (types.rolls-Int bits)) ∙ fold-roll-Ty TyShape (ty_step names) (ty.Int bits))
    ∙ integer_text bits

pub pointer_printed : (names : List (List ℕ)) → ty_text names types.Ptr ≡ text_of_symbol (KeywordSymbol Ptr)
pointer_printed names =
    layer _ _ (ap (ty_shape names) (sym types.rolls-Ptr) ∙ fold-roll-Ty TyShape (ty_step names) ty.Ptr)
    ∙ pointer_text

pub void_printed : (names : List (List ℕ)) → ty_text names types.Void ≡ text_of_symbol (KeywordSymbol Void)
void_printed names =
    layer _ _ (ap (ty_shape names) (sym types.rolls-Void) ∙ fold-roll-Ty TyShape (ty_step names) ty.Void)
    ∙ void_text

pub named_printed : (names : List (List ℕ)) (id : NameId) → ty_text names (types.Named id) ≡ text_of_symbol (LocalSymbol (text_of names id.0))
named_printed names id =
    layer _ _ (ap (ty_shape names) (sym (types.rolls-Named id)) ∙ fold-roll-Ty TyShape (ty_step names) (ty.Named id))
    ∙ named_text (text_of names id.0)

pub array_printed : (names : List (List ℕ)) (count : ℕ) (element : Box Ty Global) → ty_text names (types.Array count element) ≡ 91 ∷ (text_of_symbol (NumberSymbol (pos count)) ++ (32 ∷ 120 ∷ 32 ∷ (ty_text names element.value ++ 93 ∷ [])))
array_printed names count element =
    layer _ _ (ap (ty_shape names) (sym (types.rolls-Array count element)) ∙ fold-roll-Ty TyShape (ty_step names) (ty.Array count element))
    ∙ array_text count (ty_shape names element.value)

pub struct_printed : (names : List (List ℕ)) (v : Vec Ty Global) (packed : Bool) → ty_text names (types.Struct v packed) ≡ open_brace packed ++ (in_row false (map (ty_text names) v.items) ++ close_brace packed)
struct_printed names v packed =
    layer _ _ (ap (ty_shape names) (sym (types.rolls-Struct v packed)) ∙ fold-roll-Ty TyShape (ty_step names) (ty.Struct v packed))
    ∙ structure_text (map (ty_shape names) v.items) packed
    ∙ ap (λ z. open_brace packed ++ (in_row false z ++ close_brace packed)) (map_twice (ty_shape names) (λ t. joined (ty_spelling t)) v.items)
