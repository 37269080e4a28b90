-- The printed form of phis, instructions and terminators.
use Rattle.std.proofs.Common.{◌≡◌, ℕ, ℤ, pos, negsuc, ◌==◌, Bool, true, false, List, [], ◌∷◌, ◌++◌, map, refl, ap, ◌∙◌, subst, if◌then◌else◌}
use Rattle.ir_words.specs.declared.words.Keyword.{Keyword}
use Rattle.ir_words.specs.declared.words.Keyword.TheVariants.{Integer, Void, Phi, Nuw, Nsw, Exact, InBounds, Icmp, Select, To, Freeze, Alloca, Load, Store, GetElementPtr, Call, Br, Label, Switch, Ret, Unreachable}
use Rattle.ir_lex.specs.Symbols.{Symbol, LocalSymbol, MarkSymbol}
use Rattle.ir_tree.specs.Shape.{TyShape, ValShape, TyValShape, PhiInShape, CaseShape, BodyShape, phi, binary, icmp, select, convert, freeze, alloca, load, store, get_element, call, jump, branch, switch, return_void, return_value, unreachable}
use Rattle.ir_tree.specs.declared.module.Flags.{Flags}
use Rattle.ir_grammar_consts.specs.Spelling.{flag_spelling}
use Rattle.ir_grammar_insts.specs.Spelling.{bin_word, pred_word, conv_word, flag_word, flags_spelling, val_spelling, ty_val_spelling, two_spelling, target_spelling, phi_input_spelling, case_spelling, count_spelling, count_written, body_spelling, in_a_row, with_commas}
use Rattle.ir_print_consts.specs.Texts.{in_row}
use Rattle.ir_print.specs.Texts.{word_text, local_text, number_text, value_text, typed_text, two_text, target_text, flag_part, flags_part, input_text, case_text, callee_gap, is_global_name, in_spaces, count_part, body_text}
use Rattle.ir_print.proofs.Pieces.{Piece, Item, both, item_then, alone, empty_piece, comma_piece, more_piece, bracket_item, parens_item, commas_piece, listed_text, listed_piece, spaces_text}
use Rattle.ir_print.proofs.OperandItems.{word_item, local_item, number_item, type_item, value_item, value_gap}

pub typed_item : (v : TyValShape) → Item (ty_val_spelling v) (typed_text v)
typed_item v = item_then (type_item v.ty) (value_item v.val).piece

two_item : (t : TyShape) (x y : ValShape) → Item (two_spelling t x y) (two_text t x y)
two_item t x y = item_then (type_item t) (both (value_item x).piece (more_piece value_item y))

target_item : (name : List ℕ) → Item (target_spelling name) (target_text name)
target_item name = item_then (word_item Label) (local_item name).piece

flag_piece : (b : Bool) (k : Keyword) → Piece (flag_word b k) (flag_part b k)
flag_piece false k = empty_piece
flag_piece true k = (word_item k).piece

flags_piece : (f : Flags) → Piece (flags_spelling f) (flags_part f)
flags_piece f = both (flag_piece f.nuw Nuw) (both (flag_piece f.nsw Nsw) (flag_piece f.exact Exact))

inbounds_piece : (b : Bool) → Piece (flag_spelling b) (flag_part b InBounds)
inbounds_piece false = empty_piece
inbounds_piece true = (word_item InBounds).piece

-- a part's text, by its spelling
as_text : (row : List Symbol) (s t : List ℕ) → s ≡ t → Item row s → Item row t
as_text row s t e i = subst (Item row) e i

input_item : (v : PhiInShape) → Item (phi_input_spelling v) (input_text v)
input_item v =
    let inner : Item (val_spelling v.val ++ (MarkSymbol 44 ∷ LocalSymbol v.from ∷ [])) (value_text v.val ++ (44 ∷ 32 ∷ local_text v.from)) =
    item_then (value_item v.val) (both comma_piece (local_item v.from).piece) in
    as_text (phi_input_spelling v) _ (input_text v) (ap (λ z. 91 ∷ (z ++ 93 ∷ [])) (alone inner) ∙ ap (λ z. 91 ∷ z) (ends (value_text v.val) (local_text v.from))) (bracket_item (val_spelling v.val ++ (MarkSymbol 44 ∷ LocalSymbol v.from ∷ [])))
  where
    ends : (x y : List ℕ) → (x ++ (44 ∷ 32 ∷ y)) ++ 93 ∷ [] ≡ x ++ (44 ∷ 32 ∷ (y ++ 93 ∷ []))
    ends [] y = refl
    ends (b ∷ x) y = ap (λ z. b ∷ z) (ends x y)

case_item : (v : CaseShape) → Item (case_spelling v) (case_text v)
case_item v = item_then (type_item v.ty) (both (number_item v.value).piece (more_piece target_item v.to))

written_piece : (z : ℤ) → Piece (count_written z) (44 ∷ 32 ∷ (word_text (Integer 64) ++ (32 ∷ number_text z)))
written_piece z = both comma_piece (both (word_item (Integer 64)).piece (number_item z).piece)

count_piece : (z : ℤ) → Piece (count_spelling z) (count_part z)
count_piece (pos n) = by_test (n == 1)
  where
    by_test : (b : Bool) → Piece (if b then [] else count_written (pos n)) (if b then [] else (44 ∷ 32 ∷ (word_text (Integer 64) ++ (32 ∷ number_text (pos n)))))
    by_test true = empty_piece
    by_test false = written_piece (pos n)
count_piece (negsuc n) = written_piece (negsuc n)

arguments_item : (callee : ValShape) (row : List TyValShape)
    → Item (val_spelling callee ++ MarkSymbol 40 ∷ (with_commas ty_val_spelling row ++ MarkSymbol 41 ∷ [])) (value_text callee ++ (callee_gap (is_global_name callee) ++ (40 ∷ (in_row false (map typed_text row) ++ 41 ∷ []))))
arguments_item callee row =
    as_text _ _ _ (ap (λ z. value_text callee ++ (callee_gap (is_global_name callee) ++ (40 ∷ (z ++ 41 ∷ [])))) (listed_text ty_val_spelling typed_text typed_item row))
    (parens_item (val_spelling callee) (with_commas ty_val_spelling row) (value_text callee) (callee_gap (is_global_name callee)) (value_item callee) (value_gap callee))

cases_item : (cases : List CaseShape) → Item (MarkSymbol 91 ∷ (in_a_row case_spelling cases ++ MarkSymbol 93 ∷ [])) (91 ∷ (in_spaces false (map case_text cases) ++ 93 ∷ []))
cases_item cases = as_text _ _ _ (ap (λ z. 91 ∷ (z ++ 93 ∷ [])) (spaces_text case_spelling case_text case_item cases)) (bracket_item (in_a_row case_spelling cases))

pub body_item : (b : BodyShape) → Item (body_spelling b) (body_text b)
body_item (phi t inputs) = item_then (word_item Phi) (both (type_item t).piece (listed_piece phi_input_spelling input_text input_item inputs))
body_item (binary operation flags t x y) = item_then (word_item (bin_word operation)) (both (flags_piece flags) (two_item t x y).piece)
body_item (icmp predicate t x y) = item_then (word_item Icmp) (both (word_item (pred_word predicate)).piece (two_item t x y).piece)
body_item (select c x y) = item_then (word_item Select) (both (typed_item c).piece (both (more_piece typed_item x) (more_piece typed_item y)))
body_item (convert conversion t x to) = item_then (word_item (conv_word conversion)) (both (type_item t).piece (both (value_item x).piece (both (word_item To).piece (type_item to).piece)))
body_item (freeze t x) = item_then (word_item Freeze) (both (type_item t).piece (value_item x).piece)
body_item (alloca t n) = item_then (word_item Alloca) (both (type_item t).piece (count_piece n))
body_item (load t x) = item_then (word_item Load) (both (type_item t).piece (more_piece typed_item x))
body_item (store x y) = item_then (word_item Store) (both (typed_item x).piece (more_piece typed_item y))
body_item (get_element inbounds t base row) =
    item_then (word_item GetElementPtr) (both (inbounds_piece inbounds) (both (type_item t).piece (both (more_piece typed_item base) (commas_piece ty_val_spelling typed_text typed_item row))))
body_item (call t callee row) = item_then (word_item Call) (both (type_item t).piece (arguments_item callee row).piece)
body_item (jump to) = item_then (word_item Br) (target_item to).piece
body_item (branch c x y) = item_then (word_item Br) (both (typed_item c).piece (both (more_piece target_item x) (more_piece target_item y)))
body_item (switch x to cases) = item_then (word_item Switch) (both (typed_item x).piece (both (more_piece target_item to) (cases_item cases).piece))
body_item return_void = item_then (word_item Ret) (word_item Void).piece
body_item (return_value x) = item_then (word_item Ret) (typed_item x).piece
body_item unreachable = word_item Unreachable
