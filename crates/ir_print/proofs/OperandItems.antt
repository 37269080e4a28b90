-- The printed form of words, names, types and constants as parts of a row.
use Rattle.std.proofs.Common.{◌≡◌, ℕ, ℤ, Bool, true, false, List, [], ◌∷◌, ◌++◌, refl, ap, ◌∙◌, pos}
use Rattle.ir_words.specs.declared.words.Keyword.{Keyword}
use Rattle.ir_words.specs.declared.words.Keyword.TheVariants.{To, Integer, Ptr, Void, X, True, False, Null, Undef, Poison, ZeroInitializer, GetElementPtr}
use Rattle.ir_lex.specs.Symbols.{Symbol, KeywordSymbol, LocalSymbol, GlobalSymbol, NumberSymbol, TextSymbol, MarkSymbol}
use Rattle.ir_print_symbols.specs.Printed.{is_opening, is_closing, is_mark, between, joined, last_of}
use Rattle.ir_tree.specs.Shape.{TyShape, integer, pointer, void, array, structure, named, ConstShape, number, boolean, null, undef, poison, zero_value, text, elements, fields, global, address, ValShape, local, fixed}
use Rattle.ir_grammar_consts.specs.Spelling.{in_braces, flag_spelling, ty_spelling, ty_list_spelling, ty_more_spelling, const_spelling, typed_spelling, typed_list_spelling, typed_more_spelling}
use Rattle.ir_grammar_insts.specs.Spelling.{val_spelling}
use Rattle.ir_print_consts.proofs.Rows.{Starts, last_of_end}
use Rattle.ir_print.specs.Texts.{word_text, local_text, global_text, number_text, type_text, constant_text, value_text, is_name, is_global_name, callee_gap}
use Rattle.ir_print.proofs.Pieces.{Follows, Whole, Item, last_of-append, one_item, item_from}

pub word_item : (k : Keyword) → Item (KeywordSymbol k ∷ []) (word_text k)
unfolding word_text
word_item k = one_item (KeywordSymbol k) refl (refl, refl) (refl, refl)

pub local_item : (name : List ℕ) → Item (LocalSymbol name ∷ []) (local_text name)
unfolding local_text
local_item name = one_item (LocalSymbol name) refl (refl, refl) (refl, refl)

pub global_item : (name : List ℕ) → Item (GlobalSymbol name ∷ []) (global_text name)
unfolding global_text
global_item name = one_item (GlobalSymbol name) refl (refl, refl) (refl, refl)

pub number_item : (z : ℤ) → Item (NumberSymbol z ∷ []) (number_text z)
unfolding number_text
number_item z = one_item (NumberSymbol z) refl (refl, refl) (refl, refl)

-- a row that doesn't begin with a mark that closes, with `(` or with `>`
record Begins (row : List Symbol) : Type 0 where
  pub first : Symbol
  pub rest : List Symbol
  pub is : row ≡ first ∷ rest
  pub apart : is_closing first ≡ false
  pub follows : (is_mark 40 first ≡ false) × (is_mark 62 first ≡ false)

begins_start : (row : List Symbol) → Begins row → Starts row
begins_start row b = record { first = b.first; rest = b.rest; is = b.is; apart = b.apart }

begins_follow : (row : List Symbol) → Begins row → Follows row
begins_follow row b = rw b.is b.follows

-- the last symbol of a row
record Last (row : List Symbol) : Type 0 where
  pub last : Symbol
  pub is : last_of (KeywordSymbol To) row ≡ last
  pub whole : (is_opening last ≡ false) × (is_mark 60 last ≡ false)

last_whole : (row : List Symbol) → Last row → Whole row
last_whole row l = (ap is_opening l.is ∙ l.whole.0, ap (is_mark 60) l.is ∙ l.whole.1)

braces_begin : (packed : Bool) (ss : List Symbol) → Begins (in_braces packed ss)
braces_begin false ss = record { first = MarkSymbol 123; rest = _; is = refl; apart = refl; follows = (refl, refl) }
braces_begin true ss = record { first = MarkSymbol 60; rest = _; is = refl; apart = refl; follows = (refl, refl) }

braces_last : (packed : Bool) (ss : List Symbol) → Last (in_braces packed ss)
braces_last false ss = record { last = MarkSymbol 125; is = last_of_end (MarkSymbol 123) (MarkSymbol 125) ss; whole = (refl, refl) }
braces_last true ss = record { last = MarkSymbol 62; is = last_of_end (MarkSymbol 123) (MarkSymbol 62) (ss ++ MarkSymbol 125 ∷ []); whole = (refl, refl) }

ty_begins : (t : TyShape) → Begins (ty_spelling t)
unfolding ty_spelling ty_list_spelling ty_more_spelling
ty_begins (integer bits) = record { first = KeywordSymbol (Integer bits); rest = []; is = refl; apart = refl; follows = (refl, refl) }
ty_begins pointer = record { first = KeywordSymbol Ptr; rest = []; is = refl; apart = refl; follows = (refl, refl) }
ty_begins void = record { first = KeywordSymbol Void; rest = []; is = refl; apart = refl; follows = (refl, refl) }
ty_begins (array count element) = record { first = MarkSymbol 91; rest = _; is = refl; apart = refl; follows = (refl, refl) }
ty_begins (structure row packed) = braces_begin packed (ty_list_spelling row)
ty_begins (named name) = record { first = LocalSymbol name; rest = []; is = refl; apart = refl; follows = (refl, refl) }

ty_last : (t : TyShape) → Last (ty_spelling t)
unfolding ty_spelling ty_list_spelling ty_more_spelling
ty_last (integer bits) = record { last = KeywordSymbol (Integer bits); is = refl; whole = (refl, refl) }
ty_last pointer = record { last = KeywordSymbol Ptr; is = refl; whole = (refl, refl) }
ty_last void = record { last = KeywordSymbol Void; is = refl; whole = (refl, refl) }
ty_last (array count element) =
    record { last = MarkSymbol 93; is = last_of_end (MarkSymbol 91) (MarkSymbol 93) (NumberSymbol (pos count) ∷ KeywordSymbol X ∷ ty_spelling element); whole = (refl, refl) }
ty_last (structure row packed) = braces_last packed (ty_list_spelling row)
ty_last (named name) = record { last = LocalSymbol name; is = refl; whole = (refl, refl) }

pub type_item : (t : TyShape) → Item (ty_spelling t) (type_text t)
unfolding type_text
type_item t =
    item_from (ty_spelling t) (joined (ty_spelling t)) (begins_start (ty_spelling t) (ty_begins t)) (begins_follow (ty_spelling t) (ty_begins t)) (last_whole (ty_spelling t) (ty_last t)) refl

const_begins : (c : ConstShape) → Begins (const_spelling c)
unfolding const_spelling typed_spelling typed_list_spelling typed_more_spelling
const_begins (number z) = record { first = NumberSymbol z; rest = []; is = refl; apart = refl; follows = (refl, refl) }
const_begins (boolean true) = record { first = KeywordSymbol True; rest = []; is = refl; apart = refl; follows = (refl, refl) }
const_begins (boolean false) = record { first = KeywordSymbol False; rest = []; is = refl; apart = refl; follows = (refl, refl) }
const_begins null = record { first = KeywordSymbol Null; rest = []; is = refl; apart = refl; follows = (refl, refl) }
const_begins undef = record { first = KeywordSymbol Undef; rest = []; is = refl; apart = refl; follows = (refl, refl) }
const_begins poison = record { first = KeywordSymbol Poison; rest = []; is = refl; apart = refl; follows = (refl, refl) }
const_begins zero_value = record { first = KeywordSymbol ZeroInitializer; rest = []; is = refl; apart = refl; follows = (refl, refl) }
const_begins (text bytes) = record { first = TextSymbol bytes; rest = []; is = refl; apart = refl; follows = (refl, refl) }
const_begins (elements row) = record { first = MarkSymbol 91; rest = _; is = refl; apart = refl; follows = (refl, refl) }
const_begins (fields row packed) = braces_begin packed (typed_list_spelling row)
const_begins (global name) = record { first = GlobalSymbol name; rest = []; is = refl; apart = refl; follows = (refl, refl) }
const_begins (address inbounds t base row) = record { first = KeywordSymbol GetElementPtr; rest = _; is = refl; apart = refl; follows = (refl, refl) }

-- the last symbol of a constant, and what stands between it and `(`
record ConstLast (c : ConstShape) : Type 0 where
  pub last : Last (const_spelling c)
  pub gap : between last.last (MarkSymbol 40) ≡ callee_gap (is_name c)

const_last : (c : ConstShape) → ConstLast c
unfolding const_spelling typed_spelling typed_list_spelling typed_more_spelling braces_last
const_last (number z) = record { last = record { last = NumberSymbol z; is = refl; whole = (refl, refl) }; gap = refl }
const_last (boolean true) = record { last = record { last = KeywordSymbol True; is = refl; whole = (refl, refl) }; gap = refl }
const_last (boolean false) = record { last = record { last = KeywordSymbol False; is = refl; whole = (refl, refl) }; gap = refl }
const_last null = record { last = record { last = KeywordSymbol Null; is = refl; whole = (refl, refl) }; gap = refl }
const_last undef = record { last = record { last = KeywordSymbol Undef; is = refl; whole = (refl, refl) }; gap = refl }
const_last poison = record { last = record { last = KeywordSymbol Poison; is = refl; whole = (refl, refl) }; gap = refl }
const_last zero_value = record { last = record { last = KeywordSymbol ZeroInitializer; is = refl; whole = (refl, refl) }; gap = refl }
const_last (text bytes) = record { last = record { last = TextSymbol bytes; is = refl; whole = (refl, refl) }; gap = refl }
const_last (elements row) =
    record { last = record { last = MarkSymbol 93; is = last_of_end (MarkSymbol 91) (MarkSymbol 93) (typed_list_spelling row); whole = (refl, refl) }; gap = refl }
const_last (fields row false) = record { last = record { last = MarkSymbol 125; is = (braces_last false (typed_list_spelling row)).is; whole = (refl, refl) }; gap = refl }
const_last (fields row true) = record { last = record { last = MarkSymbol 62; is = (braces_last true (typed_list_spelling row)).is; whole = (refl, refl) }; gap = refl }
const_last (global name) = record { last = record { last = GlobalSymbol name; is = refl; whole = (refl, refl) }; gap = refl }
const_last (address inbounds t base row) =
    let indices : List Symbol = typed_more_spelling row ++ MarkSymbol 41 ∷ [] in
    let steps : List Symbol = typed_spelling base ++ indices in
    record {
      last = record {
        last = MarkSymbol 41;
        is =
            last_of-append (KeywordSymbol GetElementPtr) (flag_spelling inbounds) (MarkSymbol 40 ∷ (ty_spelling t ++ MarkSymbol 44 ∷ steps))
            ∙ last_of-append (MarkSymbol 40) (ty_spelling t) (MarkSymbol 44 ∷ steps)
            ∙ last_of-append (MarkSymbol 44) (typed_spelling base) indices
            ∙ last_of_end _ (MarkSymbol 41) (typed_more_spelling row);
        whole = (refl, refl);
      };
      gap = refl;
    }

pub constant_item : (c : ConstShape) → Item (const_spelling c) (constant_text c)
unfolding constant_text
constant_item c =
    item_from (const_spelling c) (joined (const_spelling c)) (begins_start (const_spelling c) (const_begins c)) (begins_follow (const_spelling c) (const_begins c)) (last_whole (const_spelling c) (const_last c).last) refl

pub value_item : (v : ValShape) → Item (val_spelling v) (value_text v)
value_item (local name) = local_item name
value_item (fixed c) = constant_item c

-- what stands between an operand and `(`
pub value_gap : (v : ValShape) → between (last_of (KeywordSymbol To) (val_spelling v)) (MarkSymbol 40) ≡ callee_gap (is_global_name v)
value_gap (local name) = refl
value_gap (fixed c) = ap (λ z. between z (MarkSymbol 40)) (const_last c).last.is ∙ (const_last c).gap
