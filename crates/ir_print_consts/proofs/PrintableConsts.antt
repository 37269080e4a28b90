-- The spelling of a constant that readable symbols spell is printable.
use Rattle.std.proofs.Common.{◌≡◌, ℕ, zero, suc, Bool, true, false, List, [], ◌∷◌, ◌++◌, Some, None, refl, sym, subst, if◌then◌else◌}
use Rattle.grammar.specs.Language.{Lang, nothing, nested, recursive, skip}
use Rattle.ir_tree.specs.Shape.{TyShape, ConstShape, number, boolean, null, undef, poison, zero_value, text, elements, fields, global, address, TypedShape, typed, typed_row}
use Rattle.ir_words.specs.declared.words.Keyword.TheVariants.{True, False, Null, Undef, Poison, ZeroInitializer}
use Rattle.ir_lex.specs.Bytes.{is_punct}
use Rattle.ir_lex.specs.Symbols.{Symbol, KeywordSymbol, GlobalSymbol, NumberSymbol, TextSymbol, MarkSymbol}
use Rattle.ir_cursor.specs.Marks.{punct}
use Rattle.ir_print_symbols.specs.Printed.{IsReadable, AreReadable, ArePrintable}
use Rattle.ir_grammar_consts.specs.Constants.{ConstHead, WholeConst, ElementsOpen, ValuesOpen, PackedValuesOpen, AddressOpen, const_head, typed_const, typed_list, const_rest, const_rule, const, address_of}
use Rattle.ir_grammar_consts.specs.Spelling.{ty_spelling, flag_spelling, const_spelling, typed_spelling, typed_list_spelling, typed_more_spelling}
use Rattle.ir_grammar_consts.proofs.Values.{Every}
use Rattle.ir_print_consts.proofs.PrintableTypes.{Carries, front_of, back_of, tail_of, head_of, printable_both, carries_many, carries_skip, carries_listed, braces_printable, IsTyPrintable, ty_printable}

-- the spelling of the constant is printable
abbrev pub IsConstPrintable : ConstShape → Type 0
IsConstPrintable c = ArePrintable (const_spelling c)

abbrev pub IsTypedPrintable : TypedShape → Type 0
IsTypedPrintable v = ArePrintable (typed_spelling v)

bracket_whole : (b c d : Bool) (v : ConstShape)
    → (if b then Some ElementsOpen else (if c then Some ValuesOpen else (if d then Some PackedValuesOpen else None))) ≡ Some (WholeConst v) → ⊥
bracket_whole true c d v h = cc
bracket_whole false true d v h = cc
bracket_whole false false true v h = cc
bracket_whole false false false v h = cc

head_printable : (s : Symbol) (c : ConstShape) → const_head s ≡ Some (WholeConst c) → IsReadable s → IsConstPrintable c
unfolding const_spelling
head_printable (NumberSymbol z) c h g = let same : number z ≡ c = cc in subst IsConstPrintable same (g, tt)
head_printable (KeywordSymbol True) c h g = let same : boolean true ≡ c = cc in subst IsConstPrintable same (tt, tt)
head_printable (KeywordSymbol False) c h g = let same : boolean false ≡ c = cc in subst IsConstPrintable same (tt, tt)
head_printable (KeywordSymbol Null) c h g = let same : null ≡ c = cc in subst IsConstPrintable same (tt, tt)
head_printable (KeywordSymbol Undef) c h g = let same : undef ≡ c = cc in subst IsConstPrintable same (tt, tt)
head_printable (KeywordSymbol Poison) c h g = let same : poison ≡ c = cc in subst IsConstPrintable same (tt, tt)
head_printable (KeywordSymbol ZeroInitializer) c h g = let same : zero_value ≡ c = cc in subst IsConstPrintable same (tt, tt)
head_printable (TextSymbol bytes) c h g = let same : text bytes ≡ c = cc in subst IsConstPrintable same (g, tt)
head_printable (GlobalSymbol name) c h g = let same : global name ≡ c = cc in subst IsConstPrintable same (g, tt)
head_printable (MarkSymbol b) c h g = absurd (bracket_whole _ _ _ c h)
head_printable _ c h g = cc

more_printable : (vs : List TypedShape) → Every IsTypedPrintable vs → ArePrintable (typed_more_spelling (typed_row vs))
unfolding const_spelling is_punct
more_printable [] h = tt
more_printable (v ∷ vs) h = (refl, printable_both (typed_spelling v) (typed_more_spelling (typed_row vs)) h.0 (more_printable vs h.1))

row_printable : (vs : List TypedShape) → Every IsTypedPrintable vs → ArePrintable (typed_list_spelling (typed_row vs))
unfolding const_spelling
row_printable [] h = tt
row_printable (v ∷ vs) h = printable_both (typed_spelling v) (typed_more_spelling (typed_row vs)) h.0 (more_printable vs h.1)

elements_printable : (vs : List TypedShape) → Every IsTypedPrintable vs → IsConstPrintable (elements (typed_row vs))
unfolding const_spelling is_punct
elements_printable vs h = (refl, printable_both (typed_list_spelling (typed_row vs)) (MarkSymbol 93 ∷ []) (row_printable vs h) (refl, tt))

fields_printable : (vs : List TypedShape) (packed : Bool) → Every IsTypedPrintable vs → IsConstPrintable (fields (typed_row vs) packed)
unfolding const_spelling
fields_printable vs packed h = braces_printable packed (typed_list_spelling (typed_row vs)) (row_printable vs h)

typed_both : (t : TyShape) (c : ConstShape) → IsTyPrintable t → IsConstPrintable c → IsTypedPrintable (typed t c)
unfolding const_spelling
typed_both t c h g = printable_both (ty_spelling t) (const_spelling c) h g

pub flag_printable : (inbounds : Bool) → ArePrintable (flag_spelling inbounds)
flag_printable true = (tt, tt)
flag_printable false = tt

address_printable : (inbounds : Bool) (t : TyShape) (base : TypedShape) (vs : List TypedShape) → IsTyPrintable t → IsTypedPrintable base → Every IsTypedPrintable vs
    → IsConstPrintable (address inbounds t base (typed_row vs))
unfolding const_spelling is_punct
address_printable inbounds t base vs h g k =
    let closed = printable_both (typed_more_spelling (typed_row vs)) (MarkSymbol 41 ∷ []) (more_printable vs k) (refl, tt) in
    let operands = printable_both (typed_spelling base) (typed_more_spelling (typed_row vs) ++ MarkSymbol 41 ∷ []) g closed in
    let inner = printable_both (ty_spelling t) (MarkSymbol 44 ∷ (typed_spelling base ++ (typed_more_spelling (typed_row vs) ++ MarkSymbol 41 ∷ []))) h (refl, operands) in
    (tt, printable_both (flag_spelling inbounds) (MarkSymbol 40 ∷ (ty_spelling t ++ MarkSymbol 44 ∷ (typed_spelling base ++ (typed_more_spelling (typed_row vs) ++ MarkSymbol 41 ∷ [])))) (flag_printable inbounds) (refl, inner))

typed_printable : (L : Lang Symbol ConstShape) → Carries L IsConstPrintable → Carries (typed_const L) IsTypedPrintable
typed_printable L h ts v word g =
    let front = front_of ts word.1.0 word.1.1 word.1.2 g in
    let back = back_of ts word.1.0 word.1.1 word.1.2 g in
    subst IsTypedPrintable (sym word.2) (typed_both word.0.0 word.0.1 (ty_printable word.1.0 word.0.0 word.1.3 front) (h word.1.1 word.0.1 word.1.4 back))

list_printable : (L : Lang Symbol ConstShape) → Carries L IsConstPrintable
    → (close : ℕ) (ts : List Symbol) (vs : List TypedShape) → typed_list close L ts vs → AreReadable ts → Every IsTypedPrintable vs
list_printable L h close ts vs word g = carries_listed (punct 44) (punct close) (typed_const L) IsTypedPrintable (typed_printable L h) ts vs word g

rest_printable : (L : Lang Symbol ConstShape) → Carries L IsConstPrintable → (s : Symbol) (head : ConstHead) → const_head s ≡ Some head → IsReadable s
    → (ts : List Symbol) (c : ConstShape) → const_rest L head ts c → AreReadable ts → IsConstPrintable c
rest_printable L h s (WholeConst u) e r ts c word g = subst IsConstPrintable (sym word.1) (head_printable s u e r)
rest_printable L h s ElementsOpen e r ts c word g = subst IsConstPrintable (sym word.2) (elements_printable word.0 (list_printable L h 93 ts word.0 word.1 g))
rest_printable L h s ValuesOpen e r ts c word g = subst IsConstPrintable (sym word.2) (fields_printable word.0 false (list_printable L h 125 ts word.0 word.1 g))
rest_printable L h s PackedValuesOpen e r ts c word g =
    let row = word.5 in
    let inner = row.1.1 in
    let front = front_of word.1 inner.0 inner.1 inner.2 (tail_of ts word.0 word.1 word.3 g) in
    let every = list_printable L h 125 inner.0 row.1.0.0 inner.3 front in
    subst IsConstPrintable (sym row.2) (fields_printable row.0 true (subst (Every IsTypedPrintable) (sym row.1.2) every))
rest_printable L h s AddressOpen e r ts c word g =
    let value = word.0 in
    let whole = word.1 in
    let open_mark = whole.4 in
    let parts = open_mark.5 in
    let comma = parts.4 in
    let more = comma.5 in
    let rest = more.4 in
    let in_brackets = tail_of whole.1 open_mark.0 open_mark.1 open_mark.3 (back_of ts whole.0 whole.1 whole.2 g) in
    let first = ty_printable parts.0 value.1.0 parts.3 (front_of open_mark.1 parts.0 parts.1 parts.2 in_brackets) in
    let behind_comma = tail_of parts.1 comma.0 comma.1 comma.3 (back_of open_mark.1 parts.0 parts.1 parts.2 in_brackets) in
    let base = typed_printable L h more.0 value.1.1.0 more.3 (front_of comma.1 more.0 more.1 more.2 behind_comma) in
    let row = back_of comma.1 more.0 more.1 more.2 behind_comma in
    let every = carries_many (skip (punct 44) (typed_const L)) IsTypedPrintable (carries_skip (punct 44) (typed_const L) IsTypedPrintable (typed_printable L h)) rest.1.0 rest.0.0 rest.1.3 (front_of more.1 rest.1.0 rest.1.1 rest.1.2 row) in
    let printable : IsConstPrintable (address_of value) = address_printable value.0 value.1.0 value.1.1.0 value.1.1.1 first base (subst (Every IsTypedPrintable) (sym rest.2) every) in
    subst IsConstPrintable (sym word.2) printable

rule_printable : (L : Lang Symbol ConstShape) → Carries L IsConstPrintable → Carries (const_rule L) IsConstPrintable
rule_printable L h ts c word g = rest_printable L h word.0 word.2 word.4 (head_of ts word.0 word.1 word.3 g) word.1 c word.5 (tail_of ts word.0 word.1 word.3 g)

nested_printable : (d : ℕ) → Carries (nested const_rule d) IsConstPrintable
unfolding nested
nested_printable zero ts c word g = rule_printable nothing (λ ts c w r. absurd w) ts c word g
nested_printable (suc d) ts c word g = rule_printable (nested const_rule d) (nested_printable d) ts c word g

-- a constant that readable symbols spell is printable
pub const_printable : (ts : List Symbol) (c : ConstShape) → const ts c → AreReadable ts → IsConstPrintable c
unfolding recursive
const_printable ts c word g = nested_printable word.0 ts c word.1 g
