-- What readable symbols spell is printed: the spelling of a type that was read is printable.
use Rattle.std.proofs.Common.{◌≡◌, ℕ, zero, suc, ◌<◌, ◌^◌, Bool, true, false, List, [], ◌∷◌, ◌++◌, Option, Some, None, refl, sym, subst, take, drop, arith, ltb-true, if◌then◌else◌, inl, inr}
use Rattle.std.proofs.lemmas.List.{take-append-drop}
use Rattle.grammar.specs.Language.{Lang, nothing, nested, recursive, many, skip, listed}
use Rattle.ir_tree.specs.Shape.{TyShape, integer, pointer, void, array, structure, named, ty_row}
use Rattle.ir_tree.proofs.Grows.{and_left, and_right}
use Rattle.ir_words.specs.declared.words.Keyword.TheVariants.{Integer, Ptr, Void}
use Rattle.ir_lex.specs.Bytes.{is_punct}
use Rattle.ir_lex.specs.Symbols.{Symbol, KeywordSymbol, LocalSymbol, MarkSymbol}
use Rattle.ir_cursor.specs.Marks.{punct}
use Rattle.ir_print_symbols.specs.Printed.{IsReadable, AreReadable, ArePrintable}
use Rattle.ir_grammar_consts.specs.Types.{is_width, TyHead, WholeType, ArrayOpen, FieldsOpen, PackedOpen, ty_head, ty_rest, ty_rule, ty}
use Rattle.ir_grammar_consts.specs.Spelling.{in_braces, ty_spelling, ty_list_spelling, ty_more_spelling}
use Rattle.ir_grammar_consts.proofs.TypeFits.{count_fits}
use Rattle.ir_grammar_consts.proofs.Values.{Every}

readable_left : (p q : List Symbol) → AreReadable (p ++ q) → AreReadable p
readable_left [] q h = tt
readable_left (s ∷ p) q h = (h.0, readable_left p q h.1)

readable_right : (p q : List Symbol) → AreReadable (p ++ q) → AreReadable q
readable_right [] q h = h
readable_right (s ∷ p) q h = readable_right p q h.1

pub readable_drop : (n : ℕ) (ss : List Symbol) → AreReadable ss → AreReadable (drop n ss)
readable_drop n ss h = readable_right (take n ss) (drop n ss) (subst AreReadable (sym (take-append-drop n ss)) h)

-- the parts of readable symbols
pub front_of : (ts p q : List Symbol) → ts ≡ p ++ q → AreReadable ts → AreReadable p
front_of ts p q e h = readable_left p q (subst AreReadable e h)

pub back_of : (ts p q : List Symbol) → ts ≡ p ++ q → AreReadable ts → AreReadable q
back_of ts p q e h = readable_right p q (subst AreReadable e h)

pub tail_of : (ts : List Symbol) (s : Symbol) (q : List Symbol) → ts ≡ s ∷ q → AreReadable ts → AreReadable q
tail_of ts s q e h = (subst AreReadable e h).1

pub head_of : (ts : List Symbol) (s : Symbol) (q : List Symbol) → ts ≡ s ∷ q → AreReadable ts → IsReadable s
head_of ts s q e h = (subst AreReadable e h).0

-- printable symbols, one after another
pub printable_both : (p q : List Symbol) → ArePrintable p → ArePrintable q → ArePrintable (p ++ q)
printable_both [] q h g = g
printable_both (s ∷ p) q h g = (h.0, printable_both p q h.1 g)

-- the fact holds of what readable symbols spell
abbrev pub Carries : {V : Type 0} → Lang Symbol V → (V → Type 0) → Type 0
Carries {V} L P = (ts : List Symbol) (v : V) → L ts v → AreReadable ts → P v

pub carries_many : {V : Type 0} (a : Lang Symbol V) (P : V → Type 0) → Carries a P → (ts : List Symbol) (vs : List V) → many a ts vs → AreReadable ts → Every P vs
carries_many a P h ts [] word g = tt
carries_many a P h ts (v ∷ vs) word g = (h word.0 v word.3 (front_of ts word.0 word.1 word.2 g), carries_many a P h word.1 vs word.4 (back_of ts word.0 word.1 word.2 g))

pub carries_skip : {V K : Type 0} (separator : Symbol → Option K) (a : Lang Symbol V) (P : V → Type 0) → Carries a P → Carries (skip separator a) P
carries_skip separator a P h ts v word g = h word.1 v word.5 (tail_of ts word.0 word.1 word.3 g)

pub carries_listed : {V K C : Type 0} (separator : Symbol → Option K) (close : Symbol → Option C) (a : Lang Symbol V) (P : V → Type 0) → Carries a P
    → (ts : List Symbol) (vs : List V) → listed separator close a ts vs → AreReadable ts → Every P vs
carries_listed separator close a P h ts vs (inl u) g = subst (Every P) (sym u.5.1) tt
carries_listed separator close a P h ts vs (inr u) g =
    let row = u.1.3 in
    let front = front_of ts u.1.0 u.1.1 u.1.2 g in
    let first = h row.1.0 row.0.0 row.1.3 (front_of u.1.0 row.1.0 row.1.1 row.1.2 front) in
    let rest = carries_many (skip separator a) P (carries_skip separator a P h) row.1.1 row.0.1 row.1.4 (back_of u.1.0 row.1.0 row.1.1 row.1.2 front) in
    subst (Every P) (sym u.2) (subst (Every P) (sym row.2) (first, rest))

-- the spelling of the type is printable
abbrev pub IsTyPrintable : TyShape → Type 0
IsTyPrintable t = ArePrintable (ty_spelling t)

width_printable : (bits : ℕ) (t : TyShape) (b : Bool) → is_width bits ≡ b → (if b then Some (WholeType (integer bits)) else None) ≡ Some (WholeType t) → IsTyPrintable t
unfolding ty_spelling
width_printable bits t true e h =
    let same : integer bits ≡ t = cc in
    subst IsTyPrintable same ((ltb-true 0 bits (and_left _ _ e), ltb-true bits 65 (and_right _ _ e)), tt)
width_printable bits t false e h = cc

bracket_whole : (b c d : Bool) (t : TyShape) → (if b then Some ArrayOpen else (if c then Some FieldsOpen else (if d then Some PackedOpen else None))) ≡ Some (WholeType t) → ⊥
bracket_whole true c d t h = cc
bracket_whole false true d t h = cc
bracket_whole false false true t h = cc
bracket_whole false false false t h = cc

head_printable : (s : Symbol) (t : TyShape) → ty_head s ≡ Some (WholeType t) → IsReadable s → IsTyPrintable t
unfolding ty_spelling
head_printable (KeywordSymbol (Integer bits)) t h g = width_printable bits t (is_width bits) refl h
head_printable (KeywordSymbol Ptr) t h g = let same : pointer ≡ t = cc in subst IsTyPrintable same (tt, tt)
head_printable (KeywordSymbol Void) t h g = let same : void ≡ t = cc in subst IsTyPrintable same (tt, tt)
head_printable (LocalSymbol name) t h g = let same : named name ≡ t = cc in subst IsTyPrintable same (g, tt)
head_printable (MarkSymbol b) t h g = absurd (bracket_whole _ _ _ t h)
head_printable _ t h g = cc

more_printable : (ts : List TyShape) → Every IsTyPrintable ts → ArePrintable (ty_more_spelling (ty_row ts))
unfolding ty_spelling is_punct
more_printable [] h = tt
more_printable (t ∷ ts) h = (refl, printable_both (ty_spelling t) (ty_more_spelling (ty_row ts)) h.0 (more_printable ts h.1))

row_printable : (ts : List TyShape) → Every IsTyPrintable ts → ArePrintable (ty_list_spelling (ty_row ts))
unfolding ty_spelling
row_printable [] h = tt
row_printable (t ∷ ts) h = printable_both (ty_spelling t) (ty_more_spelling (ty_row ts)) h.0 (more_printable ts h.1)

-- braces round printable symbols
pub braces_printable : (packed : Bool) (ss : List Symbol) → ArePrintable ss → ArePrintable (in_braces packed ss)
unfolding is_punct
braces_printable false ss h = (refl, printable_both ss (MarkSymbol 125 ∷ []) h (refl, tt))
braces_printable true ss h =
    (refl, (refl, printable_both (ss ++ MarkSymbol 125 ∷ []) (MarkSymbol 62 ∷ []) (printable_both ss (MarkSymbol 125 ∷ []) h (refl, tt)) (refl, tt)))

structure_printable : (ts : List TyShape) (packed : Bool) → Every IsTyPrintable ts → IsTyPrintable (structure (ty_row ts) packed)
unfolding ty_spelling
structure_printable ts packed h = braces_printable packed (ty_list_spelling (ty_row ts)) (row_printable ts h)

array_printable : (n : ℕ) (t : TyShape) → n < 2 ^ 64 → IsTyPrintable t → IsTyPrintable (array n t)
unfolding ty_spelling is_punct
array_printable n t short h =
    let number : n < 2 ^ 127 = omega arith in
    (refl, (number, (tt, printable_both (ty_spelling t) (MarkSymbol 93 ∷ []) h (refl, tt))))

rest_printable : (L : Lang Symbol TyShape) → Carries L IsTyPrintable → (s : Symbol) (head : TyHead) → ty_head s ≡ Some head → IsReadable s
    → (ts : List Symbol) (t : TyShape) → ty_rest L head ts t → AreReadable ts → IsTyPrintable t
rest_printable L h s (WholeType u) e r ts t word g = subst IsTyPrintable (sym word.1) (head_printable s u e r)
rest_printable L h s ArrayOpen e r ts t word g =
    let pair = word.1.0.0 in
    let whole = word.1.1 in
    let parts = whole.3 in
    let short : pair.0 < 2 ^ 64 = subst (λ z. z < 2 ^ 64) (sym parts.3.5.1) (count_fits parts.3.0 parts.3.2 parts.3.4) in
    let front = front_of ts whole.0 whole.1 whole.2 g in
    let back = back_of whole.0 parts.0 parts.1 parts.2 front in
    let element : IsTyPrintable pair.1 = h parts.4.1 pair.1 parts.4.5 (tail_of parts.1 parts.4.0 parts.4.1 parts.4.3 back) in
    subst IsTyPrintable (sym word.2) (subst (λ z. IsTyPrintable (array z.0 z.1)) (sym word.1.2) (array_printable pair.0 pair.1 short element))
rest_printable L h s FieldsOpen e r ts t word g =
    subst IsTyPrintable (sym word.2) (structure_printable word.0 false (carries_listed (punct 44) (punct 125) L IsTyPrintable h ts word.0 word.1 g))
rest_printable L h s PackedOpen e r ts t word g =
    let row = word.5 in
    let inner = row.1.1 in
    let front = front_of word.1 inner.0 inner.1 inner.2 (tail_of ts word.0 word.1 word.3 g) in
    let every = carries_listed (punct 44) (punct 125) L IsTyPrintable h inner.0 row.1.0.0 inner.3 front in
    subst IsTyPrintable (sym row.2) (structure_printable row.0 true (subst (Every IsTyPrintable) (sym row.1.2) every))

rule_printable : (L : Lang Symbol TyShape) → Carries L IsTyPrintable → Carries (ty_rule L) IsTyPrintable
rule_printable L h ts t word g = rest_printable L h word.0 word.2 word.4 (head_of ts word.0 word.1 word.3 g) word.1 t word.5 (tail_of ts word.0 word.1 word.3 g)

nested_printable : (d : ℕ) → Carries (nested ty_rule d) IsTyPrintable
unfolding nested
nested_printable zero ts t word g = rule_printable nothing (λ ts t w r. absurd w) ts t word g
nested_printable (suc d) ts t word g = rule_printable (nested ty_rule d) (nested_printable d) ts t word g

-- a type that readable symbols spell is printable
pub ty_printable : (ts : List Symbol) (t : TyShape) → ty ts t → AreReadable ts → IsTyPrintable t
unfolding recursive
ty_printable ts t word g = nested_printable word.0 ts t word.1 g
