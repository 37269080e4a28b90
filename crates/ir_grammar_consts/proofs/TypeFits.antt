-- What the grammar spells fits: a type that was read is spelled again.
use Rattle.std.proofs.Common.{◌≡◌, ℕ, zero, suc, ◌<◌, ◌^◌, Bool, true, false, List, [], ◌∷◌, Some, None, pos, negsuc, refl, sym, subst, nat_lt, ltb-true, if◌then◌else◌}
use Rattle.grammar.specs.Language.{Lang, nothing, nested, recursive}
use Rattle.ir_tree.specs.Shape.{TyShape, integer, pointer, void, array, named, ty_row}
use Rattle.ir_words.specs.declared.words.Keyword.TheVariants.{Integer, Ptr, Void}
use Rattle.ir_lex.specs.Symbols.{Symbol, KeywordSymbol, LocalSymbol, GlobalSymbol, LabelSymbol, NumberSymbol, TextSymbol, MarkSymbol, OtherSymbol}
use Rattle.ir_cursor.specs.Marks.{punct}
use Rattle.ir_grammar_consts.specs.Types.{count, is_width, TyHead, WholeType, ArrayOpen, FieldsOpen, PackedOpen, ty_head, ty_rest, ty_rule, ty}
use Rattle.ir_grammar_consts.specs.Spelling.{FitsTy, FitTys}
use Rattle.ir_tree.proofs.Grows.{and_left, and_right}
use Rattle.ir_grammar_consts.proofs.Values.{Every, every_listed}

count_fits_at : (n m : ℕ) (b : Bool) → nat_lt n (2 ^ 64) ≡ b → (if b then Some n else None) ≡ Some m → m < 2 ^ 64
count_fits_at n m true e h = let same : n ≡ m = cc in subst (λ z. z < 2 ^ 64) same (ltb-true n (2 ^ 64) e)
count_fits_at n m false e h = cc

pub count_fits : (s : Symbol) (n : ℕ) → count s ≡ Some n → n < 2 ^ 64
count_fits (NumberSymbol (pos n)) m h = count_fits_at n m (nat_lt n (2 ^ 64)) refl h
count_fits (NumberSymbol (negsuc n)) m h = cc
count_fits (KeywordSymbol k) m h = cc
count_fits (LocalSymbol k) m h = cc
count_fits (GlobalSymbol k) m h = cc
count_fits (LabelSymbol k) m h = cc
count_fits (TextSymbol k) m h = cc
count_fits (MarkSymbol k) m h = cc
count_fits OtherSymbol m h = cc

width_fits : (bits : ℕ) (t : TyShape) (b : Bool) → is_width bits ≡ b → (if b then Some (WholeType (integer bits)) else None) ≡ Some (WholeType t) → FitsTy t
unfolding FitsTy FitTys
width_fits bits t true e h =
    let same : integer bits ≡ t = cc in
    subst FitsTy same (ltb-true 0 bits (and_left _ _ e), ltb-true bits 65 (and_right _ _ e))
width_fits bits t false e h = cc

bracket_whole : (b c d : Bool) (t : TyShape) → (if b then Some ArrayOpen else (if c then Some FieldsOpen else (if d then Some PackedOpen else None))) ≡ Some (WholeType t) → ⊥
bracket_whole true c d t h = cc
bracket_whole false true d t h = cc
bracket_whole false false true t h = cc
bracket_whole false false false t h = cc

head_fits : (s : Symbol) (t : TyShape) → ty_head s ≡ Some (WholeType t) → FitsTy t
unfolding FitsTy FitTys
head_fits (KeywordSymbol (Integer bits)) t h = width_fits bits t (is_width bits) refl h
head_fits (KeywordSymbol Ptr) t h = let same : pointer ≡ t = cc in subst FitsTy same tt
head_fits (KeywordSymbol Void) t h = let same : void ≡ t = cc in subst FitsTy same tt
head_fits (LocalSymbol name) t h = let same : named name ≡ t = cc in subst FitsTy same tt
head_fits (MarkSymbol b) t h = absurd (bracket_whole _ _ _ t h)
head_fits _ t h = cc

row_fits : (ts : List TyShape) → Every FitsTy ts → FitTys (ty_row ts)
unfolding FitsTy FitTys
row_fits [] h = tt
row_fits (t ∷ ts) h = (h.0, row_fits ts h.1)

rest_fits : (L : Lang Symbol TyShape) → ((ts : List Symbol) (t : TyShape) → L ts t → FitsTy t) → (s : Symbol) (head : TyHead) → ty_head s ≡ Some head
    → (ts : List Symbol) (t : TyShape) → ty_rest L head ts t → FitsTy t
unfolding FitsTy FitTys
rest_fits L h s (WholeType u) e ts t word = subst FitsTy (sym word.1) (head_fits s u e)
rest_fits L h s ArrayOpen e ts t word =
    let pair = word.1.0.0 in
    let parts = word.1.1.3 in
    let known = count_fits parts.3.0 parts.3.2 parts.3.4 in
    let short : pair.0 < 2 ^ 64 = subst (λ z. z < 2 ^ 64) (sym parts.3.5.1) known in
    let element : FitsTy pair.1 = h parts.4.1 pair.1 parts.4.5 in
    let fits : FitsTy (array pair.0 pair.1) = (short, element) in
    subst FitsTy (sym word.2) (subst (λ z. FitsTy (array z.0 z.1)) (sym word.1.2) fits)
rest_fits L h s FieldsOpen e ts t word =
    subst FitsTy (sym word.2) (row_fits word.0 (every_listed (punct 44) (punct 125) L FitsTy h ts word.0 word.1))
rest_fits L h s PackedOpen e ts t word =
    let row = word.5 in
    let inner = row.1.1 in
    let every = every_listed (punct 44) (punct 125) L FitsTy h inner.0 row.1.0.0 inner.3 in
    subst FitsTy (sym row.2) (row_fits row.0 (subst (Every FitsTy) (sym row.1.2) every))

rule_fits : (L : Lang Symbol TyShape) → ((ts : List Symbol) (t : TyShape) → L ts t → FitsTy t) → (ts : List Symbol) (t : TyShape) → ty_rule L ts t → FitsTy t
rule_fits L h ts t word = rest_fits L h word.0 word.2 word.4 word.1 t word.5

nested_fits : (d : ℕ) (ts : List Symbol) (t : TyShape) → nested ty_rule d ts t → FitsTy t
unfolding nested
nested_fits zero ts t word = rule_fits nothing (λ ts t w. absurd w) ts t word
nested_fits (suc d) ts t word = rule_fits (nested ty_rule d) (nested_fits d) ts t word

-- a type that symbols spell fits
pub ty_fits : (ts : List Symbol) (t : TyShape) → ty ts t → FitsTy t
unfolding recursive
ty_fits ts t word = nested_fits word.0 ts t word.1
