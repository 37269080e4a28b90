-- What the grammar spells fits: a constant that was read is spelled again.
use Rattle.std.proofs.Common.{◌≡◌, ℕ, zero, suc, Bool, true, false, List, [], ◌∷◌, Some, None, sym, subst, if◌then◌else◌}
use Rattle.grammar.specs.Language.{Lang, nothing, nested, recursive, skip}
use Rattle.ir_tree.specs.Shape.{ConstShape, number, boolean, null, undef, poison, zero_value, text, global, TypedShape, typed, typed_row}
use Rattle.ir_words.specs.declared.words.Keyword.TheVariants.{True, False, Null, Undef, Poison, ZeroInitializer}
use Rattle.ir_lex.specs.Symbols.{Symbol, KeywordSymbol, GlobalSymbol, NumberSymbol, TextSymbol, MarkSymbol}
use Rattle.ir_cursor.specs.Marks.{punct}
use Rattle.ir_grammar_consts.specs.Constants.{ConstHead, WholeConst, ElementsOpen, ValuesOpen, PackedValuesOpen, AddressOpen, const_head, typed_const, typed_list, const_rest, const_rule, const, address_of}
use Rattle.ir_grammar_consts.specs.Spelling.{FitsConst, FitsTyped, FitTyped}
use Rattle.ir_grammar_consts.proofs.Values.{Every, every_listed, every_many, every_skip}
use Rattle.ir_grammar_consts.proofs.TypeFits.{ty_fits}

bracket_whole : (b c d : Bool) (v : ConstShape)
    → (if b then Some ElementsOpen else (if c then Some ValuesOpen else (if d then Some PackedValuesOpen else None))) ≡ Some (WholeConst v) → ⊥
bracket_whole true c d v h = cc
bracket_whole false true d v h = cc
bracket_whole false false true v h = cc
bracket_whole false false false v h = cc

head_fits : (s : Symbol) (c : ConstShape) → const_head s ≡ Some (WholeConst c) → FitsConst c
unfolding FitsConst FitsTyped FitTyped
head_fits (NumberSymbol z) c h = let same : number z ≡ c = cc in subst FitsConst same tt
head_fits (KeywordSymbol True) c h = let same : boolean true ≡ c = cc in subst FitsConst same tt
head_fits (KeywordSymbol False) c h = let same : boolean false ≡ c = cc in subst FitsConst same tt
head_fits (KeywordSymbol Null) c h = let same : null ≡ c = cc in subst FitsConst same tt
head_fits (KeywordSymbol Undef) c h = let same : undef ≡ c = cc in subst FitsConst same tt
head_fits (KeywordSymbol Poison) c h = let same : poison ≡ c = cc in subst FitsConst same tt
head_fits (KeywordSymbol ZeroInitializer) c h = let same : zero_value ≡ c = cc in subst FitsConst same tt
head_fits (TextSymbol bytes) c h = let same : text bytes ≡ c = cc in subst FitsConst same tt
head_fits (GlobalSymbol name) c h = let same : global name ≡ c = cc in subst FitsConst same tt
head_fits (MarkSymbol b) c h = absurd (bracket_whole _ _ _ c h)
head_fits _ c h = cc

row_fits : (vs : List TypedShape) → Every FitsTyped vs → FitTyped (typed_row vs)
unfolding FitsConst FitsTyped FitTyped
row_fits [] h = tt
row_fits (v ∷ vs) h = (h.0, row_fits vs h.1)

typed_fits : (L : Lang Symbol ConstShape) → ((ts : List Symbol) (c : ConstShape) → L ts c → FitsConst c)
    → (ts : List Symbol) (v : TypedShape) → typed_const L ts v → FitsTyped v
unfolding FitsConst FitsTyped FitTyped
typed_fits L h ts v word =
    let fits : FitsTyped (typed word.0.0 word.0.1) = (ty_fits word.1.0 word.0.0 word.1.3, h word.1.1 word.0.1 word.1.4) in
    subst FitsTyped (sym word.2) fits

list_fits : (L : Lang Symbol ConstShape) → ((ts : List Symbol) (c : ConstShape) → L ts c → FitsConst c)
    → (close : ℕ) (ts : List Symbol) (vs : List TypedShape) → typed_list close L ts vs → Every FitsTyped vs
list_fits L h close ts vs word = every_listed (punct 44) (punct close) (typed_const L) FitsTyped (typed_fits L h) ts vs word

rest_fits : (L : Lang Symbol ConstShape) → ((ts : List Symbol) (c : ConstShape) → L ts c → FitsConst c) → (s : Symbol) (head : ConstHead) → const_head s ≡ Some head
    → (ts : List Symbol) (c : ConstShape) → const_rest L head ts c → FitsConst c
unfolding FitsConst FitsTyped FitTyped
rest_fits L h s (WholeConst u) e ts c word = subst FitsConst (sym word.1) (head_fits s u e)
rest_fits L h s ElementsOpen e ts c word = subst FitsConst (sym word.2) (row_fits word.0 (list_fits L h 93 ts word.0 word.1))
rest_fits L h s ValuesOpen e ts c word = subst FitsConst (sym word.2) (row_fits word.0 (list_fits L h 125 ts word.0 word.1))
rest_fits L h s PackedValuesOpen e ts c word =
    let row = word.5 in
    let inner = row.1.1 in
    let every = list_fits L h 125 inner.0 row.1.0.0 inner.3 in
    subst FitsConst (sym row.2) (row_fits row.0 (subst (Every FitsTyped) (sym row.1.2) every))
rest_fits L h s AddressOpen e ts c word =
    let value = word.0 in
    let parts = word.1.4.5 in
    let more = parts.4.5 in
    let rest = more.4 in
    let first = ty_fits parts.0 value.1.0 parts.3 in
    let base = typed_fits L h more.0 value.1.1.0 more.3 in
    let every = every_many (skip (punct 44) (typed_const L)) FitsTyped (every_skip (punct 44) (typed_const L) FitsTyped (typed_fits L h)) rest.1.0 rest.0.0 rest.1.3 in
    let fits : FitsConst (address_of value) = (first, base, row_fits value.1.1.1 (subst (Every FitsTyped) (sym rest.2) every)) in
    subst FitsConst (sym word.2) fits

rule_fits : (L : Lang Symbol ConstShape) → ((ts : List Symbol) (c : ConstShape) → L ts c → FitsConst c) → (ts : List Symbol) (c : ConstShape) → const_rule L ts c → FitsConst c
rule_fits L h ts c word = rest_fits L h word.0 word.2 word.4 word.1 c word.5

nested_fits : (d : ℕ) (ts : List Symbol) (c : ConstShape) → nested const_rule d ts c → FitsConst c
unfolding nested
nested_fits zero ts c word = rule_fits nothing (λ ts c w. absurd w) ts c word
nested_fits (suc d) ts c word = rule_fits (nested const_rule d) (nested_fits d) ts c word

-- a constant that symbols spell fits
pub const_fits : (ts : List Symbol) (c : ConstShape) → const ts c → FitsConst c
unfolding recursive
const_fits ts c word = nested_fits word.0 ts c word.1
