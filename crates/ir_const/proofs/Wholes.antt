-- A type or a constant ends where its first bracket is closed, or with its first symbol.
use Rattle.std.proofs.Common.{◌≡◌, ℕ, zero, suc, ◌+◌, ◌==◌, ◌⊎◌, Bool, true, false, List, [], ◌∷◌, ◌++◌, length, None, Some, refl, sym, ◌∙◌, ap, subst, arith, length-append, inl, inr, if◌then◌else◌, eqb-true}
use Rattle.std.specs.List.{list_all}
use Rattle.ir_tree.proofs.Grows.{and_left, and_right}
use Rattle.grammar.specs.Language.{Lang, Mark, one, many, nothing, nested, recursive}
use Rattle.ir_tree.specs.Shape.{TyShape, ConstShape}
use Rattle.ir_words.specs.declared.words.Keyword.TheVariants.{Integer, Ptr, Void, True, False, Null, Undef, Poison, ZeroInitializer, GetElementPtr, InBounds, Nuw}
use Rattle.ir_lex.specs.Symbols.{Symbol, KeywordSymbol, LocalSymbol, GlobalSymbol, NumberSymbol, TextSymbol, MarkSymbol}
use Rattle.ir_cursor.specs.Marks.{punct}
use Rattle.ir_grammar_consts.specs.Depth.{open_after, open_from}
use Rattle.ir_grammar_consts.specs.Types.{count, times, is_width, TyHead, WholeType, ArrayOpen, FieldsOpen, PackedOpen, ty_head, ty_rest, ty_rule, ty}
use Rattle.ir_grammar_consts.specs.Constants.{address_flag, ConstHead, WholeConst, ElementsOpen, ValuesOpen, PackedValuesOpen, AddressOpen, const_head, typed_const, operands, const_rest, const_rule, const}
use Rattle.ir_const.specs.Reach.{is_address_word}
use Rattle.ir_const.proofs.Even.{Opens, Closes, IsPlain, IsEven, even_nil, even_plain, even_append, even_bracket, closed_past, Evens, IsClosed, AreClosed, evens_one, evens_skip, evens_seq, evens_map, closed_map, closed_seq, closed_skip, closed_up_to, closed_listed, closed_until, closed_packed, mark_of}

-- symbols in brackets
pub record IsBracket (ts : List Symbol) : Type 0 where
  pub opening : Symbol
  pub inner : List Symbol
  pub cut : ts ≡ opening ∷ inner
  pub opens : Opens opening
  pub closed : IsClosed inner

-- one symbol that is no bracket
pub record IsSingle (ts : List Symbol) : Type 0 where
  pub symbol : Symbol
  pub cut : ts ≡ symbol ∷ []
  pub plain : IsPlain symbol

-- words of an address, and then one symbol or symbols in brackets
pub record IsWhole (ts : List Symbol) : Type 0 where
  pub words : List Symbol
  pub rest : List Symbol
  pub cut : ts ≡ words ++ rest
  pub go_on : list_all is_address_word words ≡ true
  pub last : IsSingle rest ⊎ IsBracket rest

word_plain : (t : Symbol) → is_address_word t ≡ true → IsPlain t
word_plain (MarkSymbol b) h = cc
word_plain _ h = λ n. refl

words_even : (words : List Symbol) → list_all is_address_word words ≡ true → IsEven words
words_even [] h = even_nil
words_even (w ∷ words) h = even_append (w ∷ []) words (even_plain w (word_plain w (and_left _ _ h))) (words_even words (and_right _ _ h))

bracket_even : (ts : List Symbol) → IsBracket ts → IsEven ts
bracket_even ts g =
    subst IsEven (sym (g.cut ∙ ap (λ z. g.opening ∷ z) g.closed.cut)) (even_bracket g.opening g.closed.body g.closed.close g.opens g.closed.even g.closed.closes)

whole_even : (ts : List Symbol) → IsWhole ts → IsEven ts
whole_even ts g =
    subst IsEven (sym g.cut) (even_append g.words g.rest (words_even g.words g.go_on) (elim g.last [
      | inl s ↦ subst IsEven (sym s.cut) (even_plain s.symbol s.plain)
      | inr b ↦ bracket_even g.rest b
    ]))

-- each list that L spells is such
pub record Wholes {V : Type 0} (L : Lang Symbol V) : Type 0 where
  pub at : (ts : List Symbol) (v : V) → L ts v → IsWhole ts

evens_whole : {V : Type 0} {L : Lang Symbol V} → Wholes L → Evens L
evens_whole g = record { at = λ ts v word. whole_even ts (g.at ts v word) }

pub nil_left : (xs : List Symbol) → length xs ≡ 0 → xs ≡ []
nil_left [] h = refl
nil_left (x ∷ xs) h = absurd (omega arith)

single_ends : (s : Symbol) (front : List Symbol) (t : Symbol) (q : List Symbol) → s ∷ [] ≡ (front ++ t ∷ []) ++ q → q ≡ []
single_ends s front t q e = nil_left q (omega (arith, ap length e, length-append (front ++ t ∷ []) q, length-append front (t ∷ [])))

bracket_ends : (ts : List Symbol) → IsBracket ts → (front : List Symbol) (t : Symbol) (q : List Symbol) → ts ≡ (front ++ t ∷ []) ++ q
    → open_from 0 (front ++ t ∷ []) ≡ 0 → q ≡ []
unfolding open_from
bracket_ends ts g [] t q e none =
    let all : g.opening ∷ g.inner ≡ t ∷ q = sym g.cut ∙ e in
    let same : g.opening ≡ t = cc in
    let one_open : open_after 0 t ≡ 0 + 1 = ap (open_after 0) (sym same) ∙ g.opens 0 in
    absurd (omega arith)
bracket_ends ts g (x ∷ front) t q e none =
    let all : g.opening ∷ g.inner ≡ x ∷ ((front ++ t ∷ []) ++ q) = sym g.cut ∙ e in
    let same : g.opening ≡ x = cc in
    let tail : g.inner ≡ (front ++ t ∷ []) ++ q = cc in
    let one_open : open_after 0 x ≡ 0 + 1 = ap (open_after 0) (sym same) ∙ g.opens 0 in
    let inner : g.closed.body ++ (g.closed.close ∷ []) ≡ (front ++ t ∷ []) ++ q = sym g.closed.cut ∙ tail in
    let past = closed_past g.closed.body g.closed.close g.closed.even (open_after 0 x) (omega arith) [] (front ++ t ∷ []) q inner none in
    nil_left q
    (omega (
      arith,
      ap length inner,
      ap length past.1,
      length-append (front ++ t ∷ []) q,
      length-append g.closed.body (g.closed.close ∷ []),
      length-append g.closed.body (g.closed.close ∷ past.0),
    ))

last_ends : (ts : List Symbol) → IsSingle ts ⊎ IsBracket ts → (front : List Symbol) (t : Symbol) (q : List Symbol) → ts ≡ (front ++ t ∷ []) ++ q
    → open_from 0 (front ++ t ∷ []) ≡ 0 → q ≡ []
last_ends ts (inl s) front t q e none = single_ends s.symbol front t q (sym s.cut ∙ e)
last_ends ts (inr b) front t q e none = bracket_ends ts b front t q e none

words_end : (words rest : List Symbol) → list_all is_address_word words ≡ true → IsSingle rest ⊎ IsBracket rest → (front : List Symbol) (t : Symbol) (q : List Symbol)
    → words ++ rest ≡ (front ++ t ∷ []) ++ q → open_from 0 (front ++ t ∷ []) ≡ 0 → is_address_word t ≡ false → q ≡ []
unfolding open_from
words_end [] rest go_on last front t q e none other = last_ends rest last front t q e none
words_end (w ∷ words) rest go_on last [] t q e none other =
    let same : w ≡ t = cc in
    let word : is_address_word w ≡ true = and_left _ _ go_on in
    let no : true ≡ false = sym word ∙ ap is_address_word same ∙ other in
    cc
words_end (w ∷ words) rest go_on last (x ∷ front) t q e none other =
    let same : w ≡ x = cc in
    let tail : words ++ rest ≡ (front ++ t ∷ []) ++ q = cc in
    let level : open_after 0 x ≡ 0 = ap (open_after 0) (sym same) ∙ word_plain w (and_left _ _ go_on) 0 in
    words_end words rest (and_right _ _ go_on) last front t q tail (ap (λ z. open_from z (front ++ t ∷ [])) (sym level) ∙ none) other

-- a front of it after which no bracket is open is all of it, but where it ends in a word of an address
pub whole_ends : (ts : List Symbol) → IsWhole ts → (front : List Symbol) (t : Symbol) (q : List Symbol) → ts ≡ (front ++ t ∷ []) ++ q
    → open_from 0 (front ++ t ∷ []) ≡ 0 → is_address_word t ≡ false → q ≡ []
whole_ends ts g front t q e none other = words_end g.words g.rest g.go_on g.last front t q (sym g.cut ∙ e) none other

-- the marks and words of types
comma_plain : (t : Symbol) (k : Mark) → punct 44 t ≡ Some k → IsPlain t
comma_plain = mark_of 44 IsPlain (λ n. refl)

times_plain : (t : Symbol) (k : Mark) → times t ≡ Some k → IsPlain t
times_plain (MarkSymbol b) k h = cc
times_plain _ k h = λ n. refl

count_plain : (t : Symbol) (k : ℕ) → count t ≡ Some k → IsPlain t
count_plain (MarkSymbol b) k h = cc
count_plain _ k h = λ n. refl

round_closes : (t : Symbol) (k : Mark) → punct 41 t ≡ Some k → Closes t
round_closes = mark_of 41 Closes (λ n. omega arith)

square_closes : (t : Symbol) (k : Mark) → punct 93 t ≡ Some k → Closes t
square_closes = mark_of 93 Closes (λ n. omega arith)

curly_closes : (t : Symbol) (k : Mark) → punct 125 t ≡ Some k → Closes t
curly_closes = mark_of 125 Closes (λ n. omega arith)

angle_closes : (t : Symbol) (k : Mark) → punct 62 t ≡ Some k → Closes t
angle_closes = mark_of 62 Closes (λ n. omega arith)

curly_opens : (t : Symbol) (k : Mark) → punct 123 t ≡ Some k → Opens t
curly_opens = mark_of 123 Opens (λ n. refl)

round_opens : (t : Symbol) (k : Mark) → punct 40 t ≡ Some k → Opens t
round_opens = mark_of 40 Opens (λ n. refl)

-- a symbol before what is closed
bracket_whole : (s : Symbol) (q ts : List Symbol) → ts ≡ s ∷ q → Opens s → IsClosed q → IsWhole ts
bracket_whole s q ts cut opens closed = record {
  words = [];
  rest = ts;
  cut = refl;
  go_on = refl;
  last = inr (record { opening = s; inner = q; cut = cut; opens = opens; closed = closed });
}

single_whole : (s : Symbol) (q ts : List Symbol) → ts ≡ s ∷ q → q ≡ [] → IsPlain s → IsWhole ts
single_whole s q ts cut none plain = record {
  words = [];
  rest = ts;
  cut = refl;
  go_on = refl;
  last = inl (record { symbol = s; cut = cut ∙ ap (λ z. s ∷ z) none; plain = plain });
}

-- what the head of a type says of its symbol
abbrev HeadOpens : Symbol → TyHead → Type 0
HeadOpens s (WholeType t) = IsPlain s
HeadOpens s _ = Opens s

mark_opens : (b : ℕ) (x y z : Bool) → b == 91 ≡ x → b == 123 ≡ y → b == 60 ≡ z → (head : TyHead)
    → (if x then Some ArrayOpen else (if y then Some FieldsOpen else (if z then Some PackedOpen else None))) ≡ Some head → HeadOpens (MarkSymbol b) head
mark_opens b true y z ex ey ez head h =
    let same : ArrayOpen ≡ head = cc in
    subst (HeadOpens (MarkSymbol b)) same (subst (λ c. Opens (MarkSymbol c)) (sym (eqb-true b 91 ex)) (λ n. refl))
mark_opens b false true z ex ey ez head h =
    let same : FieldsOpen ≡ head = cc in
    subst (HeadOpens (MarkSymbol b)) same (subst (λ c. Opens (MarkSymbol c)) (sym (eqb-true b 123 ey)) (λ n. refl))
mark_opens b false false true ex ey ez head h =
    let same : PackedOpen ≡ head = cc in
    subst (HeadOpens (MarkSymbol b)) same (subst (λ c. Opens (MarkSymbol c)) (sym (eqb-true b 60 ez)) (λ n. refl))
mark_opens b false false false ex ey ez head h = cc

type_head : (s : Symbol) (t : TyShape) (head : TyHead) → Some (WholeType t) ≡ Some head → IsPlain s → HeadOpens s head
type_head s t head h plain = let same : WholeType t ≡ head = cc in subst (HeadOpens s) same plain

width_head : (bits : ℕ) (b : Bool) (t : TyShape) (head : TyHead) → (if b then Some (WholeType t) else None) ≡ Some head → HeadOpens (KeywordSymbol (Integer bits)) head
width_head bits true t head h = type_head (KeywordSymbol (Integer bits)) t head h (λ n. refl)
width_head bits false t head h = cc

head_opens : (s : Symbol) (head : TyHead) → ty_head s ≡ Some head → HeadOpens s head
head_opens (KeywordSymbol (Integer bits)) head h = width_head bits (is_width bits) _ head h
head_opens (KeywordSymbol Ptr) head h = type_head (KeywordSymbol Ptr) _ head h (λ n. refl)
head_opens (KeywordSymbol Void) head h = type_head (KeywordSymbol Void) _ head h (λ n. refl)
head_opens (LocalSymbol name) head h = type_head (LocalSymbol name) _ head h (λ n. refl)
head_opens (MarkSymbol b) head h = mark_opens b (b == 91) (b == 123) (b == 60) refl refl refl head h
head_opens _ head h = cc

rest_whole : (L : Lang Symbol TyShape) → Evens L → (s : Symbol) (head : TyHead) → ty_head s ≡ Some head → (ts q : List Symbol) (t : TyShape) → ts ≡ s ∷ q → ty_rest L head q t
    → IsWhole ts
rest_whole L g s (WholeType u) e ts q t cut word = single_whole s q ts cut word.0 (head_opens s (WholeType u) e)
rest_whole L g s ArrayOpen e ts q t cut word =
    bracket_whole s q ts cut (head_opens s ArrayOpen e)
    ((closed_map _ (closed_up_to (punct 93) square_closes (evens_seq (evens_one count count_plain) (evens_skip times times_plain g)))).at q t word)
rest_whole L g s FieldsOpen e ts q t cut word =
    bracket_whole s q ts cut (head_opens s FieldsOpen e) ((closed_map _ (closed_listed (punct 44) (punct 125) comma_plain curly_closes g)).at q t word)
rest_whole L g s PackedOpen e ts q t cut word =
    bracket_whole s q ts cut (head_opens s PackedOpen e)
    ((closed_packed (punct 123) (punct 62) _ curly_opens angle_closes (closed_listed (punct 44) (punct 125) comma_plain curly_closes g)).at q t word)

rule_whole : (L : Lang Symbol TyShape) → Evens L → Wholes (ty_rule L)
rule_whole L g = record { at = λ ts t word. rest_whole L g word.0 word.2 word.4 ts word.1 t word.3 word.5 }

no_evens : {V : Type 0} → Evens (nothing {S = Symbol} {V = V})
no_evens = record { at = λ ts v word. absurd word }

nested_whole : (d : ℕ) → Wholes (nested ty_rule d)
unfolding nested
nested_whole zero = rule_whole nothing no_evens
nested_whole (suc d) = rule_whole (nested ty_rule d) (evens_whole (nested_whole d))

-- each type is such
pub whole_ty : Wholes ty
unfolding recursive
whole_ty = record { at = λ ts t word. (nested_whole word.0).at ts t word.1 }

evens_ty : Evens ty
evens_ty = evens_whole whole_ty

-- the words of constants
flag_word : (t : Symbol) (b : Bool) → address_flag t ≡ Some b → is_address_word t ≡ true
flag_word (KeywordSymbol InBounds) b h = refl
flag_word (KeywordSymbol Nuw) b h = refl
flag_word _ b h = cc

flag_words : (ts : List Symbol) (vs : List Bool) → many (one address_flag) ts vs → list_all is_address_word ts ≡ true
flag_words ts [] word = subst (λ z. list_all is_address_word z ≡ true) (sym word) refl
flag_words ts (v ∷ vs) word =
    let first : is_address_word word.3.0 ≡ true = flag_word word.3.0 word.3.2 word.3.4 in
    let cut : ts ≡ word.3.0 ∷ word.1 = word.2 ∙ ap (λ z. z ++ word.1) (word.3.3 ∙ ap (λ z. word.3.0 ∷ z) word.3.5.0) in
    subst (λ z. list_all is_address_word z ≡ true) (sym cut) (rw first (flag_words word.1 vs word.4))

-- what the head of a constant says of its symbol
abbrev ConstHeadOpens : Symbol → ConstHead → Type 0
ConstHeadOpens s (WholeConst c) = IsPlain s
ConstHeadOpens s AddressOpen = is_address_word s ≡ true
ConstHeadOpens s _ = Opens s

const_mark_opens : (b : ℕ) (x y z : Bool) → b == 91 ≡ x → b == 123 ≡ y → b == 60 ≡ z → (head : ConstHead)
    → (if x then Some ElementsOpen else (if y then Some ValuesOpen else (if z then Some PackedValuesOpen else None))) ≡ Some head → ConstHeadOpens (MarkSymbol b) head
const_mark_opens b true y z ex ey ez head h =
    let same : ElementsOpen ≡ head = cc in
    subst (ConstHeadOpens (MarkSymbol b)) same (subst (λ c. Opens (MarkSymbol c)) (sym (eqb-true b 91 ex)) (λ n. refl))
const_mark_opens b false true z ex ey ez head h =
    let same : ValuesOpen ≡ head = cc in
    subst (ConstHeadOpens (MarkSymbol b)) same (subst (λ c. Opens (MarkSymbol c)) (sym (eqb-true b 123 ey)) (λ n. refl))
const_mark_opens b false false true ex ey ez head h =
    let same : PackedValuesOpen ≡ head = cc in
    subst (ConstHeadOpens (MarkSymbol b)) same (subst (λ c. Opens (MarkSymbol c)) (sym (eqb-true b 60 ez)) (λ n. refl))
const_mark_opens b false false false ex ey ez head h = cc

value_head : (s : Symbol) (c : ConstShape) (head : ConstHead) → Some (WholeConst c) ≡ Some head → IsPlain s → ConstHeadOpens s head
value_head s c head h plain = let same : WholeConst c ≡ head = cc in subst (ConstHeadOpens s) same plain

const_head_opens : (s : Symbol) (head : ConstHead) → const_head s ≡ Some head → ConstHeadOpens s head
const_head_opens (NumberSymbol z) head h = value_head (NumberSymbol z) _ head h (λ n. refl)
const_head_opens (KeywordSymbol True) head h = value_head (KeywordSymbol True) _ head h (λ n. refl)
const_head_opens (KeywordSymbol False) head h = value_head (KeywordSymbol False) _ head h (λ n. refl)
const_head_opens (KeywordSymbol Null) head h = value_head (KeywordSymbol Null) _ head h (λ n. refl)
const_head_opens (KeywordSymbol Undef) head h = value_head (KeywordSymbol Undef) _ head h (λ n. refl)
const_head_opens (KeywordSymbol Poison) head h = value_head (KeywordSymbol Poison) _ head h (λ n. refl)
const_head_opens (KeywordSymbol ZeroInitializer) head h = value_head (KeywordSymbol ZeroInitializer) _ head h (λ n. refl)
const_head_opens (TextSymbol bytes) head h = value_head (TextSymbol bytes) _ head h (λ n. refl)
const_head_opens (GlobalSymbol name) head h = value_head (GlobalSymbol name) _ head h (λ n. refl)
const_head_opens (KeywordSymbol GetElementPtr) head h =
    let same : AddressOpen ≡ head = cc in subst (ConstHeadOpens (KeywordSymbol GetElementPtr)) same refl
const_head_opens (MarkSymbol b) head h = const_mark_opens b (b == 91) (b == 123) (b == 60) refl refl refl head h
const_head_opens _ head h = cc

evens_typed : (L : Lang Symbol ConstShape) → Evens L → Evens (typed_const L)
evens_typed L g = evens_map _ (evens_seq evens_ty g)

closed_operands : (L : Lang Symbol ConstShape) → Evens L → AreClosed (operands L)
closed_operands L g =
    closed_seq evens_ty
    (closed_skip (punct 44) comma_plain (closed_seq (evens_typed L g) (closed_until (punct 41) round_closes (evens_skip (punct 44) comma_plain (evens_typed L g)))))

const_rest_whole : (L : Lang Symbol ConstShape) → Evens L → (s : Symbol) (head : ConstHead) → const_head s ≡ Some head → (ts q : List Symbol) (c : ConstShape) → ts ≡ s ∷ q
    → const_rest L head q c → IsWhole ts
const_rest_whole L g s (WholeConst u) e ts q c cut word = single_whole s q ts cut word.0 (const_head_opens s (WholeConst u) e)
const_rest_whole L g s ElementsOpen e ts q c cut word =
    bracket_whole s q ts cut (const_head_opens s ElementsOpen e)
    ((closed_map _ (closed_listed (punct 44) (punct 93) comma_plain square_closes (evens_typed L g))).at q c word)
const_rest_whole L g s ValuesOpen e ts q c cut word =
    bracket_whole s q ts cut (const_head_opens s ValuesOpen e)
    ((closed_map _ (closed_listed (punct 44) (punct 125) comma_plain curly_closes (evens_typed L g))).at q c word)
const_rest_whole L g s PackedValuesOpen e ts q c cut word =
    bracket_whole s q ts cut (const_head_opens s PackedValuesOpen e)
    ((closed_packed (punct 123) (punct 62) _ curly_opens angle_closes (closed_listed (punct 44) (punct 125) comma_plain curly_closes (evens_typed L g))).at q c word)
const_rest_whole L g s AddressOpen e ts q c cut word =
    let row = word.1 in
    let first : is_address_word s ≡ true = const_head_opens s AddressOpen e in
    record {
      words = s ∷ row.0;
      rest = row.1;
      cut = cut ∙ ap (λ z. s ∷ z) row.2;
      go_on = rw first (flag_words row.0 row.3.0 row.3.1);
      last = inr (record {
        opening = row.4.0;
        inner = row.4.1;
        cut = row.4.3;
        opens = round_opens row.4.0 row.4.2 row.4.4;
        closed = (closed_operands L g).at row.4.1 _ row.4.5;
      });
    }

const_rule_whole : (L : Lang Symbol ConstShape) → Evens L → Wholes (const_rule L)
const_rule_whole L g = record { at = λ ts c word. const_rest_whole L g word.0 word.2 word.4 ts word.1 c word.3 word.5 }

const_nested_whole : (d : ℕ) → Wholes (nested const_rule d)
unfolding nested
const_nested_whole zero = const_rule_whole nothing no_evens
const_nested_whole (suc d) = const_rule_whole (nested const_rule d) (evens_whole (const_nested_whole d))

-- each constant is such
pub whole_const : Wholes const
unfolding recursive
whole_const = record { at = λ ts c word. (const_nested_whole word.0).at ts c word.1 }
