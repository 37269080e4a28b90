-- Symbols that are laid out with blanks between them are the tokens of their text.
use Rattle.std.proofs.Common.{◌≡◌, inl, inr, ℕ, pos, negsuc, ◌+◌, ◌-◌, ◌==◌, ◌||◌, ◌&&◌, Bool, true, false, cond, List, [], ◌∷◌, ◌++◌, length, take, drop, refl, sym, ap, ◌∙◌, subst, append_assoc, append-nil, arith}
use Rattle.std.proofs.lemmas.Bool.{eqb-true}
use Rattle.std.proofs.lemmas.Bool.Decides.{nat_tests}
use Rattle.std.proofs.lemmas.List.{length-append, take_at, drop_at}
use Rattle.std.specs.Fmt.{decimal}
use Rattle.std.specs.List.{list_all}
use Rattle.ir_words.specs.Digits.{is_digit}
use Rattle.ir_lex.specs.Bytes.{is_blank, is_name_byte, is_word_start, is_punct}
use Rattle.ir_lex.specs.Spelling.{IsRun, IsName}
use Rattle.ir_lex.specs.Tokens.{IsToken, IsNoGap, Path, here, blank, next, AreTokens}
use Rattle.ir_lex.specs.Meaning.{spelling}
use Rattle.ir_lex.specs.Symbols.{Symbol, KeywordSymbol, LocalSymbol, GlobalSymbol, LabelSymbol, NumberSymbol, TextSymbol, MarkSymbol, OtherSymbol, symbol_of, symbols_of}
use Rattle.ir_lex.specs.declared.token.Token.{Token}
use Rattle.ir_lex.specs.declared.token.Kind.{Kind}
use Rattle.ir_lex.proofs.Unique.{one_token_list}
use Rattle.ir_print_symbols.specs.Printed.{text_of_symbol, text_of_keyword, printed_name, IsPrintable, ArePrintable, touches, between, joined, joined_after, Spaced, laid_out, symbols_in, AreBlanks, AreApart, AreApartBehind}
use Rattle.ir_print_symbols.specs.Spells.{Spells}
use Rattle.ir_print_symbols.proofs.Firsts.{Separates}
use Rattle.ir_print_symbols.proofs.Names.{and_true, printed_is_name}
use Rattle.ir_print_symbols.proofs.WordTexts.{is_word, keyword_is_word, decimal_run}
use Rattle.ir_print_symbols.proofs.SymbolTokens.{kind_of, meaning, symbol_of-meaning, printed_back, MayStandBefore, printed_is_token}

-- what may follow a symbol

blank_separates : (b : ℕ) (r : List ℕ) → is_blank b ≡ true → Separates (b ∷ r)
unfolding is_blank is_name_byte
blank_separates b r h = (grind (arith, nat_tests), grind (arith, nat_tests), grind (arith, nat_tests))

or_false : (l : Bool) → (l || false) ≡ true → l ≡ true
or_false true h = refl
or_false false h = h

or_case : (P : ℕ → Type 0) (b c : ℕ) (l : Bool) → (l ≡ true → P b) → P c → (l || (b == c)) ≡ true → P b
or_case P b c true f g h = f refl
or_case P b c false f g h = subst P (sym (eqb-true b c h)) g

closing_separates : (b : ℕ) (r : List ℕ) → ((((b == 41) || (b == 93)) || (b == 125)) || (b == 44)) ≡ true → Separates (b ∷ r)
unfolding is_name_byte
closing_separates b r =
    let P : ℕ → Type 0 = λ x. Separates (x ∷ r) in
    let s : (x : ℕ) → is_name_byte x ≡ false → (x == 58) ≡ false → (x == 34) ≡ false → P x = λ x f g h. (f, g, h) in
    or_case P b 44 _ (or_case P b 125 _ (or_case P b 93 _ (λ t. subst P (sym (eqb-true b 41 t)) (s 41 refl refl refl)) (s 93 refl refl refl)) (s 125 refl refl refl)) (s 44 refl refl refl)

mark_separates : (g : Bool) (b : ℕ) (r : List ℕ) → (((((((b == 41) || (b == 93)) || (b == 125)) || (b == 44)) || (g && (b == 40))) || false) || false) ≡ true → Separates (b ∷ r)
unfolding is_name_byte
mark_separates true b r h = or_case (λ x. Separates (x ∷ r)) b 40 _ (closing_separates b r) (refl, refl, refl) (or_false _ (or_false _ h))
mark_separates false b r h = closing_separates b r (or_false _ (or_false _ (or_false _ h)))

-- two symbols that touch
touching : (a s : Symbol) (r : List ℕ) → touches a s ≡ true → MayStandBefore a (text_of_symbol s ++ r)
touching (MarkSymbol b) s r h = tt
touching (KeywordSymbol k) (MarkSymbol b) r h = mark_separates false b r h
touching (LocalSymbol n) (MarkSymbol b) r h = mark_separates false b r h
touching (GlobalSymbol n) (MarkSymbol b) r h = mark_separates true b r h
touching (LabelSymbol n) (MarkSymbol b) r h = mark_separates false b r h
touching (NumberSymbol z) (MarkSymbol b) r h = mark_separates false b r h
touching (TextSymbol bs) (MarkSymbol b) r h = mark_separates false b r h
touching OtherSymbol (MarkSymbol b) r h = mark_separates false b r h
touching a s r h = absurd (cc)

before_separated : (a : Symbol) (r : List ℕ) → Separates r → MayStandBefore a r
before_separated (MarkSymbol b) r h = tt
before_separated (KeywordSymbol k) r h = h
before_separated (LocalSymbol n) r h = h
before_separated (GlobalSymbol n) r h = h
before_separated (LabelSymbol n) r h = h
before_separated (NumberSymbol z) r h = h
before_separated (TextSymbol bs) r h = h
before_separated OtherSymbol r h = h

blanks_separate : (r : List ℕ) → AreBlanks r → Separates r
blanks_separate [] h = tt
blanks_separate (b ∷ r) h = blank_separates b r h.0

gap_before : (a s : Symbol) (gap r : List ℕ) → AreBlanks gap → (gap ≡ [] → touches a s ≡ true) → MayStandBefore a (gap ++ (text_of_symbol s ++ r))
gap_before a s [] r h t = touching a s r (t refl)
gap_before a s (b ∷ gap) r h t = before_separated a (b ∷ (gap ++ (text_of_symbol s ++ r))) (blank_separates b (gap ++ (text_of_symbol s ++ r)) h.0)

laid_before : (a : Symbol) (xs : List Spaced) (tail : List ℕ) → AreApartBehind a xs → AreBlanks tail → MayStandBefore a (laid_out xs ++ tail)
laid_before a [] tail h t = before_separated a tail (blanks_separate tail t)
laid_before a (x ∷ xs) tail h t =
    let parts : (x.gap ++ (text_of_symbol x.symbol ++ laid_out xs)) ++ tail ≡ x.gap ++ (text_of_symbol x.symbol ++ (laid_out xs ++ tail)) =
    append_assoc x.gap (text_of_symbol x.symbol ++ laid_out xs) tail ∙ ap (λ t. x.gap ++ t) (append_assoc (text_of_symbol x.symbol) (laid_out xs) tail) in
    subst (MayStandBefore a) (sym parts) (gap_before a x.symbol x.gap (laid_out xs ++ tail) h.0 h.1)

-- no blank and no comment begins at a printed symbol

name_no_gap : (b : ℕ) (t : List ℕ) → is_name_byte b ≡ true → IsNoGap (b ∷ t)
unfolding is_blank is_name_byte
name_no_gap b t h = (grind (arith, nat_tests), grind (arith, nat_tests))

start_no_gap : (b : ℕ) (t : List ℕ) → is_word_start b ≡ true → IsNoGap (b ∷ t)
unfolding is_blank is_word_start
start_no_gap b t h = (grind (arith, nat_tests), grind (arith, nat_tests))

digit_no_gap : (b : ℕ) (t : List ℕ) → is_digit b ≡ true → IsNoGap (b ∷ t)
unfolding is_blank is_digit
digit_no_gap b t h = (grind (arith, nat_tests), grind (arith, nat_tests))

punct_no_gap : (b : ℕ) (t : List ℕ) → is_punct b ≡ true → IsNoGap (b ∷ t)
unfolding is_blank is_punct
punct_no_gap b t h = (grind (arith, nat_tests), grind (arith, nat_tests))

word_no_gap : (w t : List ℕ) → is_word w ≡ true → IsNoGap (w ++ t)
word_no_gap [] t h = absurd (cc)
word_no_gap (b ∷ w) t h = start_no_gap b (w ++ t) (and_true (is_word_start b) (list_all is_name_byte w) h).0

label_no_gap : (w t : List ℕ) → IsName w → IsNoGap (w ++ t)
unfolding is_blank
label_no_gap [] t (inl h) = absurd h
label_no_gap [] t (inr h) = absurd h
label_no_gap (b ∷ w) t (inl h) = name_no_gap b (w ++ t) h.0
label_no_gap (b ∷ w) t (inr h) = (ap is_blank h.0, ap (λ x. x == 59) h.0)

digits_no_gap : (w t : List ℕ) → IsRun is_digit w → IsNoGap (w ++ t)
digits_no_gap [] t h = absurd h
digits_no_gap (b ∷ w) t h = digit_no_gap b (w ++ t) h.0

no_gap : (s : Symbol) (r : List ℕ) → IsPrintable s → IsNoGap (text_of_symbol s ++ r)
unfolding is_blank
no_gap (KeywordSymbol k) r h = word_no_gap (text_of_keyword k) r (keyword_is_word k h)
no_gap (LocalSymbol n) r h = (refl, refl)
no_gap (GlobalSymbol n) r h = (refl, refl)
no_gap (LabelSymbol n) r h = subst IsNoGap (sym (append_assoc (printed_name n) (58 ∷ []) r)) (label_no_gap (printed_name n) (58 ∷ r) (printed_is_name n))
no_gap (NumberSymbol (pos n)) r h = digits_no_gap (decimal n) r (decimal_run n (omega arith))
no_gap (NumberSymbol (negsuc n)) r h = (refl, refl)
no_gap (TextSymbol bs) r h = (refl, refl)
no_gap (MarkSymbol b) r h = punct_no_gap b r h
no_gap OtherSymbol r h = absurd h

-- from an offset of a whole text to its end, over tokens that mean these symbols
record Walk (whole : List ℕ) (at : ℕ) (fresh : Bool) (text : List ℕ) (ss : List Symbol) : Type 0 where
  toks : List Token
  left : Bool
  path : Path at fresh text toks (length whole) left []
  means : symbols_of whole toks ≡ ss

walk_end : (whole before : List ℕ) (at : ℕ) (fresh : Bool) → whole ≡ before ++ [] → at ≡ length before → Walk whole at fresh [] []
walk_end whole before at fresh e l =
    let long : at ≡ length whole = rw (e, append-nil before) l in
    record { toks = []; left = fresh; path = subst (λ n. Path at fresh [] [] n fresh []) long here; means = refl }

walk_blank : (whole : List ℕ) (at : ℕ) (fresh : Bool) (b : ℕ) (text : List ℕ) (ss : List Symbol) → is_blank b ≡ true → Walk whole (at + 1) (fresh || (b == 10)) text ss → Walk whole at fresh (b ∷ text) ss
walk_blank whole at fresh b text ss h w = record { toks = w.toks; left = w.left; path = blank h w.path; means = w.means }

spelled_at : (whole before w r : List ℕ) (at : ℕ) → whole ≡ before ++ (w ++ r) → at ≡ length before → take ((at + length w) - at) (drop at whole) ≡ w
spelled_at whole before w r at e l =
    let behind : drop at whole ≡ w ++ r = ap (drop at) e ∙ drop_at before (w ++ r) at (sym l) in
    let count : (at + length w) - at ≡ length w = omega arith in
    rw (behind, count) (take_at w r (length w) refl)

walk_token : (whole before : List ℕ) (at : ℕ) (fresh : Bool) (k : Kind) (w r : List ℕ) (ss : List Symbol) → whole ≡ before ++ (w ++ r) → at ≡ length before
    → IsNoGap (w ++ r) → IsToken k (w ++ r) w r → Walk whole (at + length w) false r ss → Walk whole at fresh (w ++ r) (meaning k w ∷ ss)
unfolding spelling
walk_token whole before at fresh k w r ss e l g i walk =
    let t : Token = record { kind = k; start = at; «end» = at + length w; first = fresh } in
    let mean : symbol_of whole t ≡ meaning k w = symbol_of-meaning whole t ∙ ap (meaning k) (spelled_at whole before w r at e l) in
    record { toks = t ∷ walk.toks; left = walk.left; path = next k w r g i walk.path; means = ap (λ s. s ∷ symbols_of whole walk.toks) mean ∙ ap (λ rest. meaning k w ∷ rest) walk.means }

walk_blanks : (whole before : List ℕ) (at : ℕ) (fresh : Bool) (gap text : List ℕ) (ss : List Symbol) → whole ≡ before ++ (gap ++ text) → at ≡ length before → AreBlanks gap
    → ((front : List ℕ) (there : ℕ) (new : Bool) → whole ≡ front ++ text → there ≡ length front → Walk whole there new text ss) → Walk whole at fresh (gap ++ text) ss
walk_blanks whole before at fresh [] text ss e l h k = k before at fresh e l
walk_blanks whole before at fresh (b ∷ gap) text ss e l h k =
    walk_blank whole at fresh b (gap ++ text) ss h.0
    (walk_blanks whole (before ++ b ∷ []) (at + 1) (fresh || (b == 10)) gap text ss (e ∙ sym (append_assoc before (b ∷ []) (gap ++ text))) (simp length-append (omega arith)) h.1 k)

after_apart : (a : Symbol) (xs : List Spaced) → AreApartBehind a xs → AreApart xs
after_apart a [] h = tt
after_apart a (x ∷ xs) h = (h.0, h.2)

walk_all : (whole before : List ℕ) (at : ℕ) (fresh : Bool) (xs : List Spaced) (tail : List ℕ) → whole ≡ before ++ (laid_out xs ++ tail) → at ≡ length before
    → ArePrintable (symbols_in xs) → AreApart xs → AreBlanks tail → Walk whole at fresh (laid_out xs ++ tail) (symbols_in xs)
walk_all whole before at fresh [] tail e l p a t =
    subst (λ r. Walk whole at fresh r []) (append-nil tail)
    (walk_blanks whole before at fresh tail [] [] (e ∙ ap (λ r. before ++ r) (sym (append-nil tail))) l t (λ front there new f m. walk_end whole front there new f m))
walk_all whole before at fresh (x ∷ xs) tail e l p a t =
    let w : List ℕ = text_of_symbol x.symbol in
    let r : List ℕ = laid_out xs ++ tail in
    let parts : (x.gap ++ (w ++ laid_out xs)) ++ tail ≡ x.gap ++ (w ++ r) =
    append_assoc x.gap (w ++ laid_out xs) tail ∙ ap (λ y. x.gap ++ y) (append_assoc w (laid_out xs) tail) in
    let long : (front : List ℕ) (there : ℕ) → there ≡ length front → there + length w ≡ length (front ++ w) = λ front there m. simp length-append (omega arith) in
    let one : (front : List ℕ) (there : ℕ) (new : Bool) → whole ≡ front ++ (w ++ r) → there ≡ length front → Walk whole there new (w ++ r) (x.symbol ∷ symbols_in xs) =
    λ front there new f m. subst (λ s. Walk whole there new (w ++ r) (s ∷ symbols_in xs)) (printed_back x.symbol p.0)
    (walk_token whole front there new (kind_of x.symbol) w r (symbols_in xs) f m (no_gap x.symbol r p.0) (printed_is_token x.symbol r p.0 (laid_before x.symbol xs tail a.1 t))
    (walk_all whole (front ++ w) (there + length w) false xs tail (f ∙ sym (append_assoc front w r)) (long front there m) p.1 (after_apart x.symbol xs a.1) t)) in
    subst (λ y. Walk whole at fresh y (x.symbol ∷ symbols_in xs)) (sym parts)
    (walk_blanks whole before at fresh x.gap (w ++ r) (x.symbol ∷ symbols_in xs) (e ∙ ap (λ y. before ++ y) parts) l a.0 one)

-- symbols that are laid out are the tokens of their text
pub laid_out_spells : (xs : List Spaced) (tail : List ℕ) → ArePrintable (symbols_in xs) → AreApart xs → AreBlanks tail → Spells (laid_out xs ++ tail) (symbols_in xs)
laid_out_spells xs tail p a t =
    let walk = walk_all (laid_out xs ++ tail) [] 0 true xs tail refl refl p a t in
    (walk.toks, (walk.left, walk.path), walk.means)

-- symbols in a row, each with what stands before it
abbrev pub spaced_after : Symbol → List Symbol → List Spaced
spaced_after a [] = []
spaced_after a (s ∷ ss) = record { gap = between a s; symbol = s } ∷ spaced_after s ss

abbrev spaced : List Symbol → List Spaced
spaced [] = []
spaced (s ∷ ss) = record { gap = []; symbol = s } ∷ spaced_after s ss

pub spaced_after-joined : (a : Symbol) (ss : List Symbol) → laid_out (spaced_after a ss) ≡ joined_after a ss
spaced_after-joined a [] = refl
spaced_after-joined a (s ∷ ss) = ap (λ t. between a s ++ (text_of_symbol s ++ t)) (spaced_after-joined s ss)

spaced-joined : (ss : List Symbol) → laid_out (spaced ss) ≡ joined ss
spaced-joined [] = refl
spaced-joined (s ∷ ss) = ap (λ t. text_of_symbol s ++ t) (spaced_after-joined s ss)

pub spaced_after-symbols : (a : Symbol) (ss : List Symbol) → symbols_in (spaced_after a ss) ≡ ss
spaced_after-symbols a [] = refl
spaced_after-symbols a (s ∷ ss) = ap (λ t. s ∷ t) (spaced_after-symbols s ss)

spaced-symbols : (ss : List Symbol) → symbols_in (spaced ss) ≡ ss
spaced-symbols [] = refl
spaced-symbols (s ∷ ss) = ap (λ t. s ∷ t) (spaced_after-symbols s ss)

gap_blanks : (t : Bool) → AreBlanks (cond t [] (32 ∷ []))
unfolding is_blank
gap_blanks true = tt
gap_blanks false = (refl, tt)

gap_none : (t : Bool) → ◌≡◌ {A = List ℕ} (cond t [] (32 ∷ [])) [] → t ≡ true
gap_none true e = refl
gap_none false e = absurd (cc)

pub spaced_after-apart : (a : Symbol) (ss : List Symbol) → AreApartBehind a (spaced_after a ss)
spaced_after-apart a [] = tt
spaced_after-apart a (s ∷ ss) = (gap_blanks (touches a s), gap_none (touches a s), spaced_after-apart s ss)

spaced-apart : (ss : List Symbol) → AreApart (spaced ss)
spaced-apart [] = tt
spaced-apart (s ∷ ss) = (tt, spaced_after-apart s ss)

-- symbols in a row are the tokens of their text
pub joined_spells : (ss : List Symbol) → ArePrintable ss → Spells (joined ss) ss
joined_spells ss p =
    let whole : laid_out (spaced ss) ++ [] ≡ joined ss = append-nil (laid_out (spaced ss)) ∙ spaced-joined ss in
    let law : Spells (laid_out (spaced ss) ++ []) (symbols_in (spaced ss)) = laid_out_spells (spaced ss) [] (subst ArePrintable (sym (spaced-symbols ss)) p) (spaced-apart ss) tt in
    subst (λ t. Spells t ss) whole (subst (Spells (laid_out (spaced ss) ++ [])) (spaced-symbols ss) law)

-- whatever the tokens of a text are that spells symbols, they mean these
pub spells_alone : (text : List ℕ) (ss : List Symbol) (toks : List Token) → Spells text ss → AreTokens text toks → symbols_of text toks ≡ ss
spells_alone text ss toks s t = ap (symbols_of text) (one_token_list text toks s.0 t s.1) ∙ s.2
