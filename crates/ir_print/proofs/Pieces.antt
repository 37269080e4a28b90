-- The printed form of rows of symbols by their parts: what stands after a plain symbol, and what begins a
-- line.
use Rattle.std.proofs.Common.{◌≡◌, ℕ, Bool, true, false, List, [], ◌∷◌, ◌++◌, map, refl, sym, ap, ◌∙◌, append-nil}
use Rattle.std.specs.Prelude.{◌||◌, ◌&&◌}
use Rattle.ir_words.specs.declared.words.Keyword.TheVariants.{To}
use Rattle.ir_lex.specs.Symbols.{Symbol, KeywordSymbol, MarkSymbol}
use Rattle.ir_print_symbols.specs.Printed.{text_of_symbol, is_opening, is_closing, is_global, is_mark, touches, between, joined, joined_after, last_of}
use Rattle.ir_print_symbols.proofs.Joining.{joined_after-append}
use Rattle.ir_grammar_insts.specs.Spelling.{in_a_row, with_commas, more}
use Rattle.ir_print_consts.specs.Texts.{in_row}
use Rattle.ir_print_consts.proofs.Rows.{Starts, opening_text, closed_text, spaced_text, last_of_end}
use Rattle.ir_print.specs.Texts.{in_spaces, row_blank}

-- a row after a plain symbol
abbrev pub behind : List Symbol → List ℕ
behind ss = joined_after (KeywordSymbol To) ss

-- the row doesn't begin with `(` or `>`, which touch some symbols and not others
abbrev pub Follows : List Symbol → Type 0
Follows [] = Unit {0}
Follows (s ∷ ss) = (is_mark 40 s ≡ false) × (is_mark 62 s ≡ false)

-- the row doesn't end with a symbol that opens
abbrev pub Whole : List Symbol → Type 0
Whole row = (is_opening (last_of (KeywordSymbol To) row) ≡ false) × (is_mark 60 (last_of (KeywordSymbol To) row) ≡ false)

-- a part of a row, and its text after a plain symbol
pub record Piece (row : List Symbol) (text : List ℕ) : Type 0 where
  pub follows : Follows row
  pub whole : Whole row
  pub spaced : behind row ≡ text

-- a part that has a blank before it, and its text without the blank
pub record Item (row : List Symbol) (text : List ℕ) : Type 0 where
  pub starts : Starts row
  pub piece : Piece row (32 ∷ text)

same_touch : (o c g p q x y r : Bool) → o ≡ false → p ≡ false → x ≡ false → r ≡ false
    → (o || c || (g && x) || (p && y) || (q && r)) ≡ (false || c || (false && x) || (false && y) || (false && r))
same_touch o c g p q x y r d e f h = rw (d, e, f, h) (by_cases c g q)
  where
    by_cases : (c g q : Bool) → (false || c || (g && false) || (false && y) || (q && false)) ≡ (false || c || (false && false) || (false && y) || (false && false))
    by_cases true g q = refl
    by_cases false true true = refl
    by_cases false true false = refl
    by_cases false false true = refl
    by_cases false false false = refl

-- what stands after a symbol that doesn't open stands after each such symbol
pub same_after : (a : Symbol) (ss : List Symbol) → is_opening a ≡ false → is_mark 60 a ≡ false → Follows ss → joined_after a ss ≡ behind ss
same_after a [] d e f = refl
same_after a (s ∷ ss) d e f =
    let t : touches a s ≡ touches (KeywordSymbol To) s =
    same_touch (is_opening a) (is_closing s) (is_global a) (is_mark 60 a) (is_mark 125 a) (is_mark 40 s) (is_mark 123 s) (is_mark 62 s) d e f.0 f.1 in
    rw t refl

pub last_of-append : (x : Symbol) (a b : List Symbol) → last_of x (a ++ b) ≡ last_of (last_of x a) b
last_of-append x [] b = refl
last_of-append x (s ∷ a) b = last_of-append s a b

follows-append : (a b : List Symbol) → Follows a → Follows b → Follows (a ++ b)
follows-append [] b f g = g
follows-append (s ∷ a) b f g = f

whole_after : (x : Symbol) (b : List Symbol) → is_opening x ≡ false → is_mark 60 x ≡ false → Whole b → (is_opening (last_of x b) ≡ false) × (is_mark 60 (last_of x b) ≡ false)
whole_after x [] d e w = (d, e)
whole_after x (s ∷ b) d e w = w

whole-append : (a b : List Symbol) → Whole a → Whole b → Whole (a ++ b)
whole-append a b v w = rw (last_of-append (KeywordSymbol To) a b) (whole_after (last_of (KeywordSymbol To) a) b v.0 v.1 w)

-- two parts
pub both : {a b : List Symbol} {s t : List ℕ} → Piece a s → Piece b t → Piece (a ++ b) (s ++ t)
both {a} {b} {s} {t} p q = record {
  follows = follows-append a b p.follows q.follows;
  whole = whole-append a b p.whole q.whole;
  spaced =
      joined_after-append (KeywordSymbol To) a b
      ∙ ap (λ z. behind a ++ z) (same_after (last_of (KeywordSymbol To) a) b p.whole.0 p.whole.1 q.follows)
      ∙ ap (λ z. z ++ behind b) p.spaced
      ∙ ap (λ z. s ++ z) q.spaced;
}

more_starts : (row rest : List Symbol) → Starts row → Starts (row ++ rest)
more_starts row rest s = rw s.is (record { first = s.first; rest = s.rest ++ rest; is = refl; apart = s.apart })

-- a part that has a blank before it, and another
pub item_then : {a b : List Symbol} {s t : List ℕ} → Item a s → Piece b t → Item (a ++ b) (s ++ t)
item_then {a} {b} {s} {t} i p = record { starts = more_starts a b i.starts; piece = both i.piece p }

starts_spaced : (row : List Symbol) → Starts row → behind row ≡ 32 ∷ joined row
starts_spaced row s =
    let t : touches (KeywordSymbol To) s.first ≡ false = rw s.apart refl in
    rw s.is (spaced_text (KeywordSymbol To) s.first s.rest t)

same_rest : (a : ℕ) (v w : List ℕ) → a ∷ v ≡ a ∷ w → v ≡ w
same_rest a v w e = cc

-- the text of a part alone
pub alone : {row : List Symbol} {text : List ℕ} → Item row text → joined row ≡ text
alone {row} {text} i = same_rest 32 (joined row) text (sym (starts_spaced row i.starts) ∙ i.piece.spaced)

-- a row by its text alone
pub item_from : (row : List Symbol) (text : List ℕ) → Starts row → Follows row → Whole row → joined row ≡ text → Item row text
item_from row text s f w e = record { starts = s; piece = record { follows = f; whole = w; spaced = starts_spaced row s ∙ ap (λ z. 32 ∷ z) e } }

-- one symbol
pub one_item : (s : Symbol) → is_closing s ≡ false → (is_mark 40 s ≡ false) × (is_mark 62 s ≡ false) → (is_opening s ≡ false) × (is_mark 60 s ≡ false) → Item (s ∷ []) (text_of_symbol s)
one_item s e f w = item_from (s ∷ []) (text_of_symbol s) (record { first = s; rest = []; is = refl; apart = e }) f w (append-nil (text_of_symbol s))

pub empty_piece : Piece [] []
empty_piece = record { follows = tt; whole = (refl, refl); spaced = refl }

pub comma_piece : Piece (MarkSymbol 44 ∷ []) (44 ∷ [])
comma_piece = record { follows = (refl, refl); whole = (refl, refl); spaced = refl }

pub equals_piece : Piece (MarkSymbol 61 ∷ []) (32 ∷ 61 ∷ [])
equals_piece = record { follows = (refl, refl); whole = (refl, refl); spaced = refl }

-- after a comma
pub more_piece : {V : Type 0} {spelling : V → List Symbol} {text : V → List ℕ} → ((v : V) → Item (spelling v) (text v)) → (v : V) → Piece (more spelling v) (44 ∷ 32 ∷ text v)
more_piece each v = both comma_piece (each v).piece

-- a row in brackets
pub bracket_item : (ss : List Symbol) → Item (MarkSymbol 91 ∷ (ss ++ MarkSymbol 93 ∷ [])) (91 ∷ (joined ss ++ 93 ∷ []))
bracket_item ss =
    let e : last_of (MarkSymbol 91) (ss ++ MarkSymbol 93 ∷ []) ≡ MarkSymbol 93 = last_of_end (MarkSymbol 91) (MarkSymbol 93) ss in
    item_from (MarkSymbol 91 ∷ (ss ++ MarkSymbol 93 ∷ [])) (91 ∷ (joined ss ++ 93 ∷ [])) (record { first = MarkSymbol 91; rest = ss ++ MarkSymbol 93 ∷ []; is = refl; apart = refl }) (refl, refl) (ap is_opening e, ap (is_mark 60) e) (ap (λ z. 91 ∷ z) (opening_text 91 (ss ++ MarkSymbol 93 ∷ []) refl ∙ closed_text ss 93 refl))

-- a part, and a row in parentheses after it
pub parens_item : (row ss : List Symbol) (text gap : List ℕ) → Item row text → between (last_of (KeywordSymbol To) row) (MarkSymbol 40) ≡ gap
    → Item (row ++ MarkSymbol 40 ∷ (ss ++ MarkSymbol 41 ∷ [])) (text ++ (gap ++ (40 ∷ (joined ss ++ 41 ∷ []))))
parens_item row ss text gap i e =
    let parens : List Symbol = MarkSymbol 40 ∷ (ss ++ MarkSymbol 41 ∷ []) in
    let last : last_of (KeywordSymbol To) (row ++ parens) ≡ MarkSymbol 41 =
    last_of-append (KeywordSymbol To) row parens ∙ last_of_end (MarkSymbol 40) (MarkSymbol 41) ss in
    record {
      starts = more_starts row parens i.starts;
      piece = record {
        follows = first_follows row parens i.starts i.piece.follows;
        whole = (ap is_opening last, ap (is_mark 60) last);
        spaced =
            joined_after-append (KeywordSymbol To) row parens
            ∙ ap (λ z. z ++ joined_after (last_of (KeywordSymbol To) row) parens) i.piece.spaced
            ∙ ap (λ z. (32 ∷ text) ++ (z ++ (40 ∷ joined_after (MarkSymbol 40) (ss ++ MarkSymbol 41 ∷ [])))) e
            ∙ ap (λ z. (32 ∷ text) ++ (gap ++ (40 ∷ z))) (opening_text 40 (ss ++ MarkSymbol 41 ∷ []) refl ∙ closed_text ss 41 refl);
      };
    }
  where
    first_follows : (a b : List Symbol) → Starts a → Follows a → Follows (a ++ b)
    first_follows [] b s f = absurd (none s.first s.rest s.is)
      where
        none : (x : Symbol) (xs : List Symbol) → [] ≡ x ∷ xs → ⊥
        none x xs h = cc
    first_follows (x ∷ a) b s f = f

-- a part, and `{` after it
pub brace_text : {row : List Symbol} {text : List ℕ} → Item row text → joined (row ++ MarkSymbol 123 ∷ []) ≡ text ++ 32 ∷ 123 ∷ []
brace_text {row} {text} i =
    let last : Symbol = last_of (KeywordSymbol To) row in
    let whole : behind (row ++ MarkSymbol 123 ∷ []) ≡ 32 ∷ (text ++ 32 ∷ 123 ∷ []) =
    joined_after-append (KeywordSymbol To) row (MarkSymbol 123 ∷ [])
    ∙ ap (λ z. behind row ++ z) (same_after last (MarkSymbol 123 ∷ []) i.piece.whole.0 i.piece.whole.1 (refl, refl))
    ∙ ap (λ z. z ++ 32 ∷ 123 ∷ []) i.piece.spaced in
    same_rest 32 (joined (row ++ MarkSymbol 123 ∷ [])) (text ++ 32 ∷ 123 ∷ []) (sym (starts_spaced (row ++ MarkSymbol 123 ∷ []) (more_starts row (MarkSymbol 123 ∷ []) i.starts)) ∙ whole)

-- parts with a comma before each
pub commas_piece : {V : Type 0} (spelling : V → List Symbol) (text : V → List ℕ) → ((v : V) → Item (spelling v) (text v)) → (vs : List V)
    → Piece (in_a_row (more spelling) vs) (in_row true (map text vs))
commas_piece spelling text each [] = empty_piece
commas_piece spelling text each (v ∷ vs) = both (more_piece each v) (commas_piece spelling text each vs)

-- parts with commas between them
pub listed_text : {V : Type 0} (spelling : V → List Symbol) (text : V → List ℕ) → ((v : V) → Item (spelling v) (text v)) → (vs : List V)
    → joined (with_commas spelling vs) ≡ in_row false (map text vs)
listed_text spelling text each [] = refl
listed_text spelling text each (v ∷ vs) = alone (item_then (each v) (commas_piece spelling text each vs))

pub listed_piece : {V : Type 0} (spelling : V → List Symbol) (text : V → List ℕ) → ((v : V) → Item (spelling v) (text v)) → (vs : List V)
    → Piece (with_commas spelling vs) (row_blank vs ++ in_row false (map text vs))
listed_piece spelling text each [] = empty_piece
listed_piece spelling text each (v ∷ vs) = (item_then (each v) (commas_piece spelling text each vs)).piece

-- parts with a blank before each, and between them
spaces_piece : {V : Type 0} (spelling : V → List Symbol) (text : V → List ℕ) → ((v : V) → Item (spelling v) (text v)) → (vs : List V)
    → Piece (in_a_row spelling vs) (in_spaces true (map text vs))
spaces_piece spelling text each [] = empty_piece
spaces_piece spelling text each (v ∷ vs) = both (each v).piece (spaces_piece spelling text each vs)

pub spaces_text : {V : Type 0} (spelling : V → List Symbol) (text : V → List ℕ) → ((v : V) → Item (spelling v) (text v)) → (vs : List V)
    → joined (in_a_row spelling vs) ≡ in_spaces false (map text vs)
spaces_text spelling text each [] = refl
spaces_text spelling text each (v ∷ vs) = alone (item_then (each v) (spaces_piece spelling text each vs))
