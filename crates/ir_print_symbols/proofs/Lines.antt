-- Rows of symbols on lines are the tokens of their text.
use Rattle.std.proofs.Common.{◌≡◌, ℕ, List, [], ◌∷◌, ◌++◌, refl, sym, ap, ◌∙◌, subst, append_assoc, append-nil}
use Rattle.ir_lex.specs.Bytes.{is_blank}
use Rattle.ir_lex.specs.Symbols.{Symbol}
use Rattle.ir_print_symbols.specs.Printed.{text_of_symbol, ArePrintable, joined, joined_after, Spaced, laid_out, symbols_in, AreBlanks, AreApart, AreApartBehind, Line, text_of_lines, rows_of, AreIndented}
use Rattle.ir_print_symbols.specs.Spells.{Spells}
use Rattle.ir_print_symbols.proofs.Walks.{laid_out_spells, spaced_after, spaced_after-joined, spaced_after-symbols, spaced_after-apart}

-- the symbols of a row and of what follows it, after these blanks
abbrev spaced_row : List ℕ → List Symbol → (List ℕ → List Spaced) → List ℕ → List Spaced
spaced_row gap [] more indent = more (gap ++ (indent ++ 10 ∷ []))
spaced_row gap (s ∷ ss) more indent = record { gap = gap ++ indent; symbol = s } ∷ (spaced_after s ss ++ more (10 ∷ []))

-- the symbols of lines, each with the blanks before it, the first after these
abbrev spaced_lines : List ℕ → List Line → List Spaced
spaced_lines gap [] = []
spaced_lines gap (l ∷ ls) = spaced_row gap l.row (λ g. spaced_lines g ls) l.indent

-- the blanks after the last symbol of a row and of what follows it
abbrev last_row : List ℕ → List Symbol → (List ℕ → List ℕ) → List ℕ → List ℕ
last_row gap [] more indent = more (gap ++ (indent ++ 10 ∷ []))
last_row gap (s ∷ ss) more indent = more (10 ∷ [])

abbrev last_blanks : List ℕ → List Line → List ℕ
last_blanks gap [] = gap
last_blanks gap (l ∷ ls) = last_row gap l.row (λ g. last_blanks g ls) l.indent

laid_out-append : (xs ys : List Spaced) → laid_out (xs ++ ys) ≡ laid_out xs ++ laid_out ys
laid_out-append [] ys = refl
laid_out-append (x ∷ xs) ys =
    ap (λ t. x.gap ++ (text_of_symbol x.symbol ++ t)) (laid_out-append xs ys)
    ∙ ap (λ t. x.gap ++ t) (sym (append_assoc (text_of_symbol x.symbol) (laid_out xs) (laid_out ys)))
    ∙ sym (append_assoc x.gap (text_of_symbol x.symbol ++ laid_out xs) (laid_out ys))

symbols_in-append : (xs ys : List Spaced) → symbols_in (xs ++ ys) ≡ symbols_in xs ++ symbols_in ys
symbols_in-append [] ys = refl
symbols_in-append (x ∷ xs) ys = ap (λ t. x.symbol ∷ t) (symbols_in-append xs ys)

-- the text of a row
text_of_row : (gap : List ℕ) (row : List Symbol) (more : List ℕ → List Spaced) (last : List ℕ → List ℕ) (rest indent : List ℕ)
    → ((g : List ℕ) → laid_out (more g) ++ last g ≡ g ++ rest)
    → laid_out (spaced_row gap row more indent) ++ last_row gap row last indent ≡ gap ++ (indent ++ (joined row ++ 10 ∷ rest))
text_of_row gap [] more last rest indent k =
    k (gap ++ (indent ++ 10 ∷ [])) ∙ append_assoc gap (indent ++ 10 ∷ []) rest ∙ ap (λ t. gap ++ t) (append_assoc indent (10 ∷ []) rest)
text_of_row gap (s ∷ ss) more last rest indent k =
    let w : List ℕ = text_of_symbol s in
    let inner : laid_out (spaced_after s ss ++ more (10 ∷ [])) ≡ joined_after s ss ++ laid_out (more (10 ∷ [])) =
    laid_out-append (spaced_after s ss) (more (10 ∷ [])) ∙ ap (λ t. t ++ laid_out (more (10 ∷ []))) (spaced_after-joined s ss) in
    let ends : laid_out (spaced_after s ss ++ more (10 ∷ [])) ++ last (10 ∷ []) ≡ joined_after s ss ++ (10 ∷ rest) =
    ap (λ t. t ++ last (10 ∷ [])) inner ∙ append_assoc (joined_after s ss) (laid_out (more (10 ∷ []))) (last (10 ∷ [])) ∙ ap (λ t. joined_after s ss ++ t) (k (10 ∷ [])) in
    append_assoc (gap ++ indent) (w ++ laid_out (spaced_after s ss ++ more (10 ∷ []))) (last (10 ∷ []))
    ∙ append_assoc gap indent ((w ++ laid_out (spaced_after s ss ++ more (10 ∷ []))) ++ last (10 ∷ []))
    ∙ ap (λ t. gap ++ (indent ++ t)) (append_assoc w (laid_out (spaced_after s ss ++ more (10 ∷ []))) (last (10 ∷ [])) ∙ ap (λ t. w ++ t) ends ∙ sym (append_assoc w (joined_after s ss) (10 ∷ rest)))

text_is : (gap : List ℕ) (ls : List Line) → laid_out (spaced_lines gap ls) ++ last_blanks gap ls ≡ gap ++ text_of_lines ls
text_is gap [] = sym (append-nil gap)
text_is gap (l ∷ ls) = text_of_row gap l.row (λ g. spaced_lines g ls) (λ g. last_blanks g ls) (text_of_lines ls) l.indent (λ g. text_is g ls)

symbols_of_row : (gap : List ℕ) (row : List Symbol) (more : List ℕ → List Spaced) (rest : List Symbol) (indent : List ℕ)
    → ((g : List ℕ) → symbols_in (more g) ≡ rest) → symbols_in (spaced_row gap row more indent) ≡ row ++ rest
symbols_of_row gap [] more rest indent k = k (gap ++ (indent ++ 10 ∷ []))
symbols_of_row gap (s ∷ ss) more rest indent k =
    ap (λ t. s ∷ t) (symbols_in-append (spaced_after s ss) (more (10 ∷ [])) ∙ ap (λ t. t ++ symbols_in (more (10 ∷ []))) (spaced_after-symbols s ss) ∙ ap (λ t. ss ++ t) (k (10 ∷ [])))

symbols_are : (gap : List ℕ) (ls : List Line) → symbols_in (spaced_lines gap ls) ≡ rows_of ls
symbols_are gap [] = refl
symbols_are gap (l ∷ ls) = symbols_of_row gap l.row (λ g. spaced_lines g ls) (rows_of ls) l.indent (λ g. symbols_are g ls)

-- blanks, at least one
abbrev AreSomeBlanks : List ℕ → Type 0
AreSomeBlanks gap = AreBlanks gap × (gap ≡ [] → ⊥)

blanks-append : (v w : List ℕ) → AreBlanks v → AreBlanks w → AreBlanks (v ++ w)
blanks-append [] w h g = g
blanks-append (b ∷ v) w h g = (h.0, blanks-append v w h.1 g)

line_end : AreBlanks (10 ∷ [])
unfolding is_blank
line_end = (refl, tt)

ends_some : (v : List ℕ) → v ++ 10 ∷ [] ≡ [] → ⊥
ends_some [] e = cc
ends_some (b ∷ v) e = cc

after_line : (gap indent : List ℕ) → AreBlanks gap → AreBlanks indent → AreSomeBlanks (gap ++ (indent ++ 10 ∷ []))
after_line gap indent h g = (
  blanks-append gap (indent ++ 10 ∷ []) h (blanks-append indent (10 ∷ []) g line_end),
  λ e. ends_some (gap ++ indent) (append_assoc gap indent (10 ∷ []) ∙ e),
)

feed : AreSomeBlanks (10 ∷ [])
feed = (line_end, λ e. cc)

left_some : (v w : List ℕ) → (v ≡ [] → ⊥) → v ++ w ≡ [] → ⊥
left_some [] w h e = h refl
left_some (b ∷ v) w h e = cc

apart-append : (a : Symbol) (xs ys : List Spaced) → AreApartBehind a xs → ((b : Symbol) → AreApartBehind b ys) → AreApartBehind a (xs ++ ys)
apart-append a [] ys h k = k a
apart-append a (x ∷ xs) ys h k = (h.0, h.1, apart-append x.symbol xs ys h.2 k)

apart_row : (a : Symbol) (gap : List ℕ) (row : List Symbol) (more : List ℕ → List Spaced) (indent : List ℕ) → AreSomeBlanks gap → AreBlanks indent
    → ((b : Symbol) (g : List ℕ) → AreSomeBlanks g → AreApartBehind b (more g)) → AreApartBehind a (spaced_row gap row more indent)
apart_row a gap [] more indent h i k = k a (gap ++ (indent ++ 10 ∷ [])) (after_line gap indent h.0 i)
apart_row a gap (s ∷ ss) more indent h i k =
    (blanks-append gap indent h.0 i, (λ e. absurd (left_some gap indent h.1 e)), apart-append s (spaced_after s ss) (more (10 ∷ [])) (spaced_after-apart s ss) (λ b. k b (10 ∷ []) feed))

apart_after : (a : Symbol) (gap : List ℕ) (ls : List Line) → AreSomeBlanks gap → AreIndented ls → AreApartBehind a (spaced_lines gap ls)
apart_after a gap [] h i = tt
apart_after a gap (l ∷ ls) h i = apart_row a gap l.row (λ g. spaced_lines g ls) l.indent h i.0 (λ b g m. apart_after b g ls m i.1)

apart_first : (gap : List ℕ) (row : List Symbol) (more : List ℕ → List Spaced) (indent : List ℕ) → AreBlanks gap → AreBlanks indent
    → ((g : List ℕ) → AreBlanks g → AreApart (more g)) → ((b : Symbol) (g : List ℕ) → AreSomeBlanks g → AreApartBehind b (more g)) → AreApart (spaced_row gap row more indent)
apart_first gap [] more indent h i k m = k (gap ++ (indent ++ 10 ∷ [])) (after_line gap indent h i).0
apart_first gap (s ∷ ss) more indent h i k m =
    (blanks-append gap indent h i, apart-append s (spaced_after s ss) (more (10 ∷ [])) (spaced_after-apart s ss) (λ b. m b (10 ∷ []) feed))

apart : (gap : List ℕ) (ls : List Line) → AreBlanks gap → AreIndented ls → AreApart (spaced_lines gap ls)
apart gap [] h i = tt
apart gap (l ∷ ls) h i = apart_first gap l.row (λ g. spaced_lines g ls) l.indent h i.0 (λ g m. apart g ls m i.1) (λ b g m. apart_after b g ls m i.1)

blanks_row : (gap : List ℕ) (row : List Symbol) (last : List ℕ → List ℕ) (indent : List ℕ) → AreBlanks gap → AreBlanks indent → ((g : List ℕ) → AreBlanks g → AreBlanks (last g)) → AreBlanks (last_row gap row last indent)
blanks_row gap [] last indent h i k = k (gap ++ (indent ++ 10 ∷ [])) (after_line gap indent h i).0
blanks_row gap (s ∷ ss) last indent h i k = k (10 ∷ []) line_end

blanks_last : (gap : List ℕ) (ls : List Line) → AreBlanks gap → AreIndented ls → AreBlanks (last_blanks gap ls)
blanks_last gap [] h i = h
blanks_last gap (l ∷ ls) h i = blanks_row gap l.row (λ g. last_blanks g ls) l.indent h i.0 (λ g m. blanks_last g ls m i.1)

-- lines are spelled by their rows
pub lines_spell : (ls : List Line) → ArePrintable (rows_of ls) → AreIndented ls → Spells (text_of_lines ls) (rows_of ls)
lines_spell ls p i =
    let law : Spells (laid_out (spaced_lines [] ls) ++ last_blanks [] ls) (symbols_in (spaced_lines [] ls)) =
    laid_out_spells (spaced_lines [] ls) (last_blanks [] ls) (subst ArePrintable (sym (symbols_are [] ls)) p) (apart [] ls tt i) (blanks_last [] ls tt i) in
    subst (λ t. Spells t (rows_of ls)) (text_is [] ls) (subst (Spells (laid_out (spaced_lines [] ls) ++ last_blanks [] ls)) (symbols_are [] ls) law)
