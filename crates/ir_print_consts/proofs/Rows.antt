-- The printed form of rows that are parted by marks.
use Rattle.std.proofs.Common.{◌≡◌, ℕ, Bool, true, false, List, [], ◌∷◌, ◌++◌, map, refl, sym, ap, ◌∙◌, append_assoc}
use Rattle.std.specs.Prelude.{◌||◌, ◌&&◌}
use Rattle.ir_lex.specs.Symbols.{Symbol, MarkSymbol}
use Rattle.ir_print_symbols.specs.Printed.{is_opening, is_closing, is_global, is_mark, touches, joined, joined_after, last_of}
use Rattle.ir_print_symbols.proofs.Joining.{joined-append}
use Rattle.ir_grammar_consts.specs.Spelling.{in_braces}
use Rattle.ir_print_consts.specs.Texts.{in_row, open_brace, close_brace}

second_of_five : (o c g p q : Bool) → c ≡ true → (o || c || g || p || q) ≡ true
second_of_five true c g p q e = refl
second_of_five false true g p q e = refl
second_of_five false false g p q e = cc

-- nothing stands before what closes
pub closing_text : (a : Symbol) (b : ℕ) (ss : List Symbol) → is_closing (MarkSymbol b) ≡ true
    → joined_after a (MarkSymbol b ∷ ss) ≡ b ∷ joined_after (MarkSymbol b) ss
closing_text a b ss e =
    let t : touches a (MarkSymbol b) ≡ true =
    second_of_five (is_opening a) (is_closing (MarkSymbol b)) (is_global a && is_mark 40 (MarkSymbol b)) (is_mark 60 a && is_mark 123 (MarkSymbol b)) (is_mark 125 a && is_mark 62 (MarkSymbol b)) e in
    rw t refl

-- nothing stands after what opens
pub opening_text : (b : ℕ) (ss : List Symbol) → is_opening (MarkSymbol b) ≡ true → joined_after (MarkSymbol b) ss ≡ joined ss
opening_text b [] e = refl
opening_text b (s ∷ ss) e =
    let t : touches (MarkSymbol b) s ≡ true = rw e refl in
    rw t refl

-- a blank stands between symbols that don't touch
pub spaced_text : (a s : Symbol) (ss : List Symbol) → touches a s ≡ false → joined_after a (s ∷ ss) ≡ 32 ∷ joined (s ∷ ss)
spaced_text a s ss e = rw e refl

pub last_of_end : (a s : Symbol) (ss : List Symbol) → last_of a (ss ++ s ∷ []) ≡ s
last_of_end a s [] = refl
last_of_end a s (x ∷ ss) = last_of_end x s ss

-- a row, and what closes it
pub closed_text : (ss : List Symbol) (b : ℕ) → is_closing (MarkSymbol b) ≡ true → joined (ss ++ MarkSymbol b ∷ []) ≡ joined ss ++ b ∷ []
closed_text [] b e = refl
closed_text (s ∷ ss) b e = joined-append s ss (MarkSymbol b ∷ []) ∙ ap (λ t. joined (s ∷ ss) ++ t) (closing_text (last_of s ss) b [] e)

packed_end : (ss : List Symbol) → joined ((ss ++ MarkSymbol 125 ∷ []) ++ MarkSymbol 62 ∷ []) ≡ joined ss ++ 125 ∷ 62 ∷ []
packed_end [] = refl
packed_end (s ∷ ss) =
    joined-append s (ss ++ MarkSymbol 125 ∷ []) (MarkSymbol 62 ∷ [])
    ∙ ap (λ a. joined (s ∷ ss ++ MarkSymbol 125 ∷ []) ++ joined_after a (MarkSymbol 62 ∷ [])) (last_of_end s (MarkSymbol 125) ss)
    ∙ ap (λ t. t ++ 62 ∷ []) (closed_text (s ∷ ss) 125 refl)
    ∙ append_assoc (joined (s ∷ ss)) (125 ∷ []) (62 ∷ [])

-- a row in braces
pub braces_text : (packed : Bool) (ss : List Symbol) → joined (in_braces packed ss) ≡ open_brace packed ++ (joined ss ++ close_brace packed)
braces_text false ss = ap (λ t. 123 ∷ t) (opening_text 123 (ss ++ MarkSymbol 125 ∷ []) refl ∙ closed_text ss 125 refl)
braces_text true ss = ap (λ t. 60 ∷ 123 ∷ t) (opening_text 123 ((ss ++ MarkSymbol 125 ∷ []) ++ MarkSymbol 62 ∷ []) refl ∙ packed_end ss)

-- a row that doesn't begin with a mark that closes
pub record Starts (row : List Symbol) : Type 0 where
  pub first : Symbol
  pub rest : List Symbol
  pub is : row ≡ first ∷ rest
  pub apart : is_closing first ≡ false

-- rows with a comma before each
abbrev pub commas : List (List Symbol) → List Symbol
commas [] = []
commas (p ∷ ps) = (MarkSymbol 44 ∷ p) ++ commas ps

-- a row after a comma, and what follows it
pub comma_text : (row more : List Symbol) → Starts row
    → (text : List ℕ) → ((a : Symbol) → joined_after a more ≡ text)
    → joined_after (MarkSymbol 44) (row ++ more) ≡ 32 ∷ (joined row ++ text)
comma_text row more starts text next =
    let t : touches (MarkSymbol 44) starts.first ≡ false = rw starts.apart refl in
    rw starts.is
    (spaced_text (MarkSymbol 44) starts.first (starts.rest ++ more) t
    ∙ ap (λ z. 32 ∷ z) (joined-append starts.first starts.rest more)
    ∙ ap (λ z. 32 ∷ (joined (starts.first ∷ starts.rest) ++ z)) (next (last_of starts.first starts.rest)))

-- the text of rows with a comma before each, whatever they follow, and a row that closes them
pub commas_text : {A : Type 0} (f : A → List Symbol) → ((x : A) → Starts (f x)) → (end : List Symbol) (close : List ℕ)
    → ((a : Symbol) → joined_after a end ≡ close) → (xs : List A) (a : Symbol)
    → joined_after a (commas (map f xs) ++ end) ≡ in_row true (map (λ x. joined (f x)) xs) ++ close
commas_text f starts end close ends [] a = ends a
commas_text f starts end close ends (x ∷ xs) a =
    ap (λ z. joined_after a (MarkSymbol 44 ∷ z)) (append_assoc (f x) (commas (map f xs)) end)
    ∙ closing_text a 44 (f x ++ (commas (map f xs) ++ end)) refl
    ∙ ap (λ z. 44 ∷ z) (comma_text (f x) (commas (map f xs) ++ end) (starts x) (in_row true (map (λ y. joined (f y)) xs) ++ close) (commas_text f starts end close ends xs))
    ∙ ap (λ z. 44 ∷ 32 ∷ z) (sym (append_assoc (joined (f x)) (in_row true (map (λ y. joined (f y)) xs)) close))

commas_alone : {A : Type 0} (f : A → List Symbol) → ((x : A) → Starts (f x)) → (xs : List A) (a : Symbol)
    → joined_after a (commas (map f xs)) ≡ in_row true (map (λ x. joined (f x)) xs)
commas_alone f starts [] a = refl
commas_alone f starts (x ∷ xs) a =
    closing_text a 44 (f x ++ commas (map f xs)) refl
    ∙ ap (λ z. 44 ∷ z) (comma_text (f x) (commas (map f xs)) (starts x) (in_row true (map (λ y. joined (f y)) xs)) (commas_alone f starts xs))

-- rows with a comma between them
abbrev pub listed_rows : List (List Symbol) → List Symbol
listed_rows [] = []
listed_rows (p ∷ ps) = p ++ commas ps

pub first_and_more : (row more : List Symbol) → Starts row → (text : List ℕ) → ((a : Symbol) → joined_after a more ≡ text)
    → joined (row ++ more) ≡ joined row ++ text
first_and_more row more starts text next =
    rw starts.is (joined-append starts.first starts.rest more ∙ ap (λ z. joined (starts.first ∷ starts.rest) ++ z) (next (last_of starts.first starts.rest)))

pub list_text : {A : Type 0} (f : A → List Symbol) → ((x : A) → Starts (f x)) → (xs : List A)
    → joined (listed_rows (map f xs)) ≡ in_row false (map (λ x. joined (f x)) xs)
list_text f starts [] = refl
list_text f starts (x ∷ xs) = first_and_more (f x) (commas (map f xs)) (starts x) (in_row true (map (λ y. joined (f y)) xs)) (commas_alone f starts xs)
