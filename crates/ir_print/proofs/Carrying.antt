-- What readable symbols spell by a rule holds what its parts hold, and rows of printable parts are printable.
use Rattle.std.proofs.Common.{◌≡◌, ℕ, true, List, [], ◌∷◌, ◌++◌, Option, Some, None, refl, sym, subst, inl, inr}
use Rattle.grammar.specs.Language.{Lang, one, skip, seq, map_to, maybe, many, or_else, cons, up_to, items, until}
use Rattle.ir_lex.specs.Bytes.{is_punct}
use Rattle.ir_lex.specs.Symbols.{Symbol, MarkSymbol}
use Rattle.ir_print_symbols.specs.Printed.{IsReadable, ArePrintable}
use Rattle.ir_grammar_consts.proofs.Values.{Every}
use Rattle.ir_grammar_insts.specs.Spelling.{in_a_row, more, with_commas}
use Rattle.ir_print_consts.proofs.PrintableTypes.{Carries, front_of, back_of, head_of, printable_both, carries_many, carries_skip}

-- nothing is said of the value
abbrev pub Anything : {V : Type 0} → V → Type 0
Anything v = Unit {0}

-- a fact of each part of a pair
abbrev pub Both : {A B : Type 0} → (A → Type 0) → (B → Type 0) → A × B → Type 0
Both P Q v = P v.0 × Q v.1

-- a fact of the value, if there is one
abbrev pub Perhaps : {V : Type 0} → (V → Type 0) → Option V → Type 0
Perhaps P None = Unit {0}
Perhaps P (Some v) = P v

pub carries_any : {V : Type 0} (a : Lang Symbol V) → Carries a Anything
carries_any a ts v word g = tt

pub carries_one : {K : Type 0} (f : Symbol → Option K) (P : K → Type 0) → ((s : Symbol) (k : K) → f s ≡ Some k → IsReadable s → P k) → Carries (one f) P
carries_one f P h ts k word g = subst P (sym word.5.1) (h word.0 word.2 word.4 (head_of ts word.0 word.1 word.3 g))

pub carries_seq : {A B : Type 0} (a : Lang Symbol A) (b : Lang Symbol B) (P : A → Type 0) (Q : B → Type 0) → Carries a P → Carries b Q → Carries (seq a b) (Both P Q)
carries_seq a b P Q h k ts v word g =
    (h word.0 v.0 word.3 (front_of ts word.0 word.1 word.2 g), k word.1 v.1 word.4 (back_of ts word.0 word.1 word.2 g))

pub carries_map : {A B : Type 0} (f : A → B) (a : Lang Symbol A) (P : A → Type 0) (Q : B → Type 0) → ((v : A) → P v → Q (f v)) → Carries a P → Carries (map_to f a) Q
carries_map f a P Q step h ts w word g = subst Q (sym word.2) (step word.0 (h ts word.0 word.1 g))

pub carries_maybe : {V : Type 0} (a : Lang Symbol V) (P : V → Type 0) → Carries a P → Carries (maybe a) (Perhaps P)
carries_maybe a P h ts None word g = tt
carries_maybe a P h ts (Some v) word g = h ts v word g

pub carries_or : {V : Type 0} (a b : Lang Symbol V) (P : V → Type 0) → Carries a P → Carries b P → Carries (or_else a b) P
carries_or a b P h k ts v (inl u) g = h ts v u g
carries_or a b P h k ts v (inr u) g = k ts v u g

pub carries_up_to : {V C : Type 0} (close : Symbol → Option C) (a : Lang Symbol V) (P : V → Type 0) → Carries a P → Carries (up_to close a) P
carries_up_to close a P h ts v word g =
    let pair = word.1 in
    subst P (sym word.2) (h pair.0 word.0.0 pair.3 (front_of ts pair.0 pair.1 pair.2 g))

pub carries_until : {V C : Type 0} (close : Symbol → Option C) (a : Lang Symbol V) (P : V → Type 0) → Carries a P → Carries (until close a) (Every P)
carries_until close a P h = carries_up_to close (many a) (Every P) (carries_many a P h)

pub carries_items : {V K : Type 0} (separator : Symbol → Option K) (a : Lang Symbol V) (P : V → Type 0) → Carries a P → Carries (items separator a) (Every P)
carries_items separator a P h =
    let row = carries_many (skip separator a) P (carries_skip separator a P h) in
    carries_map cons (seq a (many (skip separator a))) (Both P (Every P)) (Every P) (λ v e. e) (carries_seq a (many (skip separator a)) P (Every P) h row)

-- two rows
pub every_both : {V : Type 0} (P : V → Type 0) (vs ws : List V) → Every P vs → Every P ws → Every P (vs ++ ws)
every_both P [] ws h g = g
every_both P (v ∷ vs) ws h g = (h.0, every_both P vs ws h.1 g)

-- a weaker fact
pub every_weaker : {V : Type 0} (P Q : V → Type 0) → ((v : V) → P v → Q v) → (vs : List V) → Every P vs → Every Q vs
every_weaker P Q step [] h = tt
every_weaker P Q step (v ∷ vs) h = (step v h.0, every_weaker P Q step vs h.1)

-- the marks between parts
pub comma : is_punct 44 ≡ true
unfolding is_punct
comma = refl

pub equals : is_punct 61 ≡ true
unfolding is_punct
equals = refl

pub opening_bracket : is_punct 91 ≡ true
unfolding is_punct
opening_bracket = refl

pub closing_bracket : is_punct 93 ≡ true
unfolding is_punct
closing_bracket = refl

pub opening_parenthesis : is_punct 40 ≡ true
unfolding is_punct
opening_parenthesis = refl

pub closing_parenthesis : is_punct 41 ≡ true
unfolding is_punct
closing_parenthesis = refl

pub opening_brace : is_punct 123 ≡ true
unfolding is_punct
opening_brace = refl

pub closing_brace : is_punct 125 ≡ true
unfolding is_punct
closing_brace = refl

-- printable parts in a row, and with commas between them
abbrev pub Printable : {V : Type 0} → (V → List Symbol) → V → Type 0
Printable spelling v = ArePrintable (spelling v)

pub row_printable : {V : Type 0} (spelling : V → List Symbol) (vs : List V) → Every (Printable spelling) vs → ArePrintable (in_a_row spelling vs)
row_printable spelling [] h = tt
row_printable spelling (v ∷ vs) h = printable_both (spelling v) (in_a_row spelling vs) h.0 (row_printable spelling vs h.1)

pub commas_printable : {V : Type 0} (spelling : V → List Symbol) (vs : List V) → Every (Printable spelling) vs → ArePrintable (in_a_row (more spelling) vs)
commas_printable spelling [] h = tt
commas_printable spelling (v ∷ vs) h = (comma, printable_both (spelling v) (in_a_row (more spelling) vs) h.0 (commas_printable spelling vs h.1))

pub listed_printable : {V : Type 0} (spelling : V → List Symbol) (vs : List V) → Every (Printable spelling) vs → ArePrintable (with_commas spelling vs)
listed_printable spelling [] h = tt
listed_printable spelling (v ∷ vs) h = printable_both (spelling v) (in_a_row (more spelling) vs) h.0 (commas_printable spelling vs h.1)

-- a row, and the mark that closes it
pub closed_printable : (ss : List Symbol) (b : ℕ) → is_punct b ≡ true → ArePrintable ss → ArePrintable (ss ++ MarkSymbol b ∷ [])
closed_printable ss b m h = printable_both ss (MarkSymbol b ∷ []) h (m, tt)
