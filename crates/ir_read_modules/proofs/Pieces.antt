-- The tokens of lines: pieces one after another, each of which spells a line and begins at its spot.
use Rattle.std.proofs.Common.{◌≡◌, ℕ, suc, ◌+◌, ◌-◌, ◌<◌, ◌≤◌, Bool, true, List, [], ◌∷◌, ◌++◌, length, take, drop, refl, sym, ◌∙◌, ap, subst, arith, append_assoc, length-append, length-drop}
use Rattle.std.specs.List.{slice_range}
use Rattle.std.specs.List as lists
use Rattle.std.proofs.lemmas.List.{drop-drop, append-nil}
use Rattle.std.proofs.Math.Seq.{take-add, take-append_seam}
use Rattle.grammar.specs.Language.{Lang}
use Rattle.grammar.specs.Reader.{Reader, Got, opens}
use Rattle.grammar.proofs.Good.{Starts}
use Rattle.ir_lex.specs.Symbols.{Symbol, symbol_of, symbols_of}
use Rattle.ir_lex.specs.declared.token.Token.{Token}
use Rattle.ir_read_modules.specs.Spots.{start_of, InPieces}
use Rattle.ir_read_modules.proofs.Sound.{Sound, front_read}

-- one piece more, after the others
pub pieces_more : {V K : Type 0} (R : List Token → V → K → Type 0) (vs : List V) (ks : List K) (toks p : List Token) (v : V) (k : K)
    → InPieces R toks vs ks → R p v k → InPieces R (toks ++ p) (vs ++ v ∷ []) (ks ++ k ∷ [])
pieces_more R [] [] toks p v k h g = (p, [], ap (λ z. z ++ p) h ∙ sym (append-nil p), g, refl)
pieces_more R [] (j ∷ ks) toks p v k h g = absurd h
pieces_more R (w ∷ vs) [] toks p v k h g = absurd h
pieces_more R (w ∷ vs) (j ∷ ks) toks p v k h g =
    (h.0, h.1 ++ p, ap (λ z. z ++ p) h.2 ∙ append_assoc h.0 h.1 p, h.3, pieces_more R vs ks h.1 p v k h.4 g)

-- neighbouring slices
pub slices_joined : {X : Type 0} (xs : List X) (a b c : ℕ) → a ≤ b → b ≤ c → slice_range xs a c ≡ slice_range xs a b ++ slice_range xs b c
slices_joined xs a b c h k =
    let whole : c - a ≡ (b - a) + (c - b) = omega arith in
    let next : a + (b - a) ≡ b = omega arith in
    ap (λ z. take z (drop a xs)) whole ∙ take-add (b - a) (c - b) (drop a xs)
    ∙ ap (λ z. take (b - a) (drop a xs) ++ take (c - b) z) (drop-drop (b - a) a xs ∙ ap (λ z. drop z xs) next)

pub no_slice : {X : Type 0} (xs : List X) (a : ℕ) → slice_range xs a a ≡ []
no_slice xs a = let none : a - a ≡ 0 = omega arith in ap (λ z. take z (drop a xs)) none

pub symbols_of_slice : (text : List ℕ) (toks : List Token) (a b : ℕ) → symbols_of text (slice_range toks a b) ≡ take (b - a) (drop a (symbols_of text toks))
symbols_of_slice text toks a b =
    sym (lists.take-map (symbol_of text) (b - a) (drop a toks)) ∙ ap (take (b - a)) (sym (lists.drop-map (symbol_of text) a toks))

-- how many symbols a front has
front_length : {S : Type 0} (ss p : List S) (at next : ℕ) → at ≤ length ss → next ≤ length ss → drop at ss ≡ p ++ drop next ss → next ≡ at + length p
front_length ss p at next h k e =
    omega (arith, ap length e, length-append p (drop next ss), length-drop at ss, length-drop next ss)

front_is : {S : Type 0} (ss p : List S) (at next : ℕ) → at ≤ length ss → next ≤ length ss → drop at ss ≡ p ++ drop next ss → take (next - at) (drop at ss) ≡ p
front_is ss p at next h k e =
    let long : next - at ≡ length p = omega (arith, front_length ss p at next h k e) in
    ap (λ z. take z (drop at ss)) long ∙ ap (take (length p)) e ∙ take-append_seam p (drop next ss)

-- what was read from at to next is spelled by the tokens between them
pub slice_spelled : {V : Type 0} {L : Lang Symbol V} {r : Reader Symbol V} → Sound L r → (text : List ℕ) (toks : List Token) (at next : ℕ) (v : V)
    → at ≤ length (symbols_of text toks) → next ≤ length (symbols_of text toks)
    → r (drop at (symbols_of text toks)) ≡ Got v (drop next (symbols_of text toks)) → L (symbols_of text (slice_range toks at next)) v
slice_spelled {L = L} g text toks at next v h k e =
    let ss : List Symbol = symbols_of text toks in
    let f = front_read g (drop at ss) (drop next ss) v e in
    subst (λ z. L z v) (sym (symbols_of_slice text toks at next ∙ front_is ss f.0 at next h k f.1)) f.2

first_there : {S : Type 0} (p : S → Bool) (xs : List S) → opens p xs ≡ true → 0 < length xs
first_there p [] o = cc
first_there p (x ∷ xs) o = omega arith

-- a line is never empty
pub goes_past : {V : Type 0} {L : Lang Symbol V} {r : Reader Symbol V} {p : Symbol → Bool} → Sound L r → Starts p L → (ss : List Symbol) (at next : ℕ) (v : V)
    → at ≤ length ss → next ≤ length ss → r (drop at ss) ≡ Got v (drop next ss) → at < next
goes_past {p = p} g starts ss at next v h k e =
    let f = front_read g (drop at ss) (drop next ss) v e in
    omega (arith, front_length ss f.0 at next h k f.1, first_there p f.0 (starts.at f.0 v f.2))

start_of_some : (toks : List Token) (n : ℕ) → start_of (take (suc n) toks) ≡ start_of toks
start_of_some [] n = refl
start_of_some (t ∷ toks) n = refl

pub start_of_slice : (toks : List Token) (a b : ℕ) → a < b → start_of (slice_range toks a b) ≡ start_of (drop a toks)
start_of_slice toks a b h = let more : b - a ≡ suc (b - a - 1) = omega arith in ap (λ z. start_of (take z (drop a toks))) more ∙ start_of_some (drop a toks) (b - a - 1)
