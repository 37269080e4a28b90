-- A text has at most one module, and is refused for at most one reason.
use Rattle.std.proofs.Common.{◌≡◌, ℕ, ◌+◌, ◌<◌, List, [], ◌∷◌, ◌++◌, length, take, drop, ◌⊎◌, inl, inr, refl, ap, sym, ◌∙◌, subst, arith, Option, Some, None, append_assoc}
use Rattle.std.specs.Prelude.{unwrap_or}
use Rattle.std.proofs.lemmas.List.{take-append-drop, length-take, length-drop, length-map}
use Rattle.grammar.specs.Language.{Lang}
use Rattle.grammar.specs.FirstWrong.{FirstWrong}
use Rattle.ir_lex.specs.Tokens.{IsBad}
use Rattle.ir_lex.specs.Quiet.{kept_of, first_outside}
use Rattle.ir_lex.specs.Symbols.{Symbol, symbol_of, symbols_of}
use Rattle.ir_lex.specs.declared.token.Token.{Token}
use Rattle.ir_lex.proofs.Unique.{one_token_list, tokens_or_bad, one_bad_place}
use Rattle.ir_tree.specs.Shape.{ModuleShape}
use Rattle.grammar.proofs.Reading.{one_value}
use Rattle.ir_grammar_consts.specs.Depth.{IsTooDeep}
use Rattle.ir_grammar_consts.specs.Counting.{deep_len}
use Rattle.ir_grammar_consts.proofs.Depths.{deep_counted}
use Rattle.ir_const.specs.Places.{place_of}
use Rattle.ir_grammar_modules.specs.Modules.{whole_module}
use Rattle.ir_grammar_modules.proofs.ItemLaw.{good_module}
use Rattle.ir_parse.specs.Answers.{AreShallow, IsWrongAt, IsDeepAt}
use Rattle.ir_source.specs.Texts.{AreKept, IsModuleOf, IsOutside, IsRefused}
use Rattle.ir_source.specs.declared.error.SourceError.{SourceError}
use Rattle.ir_source.specs.declared.error.SourceError.TheVariants.{Bad, Outside, Deep, Syntax, OutOfMemory}

-- a text has one list of kept tokens
one_kept : (text : List ℕ) (kept other : List Token) → AreKept text kept → AreKept text other → kept ≡ other
one_kept text kept other a b =
    a.are_kept ∙ ap (λ toks. kept_of text toks) (one_token_list text a.toks b.toks a.are_tokens b.are_tokens) ∙ sym b.are_kept

-- and one module
pub one_module : (text : List ℕ) (m other : ModuleShape) → IsModuleOf text m → IsModuleOf text other → m ≡ other
one_module text m other a b =
    let same = one_kept text b.kept a.kept b.are_kept a.are_kept in
    one_value good_module (symbols_of text a.kept) m other a.spelled (subst (λ toks. whole_module (symbols_of text toks) other) same b.spelled)

count_of : (text : List ℕ) (toks : List Token) → length (symbols_of text toks) ≡ length toks
count_of text toks = length-map toks (symbol_of text)

-- the first bracket that is the 65th open one

some_same : (a b : ℕ) → ◌≡◌ {A = Option ℕ} (Some a) (Some b) → a ≡ b
some_same a b e = cc

deep_count : (ss : List Symbol) (k : ℕ) → k < length ss → IsTooDeep 0 (take (k + 1) ss) → deep_len 0 ss ≡ Some (k + 1)
deep_count ss k within deep =
    let counted = deep_counted 0 (take (k + 1) ss) (drop (k + 1) ss) deep in
    let long : length (take (k + 1) ss) ≡ k + 1 = omega (arith, length-take (k + 1) ss) in
    subst (λ z. deep_len 0 z ≡ Some (k + 1)) (take-append-drop (k + 1) ss) (counted ∙ ap (λ (n : ℕ). Some n) long)

one_depth : (text : List ℕ) (kept : List Token) (at other : ℕ) → IsDeepAt text kept at → IsDeepAt text kept other → at ≡ other
one_depth text kept at other (k, within, place, deep) (j, inside, there, also) =
    let counts = count_of text kept in
    let first = deep_count (symbols_of text kept) k (omega (arith, counts, within)) deep in
    let second = deep_count (symbols_of text kept) j (omega (arith, counts, inside)) also in
    let same = some_same (k + 1) (j + 1) (sym first ∙ second) in
    let one : k ≡ j = omega (arith, same) in
    place ∙ ap (λ (n : ℕ). place_of text kept n) one ∙ sym there

not_deep : (text : List ℕ) (kept : List Token) (at : ℕ) → AreShallow (symbols_of text kept) → IsDeepAt text kept at → ⊥
not_deep text kept at shallow (k, within, place, deep) =
    shallow (take (k + 1) (symbols_of text kept)) (drop (k + 1) (symbols_of text kept)) (sym (take-append-drop (k + 1) (symbols_of text kept))) deep

-- the first wrong symbol

two_cuts : {S : Type 0} (xs ys rest more : List S) → xs ++ rest ≡ ys ++ more
    → ((u : List S) × (ys ≡ xs ++ u) × (rest ≡ u ++ more)) ⊎ ((u : List S) × (xs ≡ ys ++ u) × (more ≡ u ++ rest))
two_cuts [] ys rest more e = inl (ys, refl, e)
two_cuts (x ∷ xs) [] rest more e = inr (x ∷ xs, refl, sym e)
two_cuts (x ∷ xs) (y ∷ ys) rest more e =
    let tail : xs ++ rest ≡ ys ++ more = cc in
    let head : x ≡ y = cc in
    elim (two_cuts xs ys rest more tail) [
      | inl u ↦ inl (u.0, let part : ys ≡ xs ++ u.0 = u.1 in cc, u.2)
      | inr u ↦ inr (u.0, let part : xs ≡ ys ++ u.0 = u.1 in cc, u.2)
    ]

wrong_past : {S V : Type 0} (L : Lang S V) (ts rest more : List S) (g : FirstWrong L ts rest) (h : FirstWrong L ts more) (u : List S)
    → h.before ≡ g.before ++ u → rest ≡ u ++ more → rest ≡ more
wrong_past L ts rest more g h [] e cut = cut
wrong_past {S} L ts rest more g h (t ∷ u) e cut =
    let q = h.begins.0 in
    let line : h.before ++ q ≡ (g.before ++ t ∷ []) ++ (u ++ q) = ap (λ (z : List S). z ++ q) e ∙ simp append_assoc in
    absurd (g.wrong t (u ++ more) cut (u ++ q, h.begins.1, subst (λ (z : List S). L z h.begins.1) line h.begins.2))

one_wrong : {S V : Type 0} (L : Lang S V) (ts rest more : List S) → FirstWrong L ts rest → FirstWrong L ts more → rest ≡ more
one_wrong L ts rest more g h =
    elim (two_cuts g.before h.before rest more (sym g.cut ∙ h.cut)) [
      | inl u ↦ wrong_past L ts rest more g h u.0 u.1 u.2
      | inr u ↦ sym (wrong_past L ts more rest h g u.0 u.1 u.2)
    ]

one_mistake : (text : List ℕ) (kept : List Token) (at other : ℕ) → IsWrongAt text kept at → IsWrongAt text kept other → at ≡ other
one_mistake text kept at other (k, within, place, reads) (j, inside, there, also) =
    let ss = symbols_of text kept in
    let rests = one_wrong whole_module ss (drop k ss) (drop j ss) reads.0 also.0 in
    let counts = count_of text kept in
    let one : k ≡ j = omega (arith, counts, within, inside, length-drop k ss, length-drop j ss, ap length rests) in
    place ∙ ap (λ (n : ℕ). place_of text kept n) one ∙ sym there

-- reasons that shut one another out

kept_inside : (text : List ℕ) (kept : List Token) (at len : ℕ) → AreKept text kept → IsOutside text at len → ⊥
kept_inside text kept at len are (toks, tokens, first) =
    let same = one_token_list text toks are.toks tokens are.are_tokens in
    let none : first_outside text (kept_of text toks) ≡ None = ap (λ ts. first_outside text (kept_of text ts)) same ∙ are.inside in
    let wrong : ◌≡◌ {A = Option (ℕ × ℕ)} None (Some (at, len)) = sym none ∙ first in
    cc

kept_not_bad : (text : List ℕ) (kept : List Token) (at : ℕ) → AreKept text kept → IsBad text at → ⊥
kept_not_bad text kept at are bad = tokens_or_bad text are.toks at are.are_tokens bad

some_pair : (a b c d : ℕ) → ◌≡◌ {A = Option (ℕ × ℕ)} (Some (a, b)) (Some (c, d)) → (a ≡ c) × (b ≡ d)
some_pair a b c d e =
    let pair : ◌≡◌ {A = ℕ × ℕ} (a, b) (c, d) = ap (λ (o : Option (ℕ × ℕ)). unwrap_or o (a, b)) e in
    (ap (λ (p : ℕ × ℕ). p.0) pair, ap (λ (p : ℕ × ℕ). p.1) pair)

one_outside : (text : List ℕ) (at len place size : ℕ) → IsOutside text at len → IsOutside text place size → Outside at len ≡ Outside place size
one_outside text at len place size (toks, are, first) (others, also, second) =
    let same = one_token_list text toks others are also in
    let pair = some_pair at len place size (sym first ∙ ap (λ ts. first_outside text (kept_of text ts)) same ∙ second) in
    rw (pair.0, pair.1) refl

-- a text is refused for one reason
pub one_refusal : (text : List ℕ) (error other : SourceError) → IsRefused text error → IsRefused text other → error ≡ other
one_refusal text (Bad at) (Bad place) a b = ap (λ (n : ℕ). Bad n) (one_bad_place text at place a b)
one_refusal text (Bad at) (Outside place len) a b = absurd (tokens_or_bad text b.0 at b.1 a)
one_refusal text (Bad at) (Deep place) a b = absurd (kept_not_bad text b.0 at b.1 a)
one_refusal text (Bad at) (Syntax place) a b = absurd (kept_not_bad text b.0 at b.1 a)
one_refusal text (Bad at) OutOfMemory a b = absurd b
one_refusal text (Outside at len) (Bad place) a b = absurd (tokens_or_bad text a.0 place a.1 b)
one_refusal text (Outside at len) (Outside place size) a b = one_outside text at len place size a b
one_refusal text (Outside at len) (Deep place) a b = absurd (kept_inside text b.0 at len b.1 a)
one_refusal text (Outside at len) (Syntax place) a b = absurd (kept_inside text b.0 at len b.1 a)
one_refusal text (Outside at len) OutOfMemory a b = absurd b
one_refusal text (Deep at) (Bad place) a b = absurd (kept_not_bad text a.0 place a.1 b)
one_refusal text (Deep at) (Outside place len) a b = absurd (kept_inside text a.0 place len a.1 b)
one_refusal text (Deep at) (Deep place) (kept, are, deep) (others, also, second) =
    let same = one_kept text others kept also are in
    ap (λ (n : ℕ). Deep n) (one_depth text kept at place deep (subst (λ ts. IsDeepAt text ts place) same second))
one_refusal text (Deep at) (Syntax place) (kept, are, deep) (others, also, shallow, wrong) =
    absurd (not_deep text others at shallow (subst (λ ts. IsDeepAt text ts at) (one_kept text kept others are also) deep))
one_refusal text (Deep at) OutOfMemory a b = absurd b
one_refusal text (Syntax at) (Bad place) a b = absurd (kept_not_bad text a.0 place a.1 b)
one_refusal text (Syntax at) (Outside place len) a b = absurd (kept_inside text a.0 place len a.1 b)
one_refusal text (Syntax at) (Deep place) (others, also, shallow, wrong) (kept, are, deep) =
    absurd (not_deep text others place shallow (subst (λ ts. IsDeepAt text ts place) (one_kept text kept others are also) deep))
one_refusal text (Syntax at) (Syntax place) (kept, are, shallow, wrong) (others, also, still, second) =
    let same = one_kept text others kept also are in
    ap (λ (n : ℕ). Syntax n) (one_mistake text kept at place wrong (subst (λ ts. IsWrongAt text ts place) same second))
one_refusal text (Syntax at) OutOfMemory a b = absurd b
one_refusal text OutOfMemory other a b = absurd a

-- a text that has a module isn't refused
pub not_refused : (text : List ℕ) (m : ModuleShape) (error : SourceError) → IsModuleOf text m → IsRefused text error → ⊥
not_refused text m (Bad at) has bad = kept_not_bad text has.kept at has.are_kept bad
not_refused text m (Outside at len) has outside = kept_inside text has.kept at len has.are_kept outside
not_refused text m (Deep at) has (kept, are, deep) =
    not_deep text has.kept at has.shallow (subst (λ ts. IsDeepAt text ts at) (one_kept text kept has.kept are has.are_kept) deep)
not_refused text m (Syntax at) has (kept, are, shallow, wrong) =
    let same = one_kept text has.kept kept has.are_kept are in
    wrong.3.1 m (subst (λ ts. whole_module (symbols_of text ts) m) same has.spelled)
not_refused text m OutOfMemory has refused = refused
