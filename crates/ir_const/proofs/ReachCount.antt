-- The search for the end of one type or constant, token by token.
use Rattle.std.proofs.Common.{◌≡◌, ℕ, zero, suc, ◌+◌, ◌==◌, ◌&&◌, ◌≤◌, ◌<◌, Bool, true, false, not, List, length, refl, sym, ◌∙◌, arith, eq-eqb, eqb-true, get_or}
use Rattle.ir_lex.specs.Symbols.{Symbol, symbol_of}
use Rattle.ir_lex.specs.declared.token.Token.{Token}
use Rattle.ir_cursor.proofs.Cursor.{drop_symbols}
use Rattle.ir_grammar_consts.specs.Depth.{open_after}
use Rattle.ir_grammar_consts.proofs.Sides.{is_false}
use Rattle.ir_const.specs.Reach.{is_address_word, one_more, reach}
use Rattle.ir_const.specs.Answers.{symbols_from}
use Rattle.ir_const.proofs.DeepCount.{apart_65, got_or, none_left}

-- the end is at this token, where a bracket nests too deep
pub reach_too_deep : (text : List ℕ) (toks : List Token) (at n : ℕ) (d : Token) → at < length toks → (r : ℕ) → r ≡ open_after n (symbol_of text (get_or toks at d)) → r ≡ 65
    → reach n (symbols_from text toks at) ≡ (1, true)
unfolding reach
reach_too_deep text toks at n d low r is e =
    rw (drop_symbols text toks at (get_or toks at d) (got_or toks at d low), eq-eqb (open_after n (symbol_of text (get_or toks at d))) 65 (sym is ∙ e)) refl

-- or where no bracket is open, and it is no word of an address
pub reach_shut : (text : List ℕ) (toks : List Token) (at n : ℕ) (d : Token) → at < length toks → (r : ℕ) → r ≡ open_after n (symbol_of text (get_or toks at d)) → (r ≡ 65 → ⊥)
    → r ≡ 0 → is_address_word (symbol_of text (get_or toks at d)) ≡ false → reach n (symbols_from text toks at) ≡ (1, false)
unfolding reach
reach_shut text toks at n d low r is other none word =
    let apart = apart_65 (open_after n (symbol_of text (get_or toks at d))) r is other in
    let shut = eq-eqb (open_after n (symbol_of text (get_or toks at d))) 0 (sym is ∙ none) in
    rw (drop_symbols text toks at (get_or toks at d) (got_or toks at d low), apart, shut, word) refl

-- the test of both
goes_on : (m : ℕ) (word : Bool) → (m ≡ 0 → word ≡ false → ⊥) → ((m == 0) && not word) ≡ false
goes_on zero true h = refl
goes_on zero false h = absurd (h refl refl)
goes_on (suc m) word h =
    let some : (suc m == 0) ≡ false = is_false (suc m == 0) (λ e. absurd (omega (arith, eqb-true (suc m) 0 e))) in rw some refl

-- else it comes later
pub reach_on : (text : List ℕ) (toks : List Token) (at n : ℕ) (d : Token) → at < length toks → (r : ℕ) → r ≡ open_after n (symbol_of text (get_or toks at d)) → (r ≡ 65 → ⊥)
    → (r ≡ 0 → is_address_word (symbol_of text (get_or toks at d)) ≡ false → ⊥) → reach n (symbols_from text toks at) ≡ one_more (reach r (symbols_from text toks (at + 1)))
unfolding reach
reach_on text toks at n d low r is other opening =
    let t : Symbol = symbol_of text (get_or toks at d) in
    let apart = apart_65 (open_after n t) r is other in
    let more = goes_on (open_after n t) (is_address_word t) (λ none word. opening (is ∙ none) word) in
    rw (drop_symbols text toks at (get_or toks at d) (got_or toks at d low), apart, more, is) refl

-- there are no more tokens
pub reach_out : (text : List ℕ) (toks : List Token) (at n : ℕ) → length toks ≤ at → reach n (symbols_from text toks at) ≡ (0, false)
unfolding reach
reach_out text toks at n h = rw (none_left toks text at h) refl
