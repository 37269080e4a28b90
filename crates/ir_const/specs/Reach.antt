-- How far the symbols of one type or constant go at most.
use Rattle.std.specs.Prelude.{ℕ, suc, ◌==◌, ◌&&◌, Bool, true, false, not, List, [], ◌∷◌, if◌then◌else◌}
use Rattle.ir_words.specs.declared.words.Keyword.TheVariants.{GetElementPtr, InBounds, Nuw}
use Rattle.ir_lex.specs.Symbols.{Symbol, KeywordSymbol}
use Rattle.ir_grammar_consts.specs.Depth.{open_after}

-- the words that a constant may have before its first bracket: `getelementptr` and its flags
abbrev pub is_address_word : Symbol → Bool
is_address_word (KeywordSymbol GetElementPtr) = true
is_address_word (KeywordSymbol InBounds) = true
is_address_word (KeywordSymbol Nuw) = true
is_address_word _ = false

-- one symbol more
abbrev pub one_more : ℕ × Bool → ℕ × Bool
one_more r = (suc r.0, r.1)

-- where n brackets are open before these symbols: they go up to and with the first bracket that is the 65th
-- open one, or up to and with the first symbol but those words after which none is open, whichever comes
-- first, or else to the end. How many symbols, and whether the last one is such a bracket.
unfoldable pub reach : ℕ → List Symbol → ℕ × Bool
reach n [] = (0, false)
reach n (t ∷ ts) =
    if open_after n t == 65 then (1, true)
    else (if (open_after n t == 0) && not (is_address_word t) then (1, false) else one_more (reach (open_after n t) ts))
