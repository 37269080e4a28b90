-- Printed rows of symbols in a row.
use Rattle.std.proofs.Common.{◌≡◌, List, [], ◌∷◌, ◌++◌, refl, ap, sym, ◌∙◌, append_assoc}
use Rattle.ir_lex.specs.Symbols.{Symbol}
use Rattle.ir_print_symbols.specs.Printed.{text_of_symbol, between, joined, joined_after, last_of}

-- the text of two rows is that of the first, and then that of the second after the first one's last symbol
pub joined_after-append : (a : Symbol) (ss ts : List Symbol) → joined_after a (ss ++ ts) ≡ joined_after a ss ++ joined_after (last_of a ss) ts
joined_after-append a [] ts = refl
joined_after-append a (s ∷ ss) ts =
    ap (λ t. between a s ++ (text_of_symbol s ++ t)) (joined_after-append s ss ts)
    ∙ ap (λ t. between a s ++ t) (sym (append_assoc (text_of_symbol s) (joined_after s ss) (joined_after (last_of s ss) ts)))
    ∙ sym (append_assoc (between a s) (text_of_symbol s ++ joined_after s ss) (joined_after (last_of s ss) ts))

pub joined-append : (s : Symbol) (ss ts : List Symbol) → joined (s ∷ ss ++ ts) ≡ joined (s ∷ ss) ++ joined_after (last_of s ss) ts
joined-append s ss ts = ap (λ t. text_of_symbol s ++ t) (joined_after-append s ss ts) ∙ sym (append_assoc (text_of_symbol s) (joined_after s ss) (joined_after (last_of s ss) ts))
