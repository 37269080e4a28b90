use Rattle.std.proofs.Common.{◌≡◌, ℕ, List, ◌++◌, length, arith, ap, ◌∙◌}
use Rattle.grammar.specs.Reader.{Got}
use Rattle.grammar.proofs.Reading.{reads_back_closed}
use Rattle.ir_lex.specs.Symbols.{Symbol, symbols_of}
use Rattle.ir_lex.specs.Tokens.{AreTokens}
use Rattle.ir_lex.specs.declared.token.Token.{Token}
use Rattle.ir_print_symbols.specs.Printed.{joined}
use Rattle.ir_print_symbols.specs.Spells.{Spells}
use Rattle.ir_print_symbols.proofs.Walks.{joined_spells, spells_alone}
use Rattle.ir_tree.specs.Shape.{ConstShape}
use Rattle.ir_grammar_consts.specs.Constants.{run_const}
use Rattle.ir_grammar_consts.specs.Spelling.{const_spelling, FitsConst}
use Rattle.ir_grammar_consts.proofs.ConstLaw.{good_const}
use Rattle.ir_grammar_consts.proofs.ConstSpelled.{spelled_const}
use Rattle.ir_print_consts.proofs.printed_constants_are_read_back.Goals as goal

read_back : (t : ConstShape) (rest : List Symbol) (text : List ℕ) (toks : List Token) → FitsConst t → Spells text (const_spelling t ++ rest) → AreTokens text toks
    → run_const (length (symbols_of text toks)) (symbols_of text toks) ≡ Got t rest
read_back t rest text toks fits spells tokens =
    ap (λ ss. run_const (length ss) ss) (spells_alone text (const_spelling t ++ rest) toks spells tokens)
    ∙ reads_back_closed (good_const (length (const_spelling t ++ rest))) (const_spelling t) rest t (spelled_const t fits) (omega arith)

pub returns-clause-spelled : goal.returns-clause-spelled
returns-clause-spelled c t rest printable = joined_spells (const_spelling t ++ rest) printable

pub returns-clause-back : goal.returns-clause-back
returns-clause-back c = read_back

pub returns-clause-printed : goal.returns-clause-printed
returns-clause-printed c t rest toks fits printable tokens =
    read_back t rest (joined (const_spelling t ++ rest)) toks fits (joined_spells (const_spelling t ++ rest) printable) tokens
