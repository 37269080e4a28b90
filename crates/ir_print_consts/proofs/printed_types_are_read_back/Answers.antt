use Rattle.std.proofs.Common.{◌≡◌, ℕ, List, ◌++◌, length, arith, ap, ◌∙◌}
use Rattle.grammar.specs.Reader.{Got}
use Rattle.grammar.proofs.Reading.{reads_back_closed}
use Rattle.ir_lex.specs.Symbols.{Symbol, symbols_of}
use Rattle.ir_lex.specs.Tokens.{AreTokens}
use Rattle.ir_lex.specs.declared.token.Token.{Token}
use Rattle.ir_print_symbols.specs.Printed.{joined}
use Rattle.ir_print_symbols.specs.Spells.{Spells}
use Rattle.ir_print_symbols.proofs.Walks.{joined_spells, spells_alone}
use Rattle.ir_tree.specs.Shape.{TyShape}
use Rattle.ir_grammar_consts.specs.Types.{run_ty}
use Rattle.ir_grammar_consts.specs.Spelling.{ty_spelling, FitsTy}
use Rattle.ir_grammar_consts.proofs.TypeLaw.{good_ty}
use Rattle.ir_grammar_consts.proofs.TypeSpelled.{spelled_ty}
use Rattle.ir_print_consts.proofs.printed_types_are_read_back.Goals as goal

read_back : (t : TyShape) (rest : List Symbol) (text : List ℕ) (toks : List Token) → FitsTy t → Spells text (ty_spelling t ++ rest) → AreTokens text toks
    → run_ty (length (symbols_of text toks)) (symbols_of text toks) ≡ Got t rest
read_back t rest text toks fits spells tokens =
    ap (λ ss. run_ty (length ss) ss) (spells_alone text (ty_spelling t ++ rest) toks spells tokens)
    ∙ reads_back_closed (good_ty (length (ty_spelling t ++ rest))) (ty_spelling t) rest t (spelled_ty t fits) (omega arith)

pub returns-clause-spelled : goal.returns-clause-spelled
returns-clause-spelled c t rest printable = joined_spells (ty_spelling t ++ rest) printable

pub returns-clause-back : goal.returns-clause-back
returns-clause-back c = read_back

pub returns-clause-printed : goal.returns-clause-printed
returns-clause-printed c t rest toks fits printable tokens =
    read_back t rest (joined (ty_spelling t ++ rest)) toks fits (joined_spells (ty_spelling t ++ rest) printable) tokens
