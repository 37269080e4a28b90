use Rattle.std.proofs.Common.{ℕ, List, ◌++◌, length, drop, arith, ap, ◌∙◌}
use Rattle.grammar.specs.FirstWrong.{Reads}
use Rattle.grammar.specs.Reader.{Got}
use Rattle.grammar.proofs.Reading.{reads_back_closed}
use Rattle.ir_lex.specs.Symbols.{Symbol, symbols_of}
use Rattle.ir_lex.specs.declared.token.Token.{Token}
use Rattle.ir_print_symbols.specs.Printed.{joined, AreBytes, ArePrintable}
use Rattle.ir_print_symbols.proofs.Readable.{symbols_are_readable}
use Rattle.ir_print_symbols.proofs.Walks.{joined_spells, spells_alone}
use Rattle.ir_tree.specs.Shape.{TyShape}
use Rattle.ir_grammar_consts.specs.Types.{ty, run_ty}
use Rattle.ir_grammar_consts.specs.Spelling.{ty_spelling}
use Rattle.ir_grammar_consts.proofs.TypeFits.{ty_fits}
use Rattle.ir_grammar_consts.proofs.TypeLaw.{good_ty}
use Rattle.ir_grammar_consts.proofs.TypeSpelled.{spelled_ty}
use Rattle.ir_print_consts.proofs.PrintableTypes.{front_of, readable_drop, printable_both}
use Rattle.ir_print_consts.proofs.PrintableTypes.{ty_printable}
use Rattle.ir_print_consts.proofs.read_types_are_read_back.Goals as goal

printable : (text : List ℕ) (toks : List Token) (from : ℕ) (t : TyShape) (behind : List Symbol) → AreBytes text
    → Reads ty (drop from (symbols_of text toks)) (Got t behind) → ArePrintable (ty_spelling t)
printable text toks from t behind bytes reads =
    ty_printable reads.0 t reads.2 (front_of (drop from (symbols_of text toks)) reads.0 behind reads.1 (readable_drop from (symbols_of text toks) (symbols_are_readable text toks bytes)))

pub returns-clause-printable : goal.returns-clause-printable
returns-clause-printable goals = printable

pub returns-clause-spelled : goal.returns-clause-spelled
returns-clause-spelled goals text toks from t behind rest bytes reads others =
    joined_spells (ty_spelling t ++ rest) (printable_both (ty_spelling t) rest (printable text toks from t behind bytes reads) others)

pub returns-clause-back : goal.returns-clause-back
returns-clause-back goals text toks from t behind rest again bytes reads others tokens =
    let all = printable_both (ty_spelling t) rest (printable text toks from t behind bytes reads) others in
    let whole = joined (ty_spelling t ++ rest) in
    ap (λ ss. run_ty (length ss) ss) (spells_alone whole (ty_spelling t ++ rest) again (joined_spells (ty_spelling t ++ rest) all) tokens)
    ∙ reads_back_closed (good_ty (length (ty_spelling t ++ rest))) (ty_spelling t) rest t (spelled_ty t (ty_fits reads.0 t reads.2)) (omega arith)
