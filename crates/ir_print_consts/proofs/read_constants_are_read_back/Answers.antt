use Rattle.std.proofs.Common.{ℕ, List, ◌++◌, length, drop, arith, ap, ◌∙◌}
use Rattle.grammar.specs.FirstWrong.{Reads}
use Rattle.grammar.specs.Reader.{Got}
use Rattle.grammar.proofs.Reading.{reads_back_closed}
use Rattle.ir_lex.specs.Symbols.{Symbol, symbols_of}
use Rattle.ir_lex.specs.declared.token.Token.{Token}
use Rattle.ir_print_symbols.specs.Printed.{joined, AreBytes, ArePrintable}
use Rattle.ir_print_symbols.proofs.Readable.{symbols_are_readable}
use Rattle.ir_print_symbols.proofs.Walks.{joined_spells, spells_alone}
use Rattle.ir_tree.specs.Shape.{ConstShape}
use Rattle.ir_grammar_consts.specs.Constants.{const, run_const}
use Rattle.ir_grammar_consts.specs.Spelling.{const_spelling}
use Rattle.ir_grammar_consts.proofs.ConstFits.{const_fits}
use Rattle.ir_grammar_consts.proofs.ConstLaw.{good_const}
use Rattle.ir_grammar_consts.proofs.ConstSpelled.{spelled_const}
use Rattle.ir_print_consts.proofs.PrintableTypes.{front_of, readable_drop, printable_both}
use Rattle.ir_print_consts.proofs.PrintableConsts.{const_printable}
use Rattle.ir_print_consts.proofs.read_constants_are_read_back.Goals as goal

printable : (text : List ℕ) (toks : List Token) (from : ℕ) (c : ConstShape) (behind : List Symbol) → AreBytes text
    → Reads const (drop from (symbols_of text toks)) (Got c behind) → ArePrintable (const_spelling c)
printable text toks from c behind bytes reads =
    const_printable reads.0 c reads.2 (front_of (drop from (symbols_of text toks)) reads.0 behind reads.1 (readable_drop from (symbols_of text toks) (symbols_are_readable text toks bytes)))

pub returns-clause-printable : goal.returns-clause-printable
returns-clause-printable goals = printable

pub returns-clause-spelled : goal.returns-clause-spelled
returns-clause-spelled goals text toks from c behind rest bytes reads others =
    joined_spells (const_spelling c ++ rest) (printable_both (const_spelling c) rest (printable text toks from c behind bytes reads) others)

pub returns-clause-back : goal.returns-clause-back
returns-clause-back goals text toks from c behind rest again bytes reads others tokens =
    let all = printable_both (const_spelling c) rest (printable text toks from c behind bytes reads) others in
    let whole = joined (const_spelling c ++ rest) in
    ap (λ ss. run_const (length ss) ss) (spells_alone whole (const_spelling c ++ rest) again (joined_spells (const_spelling c ++ rest) all) tokens)
    ∙ reads_back_closed (good_const (length (const_spelling c ++ rest))) (const_spelling c) rest c (spelled_const c (const_fits reads.0 c reads.2)) (omega arith)
