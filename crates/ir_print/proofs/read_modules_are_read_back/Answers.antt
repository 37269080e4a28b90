use Rattle.std.proofs.Common.{ℕ, List}
use Rattle.ir_lex.specs.Symbols.{symbols_of}
use Rattle.ir_lex.specs.declared.token.Token.{Token}
use Rattle.ir_print_symbols.specs.Printed.{AreBytes, ArePrintable}
use Rattle.ir_print_symbols.specs.Spells.{Spells}
use Rattle.ir_print_symbols.proofs.Readable.{symbols_are_readable}
use Rattle.ir_tree.specs.Shape.{ModuleShape}
use Rattle.ir_grammar_modules.specs.Modules.{whole_module}
use Rattle.ir_grammar_modules.specs.Spelling.{module_spelling}
use Rattle.ir_grammar_modules.proofs.ModuleFits.{module_fits}
use Rattle.ir_print.specs.Printed.{module_text}
use Rattle.ir_print.proofs.Lines.{module_spelled, module_back, module_word}
use Rattle.ir_print.proofs.PrintableModules.{module_printable}
use Rattle.ir_print.proofs.read_modules_are_read_back.Goals as goal

printable : (text : List ℕ) (toks : List Token) (m : ModuleShape) → AreBytes text → whole_module (symbols_of text toks) m → ArePrintable (module_spelling m)
printable text toks m bytes word = module_printable (symbols_of text toks) m word (symbols_are_readable text toks bytes)

spelled : (text : List ℕ) (toks : List Token) (m : ModuleShape) → AreBytes text → whole_module (symbols_of text toks) m → Spells (module_text m) (module_spelling m)
spelled text toks m bytes word = module_spelled m (printable text toks m bytes word)

pub returns-clause-printable : goal.returns-clause-printable
returns-clause-printable c = printable

pub returns-clause-spelled : goal.returns-clause-spelled
returns-clause-spelled c = spelled

pub returns-clause-spells_it : goal.returns-clause-spells_it
returns-clause-spells_it c text toks m again bytes word tokens =
    module_word m (module_text m) again (module_fits (symbols_of text toks) m word) (spelled text toks m bytes word) tokens

pub returns-clause-back : goal.returns-clause-back
returns-clause-back c text toks m again bytes word tokens =
    module_back m (module_text m) again (module_fits (symbols_of text toks) m word) (spelled text toks m bytes word) tokens
