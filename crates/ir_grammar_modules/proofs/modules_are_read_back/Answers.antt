use Rattle.std.proofs.Common.{[], ◌++◌, length, arith, ap, subst, ◌≡◌, List}
use Rattle.std.proofs.lemmas.List.{append-nil}
use Rattle.grammar.proofs.Reading.{reads_back}
use Rattle.grammar.specs.Reader.{Got}
use Rattle.ir_lex.specs.Symbols.{Symbol}
use Rattle.ir_grammar_modules.specs.Modules.{run_module}
use Rattle.ir_grammar_modules.specs.Spelling.{module_spelling}
use Rattle.ir_grammar_modules.proofs.ItemLaw.{good_module}
use Rattle.ir_grammar_modules.proofs.ModuleFits.{module_fits}
use Rattle.ir_grammar_modules.proofs.ModuleSpelled.{spelled_module}
use Rattle.ir_grammar_modules.proofs.modules_are_read_back.Goals as goal

pub returns-clause-fits : goal.returns-clause-fits
returns-clause-fits c symbols m word = module_fits symbols m word

pub returns-clause-back : goal.returns-clause-back
returns-clause-back c m fits =
    let word : List Symbol = module_spelling m in
    let same : word ++ [] ≡ word = append-nil word in
    subst (λ z. run_module (length word) z ≡ Got m []) same
    (reads_back (good_module (length word)) word [] m (spelled_module m fits) tt (omega (arith, ap length same)))
