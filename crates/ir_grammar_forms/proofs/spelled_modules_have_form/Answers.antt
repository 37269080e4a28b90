use Rattle.ir_grammar_modules.proofs.ModuleFits as grammar
use Rattle.ir_grammar_modules.proofs.ModuleSpelled.{spelled_module}
use Rattle.ir_grammar_forms.proofs.ModuleForms.{module_form, module_fits}
use Rattle.ir_grammar_forms.proofs.spelled_modules_have_form.Goals as goal

pub returns-clause-form : goal.returns-clause-form
returns-clause-form c symbols m word = module_form m (grammar.module_fits symbols m word)

pub returns-clause-spelled : goal.returns-clause-spelled
returns-clause-spelled c m form = spelled_module m (module_fits m form)
