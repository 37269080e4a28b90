use Rattle.ir_print.specs.Printed.{module_text}
use Rattle.ir_print.proofs.Lines.{module_spelled, module_back, module_word}
use Rattle.ir_print.proofs.printed_modules_are_read_back.Goals as goal

pub returns-clause-spelled : goal.returns-clause-spelled
returns-clause-spelled c m printable = module_spelled m printable

pub returns-clause-back : goal.returns-clause-back
returns-clause-back c m text toks fits spells tokens = module_back m text toks fits spells tokens

pub returns-clause-printed : goal.returns-clause-printed
returns-clause-printed c m toks fits printable tokens = module_back m (module_text m) toks fits (module_spelled m printable) tokens

pub returns-clause-spells_it : goal.returns-clause-spells_it
returns-clause-spells_it c m toks fits printable tokens = module_word m (module_text m) toks fits (module_spelled m printable) tokens
