use Rattle.ir_print.proofs.Lines.{rows_are}
use Rattle.ir_print.proofs.module_lines_are_its_spelling.Goals as goal

pub returns : goal.returns
returns c m = rows_are m
