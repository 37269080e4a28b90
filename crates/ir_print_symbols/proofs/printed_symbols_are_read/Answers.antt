use Rattle.ir_print_symbols.proofs.Walks.{joined_spells, laid_out_spells, spells_alone}
use Rattle.ir_print_symbols.proofs.Lines.{lines_spell}
use Rattle.ir_print_symbols.proofs.printed_symbols_are_read.Goals as goal

pub returns-clause-in_a_row : goal.returns-clause-in_a_row
returns-clause-in_a_row c = joined_spells

pub returns-clause-with_blanks : goal.returns-clause-with_blanks
returns-clause-with_blanks c = laid_out_spells

pub returns-clause-no_others : goal.returns-clause-no_others
returns-clause-no_others c = spells_alone

pub returns-clause-line_by_line : goal.returns-clause-line_by_line
returns-clause-line_by_line c = lines_spell
