-- Where the readers of blocks give a value, a front of the list spells it.
use Rattle.std.proofs.Common.{ℕ, zero, suc, List}
use Rattle.grammar.specs.Reader.{Reader, heads}
use Rattle.ir_tree.specs.Shape.{InstShape}
use Rattle.ir_lex.specs.Symbols.{Symbol}
use Rattle.ir_grammar_insts.specs.Operands.{local_name}
use Rattle.ir_grammar_insts.specs.Instructions.{phi_word}
use Rattle.ir_grammar_modules.specs.Blocks.{label_name, last_line, after_phis, lines, block, first_block, line_word, told_lines, begins_inst, begins_word, run_last_line, run_after_phis, run_line_word, run_told_lines, run_lines, run_block, run_first_block}
use Rattle.ir_grammar_modules.proofs.LinesToldApart.{lines_in}
use Rattle.ir_read_modules.proofs.Sound.{Sound, sound_within, sound_one, sound_map, sound_seq, sound_maybe, sound_or, sound_many}
use Rattle.ir_read_modules.proofs.SoundLines.{sound_result, sound_phi, sound_inst, sound_inst_line, sound_term}

sound_last : (n : ℕ) → Sound last_line (run_last_line n)
sound_last n = sound_map _ (sound_term n)

sound_after : (n : ℕ) → Sound after_phis (run_after_phis n)
sound_after n = sound_map _ (sound_seq (sound_many n begins_inst (sound_inst_line n)) (sound_last n))

sound_word : (n : ℕ) (r : Reader Symbol (List InstShape)) → Sound lines r → Sound (line_word lines) (run_line_word n r)
sound_word n r g = sound_or (heads phi_word) (sound_seq (sound_phi n) g) (sound_seq (sound_inst n) (sound_after n))

sound_told : (n : ℕ) (r : Reader Symbol (List InstShape)) → Sound lines r → Sound (told_lines lines) (run_told_lines n r)
sound_told n r g =
    sound_or (heads local_name) (sound_map _ (sound_seq sound_result (sound_word n r g)))
    (sound_or begins_word (sound_map _ (sound_word n r g)) (sound_last n))

pub sound_lines : (n : ℕ) → Sound lines (run_lines n)
unfolding run_lines
sound_lines zero = record { at = λ ts. tt }
sound_lines (suc n) = sound_within (record { at = lines_in }) (sound_told (suc n) (run_lines n) (sound_lines n))

pub sound_block : (n : ℕ) → Sound block (run_block n)
sound_block n = sound_map _ (sound_seq (sound_one label_name) (sound_lines n))

pub sound_first_block : (n : ℕ) → Sound first_block (run_first_block n)
sound_first_block n = sound_seq (sound_maybe (heads label_name) (sound_one label_name)) (sound_lines n)
