-- The words of the program, one by one.
use Rattle.std.proofs.Common.{arith}
use Rattle.std.specs.Prelude.{pos}
use Rattle.rv_inst.specs.declared.instruction.Form.TheVariants.{LUI, ADDI, BEQ, LD, SD, ECALL}
use Rattle.rv_inst.specs.Word.{Word}
use Rattle.rv_model.specs.Text.{WordsOf}
use Rattle.flip_programs.specs.Programs.{program_code}
use Rattle.flip_flow_examples.specs.Swap.{swap_words, swap_code}

word1 : Word 0x10000137 (LUI 2 (pos 65536))
word1 = ((omega arith, omega arith), omega arith)

word2 : Word 0x100001b7 (LUI 3 (pos 65536))
word2 = ((omega arith, omega arith), omega arith)

word3 : Word 0x10000237 (LUI 4 (pos 65536))
word3 = ((omega arith, omega arith), omega arith)

word4 : Word 0x00700293 (ADDI 5 0 (pos 7))
word4 = ((omega arith, omega arith, omega arith), omega arith)

word5 : Word 0x00310463 (BEQ 2 3 (pos 8))
word5 = ((omega arith, omega arith, omega arith, omega arith), omega arith)

word6 : Word 0x00020113 (ADDI 2 4 (pos 0))
word6 = ((omega arith, omega arith, omega arith), omega arith)

word7 : Word 0x00513023 (SD 2 5 (pos 0))
word7 = ((omega arith, omega arith, omega arith), omega arith)

word8 : Word 0x00513423 (SD 2 5 (pos 8))
word8 = ((omega arith, omega arith, omega arith), omega arith)

word9 : Word 0x00513823 (SD 2 5 (pos 16))
word9 = ((omega arith, omega arith, omega arith), omega arith)

word10 : Word 0x00800293 (ADDI 5 0 (pos 8))
word10 = ((omega arith, omega arith, omega arith), omega arith)

word11 : Word 0x00513c23 (SD 2 5 (pos 24))
word11 = ((omega arith, omega arith, omega arith), omega arith)

word12 : Word 0x02513023 (SD 2 5 (pos 32))
word12 = ((omega arith, omega arith, omega arith), omega arith)

word13 : Word 0x02513423 (SD 2 5 (pos 40))
word13 = ((omega arith, omega arith, omega arith), omega arith)

word14 : Word 0x01813283 (LD 5 2 (pos 24))
word14 = ((omega arith, omega arith, omega arith), omega arith)

word15 : Word 0x02513823 (SD 2 5 (pos 48))
word15 = ((omega arith, omega arith, omega arith), omega arith)

word16 : Word 0x02013283 (LD 5 2 (pos 32))
word16 = ((omega arith, omega arith, omega arith), omega arith)

word17 : Word 0x02513c23 (SD 2 5 (pos 56))
word17 = ((omega arith, omega arith, omega arith), omega arith)

word18 : Word 0x02813283 (LD 5 2 (pos 40))
word18 = ((omega arith, omega arith, omega arith), omega arith)

word19 : Word 0x04513023 (SD 2 5 (pos 64))
word19 = ((omega arith, omega arith, omega arith), omega arith)

word20 : Word 0x00013283 (LD 5 2 (pos 0))
word20 = ((omega arith, omega arith, omega arith), omega arith)

word21 : Word 0x04513423 (SD 2 5 (pos 72))
word21 = ((omega arith, omega arith, omega arith), omega arith)

word22 : Word 0x00813283 (LD 5 2 (pos 8))
word22 = ((omega arith, omega arith, omega arith), omega arith)

word23 : Word 0x04513823 (SD 2 5 (pos 80))
word23 = ((omega arith, omega arith, omega arith), omega arith)

word24 : Word 0x01013283 (LD 5 2 (pos 16))
word24 = ((omega arith, omega arith, omega arith), omega arith)

word25 : Word 0x04513c23 (SD 2 5 (pos 88))
word25 = ((omega arith, omega arith, omega arith), omega arith)

word26 : Word 0x03013283 (LD 5 2 (pos 48))
word26 = ((omega arith, omega arith, omega arith), omega arith)

word27 : Word 0x03813283 (LD 5 2 (pos 56))
word27 = ((omega arith, omega arith, omega arith), omega arith)

word28 : Word 0x04013283 (LD 5 2 (pos 64))
word28 = ((omega arith, omega arith, omega arith), omega arith)

word29 : Word 0x04813283 (LD 5 2 (pos 72))
word29 = ((omega arith, omega arith, omega arith), omega arith)

word30 : Word 0x05013283 (LD 5 2 (pos 80))
word30 = ((omega arith, omega arith, omega arith), omega arith)

word31 : Word 0x05813283 (LD 5 2 (pos 88))
word31 = ((omega arith, omega arith, omega arith), omega arith)

word32 : Word 0x00000513 (ADDI 10 0 (pos 0))
word32 = ((omega arith, omega arith, omega arith), omega arith)

word33 : Word 0x05d00893 (ADDI 17 0 (pos 93))
word33 = ((omega arith, omega arith, omega arith), omega arith)

word34 : Word 0x00000073 ECALL
word34 = (tt, omega arith)

pub are_words : WordsOf swap_words (program_code (pos 65536) swap_code (pos 0))
are_words = (word1, (word2, (word3, (word4, (word5, (word6, (word7, (word4, (word5, (word6, (word8, (word4, (word5, (word6, (word9, (word10, (word5, (word6, (word11, (word10, (word5, (word6, (word12, (word10, (word5, (word6, (word13, (word5, (word6, (word14, (word5, (word6, (word15, (word5, (word6, (word16, (word5, (word6, (word17, (word5, (word6, (word18, (word5, (word6, (word19, (word5, (word6, (word20, (word5, (word6, (word21, (word5, (word6, (word22, (word5, (word6, (word23, (word5, (word6, (word24, (word5, (word6, (word25, (word5, (word6, (word26, (word5, (word6, (word7, (word5, (word6, (word27, (word5, (word6, (word8, (word5, (word6, (word28, (word5, (word6, (word9, (word5, (word6, (word29, (word5, (word6, (word11, (word5, (word6, (word30, (word5, (word6, (word12, (word5, (word6, (word31, (word5, (word6, (word13, (word32, (word33, (word34, tt))))))))))))))))))))))))))))))))))))))))))))))))))))))))))))))))))))))))))))))))))))))))))))))))))))))
