-- The words of the text, one by one.
use Rattle.std.proofs.Common.{arith}
use Rattle.std.specs.Prelude.{pos, negsuc}
use Rattle.rv_inst.specs.declared.instruction.Form.TheVariants.{LUI, ADDI, ADD, BEQ, LD, SD}
use Rattle.rv_inst.specs.Word.{Word}
use Rattle.rv_model.specs.Text.{WordsOf}
use Rattle.flip_examples.specs.Addition.{addition_words, addition_code}

word1 : Word 0x00310463 (BEQ 2 3 (pos 8))
word1 = ((omega arith, omega arith, omega arith, omega arith), omega arith)

word2 : Word 0x00020113 (ADDI 2 4 (pos 0))
word2 = ((omega arith, omega arith, omega arith), omega arith)

word3 : Word 0x00013283 (LD 5 2 (pos 0))
word3 = ((omega arith, omega arith, omega arith), omega arith)

word4 : Word 0x01813303 (LD 6 2 (pos 24))
word4 = ((omega arith, omega arith, omega arith), omega arith)

word5 : Word 0x006282b3 (ADD 5 5 6)
word5 = ((omega arith, omega arith, omega arith), omega arith)

word6 : Word 0x02513823 (SD 2 5 (pos 48))
word6 = ((omega arith, omega arith, omega arith), omega arith)

word7 : Word 0x00813283 (LD 5 2 (pos 8))
word7 = ((omega arith, omega arith, omega arith), omega arith)

word8 : Word 0x02013303 (LD 6 2 (pos 32))
word8 = ((omega arith, omega arith, omega arith), omega arith)

word9 : Word 0x02513c23 (SD 2 5 (pos 56))
word9 = ((omega arith, omega arith, omega arith), omega arith)

word10 : Word 0x01013283 (LD 5 2 (pos 16))
word10 = ((omega arith, omega arith, omega arith), omega arith)

word11 : Word 0x02813303 (LD 6 2 (pos 40))
word11 = ((omega arith, omega arith, omega arith), omega arith)

word12 : Word 0x00001e37 (LUI 28 (pos 1))
word12 = ((omega arith, omega arith), omega arith)

word13 : Word 0x002e0e33 (ADD 28 28 2)
word13 = ((omega arith, omega arith, omega arith), omega arith)

word14 : Word 0x00001eb7 (LUI 29 (pos 1))
word14 = ((omega arith, omega arith), omega arith)

word15 : Word 0x003e8eb3 (ADD 29 29 3)
word15 = ((omega arith, omega arith, omega arith), omega arith)

word16 : Word 0x01de0663 (BEQ 28 29 (pos 12))
word16 = ((omega arith, omega arith, omega arith, omega arith), omega arith)

word17 : Word 0x004e0e33 (ADD 28 28 4)
word17 = ((omega arith, omega arith, omega arith), omega arith)

word18 : Word 0x965e3023 (SD 28 5 (negsuc 1695))
word18 = ((omega arith, omega arith, omega arith), omega arith)

word19 : Word 0x00813303 (LD 6 2 (pos 8))
word19 = ((omega arith, omega arith, omega arith), omega arith)

word20 : Word 0x01013383 (LD 7 2 (pos 16))
word20 = ((omega arith, omega arith, omega arith), omega arith)

word21 : Word 0x00628463 (BEQ 5 6 (pos 8))
word21 = ((omega arith, omega arith, omega arith, omega arith), omega arith)

word22 : Word 0x00038293 (ADDI 5 7 (pos 0))
word22 = ((omega arith, omega arith, omega arith), omega arith)

pub are_words : WordsOf addition_words addition_code
are_words = (word1, (word2, (word3, (word1, (word2, (word4, (word5, (word1, (word2, (word6, (word1, (word2, (word7, (word1, (word2, (word8, (word5, (word1, (word2, (word9, (word1, (word2, (word10, (word1, (word2, (word11, (word5, (word12, (word13, (word14, (word15, (word16, (word12, (word17, (word18, (word1, (word2, (word3, (word19, (word20, (word21, (word22, tt))))))))))))))))))))))))))))))))))))))))))
