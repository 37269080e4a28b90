-- The words of the example, one by one.
use Rattle.std.proofs.Common.{List, arith}
use Rattle.std.specs.Prelude.{pos, negsuc}
use Rattle.rv_inst.specs.declared.instruction.Form.TheVariants.{ADDI, BEQ, JAL, JALR, LD, SD}
use Rattle.rv_inst.specs.Word.{Word}
use Rattle.rv_model.specs.Text.{WordsOf}
use Rattle.ir_model.specs.Values.{Value}
use Rattle.flip_guards.specs.Sources.{Part}
use Rattle.done_calls.specs.Example.{small_words, small_code}

word1 : Word 0xf8010113 (ADDI 2 2 (negsuc 127))
word1 = ((omega arith, omega arith, omega arith), omega arith)

word2 : Word 0xf8018193 (ADDI 3 3 (negsuc 127))
word2 = ((omega arith, omega arith, omega arith), omega arith)

word3 : Word 0xf8020213 (ADDI 4 4 (negsuc 127))
word3 = ((omega arith, omega arith, omega arith), omega arith)

word4 : Word 0x00310463 (BEQ 2 3 (pos 8))
word4 = ((omega arith, omega arith, omega arith, omega arith), omega arith)

word5 : Word 0x00020113 (ADDI 2 4 (pos 0))
word5 = ((omega arith, omega arith, omega arith), omega arith)

word6 : Word 0x08813283 (LD 5 2 (pos 136))
word6 = ((omega arith, omega arith, omega arith), omega arith)

word7 : Word 0x00513423 (SD 2 5 (pos 8))
word7 = ((omega arith, omega arith, omega arith), omega arith)

word8 : Word 0x09013283 (LD 5 2 (pos 144))
word8 = ((omega arith, omega arith, omega arith), omega arith)

word9 : Word 0x00513823 (SD 2 5 (pos 16))
word9 = ((omega arith, omega arith, omega arith), omega arith)

word10 : Word 0x09813283 (LD 5 2 (pos 152))
word10 = ((omega arith, omega arith, omega arith), omega arith)

word11 : Word 0x00513c23 (SD 2 5 (pos 24))
word11 = ((omega arith, omega arith, omega arith), omega arith)

word12 : Word 0x058000ef (JAL 1 (pos 88))
word12 = ((omega arith, omega arith, omega arith), omega arith)

word13 : Word 0x06813283 (LD 5 2 (pos 104))
word13 = ((omega arith, omega arith, omega arith), omega arith)

word14 : Word 0x0a513023 (SD 2 5 (pos 160))
word14 = ((omega arith, omega arith, omega arith), omega arith)

word15 : Word 0x07013283 (LD 5 2 (pos 112))
word15 = ((omega arith, omega arith, omega arith), omega arith)

word16 : Word 0x0a513423 (SD 2 5 (pos 168))
word16 = ((omega arith, omega arith, omega arith), omega arith)

word17 : Word 0x07813283 (LD 5 2 (pos 120))
word17 = ((omega arith, omega arith, omega arith), omega arith)

word18 : Word 0x0a513823 (SD 2 5 (pos 176))
word18 = ((omega arith, omega arith, omega arith), omega arith)

word19 : Word 0x08010113 (ADDI 2 2 (pos 128))
word19 = ((omega arith, omega arith, omega arith), omega arith)

word20 : Word 0x08018193 (ADDI 3 3 (pos 128))
word20 = ((omega arith, omega arith, omega arith), omega arith)

word21 : Word 0x08020213 (ADDI 4 4 (pos 128))
word21 = ((omega arith, omega arith, omega arith), omega arith)

word22 : Word 0x00113023 (SD 2 1 (pos 0))
word22 = ((omega arith, omega arith, omega arith), omega arith)

word23 : Word 0x00813283 (LD 5 2 (pos 8))
word23 = ((omega arith, omega arith, omega arith), omega arith)

word24 : Word 0x06513423 (SD 2 5 (pos 104))
word24 = ((omega arith, omega arith, omega arith), omega arith)

word25 : Word 0x01013283 (LD 5 2 (pos 16))
word25 = ((omega arith, omega arith, omega arith), omega arith)

word26 : Word 0x06513823 (SD 2 5 (pos 112))
word26 = ((omega arith, omega arith, omega arith), omega arith)

word27 : Word 0x01813283 (LD 5 2 (pos 24))
word27 = ((omega arith, omega arith, omega arith), omega arith)

word28 : Word 0x06513c23 (SD 2 5 (pos 120))
word28 = ((omega arith, omega arith, omega arith), omega arith)

word29 : Word 0x00013083 (LD 1 2 (pos 0))
word29 = ((omega arith, omega arith, omega arith), omega arith)

word30 : Word 0x00008067 (JALR 0 1 (pos 0))
word30 = ((omega arith, omega arith, omega arith), omega arith)

pub are_words : (parts : Value → List Part) → WordsOf small_words (small_code parts)
are_words parts = (word1, (word2, (word3, (word4, (word5, (word6, (word4, (word5, (word7, (word4, (word5, (word8, (word4, (word5, (word9, (word4, (word5, (word10, (word4, (word5, (word11, (word12, (word4, (word5, (word13, (word4, (word5, (word14, (word4, (word5, (word15, (word4, (word5, (word16, (word4, (word5, (word17, (word4, (word5, (word18, (word19, (word20, (word21, (word4, (word5, (word22, (word4, (word5, (word23, (word4, (word5, (word24, (word4, (word5, (word25, (word4, (word5, (word26, (word4, (word5, (word27, (word4, (word5, (word28, (word4, (word5, (word29, (word30, tt))))))))))))))))))))))))))))))))))))))))))))))))))))))))))))))))))))
