-- The words of the program, one by one.
use Rattle.std.proofs.Common.{arith}
use Rattle.std.specs.Prelude.{pos, negsuc}
use Rattle.rv_inst.specs.declared.instruction.Form.TheVariants.{LUI, ADDI, SLLI, SUB, BEQ, BNE, JAL, LD, SD, ECALL}
use Rattle.rv_inst.specs.Word.{Word}
use Rattle.rv_model.specs.Text.{WordsOf}
use Rattle.flip_flow_examples.specs.Choice.{choice_words, choice_code}

word1 : Word 0x10000137 (LUI 2 (pos 65536))
word1 = ((omega arith, omega arith), omega arith)

word2 : Word 0x100001b7 (LUI 3 (pos 65536))
word2 = ((omega arith, omega arith), omega arith)

word3 : Word 0x10000237 (LUI 4 (pos 65536))
word3 = ((omega arith, omega arith), omega arith)

word4 : Word 0x00100293 (ADDI 5 0 (pos 1))
word4 = ((omega arith, omega arith, omega arith), omega arith)

word5 : Word 0x02829293 (SLLI 5 5 (pos 40))
word5 = ((omega arith, omega arith, omega arith), omega arith)

word6 : Word 0x00310463 (BEQ 2 3 (pos 8))
word6 = ((omega arith, omega arith, omega arith, omega arith), omega arith)

word7 : Word 0x00020113 (ADDI 2 4 (pos 0))
word7 = ((omega arith, omega arith, omega arith), omega arith)

word8 : Word 0x00513023 (SD 2 5 (pos 0))
word8 = ((omega arith, omega arith, omega arith), omega arith)

word9 : Word 0x00513423 (SD 2 5 (pos 8))
word9 = ((omega arith, omega arith, omega arith), omega arith)

word10 : Word 0x00513823 (SD 2 5 (pos 16))
word10 = ((omega arith, omega arith, omega arith), omega arith)

word11 : Word 0x01013383 (LD 7 2 (pos 16))
word11 = ((omega arith, omega arith, omega arith), omega arith)

word12 : Word 0x00813303 (LD 6 2 (pos 8))
word12 = ((omega arith, omega arith, omega arith), omega arith)

word13 : Word 0x00013283 (LD 5 2 (pos 0))
word13 = ((omega arith, omega arith, omega arith), omega arith)

word14 : Word 0xffb38393 (ADDI 7 7 (negsuc 4))
word14 = ((omega arith, omega arith, omega arith), omega arith)

word15 : Word 0xffb30313 (ADDI 6 6 (negsuc 4))
word15 = ((omega arith, omega arith, omega arith), omega arith)

word16 : Word 0xffb28293 (ADDI 5 5 (negsuc 4))
word16 = ((omega arith, omega arith, omega arith), omega arith)

word17 : Word 0x00628463 (BEQ 5 6 (pos 8))
word17 = ((omega arith, omega arith, omega arith, omega arith), omega arith)

word18 : Word 0x00038293 (ADDI 5 7 (pos 0))
word18 = ((omega arith, omega arith, omega arith), omega arith)

word19 : Word 0x00029463 (BNE 5 0 (pos 8))
word19 = ((omega arith, omega arith, omega arith, omega arith), omega arith)

word20 : Word 0x0b80006f (JAL 0 (pos 184))
word20 = ((omega arith, omega arith, omega arith), omega arith)

word21 : Word 0x12345e37 (LUI 28 (pos 74565))
word21 = ((omega arith, omega arith), omega arith)

word22 : Word 0x678e0e13 (ADDI 28 28 (pos 1656))
word22 = ((omega arith, omega arith, omega arith), omega arith)

word23 : Word 0x41c383b3 (SUB 7 7 28)
word23 = ((omega arith, omega arith, omega arith), omega arith)

word24 : Word 0x41c30333 (SUB 6 6 28)
word24 = ((omega arith, omega arith, omega arith), omega arith)

word25 : Word 0x41c282b3 (SUB 5 5 28)
word25 = ((omega arith, omega arith, omega arith), omega arith)

word26 : Word 0x0600006f (JAL 0 (pos 96))
word26 = ((omega arith, omega arith, omega arith), omega arith)

word27 : Word 0x00100e13 (ADDI 28 0 (pos 1))
word27 = ((omega arith, omega arith, omega arith), omega arith)

word28 : Word 0x028e1e13 (SLLI 28 28 (pos 40))
word28 = ((omega arith, omega arith, omega arith), omega arith)

word29 : Word 0x0240006f (JAL 0 (pos 36))
word29 = ((omega arith, omega arith, omega arith), omega arith)

word30 : Word 0x0040006f (JAL 0 (pos 4))
word30 = ((omega arith, omega arith, omega arith), omega arith)

word31 : Word 0x00100393 (ADDI 7 0 (pos 1))
word31 = ((omega arith, omega arith, omega arith), omega arith)

word32 : Word 0x00100313 (ADDI 6 0 (pos 1))
word32 = ((omega arith, omega arith, omega arith), omega arith)

word33 : Word 0x00100513 (ADDI 10 0 (pos 1))
word33 = ((omega arith, omega arith, omega arith), omega arith)

word34 : Word 0x00650463 (BEQ 10 6 (pos 8))
word34 = ((omega arith, omega arith, omega arith, omega arith), omega arith)

word35 : Word 0x00038513 (ADDI 10 7 (pos 0))
word35 = ((omega arith, omega arith, omega arith), omega arith)

word36 : Word 0x05d00893 (ADDI 17 0 (pos 93))
word36 = ((omega arith, omega arith, omega arith), omega arith)

word37 : Word 0x00000073 ECALL
word37 = (tt, omega arith)

word38 : Word 0x00200393 (ADDI 7 0 (pos 2))
word38 = ((omega arith, omega arith, omega arith), omega arith)

word39 : Word 0x00200313 (ADDI 6 0 (pos 2))
word39 = ((omega arith, omega arith, omega arith), omega arith)

word40 : Word 0x00200513 (ADDI 10 0 (pos 2))
word40 = ((omega arith, omega arith, omega arith), omega arith)

pub are_words : WordsOf choice_words choice_code
are_words = (word1, (word2, (word3, (word4, (word5, (word6, (word7, (word8, (word4, (word5, (word6, (word7, (word9, (word4, (word5, (word6, (word7, (word10, (word6, (word7, (word11, (word6, (word7, (word12, (word6, (word7, (word13, (word14, (word15, (word16, (word17, (word18, (word19, (word20, (word6, (word7, (word11, (word6, (word7, (word12, (word6, (word7, (word13, (word21, (word22, (word23, (word21, (word22, (word24, (word21, (word22, (word25, (word17, (word18, (word19, (word26, (word6, (word7, (word11, (word6, (word7, (word12, (word6, (word7, (word13, (word27, (word28, (word23, (word27, (word28, (word24, (word27, (word28, (word25, (word17, (word18, (word19, (word29, (word30, (word31, (word32, (word33, (word34, (word35, (word36, (word37, (word38, (word39, (word40, (word34, (word35, (word36, (word37, tt)))))))))))))))))))))))))))))))))))))))))))))))))))))))))))))))))))))))))))))))))))))))))))))
