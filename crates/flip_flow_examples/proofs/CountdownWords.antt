-- The words of the program, one by one.
use Rattle.std.proofs.Common.{arith}
use Rattle.std.specs.Prelude.{pos, negsuc}
use Rattle.rv_inst.specs.declared.instruction.Form.TheVariants.{LUI, ADDI, ADD, BEQ, BNE, JAL, JALR, LD, SD, ECALL}
use Rattle.rv_inst.specs.Word.{Word}
use Rattle.rv_model.specs.Text.{WordsOf}
use Rattle.flip_flow_examples.specs.Countdown.{countdown_words, countdown_code}

word1 : Word 0x10001137 (LUI 2 (pos 65537))
word1 = ((omega arith, omega arith), omega arith)

word2 : Word 0x100011b7 (LUI 3 (pos 65537))
word2 = ((omega arith, omega arith), omega arith)

word3 : Word 0x10001237 (LUI 4 (pos 65537))
word3 = ((omega arith, omega arith), omega arith)

word4 : Word 0x00300293 (ADDI 5 0 (pos 3))
word4 = ((omega arith, omega arith, omega arith), omega arith)

word5 : Word 0x00310463 (BEQ 2 3 (pos 8))
word5 = ((omega arith, omega arith, omega arith, omega arith), omega arith)

word6 : Word 0x00020113 (ADDI 2 4 (pos 0))
word6 = ((omega arith, omega arith, omega arith), omega arith)

word7 : Word 0x00513023 (SD 2 5 (pos 0))
word7 = ((omega arith, omega arith, omega arith), omega arith)

word8 : Word 0x00513423 (SD 2 5 (pos 8))
word8 = ((omega arith, omega arith, omega arith), omega arith)

word9 : Word 0x00513823 (SD 2 5 (pos 16))
word9 = ((omega arith, omega arith, omega arith), omega arith)

word10 : Word 0x00000293 (ADDI 5 0 (pos 0))
word10 = ((omega arith, omega arith, omega arith), omega arith)

word11 : Word 0x00513c23 (SD 2 5 (pos 24))
word11 = ((omega arith, omega arith, omega arith), omega arith)

word12 : Word 0x02513023 (SD 2 5 (pos 32))
word12 = ((omega arith, omega arith, omega arith), omega arith)

word13 : Word 0x02513423 (SD 2 5 (pos 40))
word13 = ((omega arith, omega arith, omega arith), omega arith)

word14 : Word 0x01813283 (LD 5 2 (pos 24))
word14 = ((omega arith, omega arith, omega arith), omega arith)

word15 : Word 0x00013303 (LD 6 2 (pos 0))
word15 = ((omega arith, omega arith, omega arith), omega arith)

word16 : Word 0x006282b3 (ADD 5 5 6)
word16 = ((omega arith, omega arith, omega arith), omega arith)

word17 : Word 0x04513423 (SD 2 5 (pos 72))
word17 = ((omega arith, omega arith, omega arith), omega arith)

word18 : Word 0x02013283 (LD 5 2 (pos 32))
word18 = ((omega arith, omega arith, omega arith), omega arith)

word19 : Word 0x00813303 (LD 6 2 (pos 8))
word19 = ((omega arith, omega arith, omega arith), omega arith)

word20 : Word 0x04513823 (SD 2 5 (pos 80))
word20 = ((omega arith, omega arith, omega arith), omega arith)

word21 : Word 0x02813283 (LD 5 2 (pos 40))
word21 = ((omega arith, omega arith, omega arith), omega arith)

word22 : Word 0x01013303 (LD 6 2 (pos 16))
word22 = ((omega arith, omega arith, omega arith), omega arith)

word23 : Word 0x04513c23 (SD 2 5 (pos 88))
word23 = ((omega arith, omega arith, omega arith), omega arith)

word24 : Word 0xfc010113 (ADDI 2 2 (negsuc 63))
word24 = ((omega arith, omega arith, omega arith), omega arith)

word25 : Word 0xfc018193 (ADDI 3 3 (negsuc 63))
word25 = ((omega arith, omega arith, omega arith), omega arith)

word26 : Word 0xfc020213 (ADDI 4 4 (negsuc 63))
word26 = ((omega arith, omega arith, omega arith), omega arith)

word27 : Word 0x04013283 (LD 5 2 (pos 64))
word27 = ((omega arith, omega arith, omega arith), omega arith)

word28 : Word 0x04813283 (LD 5 2 (pos 72))
word28 = ((omega arith, omega arith, omega arith), omega arith)

word29 : Word 0x05013283 (LD 5 2 (pos 80))
word29 = ((omega arith, omega arith, omega arith), omega arith)

word30 : Word 0x02513823 (SD 2 5 (pos 48))
word30 = ((omega arith, omega arith, omega arith), omega arith)

word31 : Word 0x1e8000ef (JAL 1 (pos 488))
word31 = ((omega arith, omega arith, omega arith), omega arith)

word32 : Word 0x00813283 (LD 5 2 (pos 8))
word32 = ((omega arith, omega arith, omega arith), omega arith)

word33 : Word 0x06513823 (SD 2 5 (pos 112))
word33 = ((omega arith, omega arith, omega arith), omega arith)

word34 : Word 0x01013283 (LD 5 2 (pos 16))
word34 = ((omega arith, omega arith, omega arith), omega arith)

word35 : Word 0x06513c23 (SD 2 5 (pos 120))
word35 = ((omega arith, omega arith, omega arith), omega arith)

word36 : Word 0x08513023 (SD 2 5 (pos 128))
word36 = ((omega arith, omega arith, omega arith), omega arith)

word37 : Word 0x04010113 (ADDI 2 2 (pos 64))
word37 = ((omega arith, omega arith, omega arith), omega arith)

word38 : Word 0x04018193 (ADDI 3 3 (pos 64))
word38 = ((omega arith, omega arith, omega arith), omega arith)

word39 : Word 0x04020213 (ADDI 4 4 (pos 64))
word39 = ((omega arith, omega arith, omega arith), omega arith)

word40 : Word 0x04013383 (LD 7 2 (pos 64))
word40 = ((omega arith, omega arith, omega arith), omega arith)

word41 : Word 0x03813303 (LD 6 2 (pos 56))
word41 = ((omega arith, omega arith, omega arith), omega arith)

word42 : Word 0x03013283 (LD 5 2 (pos 48))
word42 = ((omega arith, omega arith, omega arith), omega arith)

word43 : Word 0x00628463 (BEQ 5 6 (pos 8))
word43 = ((omega arith, omega arith, omega arith, omega arith), omega arith)

word44 : Word 0x00038293 (ADDI 5 7 (pos 0))
word44 = ((omega arith, omega arith, omega arith), omega arith)

word45 : Word 0x00029463 (BNE 5 0 (pos 8))
word45 = ((omega arith, omega arith, omega arith, omega arith), omega arith)

word46 : Word 0x12c0006f (JAL 0 (pos 300))
word46 = ((omega arith, omega arith, omega arith), omega arith)

word47 : Word 0x0040006f (JAL 0 (pos 4))
word47 = ((omega arith, omega arith, omega arith), omega arith)

word48 : Word 0x06513023 (SD 2 5 (pos 96))
word48 = ((omega arith, omega arith, omega arith), omega arith)

word49 : Word 0x03813283 (LD 5 2 (pos 56))
word49 = ((omega arith, omega arith, omega arith), omega arith)

word50 : Word 0x06513423 (SD 2 5 (pos 104))
word50 = ((omega arith, omega arith, omega arith), omega arith)

word51 : Word 0x05813283 (LD 5 2 (pos 88))
word51 = ((omega arith, omega arith, omega arith), omega arith)

word52 : Word 0x08513423 (SD 2 5 (pos 136))
word52 = ((omega arith, omega arith, omega arith), omega arith)

word53 : Word 0x06013283 (LD 5 2 (pos 96))
word53 = ((omega arith, omega arith, omega arith), omega arith)

word54 : Word 0x06813283 (LD 5 2 (pos 104))
word54 = ((omega arith, omega arith, omega arith), omega arith)

word55 : Word 0x07013283 (LD 5 2 (pos 112))
word55 = ((omega arith, omega arith, omega arith), omega arith)

word56 : Word 0x07813283 (LD 5 2 (pos 120))
word56 = ((omega arith, omega arith, omega arith), omega arith)

word57 : Word 0x08013283 (LD 5 2 (pos 128))
word57 = ((omega arith, omega arith, omega arith), omega arith)

word58 : Word 0x08813283 (LD 5 2 (pos 136))
word58 = ((omega arith, omega arith, omega arith), omega arith)

word59 : Word 0xd85ff06f (JAL 0 (negsuc 635))
word59 = ((omega arith, omega arith, omega arith), omega arith)

word60 : Word 0x05813383 (LD 7 2 (pos 88))
word60 = ((omega arith, omega arith, omega arith), omega arith)

word61 : Word 0x05013303 (LD 6 2 (pos 80))
word61 = ((omega arith, omega arith, omega arith), omega arith)

word62 : Word 0x04813503 (LD 10 2 (pos 72))
word62 = ((omega arith, omega arith, omega arith), omega arith)

word63 : Word 0x00650463 (BEQ 10 6 (pos 8))
word63 = ((omega arith, omega arith, omega arith, omega arith), omega arith)

word64 : Word 0x00038513 (ADDI 10 7 (pos 0))
word64 = ((omega arith, omega arith, omega arith), omega arith)

word65 : Word 0x05d00893 (ADDI 17 0 (pos 93))
word65 = ((omega arith, omega arith, omega arith), omega arith)

word66 : Word 0x00000073 ECALL
word66 = (tt, omega arith)

word67 : Word 0x00113023 (SD 2 1 (pos 0))
word67 = ((omega arith, omega arith, omega arith), omega arith)

word68 : Word 0x02013303 (LD 6 2 (pos 32))
word68 = ((omega arith, omega arith, omega arith), omega arith)

word69 : Word 0xfff28293 (ADDI 5 5 (negsuc 0))
word69 = ((omega arith, omega arith, omega arith), omega arith)

word70 : Word 0x02813303 (LD 6 2 (pos 40))
word70 = ((omega arith, omega arith, omega arith), omega arith)

word71 : Word 0x03013303 (LD 6 2 (pos 48))
word71 = ((omega arith, omega arith, omega arith), omega arith)

word72 : Word 0x00013083 (LD 1 2 (pos 0))
word72 = ((omega arith, omega arith, omega arith), omega arith)

word73 : Word 0x00008067 (JALR 0 1 (pos 0))
word73 = ((omega arith, omega arith, omega arith), omega arith)

pub are_words : WordsOf countdown_words countdown_code
are_words = (word1, (word2, (word3, (word4, (word5, (word6, (word7, (word4, (word5, (word6, (word8, (word4, (word5, (word6, (word9, (word10, (word5, (word6, (word11, (word10, (word5, (word6, (word12, (word10, (word5, (word6, (word13, (word5, (word6, (word14, (word5, (word6, (word15, (word16, (word5, (word6, (word17, (word5, (word6, (word18, (word5, (word6, (word19, (word16, (word5, (word6, (word20, (word5, (word6, (word21, (word5, (word6, (word22, (word16, (word5, (word6, (word23, (word24, (word25, (word26, (word5, (word6, (word27, (word5, (word6, (word12, (word5, (word6, (word28, (word5, (word6, (word13, (word5, (word6, (word29, (word5, (word6, (word30, (word31, (word5, (word6, (word32, (word5, (word6, (word33, (word5, (word6, (word34, (word5, (word6, (word35, (word5, (word6, (word14, (word5, (word6, (word36, (word37, (word38, (word39, (word5, (word6, (word40, (word5, (word6, (word41, (word5, (word6, (word42, (word43, (word44, (word45, (word46, (word47, (word5, (word6, (word42, (word5, (word6, (word48, (word5, (word6, (word49, (word5, (word6, (word50, (word5, (word6, (word27, (word5, (word6, (word33, (word5, (word6, (word28, (word5, (word6, (word35, (word5, (word6, (word29, (word5, (word6, (word36, (word5, (word6, (word51, (word5, (word6, (word52, (word5, (word6, (word53, (word5, (word6, (word7, (word5, (word6, (word54, (word5, (word6, (word8, (word5, (word6, (word55, (word5, (word6, (word9, (word5, (word6, (word56, (word5, (word6, (word11, (word5, (word6, (word57, (word5, (word6, (word12, (word5, (word6, (word58, (word5, (word6, (word13, (word59, (word5, (word6, (word60, (word5, (word6, (word61, (word5, (word6, (word62, (word63, (word64, (word65, (word66, (word5, (word6, (word67, (word5, (word6, (word18, (word5, (word6, (word68, (word69, (word5, (word6, (word8, (word5, (word6, (word21, (word5, (word6, (word70, (word69, (word5, (word6, (word9, (word5, (word6, (word42, (word5, (word6, (word71, (word69, (word5, (word6, (word11, (word5, (word6, (word72, (word73, tt)))))))))))))))))))))))))))))))))))))))))))))))))))))))))))))))))))))))))))))))))))))))))))))))))))))))))))))))))))))))))))))))))))))))))))))))))))))))))))))))))))))))))))))))))))))))))))))))))))))))))))))))))))))))))))))))))))))))))))))
