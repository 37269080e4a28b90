-- The words of the text, one by one.
use Rattle.std.proofs.Common.{arith}
use Rattle.std.specs.Prelude.{pos, negsuc}
use Rattle.rv_inst.specs.declared.instruction.Form.TheVariants.{LUI, ADDI, ADDIW, SLLI, XORI, ADD, AND, OR, BEQ, LB, LHU, LD, SB, SW, SD, ECALL}
use Rattle.rv_inst.specs.Word.{Word}
use Rattle.rv_model.specs.Text.{WordsOf}
use Rattle.flip_text_examples.specs.Text.{text_words, text_code}

word1 : Word 0x10000137 (LUI 2 (pos 65536))
word1 = ((omega arith, omega arith), omega arith)

word2 : Word 0x02010113 (ADDI 2 2 (pos 32))
word2 = ((omega arith, omega arith, omega arith), omega arith)

word3 : Word 0x100001b7 (LUI 3 (pos 65536))
word3 = ((omega arith, omega arith), omega arith)

word4 : Word 0x02018193 (ADDI 3 3 (pos 32))
word4 = ((omega arith, omega arith, omega arith), omega arith)

word5 : Word 0x10000237 (LUI 4 (pos 65536))
word5 = ((omega arith, omega arith), omega arith)

word6 : Word 0x02020213 (ADDI 4 4 (pos 32))
word6 = ((omega arith, omega arith, omega arith), omega arith)

word7 : Word 0x00400393 (ADDI 7 0 (pos 4))
word7 = ((omega arith, omega arith, omega arith), omega arith)

word8 : Word 0x00439393 (SLLI 7 7 (pos 4))
word8 = ((omega arith, omega arith, omega arith), omega arith)

word9 : Word 0x0013839b (ADDIW 7 7 (pos 1))
word9 = ((omega arith, omega arith, omega arith), omega arith)

word10 : Word 0x00400313 (ADDI 6 0 (pos 4))
word10 = ((omega arith, omega arith, omega arith), omega arith)

word11 : Word 0x00431313 (SLLI 6 6 (pos 4))
word11 = ((omega arith, omega arith, omega arith), omega arith)

word12 : Word 0x0013031b (ADDIW 6 6 (pos 1))
word12 = ((omega arith, omega arith, omega arith), omega arith)

word13 : Word 0x00400293 (ADDI 5 0 (pos 4))
word13 = ((omega arith, omega arith, omega arith), omega arith)

word14 : Word 0x00429293 (SLLI 5 5 (pos 4))
word14 = ((omega arith, omega arith, omega arith), omega arith)

word15 : Word 0x0012829b (ADDIW 5 5 (pos 1))
word15 = ((omega arith, omega arith, omega arith), omega arith)

word16 : Word 0x10000fb7 (LUI 31 (pos 65536))
word16 = ((omega arith, omega arith), omega arith)

word17 : Word 0x010f8f93 (ADDI 31 31 (pos 16))
word17 = ((omega arith, omega arith, omega arith), omega arith)

word18 : Word 0x10000f37 (LUI 30 (pos 65536))
word18 = ((omega arith, omega arith), omega arith)

word19 : Word 0x010f0f13 (ADDI 30 30 (pos 16))
word19 = ((omega arith, omega arith, omega arith), omega arith)

word20 : Word 0x10000e37 (LUI 28 (pos 65536))
word20 = ((omega arith, omega arith), omega arith)

word21 : Word 0x010e0e13 (ADDI 28 28 (pos 16))
word21 = ((omega arith, omega arith, omega arith), omega arith)

word22 : Word 0x00628463 (BEQ 5 6 (pos 8))
word22 = ((omega arith, omega arith, omega arith, omega arith), omega arith)

word23 : Word 0x00038293 (ADDI 5 7 (pos 0))
word23 = ((omega arith, omega arith, omega arith), omega arith)

word24 : Word 0x01ee0463 (BEQ 28 30 (pos 8))
word24 = ((omega arith, omega arith, omega arith, omega arith), omega arith)

word25 : Word 0x000f8e13 (ADDI 28 31 (pos 0))
word25 = ((omega arith, omega arith, omega arith), omega arith)

word26 : Word 0x005e2023 (SW 28 5 (pos 0))
word26 = ((omega arith, omega arith, omega arith), omega arith)

word27 : Word 0x100003b7 (LUI 7 (pos 65536))
word27 = ((omega arith, omega arith), omega arith)

word28 : Word 0x01038393 (ADDI 7 7 (pos 16))
word28 = ((omega arith, omega arith, omega arith), omega arith)

word29 : Word 0x10000337 (LUI 6 (pos 65536))
word29 = ((omega arith, omega arith), omega arith)

word30 : Word 0x01030313 (ADDI 6 6 (pos 16))
word30 = ((omega arith, omega arith, omega arith), omega arith)

word31 : Word 0x100002b7 (LUI 5 (pos 65536))
word31 = ((omega arith, omega arith), omega arith)

word32 : Word 0x01028293 (ADDI 5 5 (pos 16))
word32 = ((omega arith, omega arith, omega arith), omega arith)

word33 : Word 0x00028303 (LB 6 5 (pos 0))
word33 = ((omega arith, omega arith, omega arith), omega arith)

word34 : Word 0x00028383 (LB 7 5 (pos 0))
word34 = ((omega arith, omega arith, omega arith), omega arith)

word35 : Word 0x00028f03 (LB 30 5 (pos 0))
word35 = ((omega arith, omega arith, omega arith), omega arith)

word36 : Word 0x00310463 (BEQ 2 3 (pos 8))
word36 = ((omega arith, omega arith, omega arith, omega arith), omega arith)

word37 : Word 0x00020113 (ADDI 2 4 (pos 0))
word37 = ((omega arith, omega arith, omega arith), omega arith)

word38 : Word 0x00613c23 (SD 2 6 (pos 24))
word38 = ((omega arith, omega arith, omega arith), omega arith)

word39 : Word 0x02713023 (SD 2 7 (pos 32))
word39 = ((omega arith, omega arith, omega arith), omega arith)

word40 : Word 0x03e13423 (SD 2 30 (pos 40))
word40 = ((omega arith, omega arith, omega arith), omega arith)

word41 : Word 0x02813383 (LD 7 2 (pos 40))
word41 = ((omega arith, omega arith, omega arith), omega arith)

word42 : Word 0x02013303 (LD 6 2 (pos 32))
word42 = ((omega arith, omega arith, omega arith), omega arith)

word43 : Word 0x01813283 (LD 5 2 (pos 24))
word43 = ((omega arith, omega arith, omega arith), omega arith)

word44 : Word 0x00530023 (SB 6 5 (pos 0))
word44 = ((omega arith, omega arith, omega arith), omega arith)

word45 : Word 0x00100513 (ADDI 10 0 (pos 1))
word45 = ((omega arith, omega arith, omega arith), omega arith)

word46 : Word 0x100005b7 (LUI 11 (pos 65536))
word46 = ((omega arith, omega arith), omega arith)

word47 : Word 0x00100613 (ADDI 12 0 (pos 1))
word47 = ((omega arith, omega arith, omega arith), omega arith)

word48 : Word 0x04000893 (ADDI 17 0 (pos 64))
word48 = ((omega arith, omega arith, omega arith), omega arith)

word49 : Word 0x00000073 ECALL
word49 = (tt, omega arith)

word50 : Word 0x0ff00393 (ADDI 7 0 (pos 255))
word50 = ((omega arith, omega arith, omega arith), omega arith)

word51 : Word 0x00730023 (SB 6 7 (pos 0))
word51 = ((omega arith, omega arith, omega arith), omega arith)

word52 : Word 0x00000513 (ADDI 10 0 (pos 0))
word52 = ((omega arith, omega arith, omega arith), omega arith)

word53 : Word 0x03f00893 (ADDI 17 0 (pos 63))
word53 = ((omega arith, omega arith, omega arith), omega arith)

word54 : Word 0x00a300a3 (SB 6 10 (pos 1))
word54 = ((omega arith, omega arith, omega arith), omega arith)

word55 : Word 0x000e5283 (LHU 5 28 (pos 0))
word55 = ((omega arith, omega arith, omega arith), omega arith)

word56 : Word 0xf0028293 (ADDI 5 5 (negsuc 255))
word56 = ((omega arith, omega arith, omega arith), omega arith)

word57 : Word 0x02513823 (SD 2 5 (pos 48))
word57 = ((omega arith, omega arith, omega arith), omega arith)

word58 : Word 0x02513c23 (SD 2 5 (pos 56))
word58 = ((omega arith, omega arith, omega arith), omega arith)

word59 : Word 0x04513023 (SD 2 5 (pos 64))
word59 = ((omega arith, omega arith, omega arith), omega arith)

word60 : Word 0xfff00293 (ADDI 5 0 (negsuc 0))
word60 = ((omega arith, omega arith, omega arith), omega arith)

word61 : Word 0x00513023 (SD 2 5 (pos 0))
word61 = ((omega arith, omega arith, omega arith), omega arith)

word62 : Word 0x00513423 (SD 2 5 (pos 8))
word62 = ((omega arith, omega arith, omega arith), omega arith)

word63 : Word 0x00513823 (SD 2 5 (pos 16))
word63 = ((omega arith, omega arith, omega arith), omega arith)

word64 : Word 0x00013283 (LD 5 2 (pos 0))
word64 = ((omega arith, omega arith, omega arith), omega arith)

word65 : Word 0x01813303 (LD 6 2 (pos 24))
word65 = ((omega arith, omega arith, omega arith), omega arith)

word66 : Word 0x03013383 (LD 7 2 (pos 48))
word66 = ((omega arith, omega arith, omega arith), omega arith)

word67 : Word 0x00537333 (AND 6 6 5)
word67 = ((omega arith, omega arith, omega arith), omega arith)

word68 : Word 0xfff2c293 (XORI 5 5 (negsuc 0))
word68 = ((omega arith, omega arith, omega arith), omega arith)

word69 : Word 0x0053f3b3 (AND 7 7 5)
word69 = ((omega arith, omega arith, omega arith), omega arith)

word70 : Word 0x007362b3 (OR 5 6 7)
word70 = ((omega arith, omega arith, omega arith), omega arith)

word71 : Word 0x04513423 (SD 2 5 (pos 72))
word71 = ((omega arith, omega arith, omega arith), omega arith)

word72 : Word 0x00813283 (LD 5 2 (pos 8))
word72 = ((omega arith, omega arith, omega arith), omega arith)

word73 : Word 0x03813383 (LD 7 2 (pos 56))
word73 = ((omega arith, omega arith, omega arith), omega arith)

word74 : Word 0x04513823 (SD 2 5 (pos 80))
word74 = ((omega arith, omega arith, omega arith), omega arith)

word75 : Word 0x01013283 (LD 5 2 (pos 16))
word75 = ((omega arith, omega arith, omega arith), omega arith)

word76 : Word 0x02813303 (LD 6 2 (pos 40))
word76 = ((omega arith, omega arith, omega arith), omega arith)

word77 : Word 0x04013383 (LD 7 2 (pos 64))
word77 = ((omega arith, omega arith, omega arith), omega arith)

word78 : Word 0x00001e37 (LUI 28 (pos 1))
word78 = ((omega arith, omega arith), omega arith)

word79 : Word 0x002e0e33 (ADD 28 28 2)
word79 = ((omega arith, omega arith, omega arith), omega arith)

word80 : Word 0x00001eb7 (LUI 29 (pos 1))
word80 = ((omega arith, omega arith), omega arith)

word81 : Word 0x003e8eb3 (ADD 29 29 3)
word81 = ((omega arith, omega arith, omega arith), omega arith)

word82 : Word 0x01de0663 (BEQ 28 29 (pos 12))
word82 = ((omega arith, omega arith, omega arith, omega arith), omega arith)

word83 : Word 0x004e0e33 (ADD 28 28 4)
word83 = ((omega arith, omega arith, omega arith), omega arith)

word84 : Word 0x965e3023 (SD 28 5 (negsuc 1695))
word84 = ((omega arith, omega arith, omega arith), omega arith)

word85 : Word 0x960e3383 (LD 7 28 (negsuc 1695))
word85 = ((omega arith, omega arith, omega arith), omega arith)

word86 : Word 0x05013303 (LD 6 2 (pos 80))
word86 = ((omega arith, omega arith, omega arith), omega arith)

word87 : Word 0x04813503 (LD 10 2 (pos 72))
word87 = ((omega arith, omega arith, omega arith), omega arith)

word88 : Word 0x00650463 (BEQ 10 6 (pos 8))
word88 = ((omega arith, omega arith, omega arith, omega arith), omega arith)

word89 : Word 0x00038513 (ADDI 10 7 (pos 0))
word89 = ((omega arith, omega arith, omega arith), omega arith)

word90 : Word 0x05d00893 (ADDI 17 0 (pos 93))
word90 = ((omega arith, omega arith, omega arith), omega arith)

pub are_words : WordsOf text_words text_code
are_words = (word1, (word2, (word3, (word4, (word5, (word6, (word7, (word8, (word9, (word10, (word11, (word12, (word13, (word14, (word15, (word16, (word17, (word18, (word19, (word20, (word21, (word22, (word23, (word24, (word25, (word26, (word27, (word28, (word29, (word30, (word31, (word32, (word22, (word23, (word33, (word34, (word35, (word36, (word37, (word38, (word36, (word37, (word39, (word36, (word37, (word40, (word36, (word37, (word41, (word36, (word37, (word42, (word36, (word37, (word43, (word22, (word23, (word29, (word44, (word45, (word46, (word47, (word48, (word49, (word50, (word29, (word51, (word52, (word46, (word47, (word53, (word49, (word29, (word54, (word20, (word55, (word56, (word36, (word37, (word57, (word20, (word55, (word56, (word36, (word37, (word58, (word20, (word55, (word56, (word36, (word37, (word59, (word60, (word36, (word37, (word61, (word60, (word36, (word37, (word62, (word60, (word36, (word37, (word63, (word36, (word37, (word64, (word36, (word37, (word65, (word36, (word37, (word66, (word67, (word68, (word69, (word70, (word36, (word37, (word71, (word36, (word37, (word72, (word36, (word37, (word42, (word36, (word37, (word73, (word67, (word68, (word69, (word70, (word36, (word37, (word74, (word36, (word37, (word75, (word36, (word37, (word76, (word36, (word37, (word77, (word67, (word68, (word69, (word70, (word78, (word79, (word80, (word81, (word82, (word78, (word83, (word84, (word78, (word79, (word80, (word81, (word82, (word78, (word83, (word85, (word36, (word37, (word86, (word36, (word37, (word87, (word88, (word89, (word90, (word49, tt)))))))))))))))))))))))))))))))))))))))))))))))))))))))))))))))))))))))))))))))))))))))))))))))))))))))))))))))))))))))))))))))))))))))))))))))))))))))))))))))))))))))))))))))
