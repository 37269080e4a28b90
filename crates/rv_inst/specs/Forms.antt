-- An instruction as its kind and its operands, and back.
use Rattle.std.specs.Prelude.{ℕ, ℤ, pos}
use Rattle.rv_inst.specs.declared.table.Operands.{Operands}
use Rattle.rv_inst.specs.declared.table.Kind.{Kind}
use Rattle.rv_inst.specs.declared.table.Kind.TheVariants.{OpLui, OpAuipc, OpJal, OpJalr, OpBeq, OpBne, OpBlt, OpBge, OpBltu, OpBgeu, OpLb, OpLh, OpLw, OpLd, OpLbu, OpLhu, OpLwu, OpSb, OpSh, OpSw, OpSd, OpAddi, OpSlti, OpSltiu, OpXori, OpOri, OpAndi, OpSlli, OpSrli, OpSrai, OpAdd, OpSll, OpSlt, OpSltu, OpXor, OpSrl, OpOr, OpAnd, OpSub, OpSra, OpMul, OpMulh, OpMulhsu, OpMulhu, OpDiv, OpDivu, OpRem, OpRemu, OpAddiw, OpSlliw, OpSrliw, OpSraiw, OpAddw, OpSllw, OpSrlw, OpSubw, OpSraw, OpMulw, OpDivw, OpDivuw, OpRemw, OpRemuw, OpEcall}
use Rattle.rv_inst.specs.declared.instruction.Form.{Form}
use Rattle.rv_inst.specs.declared.instruction.Form.TheVariants.{LUI, AUIPC, JAL, JALR, BEQ, BNE, BLT, BGE, BLTU, BGEU, LB, LH, LW, LD, LBU, LHU, LWU, SB, SH, SW, SD, ADDI, SLTI, SLTIU, XORI, ORI, ANDI, SLLI, SRLI, SRAI, ADD, SLL, SLT, SLTU, XOR, SRL, OR, AND, SUB, SRA, MUL, MULH, MULHSU, MULHU, DIV, DIVU, REM, REMU, ADDIW, SLLIW, SRLIW, SRAIW, ADDW, SLLW, SRLW, SUBW, SRAW, MULW, DIVW, DIVUW, REMW, REMUW, ECALL}

-- operands of an instruction with rd and an immediate
abbrev pub of_rd : ℕ → ℤ → Operands
of_rd rd imm = record { rd = rd; rs1 = 0; rs2 = 0; imm = imm }

-- of one with rd, rs1 and an immediate
abbrev pub of_rd_rs1 : ℕ → ℕ → ℤ → Operands
of_rd_rs1 rd rs1 imm = record { rd = rd; rs1 = rs1; rs2 = 0; imm = imm }

-- of one with rs1, rs2 and an immediate
abbrev pub of_sources : ℕ → ℕ → ℤ → Operands
of_sources rs1 rs2 imm = record { rd = 0; rs1 = rs1; rs2 = rs2; imm = imm }

-- of one with three registers
abbrev pub of_registers : ℕ → ℕ → ℕ → Operands
of_registers rd rs1 rs2 = record { rd = rd; rs1 = rs1; rs2 = rs2; imm = pos 0 }

-- of one without operands
abbrev pub of_none : Operands
of_none = record { rd = 0; rs1 = 0; rs2 = 0; imm = pos 0 }

-- which instruction a form is
abbrev pub kind_of : Form → Kind
kind_of (LUI _ _) = OpLui
kind_of (AUIPC _ _) = OpAuipc
kind_of (JAL _ _) = OpJal
kind_of (JALR _ _ _) = OpJalr
kind_of (BEQ _ _ _) = OpBeq
kind_of (BNE _ _ _) = OpBne
kind_of (BLT _ _ _) = OpBlt
kind_of (BGE _ _ _) = OpBge
kind_of (BLTU _ _ _) = OpBltu
kind_of (BGEU _ _ _) = OpBgeu
kind_of (LB _ _ _) = OpLb
kind_of (LH _ _ _) = OpLh
kind_of (LW _ _ _) = OpLw
kind_of (LD _ _ _) = OpLd
kind_of (LBU _ _ _) = OpLbu
kind_of (LHU _ _ _) = OpLhu
kind_of (LWU _ _ _) = OpLwu
kind_of (SB _ _ _) = OpSb
kind_of (SH _ _ _) = OpSh
kind_of (SW _ _ _) = OpSw
kind_of (SD _ _ _) = OpSd
kind_of (ADDI _ _ _) = OpAddi
kind_of (SLTI _ _ _) = OpSlti
kind_of (SLTIU _ _ _) = OpSltiu
kind_of (XORI _ _ _) = OpXori
kind_of (ORI _ _ _) = OpOri
kind_of (ANDI _ _ _) = OpAndi
kind_of (SLLI _ _ _) = OpSlli
kind_of (SRLI _ _ _) = OpSrli
kind_of (SRAI _ _ _) = OpSrai
kind_of (ADD _ _ _) = OpAdd
kind_of (SLL _ _ _) = OpSll
kind_of (SLT _ _ _) = OpSlt
kind_of (SLTU _ _ _) = OpSltu
kind_of (XOR _ _ _) = OpXor
kind_of (SRL _ _ _) = OpSrl
kind_of (OR _ _ _) = OpOr
kind_of (AND _ _ _) = OpAnd
kind_of (SUB _ _ _) = OpSub
kind_of (SRA _ _ _) = OpSra
kind_of (MUL _ _ _) = OpMul
kind_of (MULH _ _ _) = OpMulh
kind_of (MULHSU _ _ _) = OpMulhsu
kind_of (MULHU _ _ _) = OpMulhu
kind_of (DIV _ _ _) = OpDiv
kind_of (DIVU _ _ _) = OpDivu
kind_of (REM _ _ _) = OpRem
kind_of (REMU _ _ _) = OpRemu
kind_of (ADDIW _ _ _) = OpAddiw
kind_of (SLLIW _ _ _) = OpSlliw
kind_of (SRLIW _ _ _) = OpSrliw
kind_of (SRAIW _ _ _) = OpSraiw
kind_of (ADDW _ _ _) = OpAddw
kind_of (SLLW _ _ _) = OpSllw
kind_of (SRLW _ _ _) = OpSrlw
kind_of (SUBW _ _ _) = OpSubw
kind_of (SRAW _ _ _) = OpSraw
kind_of (MULW _ _ _) = OpMulw
kind_of (DIVW _ _ _) = OpDivw
kind_of (DIVUW _ _ _) = OpDivuw
kind_of (REMW _ _ _) = OpRemw
kind_of (REMUW _ _ _) = OpRemuw
kind_of ECALL = OpEcall

-- its operands, 0 where it has none
abbrev pub operands_of : Form → Operands
operands_of (LUI rd imm) = of_rd rd imm
operands_of (AUIPC rd imm) = of_rd rd imm
operands_of (JAL rd imm) = of_rd rd imm
operands_of (JALR rd rs1 imm) = of_rd_rs1 rd rs1 imm
operands_of (BEQ rs1 rs2 imm) = of_sources rs1 rs2 imm
operands_of (BNE rs1 rs2 imm) = of_sources rs1 rs2 imm
operands_of (BLT rs1 rs2 imm) = of_sources rs1 rs2 imm
operands_of (BGE rs1 rs2 imm) = of_sources rs1 rs2 imm
operands_of (BLTU rs1 rs2 imm) = of_sources rs1 rs2 imm
operands_of (BGEU rs1 rs2 imm) = of_sources rs1 rs2 imm
operands_of (LB rd rs1 imm) = of_rd_rs1 rd rs1 imm
operands_of (LH rd rs1 imm) = of_rd_rs1 rd rs1 imm
operands_of (LW rd rs1 imm) = of_rd_rs1 rd rs1 imm
operands_of (LD rd rs1 imm) = of_rd_rs1 rd rs1 imm
operands_of (LBU rd rs1 imm) = of_rd_rs1 rd rs1 imm
operands_of (LHU rd rs1 imm) = of_rd_rs1 rd rs1 imm
operands_of (LWU rd rs1 imm) = of_rd_rs1 rd rs1 imm
operands_of (SB rs1 rs2 imm) = of_sources rs1 rs2 imm
operands_of (SH rs1 rs2 imm) = of_sources rs1 rs2 imm
operands_of (SW rs1 rs2 imm) = of_sources rs1 rs2 imm
operands_of (SD rs1 rs2 imm) = of_sources rs1 rs2 imm
operands_of (ADDI rd rs1 imm) = of_rd_rs1 rd rs1 imm
operands_of (SLTI rd rs1 imm) = of_rd_rs1 rd rs1 imm
operands_of (SLTIU rd rs1 imm) = of_rd_rs1 rd rs1 imm
operands_of (XORI rd rs1 imm) = of_rd_rs1 rd rs1 imm
operands_of (ORI rd rs1 imm) = of_rd_rs1 rd rs1 imm
operands_of (ANDI rd rs1 imm) = of_rd_rs1 rd rs1 imm
operands_of (SLLI rd rs1 imm) = of_rd_rs1 rd rs1 imm
operands_of (SRLI rd rs1 imm) = of_rd_rs1 rd rs1 imm
operands_of (SRAI rd rs1 imm) = of_rd_rs1 rd rs1 imm
operands_of (ADD rd rs1 rs2) = of_registers rd rs1 rs2
operands_of (SLL rd rs1 rs2) = of_registers rd rs1 rs2
operands_of (SLT rd rs1 rs2) = of_registers rd rs1 rs2
operands_of (SLTU rd rs1 rs2) = of_registers rd rs1 rs2
operands_of (XOR rd rs1 rs2) = of_registers rd rs1 rs2
operands_of (SRL rd rs1 rs2) = of_registers rd rs1 rs2
operands_of (OR rd rs1 rs2) = of_registers rd rs1 rs2
operands_of (AND rd rs1 rs2) = of_registers rd rs1 rs2
operands_of (SUB rd rs1 rs2) = of_registers rd rs1 rs2
operands_of (SRA rd rs1 rs2) = of_registers rd rs1 rs2
operands_of (MUL rd rs1 rs2) = of_registers rd rs1 rs2
operands_of (MULH rd rs1 rs2) = of_registers rd rs1 rs2
operands_of (MULHSU rd rs1 rs2) = of_registers rd rs1 rs2
operands_of (MULHU rd rs1 rs2) = of_registers rd rs1 rs2
operands_of (DIV rd rs1 rs2) = of_registers rd rs1 rs2
operands_of (DIVU rd rs1 rs2) = of_registers rd rs1 rs2
operands_of (REM rd rs1 rs2) = of_registers rd rs1 rs2
operands_of (REMU rd rs1 rs2) = of_registers rd rs1 rs2
operands_of (ADDIW rd rs1 imm) = of_rd_rs1 rd rs1 imm
operands_of (SLLIW rd rs1 imm) = of_rd_rs1 rd rs1 imm
operands_of (SRLIW rd rs1 imm) = of_rd_rs1 rd rs1 imm
operands_of (SRAIW rd rs1 imm) = of_rd_rs1 rd rs1 imm
operands_of (ADDW rd rs1 rs2) = of_registers rd rs1 rs2
operands_of (SLLW rd rs1 rs2) = of_registers rd rs1 rs2
operands_of (SRLW rd rs1 rs2) = of_registers rd rs1 rs2
operands_of (SUBW rd rs1 rs2) = of_registers rd rs1 rs2
operands_of (SRAW rd rs1 rs2) = of_registers rd rs1 rs2
operands_of (MULW rd rs1 rs2) = of_registers rd rs1 rs2
operands_of (DIVW rd rs1 rs2) = of_registers rd rs1 rs2
operands_of (DIVUW rd rs1 rs2) = of_registers rd rs1 rs2
operands_of (REMW rd rs1 rs2) = of_registers rd rs1 rs2
operands_of (REMUW rd rs1 rs2) = of_registers rd rs1 rs2
operands_of ECALL = of_none

-- the form of an instruction with these operands
abbrev pub form_of : Kind → Operands → Form
form_of OpLui o = LUI o.rd o.imm
form_of OpAuipc o = AUIPC o.rd o.imm
form_of OpJal o = JAL o.rd o.imm
form_of OpJalr o = JALR o.rd o.rs1 o.imm
form_of OpBeq o = BEQ o.rs1 o.rs2 o.imm
form_of OpBne o = BNE o.rs1 o.rs2 o.imm
form_of OpBlt o = BLT o.rs1 o.rs2 o.imm
form_of OpBge o = BGE o.rs1 o.rs2 o.imm
form_of OpBltu o = BLTU o.rs1 o.rs2 o.imm
form_of OpBgeu o = BGEU o.rs1 o.rs2 o.imm
form_of OpLb o = LB o.rd o.rs1 o.imm
form_of OpLh o = LH o.rd o.rs1 o.imm
form_of OpLw o = LW o.rd o.rs1 o.imm
form_of OpLd o = LD o.rd o.rs1 o.imm
form_of OpLbu o = LBU o.rd o.rs1 o.imm
form_of OpLhu o = LHU o.rd o.rs1 o.imm
form_of OpLwu o = LWU o.rd o.rs1 o.imm
form_of OpSb o = SB o.rs1 o.rs2 o.imm
form_of OpSh o = SH o.rs1 o.rs2 o.imm
form_of OpSw o = SW o.rs1 o.rs2 o.imm
form_of OpSd o = SD o.rs1 o.rs2 o.imm
form_of OpAddi o = ADDI o.rd o.rs1 o.imm
form_of OpSlti o = SLTI o.rd o.rs1 o.imm
form_of OpSltiu o = SLTIU o.rd o.rs1 o.imm
form_of OpXori o = XORI o.rd o.rs1 o.imm
form_of OpOri o = ORI o.rd o.rs1 o.imm
form_of OpAndi o = ANDI o.rd o.rs1 o.imm
form_of OpSlli o = SLLI o.rd o.rs1 o.imm
form_of OpSrli o = SRLI o.rd o.rs1 o.imm
form_of OpSrai o = SRAI o.rd o.rs1 o.imm
form_of OpAdd o = ADD o.rd o.rs1 o.rs2
form_of OpSll o = SLL o.rd o.rs1 o.rs2
form_of OpSlt o = SLT o.rd o.rs1 o.rs2
form_of OpSltu o = SLTU o.rd o.rs1 o.rs2
form_of OpXor o = XOR o.rd o.rs1 o.rs2
form_of OpSrl o = SRL o.rd o.rs1 o.rs2
form_of OpOr o = OR o.rd o.rs1 o.rs2
form_of OpAnd o = AND o.rd o.rs1 o.rs2
form_of OpSub o = SUB o.rd o.rs1 o.rs2
form_of OpSra o = SRA o.rd o.rs1 o.rs2
form_of OpMul o = MUL o.rd o.rs1 o.rs2
form_of OpMulh o = MULH o.rd o.rs1 o.rs2
form_of OpMulhsu o = MULHSU o.rd o.rs1 o.rs2
form_of OpMulhu o = MULHU o.rd o.rs1 o.rs2
form_of OpDiv o = DIV o.rd o.rs1 o.rs2
form_of OpDivu o = DIVU o.rd o.rs1 o.rs2
form_of OpRem o = REM o.rd o.rs1 o.rs2
form_of OpRemu o = REMU o.rd o.rs1 o.rs2
form_of OpAddiw o = ADDIW o.rd o.rs1 o.imm
form_of OpSlliw o = SLLIW o.rd o.rs1 o.imm
form_of OpSrliw o = SRLIW o.rd o.rs1 o.imm
form_of OpSraiw o = SRAIW o.rd o.rs1 o.imm
form_of OpAddw o = ADDW o.rd o.rs1 o.rs2
form_of OpSllw o = SLLW o.rd o.rs1 o.rs2
form_of OpSrlw o = SRLW o.rd o.rs1 o.rs2
form_of OpSubw o = SUBW o.rd o.rs1 o.rs2
form_of OpSraw o = SRAW o.rd o.rs1 o.rs2
form_of OpMulw o = MULW o.rd o.rs1 o.rs2
form_of OpDivw o = DIVW o.rd o.rs1 o.rs2
form_of OpDivuw o = DIVUW o.rd o.rs1 o.rs2
form_of OpRemw o = REMW o.rd o.rs1 o.rs2
form_of OpRemuw o = REMUW o.rd o.rs1 o.rs2
form_of OpEcall _ = ECALL
