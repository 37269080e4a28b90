-- The table of RV64I and the M extension (RISC-V Unprivileged ISA, "RV32/64G Instruction Set Listings"): one row per instruction.
use Rattle.std.specs.Prelude.{List, [], ◌∷◌}
use Rattle.rv_inst.specs.declared.table.Format.TheVariants.{Upper, Jump, Immediate, Branch, Store, Register, Shift, ShiftWord, System}
use Rattle.rv_inst.specs.declared.table.Row.{Row}
use Rattle.rv_inst.specs.declared.table.Kind.{Kind}
use Rattle.rv_inst.specs.declared.table.Kind.TheVariants.{OpLui, OpAuipc, OpJal, OpJalr, OpBeq, OpBne, OpBlt, OpBge, OpBltu, OpBgeu, OpLb, OpLh, OpLw, OpLd, OpLbu, OpLhu, OpLwu, OpSb, OpSh, OpSw, OpSd, OpAddi, OpSlti, OpSltiu, OpXori, OpOri, OpAndi, OpSlli, OpSrli, OpSrai, OpAdd, OpSll, OpSlt, OpSltu, OpXor, OpSrl, OpOr, OpAnd, OpSub, OpSra, OpMul, OpMulh, OpMulhsu, OpMulhu, OpDiv, OpDivu, OpRem, OpRemu, OpAddiw, OpSlliw, OpSrliw, OpSraiw, OpAddw, OpSllw, OpSrlw, OpSubw, OpSraw, OpMulw, OpDivw, OpDivuw, OpRemw, OpRemuw, OpEcall}

-- the fixed parts of an instruction: its format, opcode and funct3, and funct7 as its lowest bit (bit 25 of the word) and the six bits above
abbrev pub row : Kind → Row
row OpLui = record { format = Upper; opcode = 0b0110111; funct3 = 0b000; bit25 = 0; top6 = 0b000000 }
row OpAuipc = record { format = Upper; opcode = 0b0010111; funct3 = 0b000; bit25 = 0; top6 = 0b000000 }
row OpJal = record { format = Jump; opcode = 0b1101111; funct3 = 0b000; bit25 = 0; top6 = 0b000000 }
row OpJalr = record { format = Immediate; opcode = 0b1100111; funct3 = 0b000; bit25 = 0; top6 = 0b000000 }
row OpBeq = record { format = Branch; opcode = 0b1100011; funct3 = 0b000; bit25 = 0; top6 = 0b000000 }
row OpBne = record { format = Branch; opcode = 0b1100011; funct3 = 0b001; bit25 = 0; top6 = 0b000000 }
row OpBlt = record { format = Branch; opcode = 0b1100011; funct3 = 0b100; bit25 = 0; top6 = 0b000000 }
row OpBge = record { format = Branch; opcode = 0b1100011; funct3 = 0b101; bit25 = 0; top6 = 0b000000 }
row OpBltu = record { format = Branch; opcode = 0b1100011; funct3 = 0b110; bit25 = 0; top6 = 0b000000 }
row OpBgeu = record { format = Branch; opcode = 0b1100011; funct3 = 0b111; bit25 = 0; top6 = 0b000000 }
row OpLb = record { format = Immediate; opcode = 0b0000011; funct3 = 0b000; bit25 = 0; top6 = 0b000000 }
row OpLh = record { format = Immediate; opcode = 0b0000011; funct3 = 0b001; bit25 = 0; top6 = 0b000000 }
row OpLw = record { format = Immediate; opcode = 0b0000011; funct3 = 0b010; bit25 = 0; top6 = 0b000000 }
row OpLd = record { format = Immediate; opcode = 0b0000011; funct3 = 0b011; bit25 = 0; top6 = 0b000000 }
row OpLbu = record { format = Immediate; opcode = 0b0000011; funct3 = 0b100; bit25 = 0; top6 = 0b000000 }
row OpLhu = record { format = Immediate; opcode = 0b0000011; funct3 = 0b101; bit25 = 0; top6 = 0b000000 }
row OpLwu = record { format = Immediate; opcode = 0b0000011; funct3 = 0b110; bit25 = 0; top6 = 0b000000 }
row OpSb = record { format = Store; opcode = 0b0100011; funct3 = 0b000; bit25 = 0; top6 = 0b000000 }
row OpSh = record { format = Store; opcode = 0b0100011; funct3 = 0b001; bit25 = 0; top6 = 0b000000 }
row OpSw = record { format = Store; opcode = 0b0100011; funct3 = 0b010; bit25 = 0; top6 = 0b000000 }
row OpSd = record { format = Store; opcode = 0b0100011; funct3 = 0b011; bit25 = 0; top6 = 0b000000 }
row OpAddi = record { format = Immediate; opcode = 0b0010011; funct3 = 0b000; bit25 = 0; top6 = 0b000000 }
row OpSlti = record { format = Immediate; opcode = 0b0010011; funct3 = 0b010; bit25 = 0; top6 = 0b000000 }
row OpSltiu = record { format = Immediate; opcode = 0b0010011; funct3 = 0b011; bit25 = 0; top6 = 0b000000 }
row OpXori = record { format = Immediate; opcode = 0b0010011; funct3 = 0b100; bit25 = 0; top6 = 0b000000 }
row OpOri = record { format = Immediate; opcode = 0b0010011; funct3 = 0b110; bit25 = 0; top6 = 0b000000 }
row OpAndi = record { format = Immediate; opcode = 0b0010011; funct3 = 0b111; bit25 = 0; top6 = 0b000000 }
row OpSlli = record { format = Shift; opcode = 0b0010011; funct3 = 0b001; bit25 = 0; top6 = 0b000000 }
row OpSrli = record { format = Shift; opcode = 0b0010011; funct3 = 0b101; bit25 = 0; top6 = 0b000000 }
row OpSrai = record { format = Shift; opcode = 0b0010011; funct3 = 0b101; bit25 = 0; top6 = 0b010000 }
row OpAdd = record { format = Register; opcode = 0b0110011; funct3 = 0b000; bit25 = 0; top6 = 0b000000 }
row OpSll = record { format = Register; opcode = 0b0110011; funct3 = 0b001; bit25 = 0; top6 = 0b000000 }
row OpSlt = record { format = Register; opcode = 0b0110011; funct3 = 0b010; bit25 = 0; top6 = 0b000000 }
row OpSltu = record { format = Register; opcode = 0b0110011; funct3 = 0b011; bit25 = 0; top6 = 0b000000 }
row OpXor = record { format = Register; opcode = 0b0110011; funct3 = 0b100; bit25 = 0; top6 = 0b000000 }
row OpSrl = record { format = Register; opcode = 0b0110011; funct3 = 0b101; bit25 = 0; top6 = 0b000000 }
row OpOr = record { format = Register; opcode = 0b0110011; funct3 = 0b110; bit25 = 0; top6 = 0b000000 }
row OpAnd = record { format = Register; opcode = 0b0110011; funct3 = 0b111; bit25 = 0; top6 = 0b000000 }
row OpSub = record { format = Register; opcode = 0b0110011; funct3 = 0b000; bit25 = 0; top6 = 0b010000 }
row OpSra = record { format = Register; opcode = 0b0110011; funct3 = 0b101; bit25 = 0; top6 = 0b010000 }
row OpMul = record { format = Register; opcode = 0b0110011; funct3 = 0b000; bit25 = 1; top6 = 0b000000 }
row OpMulh = record { format = Register; opcode = 0b0110011; funct3 = 0b001; bit25 = 1; top6 = 0b000000 }
row OpMulhsu = record { format = Register; opcode = 0b0110011; funct3 = 0b010; bit25 = 1; top6 = 0b000000 }
row OpMulhu = record { format = Register; opcode = 0b0110011; funct3 = 0b011; bit25 = 1; top6 = 0b000000 }
row OpDiv = record { format = Register; opcode = 0b0110011; funct3 = 0b100; bit25 = 1; top6 = 0b000000 }
row OpDivu = record { format = Register; opcode = 0b0110011; funct3 = 0b101; bit25 = 1; top6 = 0b000000 }
row OpRem = record { format = Register; opcode = 0b0110011; funct3 = 0b110; bit25 = 1; top6 = 0b000000 }
row OpRemu = record { format = Register; opcode = 0b0110011; funct3 = 0b111; bit25 = 1; top6 = 0b000000 }
row OpAddiw = record { format = Immediate; opcode = 0b0011011; funct3 = 0b000; bit25 = 0; top6 = 0b000000 }
row OpSlliw = record { format = ShiftWord; opcode = 0b0011011; funct3 = 0b001; bit25 = 0; top6 = 0b000000 }
row OpSrliw = record { format = ShiftWord; opcode = 0b0011011; funct3 = 0b101; bit25 = 0; top6 = 0b000000 }
row OpSraiw = record { format = ShiftWord; opcode = 0b0011011; funct3 = 0b101; bit25 = 0; top6 = 0b010000 }
row OpAddw = record { format = Register; opcode = 0b0111011; funct3 = 0b000; bit25 = 0; top6 = 0b000000 }
row OpSllw = record { format = Register; opcode = 0b0111011; funct3 = 0b001; bit25 = 0; top6 = 0b000000 }
row OpSrlw = record { format = Register; opcode = 0b0111011; funct3 = 0b101; bit25 = 0; top6 = 0b000000 }
row OpSubw = record { format = Register; opcode = 0b0111011; funct3 = 0b000; bit25 = 0; top6 = 0b010000 }
row OpSraw = record { format = Register; opcode = 0b0111011; funct3 = 0b101; bit25 = 0; top6 = 0b010000 }
row OpMulw = record { format = Register; opcode = 0b0111011; funct3 = 0b000; bit25 = 1; top6 = 0b000000 }
row OpDivw = record { format = Register; opcode = 0b0111011; funct3 = 0b100; bit25 = 1; top6 = 0b000000 }
row OpDivuw = record { format = Register; opcode = 0b0111011; funct3 = 0b101; bit25 = 1; top6 = 0b000000 }
row OpRemw = record { format = Register; opcode = 0b0111011; funct3 = 0b110; bit25 = 1; top6 = 0b000000 }
row OpRemuw = record { format = Register; opcode = 0b0111011; funct3 = 0b111; bit25 = 1; top6 = 0b000000 }
row OpEcall = record { format = System; opcode = 0b1110011; funct3 = 0b000; bit25 = 0; top6 = 0b000000 }

-- every instruction of the table, in its order
abbrev pub kinds : List Kind
kinds =
    OpLui ∷ OpAuipc ∷ OpJal ∷ OpJalr ∷ OpBeq ∷ OpBne ∷ OpBlt ∷ OpBge ∷
    OpBltu ∷ OpBgeu ∷ OpLb ∷ OpLh ∷ OpLw ∷ OpLd ∷ OpLbu ∷ OpLhu ∷
    OpLwu ∷ OpSb ∷ OpSh ∷ OpSw ∷ OpSd ∷ OpAddi ∷ OpSlti ∷ OpSltiu ∷
    OpXori ∷ OpOri ∷ OpAndi ∷ OpSlli ∷ OpSrli ∷ OpSrai ∷ OpAdd ∷ OpSll ∷
    OpSlt ∷ OpSltu ∷ OpXor ∷ OpSrl ∷ OpOr ∷ OpAnd ∷ OpSub ∷ OpSra ∷
    OpMul ∷ OpMulh ∷ OpMulhsu ∷ OpMulhu ∷ OpDiv ∷ OpDivu ∷ OpRem ∷ OpRemu ∷
    OpAddiw ∷ OpSlliw ∷ OpSrliw ∷ OpSraiw ∷ OpAddw ∷ OpSllw ∷ OpSrlw ∷ OpSubw ∷
    OpSraw ∷ OpMulw ∷ OpDivw ∷ OpDivuw ∷ OpRemw ∷ OpRemuw ∷ OpEcall ∷ []
