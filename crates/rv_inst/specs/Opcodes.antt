-- The table by opcode, then funct3 or funct7: the way in which it is looked up.
use Rattle.std.specs.Prelude.{ℕ, ◌==◌, ◌&&◌, List, [], ◌∷◌, Option, Some, None, if◌then◌else◌}
use Rattle.rv_inst.specs.declared.table.Fields.{Fields}
use Rattle.rv_inst.specs.declared.table.Kind.{Kind}
use Rattle.rv_inst.specs.declared.table.Kind.TheVariants.{OpLui, OpAuipc, OpJal, OpJalr, OpBeq, OpBne, OpBlt, OpBge, OpBltu, OpBgeu, OpLb, OpLh, OpLw, OpLd, OpLbu, OpLhu, OpLwu, OpSb, OpSh, OpSw, OpSd, OpAddi, OpSlti, OpSltiu, OpXori, OpOri, OpAndi, OpSlli, OpSrli, OpSrai, OpAdd, OpSll, OpSlt, OpSltu, OpXor, OpSrl, OpOr, OpAnd, OpSub, OpSra, OpMul, OpMulh, OpMulhsu, OpMulhu, OpDiv, OpDivu, OpRem, OpRemu, OpAddiw, OpSlliw, OpSrliw, OpSraiw, OpAddw, OpSllw, OpSrlw, OpSubw, OpSraw, OpMulw, OpDivw, OpDivuw, OpRemw, OpRemuw, OpEcall}

-- the entry of this number, None where there is none
abbrev pub chosen : ℕ → List (ℕ × Option Kind) → Option Kind
chosen n [] = None
chosen n (entry ∷ rest) = if n == entry.0 then entry.1 else chosen n rest

-- conditional branches by funct3
abbrev pub branches : List (ℕ × Option Kind)
branches = (0, Some OpBeq) ∷ (1, Some OpBne) ∷ (4, Some OpBlt) ∷ (5, Some OpBge) ∷ (6, Some OpBltu) ∷ (7, Some OpBgeu) ∷ []

-- loads by funct3
abbrev pub loads : List (ℕ × Option Kind)
loads = (0, Some OpLb) ∷ (1, Some OpLh) ∷ (2, Some OpLw) ∷ (3, Some OpLd) ∷ (4, Some OpLbu) ∷ (5, Some OpLhu) ∷ (6, Some OpLwu) ∷ []

-- stores by funct3
abbrev pub stores : List (ℕ × Option Kind)
stores = (0, Some OpSb) ∷ (1, Some OpSh) ∷ (2, Some OpSw) ∷ (3, Some OpSd) ∷ []

-- the left shift by a constant, by the top six bits
abbrev pub left_shifts : List (ℕ × Option Kind)
left_shifts = (0, Some OpSlli) ∷ []

-- the right shifts by a constant, by the top six bits
abbrev pub right_shifts : List (ℕ × Option Kind)
right_shifts = (0, Some OpSrli) ∷ (16, Some OpSrai) ∷ []

-- operations with an immediate by funct3
abbrev pub immediates : ℕ → List (ℕ × Option Kind)
immediates top6 =
    (0, Some OpAddi) ∷ (1, chosen top6 left_shifts) ∷ (2, Some OpSlti) ∷ (3, Some OpSltiu) ∷ (4, Some OpXori) ∷
    (5, chosen top6 right_shifts) ∷ (6, Some OpOri) ∷ (7, Some OpAndi) ∷ []

-- operations of two registers with funct7 0, by funct3
abbrev pub plain : List (ℕ × Option Kind)
plain = (0, Some OpAdd) ∷ (1, Some OpSll) ∷ (2, Some OpSlt) ∷ (3, Some OpSltu) ∷ (4, Some OpXor) ∷ (5, Some OpSrl) ∷ (6, Some OpOr) ∷ (7, Some OpAnd) ∷ []

-- those with funct7 0100000
abbrev pub negated : List (ℕ × Option Kind)
negated = (0, Some OpSub) ∷ (5, Some OpSra) ∷ []

-- those of the M extension, with funct7 0000001
abbrev pub multiplying : List (ℕ × Option Kind)
multiplying = (0, Some OpMul) ∷ (1, Some OpMulh) ∷ (2, Some OpMulhsu) ∷ (3, Some OpMulhu) ∷ (4, Some OpDiv) ∷ (5, Some OpDivu) ∷ (6, Some OpRem) ∷ (7, Some OpRemu) ∷ []

-- the left shift of a word by a constant, by the top six bits
abbrev pub left_word_shifts : List (ℕ × Option Kind)
left_word_shifts = (0, Some OpSlliw) ∷ []

-- the right shifts of a word by a constant, by the top six bits
abbrev pub right_word_shifts : List (ℕ × Option Kind)
right_word_shifts = (0, Some OpSrliw) ∷ (16, Some OpSraiw) ∷ []

-- operations on words with an immediate by funct3; a shift has bit 25 clear
abbrev pub word_immediates : ℕ → ℕ → List (ℕ × Option Kind)
word_immediates bit25 top6 =
    (0, Some OpAddiw) ∷ (1, chosen bit25 ((0, chosen top6 left_word_shifts) ∷ [])) ∷ (5, chosen bit25 ((0, chosen top6 right_word_shifts) ∷ [])) ∷ []

-- operations on words of two registers with funct7 0, by funct3
abbrev pub plain_words : List (ℕ × Option Kind)
plain_words = (0, Some OpAddw) ∷ (1, Some OpSllw) ∷ (5, Some OpSrlw) ∷ []

-- those with funct7 0100000
abbrev pub negated_words : List (ℕ × Option Kind)
negated_words = (0, Some OpSubw) ∷ (5, Some OpSraw) ∷ []

-- those of the M extension, with funct7 0000001
abbrev pub multiplying_words : List (ℕ × Option Kind)
multiplying_words = (0, Some OpMulw) ∷ (4, Some OpDivw) ∷ (5, Some OpDivuw) ∷ (6, Some OpRemw) ∷ (7, Some OpRemuw) ∷ []

-- with bit 25 clear, by the top six bits
abbrev pub by_sign : List (ℕ × Option Kind) → List (ℕ × Option Kind) → ℕ → List (ℕ × Option Kind)
by_sign usual minus funct3 = (0, chosen funct3 usual) ∷ (16, chosen funct3 minus) ∷ []

-- with bit 25 set, by the top six bits
abbrev pub by_zero : List (ℕ × Option Kind) → ℕ → List (ℕ × Option Kind)
by_zero multiply funct3 = (0, chosen funct3 multiply) ∷ []

-- operations of two registers by bit 25
abbrev pub by_bit25 : List (ℕ × Option Kind) → List (ℕ × Option Kind) → List (ℕ × Option Kind) → Fields → List (ℕ × Option Kind)
by_bit25 usual minus multiply f =
    (0, chosen f.top6 (by_sign usual minus f.funct3)) ∷ (1, chosen f.top6 (by_zero multiply f.funct3)) ∷ []

-- the one system instruction: every field but the opcode is 0
abbrev pub system : Fields → Option Kind
system f =
    if f.funct3 == 0 && (f.rd == 0 && (f.rs1 == 0 && (f.rs2 == 0 && (f.bit25 == 0 && f.top6 == 0)))) then Some OpEcall else None

-- by opcode
abbrev pub by_opcode : Fields → List (ℕ × Option Kind)
by_opcode f =
    (0b0000011, chosen f.funct3 loads) ∷
    (0b0010011, chosen f.funct3 (immediates f.top6)) ∷
    (0b0010111, Some OpAuipc) ∷
    (0b0011011, chosen f.funct3 (word_immediates f.bit25 f.top6)) ∷
    (0b0100011, chosen f.funct3 stores) ∷
    (0b0110011, chosen f.bit25 (by_bit25 plain negated multiplying f)) ∷
    (0b0110111, Some OpLui) ∷
    (0b0111011, chosen f.bit25 (by_bit25 plain_words negated_words multiplying_words f)) ∷
    (0b1100011, chosen f.funct3 branches) ∷
    (0b1100111, chosen f.funct3 ((0, Some OpJalr) ∷ [])) ∷
    (0b1101111, Some OpJal) ∷
    (0b1110011, system f) ∷ []

-- the instruction of these fields
abbrev pub kind_by_opcode : Fields → Option Kind
kind_by_opcode f = chosen f.opcode (by_opcode f)
