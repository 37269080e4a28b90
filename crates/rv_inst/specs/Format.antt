-- Where a word keeps the parts of an instruction (RISC-V Unprivileged ISA, "Base Instruction Formats", "Immediate Encoding Variants").
use Rattle.std.specs.Prelude.{ℕ, suc, ℤ, pos, negsuc, ◌+◌, ◌-◌, ◌*◌, ◌/◌, ◌%◌, ◌^◌, ◌<◌, Bool, nat_lt, if◌then◌else◌, ◌==◌, ◌&&◌}
use Rattle.rv_inst.specs.declared.table.Format.{Format}
use Rattle.rv_inst.specs.declared.table.Format.TheVariants.{Upper, Jump, Immediate, Branch, Store, Register, Shift, ShiftWord, System}
use Rattle.rv_inst.specs.declared.table.Row.{Row}
use Rattle.rv_inst.specs.declared.table.Operands.{Operands}
use Rattle.rv_inst.specs.declared.table.Fields.{Fields}

-- each field fits its place
pub record IsCut (f : Fields) : Type 0 where
  pub opcode : f.opcode < 2 ^ 7
  pub rd : f.rd < 2 ^ 5
  pub funct3 : f.funct3 < 2 ^ 3
  pub rs1 : f.rs1 < 2 ^ 5
  pub rs2 : f.rs2 < 2 ^ 5
  pub bit25 : f.bit25 < 2
  pub top6 : f.top6 < 2 ^ 6

-- each fixed part fits its place
pub record IsRow (r : Row) : Type 0 where
  pub opcode : r.opcode < 2 ^ 7
  pub funct3 : r.funct3 < 2 ^ 3
  pub bit25 : r.bit25 < 2
  pub top6 : r.top6 < 2 ^ 6

-- a word from its fields: opcode in bits 0 to 6, rd 7 to 11, funct3 12 to 14, rs1 15 to 19, rs2 20 to 24, bit 25, bits 26 to 31
abbrev pub number : Fields → ℕ
number f = f.opcode + 2 ^ 7 * f.rd + 2 ^ 12 * f.funct3 + 2 ^ 15 * f.rs1 + 2 ^ 20 * f.rs2 + 2 ^ 25 * f.bit25 + 2 ^ 26 * f.top6

-- the fields of a word
abbrev pub fields_at : ℕ → Fields
fields_at w = record { opcode = w % 2 ^ 7; rd = w / 2 ^ 7 % 2 ^ 5; funct3 = w / 2 ^ 12 % 2 ^ 3; rs1 = w / 2 ^ 15 % 2 ^ 5; rs2 = w / 2 ^ 20 % 2 ^ 5; bit25 = w / 2 ^ 25 % 2; top6 = w / 2 ^ 26 }

-- two's complement of 2 * half values: a negative number counts from 2 * half down
abbrev pub bits_of : ℕ → ℤ → ℕ
bits_of half (pos n) = n
bits_of half (negsuc n) = 2 * half - suc n

-- the bits of a number that isn't negative
abbrev pub unsigned : ℤ → ℕ
unsigned (pos n) = n
unsigned (negsuc _) = 0

-- the number that these bits mean
abbrev pub signed_at : ℕ → ℕ → ℤ
signed_at half n = if nat_lt n half then pos n else negsuc (2 * half - suc n)

-- the fields of an instruction, by its format:
--   U  imm[19:0]                  | rd          | opcode
--   J  imm[20|10:1|11|19:12]      | rd          | opcode
--   I  imm[11:0]      | rs1 | f3  | rd          | opcode
--   B  imm[12|10:5]   | rs2 | rs1 | f3 | imm[4:1|11] | opcode
--   S  imm[11:5]      | rs2 | rs1 | f3 | imm[4:0]    | opcode
--   R  funct7         | rs2 | rs1 | f3 | rd     | opcode
-- a shift is like I, with the amount in its lowest six (of a word: five) bits and the row's bits above
abbrev pub fields_of : Format → Row → Operands → Fields
fields_of Upper r o = let n = unsigned o.imm in
    record { opcode = r.opcode; rd = o.rd; funct3 = n % 2 ^ 3; rs1 = n / 2 ^ 3 % 2 ^ 5; rs2 = n / 2 ^ 8 % 2 ^ 5; bit25 = n / 2 ^ 13 % 2; top6 = n / 2 ^ 14 }
fields_of Jump r o = let n = bits_of (2 ^ 20) o.imm in
    record { opcode = r.opcode; rd = o.rd; funct3 = n / 2 ^ 12 % 2 ^ 3; rs1 = n / 2 ^ 15 % 2 ^ 5; rs2 = n / 2 ^ 11 % 2 + 2 * (n / 2 % 2 ^ 4); bit25 = n / 2 ^ 5 % 2; top6 = n / 2 ^ 6 % 2 ^ 5 + 2 ^ 5 * (n / 2 ^ 20) }
fields_of Immediate r o = let n = bits_of (2 ^ 11) o.imm in
    record { opcode = r.opcode; rd = o.rd; funct3 = r.funct3; rs1 = o.rs1; rs2 = n % 2 ^ 5; bit25 = n / 2 ^ 5 % 2; top6 = n / 2 ^ 6 }
fields_of Branch r o = let n = bits_of (2 ^ 12) o.imm in
    record { opcode = r.opcode; rd = n / 2 ^ 11 % 2 + 2 * (n / 2 % 2 ^ 4); funct3 = r.funct3; rs1 = o.rs1; rs2 = o.rs2; bit25 = n / 2 ^ 5 % 2; top6 = n / 2 ^ 6 % 2 ^ 5 + 2 ^ 5 * (n / 2 ^ 12) }
fields_of Store r o = let n = bits_of (2 ^ 11) o.imm in
    record { opcode = r.opcode; rd = n % 2 ^ 5; funct3 = r.funct3; rs1 = o.rs1; rs2 = o.rs2; bit25 = n / 2 ^ 5 % 2; top6 = n / 2 ^ 6 }
fields_of Register r o =
    record { opcode = r.opcode; rd = o.rd; funct3 = r.funct3; rs1 = o.rs1; rs2 = o.rs2; bit25 = r.bit25; top6 = r.top6 }
fields_of Shift r o = let n = unsigned o.imm in
    record { opcode = r.opcode; rd = o.rd; funct3 = r.funct3; rs1 = o.rs1; rs2 = n % 2 ^ 5; bit25 = n / 2 ^ 5; top6 = r.top6 }
fields_of ShiftWord r o = let n = unsigned o.imm in
    record { opcode = r.opcode; rd = o.rd; funct3 = r.funct3; rs1 = o.rs1; rs2 = n; bit25 = r.bit25; top6 = r.top6 }
fields_of System r o =
    record { opcode = r.opcode; rd = 0; funct3 = r.funct3; rs1 = 0; rs2 = 0; bit25 = r.bit25; top6 = r.top6 }

-- the operands of an instruction of this format with these fields
abbrev pub operands_in : Format → Fields → Operands
operands_in Upper f =
    record { rd = f.rd; rs1 = 0; rs2 = 0; imm = pos (f.funct3 + 2 ^ 3 * f.rs1 + 2 ^ 8 * f.rs2 + 2 ^ 13 * f.bit25 + 2 ^ 14 * f.top6) }
operands_in Jump f =
    record { rd = f.rd; rs1 = 0; rs2 = 0; imm = signed_at (2 ^ 20) (2 * (f.rs2 / 2) + 2 ^ 5 * f.bit25 + 2 ^ 6 * (f.top6 % 2 ^ 5) + 2 ^ 11 * (f.rs2 % 2) + 2 ^ 12 * f.funct3 + 2 ^ 15 * f.rs1 + 2 ^ 20 * (f.top6 / 2 ^ 5)) }
operands_in Immediate f =
    record { rd = f.rd; rs1 = f.rs1; rs2 = 0; imm = signed_at (2 ^ 11) (f.rs2 + 2 ^ 5 * f.bit25 + 2 ^ 6 * f.top6) }
operands_in Branch f =
    record { rd = 0; rs1 = f.rs1; rs2 = f.rs2; imm = signed_at (2 ^ 12) (2 * (f.rd / 2) + 2 ^ 5 * f.bit25 + 2 ^ 6 * (f.top6 % 2 ^ 5) + 2 ^ 11 * (f.rd % 2) + 2 ^ 12 * (f.top6 / 2 ^ 5)) }
operands_in Store f =
    record { rd = 0; rs1 = f.rs1; rs2 = f.rs2; imm = signed_at (2 ^ 11) (f.rd + 2 ^ 5 * f.bit25 + 2 ^ 6 * f.top6) }
operands_in Register f = record { rd = f.rd; rs1 = f.rs1; rs2 = f.rs2; imm = pos 0 }
operands_in Shift f = record { rd = f.rd; rs1 = f.rs1; rs2 = 0; imm = pos (f.rs2 + 2 ^ 5 * f.bit25) }
operands_in ShiftWord f = record { rd = f.rd; rs1 = f.rs1; rs2 = 0; imm = pos f.rs2 }
operands_in System f = record { rd = 0; rs1 = 0; rs2 = 0; imm = pos 0 }

-- whether the fields that a format fixes are those of the row
abbrev pub tests : Format → Row → Fields → Bool
tests Upper r f = f.opcode == r.opcode
tests Jump r f = f.opcode == r.opcode
tests Immediate r f = f.opcode == r.opcode && f.funct3 == r.funct3
tests Branch r f = f.opcode == r.opcode && f.funct3 == r.funct3
tests Store r f = f.opcode == r.opcode && f.funct3 == r.funct3
tests Register r f = f.opcode == r.opcode && (f.funct3 == r.funct3 && (f.bit25 == r.bit25 && f.top6 == r.top6))
tests Shift r f = f.opcode == r.opcode && (f.funct3 == r.funct3 && f.top6 == r.top6)
tests ShiftWord r f = f.opcode == r.opcode && (f.funct3 == r.funct3 && (f.bit25 == r.bit25 && f.top6 == r.top6))
tests System r f =
    f.opcode == r.opcode && (f.funct3 == r.funct3 && (f.rd == 0 && (f.rs1 == 0 && (f.rs2 == 0 && (f.bit25 == r.bit25 && f.top6 == r.top6)))))
