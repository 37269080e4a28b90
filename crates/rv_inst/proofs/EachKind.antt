-- Facts on all kinds: the table and the look-up compute at each.
use Rattle.std.proofs.Common.{◌≡◌, Some, refl, arith}
use Rattle.rv_inst.specs.declared.table.Kind.{Kind}
use Rattle.rv_inst.specs.declared.table.Kind.TheVariants.{OpLui}
use Rattle.rv_inst.specs.declared.table.Operands.{Operands}
use Rattle.rv_inst.specs.declared.table.Format.{Format}
use Rattle.rv_inst.specs.declared.table.Format.TheVariants.{Upper, Jump, Immediate, Branch, Store, Register, Shift, ShiftWord, System}
use Rattle.rv_inst.specs.declared.instruction.Form.{Form}
use Rattle.rv_inst.specs.declared.instruction.Form.TheVariants.{LUI}
use Rattle.std.specs.Prelude.{pos}
use Rattle.rv_inst.specs.Table.{row}
use Rattle.rv_inst.specs.Forms.{kind_of, operands_of, form_of}
use Rattle.rv_inst.specs.Format.{fields_of, IsRow}
use Rattle.rv_inst.specs.Word.{kind_at}
use Rattle.rv_inst.specs.Opcodes.{kind_by_opcode}

-- the operands that a format has, the others 0
abbrev pub trim : Format → Operands → Operands
trim Upper o = record { rd = o.rd; rs1 = 0; rs2 = 0; imm = o.imm }
trim Jump o = record { rd = o.rd; rs1 = 0; rs2 = 0; imm = o.imm }
trim Immediate o = record { rd = o.rd; rs1 = o.rs1; rs2 = 0; imm = o.imm }
trim Branch o = record { rd = 0; rs1 = o.rs1; rs2 = o.rs2; imm = o.imm }
trim Store o = record { rd = 0; rs1 = o.rs1; rs2 = o.rs2; imm = o.imm }
trim Register o = record { rd = o.rd; rs1 = o.rs1; rs2 = o.rs2; imm = pos 0 }
trim Shift o = record { rd = o.rd; rs1 = o.rs1; rs2 = 0; imm = o.imm }
trim ShiftWord o = record { rd = o.rd; rs1 = o.rs1; rs2 = 0; imm = o.imm }
trim System o = record { rd = 0; rs1 = 0; rs2 = 0; imm = pos 0 }

pub kind_of-form_of : (k : Kind) (o : Operands) → kind_of (form_of k o) ≡ k
kind_of-form_of OpLui o = refl
kind_of-form_of _ o = refl

pub operands_of-form_of : (k : Kind) (o : Operands) → operands_of (form_of k o) ≡ trim ((row k).format) o
operands_of-form_of OpLui o = refl
operands_of-form_of _ o = refl

pub form_of-trim : (k : Kind) (o : Operands) → form_of k (trim ((row k).format) o) ≡ form_of k o
form_of-trim OpLui o = refl
form_of-trim _ o = refl

pub form_of-kind_of : (i : Form) → form_of (kind_of i) (operands_of i) ≡ i
form_of-kind_of (LUI rd imm) = refl
form_of-kind_of _ = refl

pub row_fits : (k : Kind) → IsRow (row k)
row_fits OpLui = record { opcode = omega arith; funct3 = omega arith; bit25 = omega arith; top6 = omega arith }
row_fits _ = record { opcode = omega arith; funct3 = omega arith; bit25 = omega arith; top6 = omega arith }

-- the fields of an instruction match its own row, and no earlier one
pub kind_at-fields_of : (k : Kind) (o : Operands) → kind_at (fields_of ((row k).format) (row k) o) ≡ Some k
unfolding kind_at
kind_at-fields_of OpLui o = refl
kind_at-fields_of _ o = refl

pub kind_by_opcode-fields_of : (k : Kind) (o : Operands) → kind_by_opcode (fields_of ((row k).format) (row k) o) ≡ Some k
kind_by_opcode-fields_of OpLui o = refl
kind_by_opcode-fields_of _ o = refl
