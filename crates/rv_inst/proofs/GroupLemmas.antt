-- What is known of the operands of an instruction that is in its ranges.
use Rattle.std.proofs.Common.{◌≡◌, ◌^◌, sym, ◌∙◌, ap, subst, arith}
use Rattle.rv_inst.specs.declared.table.Format.{Format}
use Rattle.rv_inst.specs.declared.table.Format.TheVariants.{Upper, Jump, Immediate, Branch, Store, Register, Shift, ShiftWord, System}
use Rattle.rv_inst.specs.declared.table.Group.TheVariants.{Constants, Addresses}
use Rattle.rv_inst.specs.declared.table.Operands.{Operands}
use Rattle.rv_inst.specs.declared.instruction.Form.{Form}
use Rattle.rv_inst.specs.declared.instruction.Form.TheVariants.{LUI, AUIPC}
use Rattle.rv_inst.specs.Table.{row}
use Rattle.rv_inst.specs.Forms.{kind_of, operands_of}
use Rattle.rv_inst.specs.Groups.{group_of, HasRegisters}
use Rattle.rv_inst.specs.Word.{IsBelow, FitsFormat, Fits}
use Rattle.rv_inst.proofs.EachKind.{trim, operands_of-form_of, form_of-kind_of}

by_format : (format : Format) (o : Operands) → FitsFormat format o → HasRegisters (trim format o)
by_format Upper o h = record { rd = h.0; rs1 = omega arith; rs2 = omega arith }
by_format Jump o h = record { rd = h.0; rs1 = omega arith; rs2 = omega arith }
by_format Immediate o h = record { rd = h.0; rs1 = h.1; rs2 = omega arith }
by_format Branch o h = record { rd = omega arith; rs1 = h.0; rs2 = h.1 }
by_format Store o h = record { rd = omega arith; rs1 = h.0; rs2 = h.1 }
by_format Register o h = record { rd = h.0; rs1 = h.1; rs2 = h.2 }
by_format Shift o h = record { rd = h.0; rs1 = h.1; rs2 = omega arith }
by_format ShiftWord o h = record { rd = h.0; rs1 = h.1; rs2 = omega arith }
by_format System o h = record { rd = omega arith; rs1 = omega arith; rs2 = omega arith }

-- the registers of an instruction, 0 where it has none, are x0 to x31
pub registers_fit : (i : Form) → Fits i → HasRegisters (operands_of i)
registers_fit i h =
    let trimmed : trim ((row (kind_of i)).format) (operands_of i) ≡ operands_of i =
    sym (operands_of-form_of (kind_of i) (operands_of i)) ∙ ap operands_of (form_of-kind_of i) in
    subst HasRegisters trimmed (by_format ((row (kind_of i)).format) (operands_of i) h)

-- LUI has an immediate of 20 bits
pub constant_fits : (i : Form) → Fits i → group_of (kind_of i) ≡ Constants → IsBelow (2 ^ 20) (operands_of i).imm
constant_fits (LUI rd imm) h e = h.1
constant_fits _ h e = absurd (cc)

-- AUIPC has one too
pub address_fits : (i : Form) → Fits i → group_of (kind_of i) ≡ Addresses → IsBelow (2 ^ 20) (operands_of i).imm
address_fits (AUIPC rd imm) h e = h.1
address_fits _ h e = absurd (cc)
