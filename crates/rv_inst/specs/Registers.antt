-- Which registers an instruction reads and writes. x0 is always 0, and is neither read nor written.
use Rattle.std.specs.Prelude.{ℕ, Bool, false, nat_lt, ◌==◌, ◌&&◌, ◌||◌}
use Rattle.rv_inst.specs.declared.table.Format.{Format}
use Rattle.rv_inst.specs.declared.table.Format.TheVariants.{Upper, Jump, Immediate, Branch, Store, Register, Shift, ShiftWord, System}
use Rattle.rv_inst.specs.declared.table.Operands.{Operands}
use Rattle.rv_inst.specs.declared.instruction.Form.{Form}
use Rattle.rv_inst.specs.Table.{row}
use Rattle.rv_inst.specs.Forms.{kind_of, operands_of}

-- which registers an instruction of this format takes; ECALL takes its number in x17, and x10 to x12
abbrev pub sources : Format → Operands → ℕ → Bool
sources Upper o r = false
sources Jump o r = false
sources Immediate o r = r == o.rs1
sources Branch o r = r == o.rs1 || r == o.rs2
sources Store o r = r == o.rs1 || r == o.rs2
sources Register o r = r == o.rs1 || r == o.rs2
sources Shift o r = r == o.rs1
sources ShiftWord o r = r == o.rs1
sources System o r = r == 10 || (r == 11 || (r == 12 || r == 17))

-- which register it sets; ECALL gives its answer in x10
abbrev pub target : Format → Operands → ℕ → Bool
target Upper o r = r == o.rd
target Jump o r = r == o.rd
target Immediate o r = r == o.rd
target Branch o r = false
target Store o r = false
target Register o r = r == o.rd
target Shift o r = r == o.rd
target ShiftWord o r = r == o.rd
target System o r = r == 10

-- whether the instruction reads register r
abbrev pub reads : Form → ℕ → Bool
reads i r = nat_lt 0 r && sources ((row (kind_of i)).format) (operands_of i) r

-- whether it writes register r
abbrev pub writes : Form → ℕ → Bool
writes i r = nat_lt 0 r && target ((row (kind_of i)).format) (operands_of i) r
