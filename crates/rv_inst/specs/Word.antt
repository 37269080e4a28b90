-- The word of an instruction.
use Rattle.std.specs.Prelude.{◌≡◌, ℕ, ℤ, pos, negsuc, ◌%◌, ◌^◌, ◌<◌, Option, Some, None, find}
use Rattle.rv_inst.specs.declared.table.Kind.{Kind}
use Rattle.rv_inst.specs.declared.table.Format.{Format}
use Rattle.rv_inst.specs.declared.table.Format.TheVariants.{Upper, Jump, Immediate, Branch, Store, Register, Shift, ShiftWord, System}
use Rattle.rv_inst.specs.declared.table.Operands.{Operands}
use Rattle.rv_inst.specs.declared.table.Fields.{Fields}
use Rattle.rv_inst.specs.declared.instruction.Form.{Form}
use Rattle.rv_inst.specs.Table.{row, kinds}
use Rattle.rv_inst.specs.Forms.{kind_of, operands_of, form_of}
use Rattle.rv_inst.specs.Format.{number, fields_at, fields_of, operands_in, tests}

-- from 0 to limit - 1
abbrev pub IsBelow : ℕ → ℤ → Type 0
IsBelow limit (pos n) = n < limit
IsBelow limit (negsuc _) = ⊥

-- from -half to half - 1
abbrev pub IsSigned : ℕ → ℤ → Type 0
IsSigned half (pos n) = n < half
IsSigned half (negsuc n) = n < half

abbrev pub IsEven : ℤ → Type 0
IsEven (pos n) = n % 2 ≡ 0
IsEven (negsuc n) = n % 2 ≡ 1

-- registers are x0 to x31, and the immediate is one that the format can hold
abbrev pub FitsFormat : Format → Operands → Type 0
FitsFormat Upper o = (o.rd < 32) × IsBelow (2 ^ 20) o.imm
FitsFormat Jump o = (o.rd < 32) × IsSigned (2 ^ 20) o.imm × IsEven o.imm
FitsFormat Immediate o = (o.rd < 32) × (o.rs1 < 32) × IsSigned (2 ^ 11) o.imm
FitsFormat Branch o = (o.rs1 < 32) × (o.rs2 < 32) × IsSigned (2 ^ 12) o.imm × IsEven o.imm
FitsFormat Store o = (o.rs1 < 32) × (o.rs2 < 32) × IsSigned (2 ^ 11) o.imm
FitsFormat Register o = (o.rd < 32) × (o.rs1 < 32) × (o.rs2 < 32)
FitsFormat Shift o = (o.rd < 32) × (o.rs1 < 32) × IsBelow 64 o.imm
FitsFormat ShiftWord o = (o.rd < 32) × (o.rs1 < 32) × IsBelow 32 o.imm
FitsFormat System o = Unit {0}

-- the registers and the immediate of an instruction are in their ranges
abbrev pub Fits : Form → Type 0
Fits i = FitsFormat ((row (kind_of i)).format) (operands_of i)

-- w is the word of the instruction: its fields are laid out by its format, around the fixed parts of its row
abbrev pub Word : ℕ → Form → Type 0
Word w i = Fits i × (w ≡ number (fields_of ((row (kind_of i)).format) (row (kind_of i)) (operands_of i)))

-- the first row that the fields match
unfoldable pub kind_at : Fields → Option Kind
kind_at f = find (λ k. tests ((row k).format) (row k) f) kinds

abbrev pub form_in : Option Kind → Fields → Option Form
form_in None f = None
form_in (Some k) f = Some (form_of k (operands_in ((row k).format) f))

-- the instruction of a word, None where the table has none
unfoldable pub form_at : ℕ → Option Form
form_at w = form_in (kind_at (fields_at w)) (fields_at w)
