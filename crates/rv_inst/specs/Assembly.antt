-- The assembly text of an instruction (RISC-V Assembly Programmer's Manual): its name, and its operands by their format.
use Rattle.std.specs.Prelude.{ℕ, ℤ, List, ◌++◌, Bool, true, false, codes, decimal, if◌then◌else◌}
use Rattle.std.specs.Fmt.{signed_decimal}
use Rattle.rv_inst.specs.declared.table.Format.{Format}
use Rattle.rv_inst.specs.declared.table.Format.TheVariants.{Upper, Jump, Immediate, Branch, Store, Register, Shift, ShiftWord, System}
use Rattle.rv_inst.specs.declared.table.Group.{Group}
use Rattle.rv_inst.specs.declared.table.Group.TheVariants.{RegisterJumps, Loads}
use Rattle.rv_inst.specs.declared.table.Operands.{Operands}
use Rattle.rv_inst.specs.declared.table.Kind.{Kind}
use Rattle.rv_inst.specs.declared.table.Kind.TheVariants.{OpLui, OpAuipc, OpJal, OpJalr, OpBeq, OpBne, OpBlt, OpBge, OpBltu, OpBgeu, OpLb, OpLh, OpLw, OpLd, OpLbu, OpLhu, OpLwu, OpSb, OpSh, OpSw, OpSd, OpAddi, OpSlti, OpSltiu, OpXori, OpOri, OpAndi, OpSlli, OpSrli, OpSrai, OpAdd, OpSll, OpSlt, OpSltu, OpXor, OpSrl, OpOr, OpAnd, OpSub, OpSra, OpMul, OpMulh, OpMulhsu, OpMulhu, OpDiv, OpDivu, OpRem, OpRemu, OpAddiw, OpSlliw, OpSrliw, OpSraiw, OpAddw, OpSllw, OpSrlw, OpSubw, OpSraw, OpMulw, OpDivw, OpDivuw, OpRemw, OpRemuw, OpEcall}
use Rattle.rv_inst.specs.declared.instruction.Form.{Form}
use Rattle.rv_inst.specs.Table.{row}
use Rattle.rv_inst.specs.Forms.{kind_of, operands_of}
use Rattle.rv_inst.specs.Groups.{group_of}

-- the name of an instruction, in lower case
abbrev pub name_of : Kind → List ℕ
name_of OpLui = codes "lui"
name_of OpAuipc = codes "auipc"
name_of OpJal = codes "jal"
name_of OpJalr = codes "jalr"
name_of OpBeq = codes "beq"
name_of OpBne = codes "bne"
name_of OpBlt = codes "blt"
name_of OpBge = codes "bge"
name_of OpBltu = codes "bltu"
name_of OpBgeu = codes "bgeu"
name_of OpLb = codes "lb"
name_of OpLh = codes "lh"
name_of OpLw = codes "lw"
name_of OpLd = codes "ld"
name_of OpLbu = codes "lbu"
name_of OpLhu = codes "lhu"
name_of OpLwu = codes "lwu"
name_of OpSb = codes "sb"
name_of OpSh = codes "sh"
name_of OpSw = codes "sw"
name_of OpSd = codes "sd"
name_of OpAddi = codes "addi"
name_of OpSlti = codes "slti"
name_of OpSltiu = codes "sltiu"
name_of OpXori = codes "xori"
name_of OpOri = codes "ori"
name_of OpAndi = codes "andi"
name_of OpSlli = codes "slli"
name_of OpSrli = codes "srli"
name_of OpSrai = codes "srai"
name_of OpAdd = codes "add"
name_of OpSll = codes "sll"
name_of OpSlt = codes "slt"
name_of OpSltu = codes "sltu"
name_of OpXor = codes "xor"
name_of OpSrl = codes "srl"
name_of OpOr = codes "or"
name_of OpAnd = codes "and"
name_of OpSub = codes "sub"
name_of OpSra = codes "sra"
name_of OpMul = codes "mul"
name_of OpMulh = codes "mulh"
name_of OpMulhsu = codes "mulhsu"
name_of OpMulhu = codes "mulhu"
name_of OpDiv = codes "div"
name_of OpDivu = codes "divu"
name_of OpRem = codes "rem"
name_of OpRemu = codes "remu"
name_of OpAddiw = codes "addiw"
name_of OpSlliw = codes "slliw"
name_of OpSrliw = codes "srliw"
name_of OpSraiw = codes "sraiw"
name_of OpAddw = codes "addw"
name_of OpSllw = codes "sllw"
name_of OpSrlw = codes "srlw"
name_of OpSubw = codes "subw"
name_of OpSraw = codes "sraw"
name_of OpMulw = codes "mulw"
name_of OpDivw = codes "divw"
name_of OpDivuw = codes "divuw"
name_of OpRemw = codes "remw"
name_of OpRemuw = codes "remuw"
name_of OpEcall = codes "ecall"

-- a register, by its number
abbrev pub register_text : ℕ → List ℕ
register_text r = codes "x" ++ decimal r

-- an address: the offset, and the register that it is added to in parentheses
abbrev pub address_text : ℤ → ℕ → List ℕ
address_text offset r = signed_decimal offset ++ (codes "(" ++ (register_text r ++ codes ")"))

-- loads and JALR write their immediate as an address
abbrev pub is_addressed : Group → Bool
is_addressed Loads = true
is_addressed RegisterJumps = true
is_addressed _ = false

-- a name, a blank, and operands with commas between them
abbrev pub three_operands : List ℕ → List ℕ → List ℕ → List ℕ → List ℕ
three_operands name a b c = name ++ (codes " " ++ (a ++ (codes "," ++ (b ++ (codes "," ++ c)))))

-- the same with two operands
abbrev pub two_operands : List ℕ → List ℕ → List ℕ → List ℕ
two_operands name a b = name ++ (codes " " ++ (a ++ (codes "," ++ b)))

-- the text of an instruction with an immediate, which may be an address
abbrev pub immediate_by : Bool → List ℕ → Operands → List ℕ
immediate_by addressed name o =
    if addressed then two_operands name (register_text o.rd) (address_text o.imm o.rs1)
    else three_operands name (register_text o.rd) (register_text o.rs1) (signed_decimal o.imm)

-- the text of a name and its operands, by the format and, of those with an immediate, the group
abbrev pub text_by : Format → Group → List ℕ → Operands → List ℕ
text_by Upper group name o = two_operands name (register_text o.rd) (signed_decimal o.imm)
text_by Jump group name o = two_operands name (register_text o.rd) (signed_decimal o.imm)
text_by Immediate group name o = immediate_by (is_addressed group) name o
text_by Branch group name o = three_operands name (register_text o.rs1) (register_text o.rs2) (signed_decimal o.imm)
text_by Store group name o = two_operands name (register_text o.rs2) (address_text o.imm o.rs1)
text_by Register group name o = three_operands name (register_text o.rd) (register_text o.rs1) (register_text o.rs2)
text_by Shift group name o = three_operands name (register_text o.rd) (register_text o.rs1) (signed_decimal o.imm)
text_by ShiftWord group name o = three_operands name (register_text o.rd) (register_text o.rs1) (signed_decimal o.imm)
text_by System group name o = name

-- the text of an instruction
abbrev pub text_of : Form → List ℕ
text_of i = text_by ((row (kind_of i)).format) (group_of (kind_of i)) (name_of (kind_of i)) (operands_of i)
