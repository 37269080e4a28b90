-- The groups of instructions, by their major opcodes (RISC-V Unprivileged ISA, "RV32/64G Instruction Set Listings").
use Rattle.std.specs.Prelude.{ℕ, Bool, true, false, ◌==◌, ◌<◌, if◌then◌else◌}
use Rattle.rv_inst.specs.declared.table.Group.{Group}
use Rattle.rv_inst.specs.declared.table.Group.TheVariants.{Constants, Addresses, Jumps, RegisterJumps, Branches, Loads, Stores, Immediates, Registers, Calls}
use Rattle.rv_inst.specs.declared.table.Kind.{Kind}
use Rattle.rv_inst.specs.declared.table.Operands.{Operands}
use Rattle.rv_inst.specs.Table.{row}

-- the group of a major opcode: LUI, AUIPC, JAL, JALR, BRANCH, LOAD, STORE, OP-IMM and OP-IMM-32, OP and OP-32, and SYSTEM
abbrev pub group_at : ℕ → Group
group_at opcode =
    if opcode == 0b0110111 then Constants
    else if opcode == 0b0010111 then Addresses
    else if opcode == 0b1101111 then Jumps
    else if opcode == 0b1100111 then RegisterJumps
    else if opcode == 0b1100011 then Branches
    else if opcode == 0b0000011 then Loads
    else if opcode == 0b0100011 then Stores
    else if opcode == 0b0010011 then Immediates
    else if opcode == 0b0011011 then Immediates
    else if opcode == 0b0110011 then Registers
    else if opcode == 0b0111011 then Registers
    else Calls

-- the group of an instruction
abbrev pub group_of : Kind → Group
group_of k = group_at ((row k).opcode)

-- the groups are the same
abbrev pub is_same_group : Group → Group → Bool
is_same_group Constants Constants = true
is_same_group Addresses Addresses = true
is_same_group Jumps Jumps = true
is_same_group RegisterJumps RegisterJumps = true
is_same_group Branches Branches = true
is_same_group Loads Loads = true
is_same_group Stores Stores = true
is_same_group Immediates Immediates = true
is_same_group Registers Registers = true
is_same_group Calls Calls = true
is_same_group _ _ = false

-- the registers are x0 to x31
pub record HasRegisters (o : Operands) : Type 0 where
  pub rd : o.rd < 32
  pub rs1 : o.rs1 < 32
  pub rs2 : o.rs2 < 32
