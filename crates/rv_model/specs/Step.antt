-- One instruction (RISC-V Unprivileged ISA, RV64I and M), and the three calls of the environment.
use Rattle.std.specs.Prelude.{ℕ, ℤ, Bool, ◌%◌, ◌==◌, ◌&&◌, ◌++◌, min, List, length, take, drop, Option, Some, None, if◌then◌else◌}
use Rattle.byteorder.specs.Endian.{little_bytes, little_number}
use Rattle.rv_inst.specs.declared.instruction.Form.{Form}
use Rattle.rv_inst.specs.declared.table.Group.{Group}
use Rattle.rv_inst.specs.declared.table.Group.TheVariants.{Constants, Addresses, Jumps, RegisterJumps, Branches, Loads, Stores, Immediates, Registers, Calls}
use Rattle.rv_inst.specs.declared.table.Kind.{Kind}
use Rattle.rv_inst.specs.declared.table.Operands.{Operands}
use Rattle.rv_inst.specs.Forms.{kind_of, operands_of}
use Rattle.rv_inst.specs.Groups.{group_of}
use Rattle.rv_inst.specs.Word.{form_at}
use Rattle.rv_model.specs.declared.Cause.{Cause}
use Rattle.rv_model.specs.declared.Cause.TheVariants.{Fetch, Illegal, Load, Store, Call}
use Rattle.rv_model.specs.Operations.{even_part, operation, is_taken, width, extended}
use Rattle.rv_model.specs.State.{LoadedSegment, MachineState, register, set_register, plus64, jump, next}
use Rattle.rv_model.specs.Memory.{read, bytes_at, bytes_for, kept_in, stored, word_at}
pub use Rattle.rv_model.specs.Operations.{bits64, sign_extended, upper_value}

-- what an instruction does: the machine goes on in a new state, the program ends with a status, or it traps at a pc, and nothing is changed
pub data StepResult : Type 0 where
  Continues : (state : MachineState) → StepResult
  Ends : (status : ℕ) → StepResult
  Traps : (pc : ℕ) (cause : Cause) → StepResult

-- v is put into register rd
abbrev pub put : ℕ → ℕ → MachineState → StepResult
put rd v s = Continues (next (set_register s rd v))

-- the bytes at the address come into register rd, extended to 64 bits
abbrev pub loaded : Option (List ℕ) → ℕ → (ℕ → ℕ) → ℕ → MachineState → StepResult
loaded None count extend rd s = Traps s.pc Load
loaded (Some bytes) count extend rd s = put rd (extend (little_number count bytes)) s

-- memory is as it is after a store
abbrev pub kept : Option (List LoadedSegment) → MachineState → StepResult
kept None s = Traps s.pc Store
kept (Some segments) s = Continues (next (record s { segments = segments }))

-- memory has the next count bytes of the input, and x10 their number
abbrev pub received : Option (List LoadedSegment) → ℕ → MachineState → StepResult
received None count s = Traps s.pc Store
received (Some segments) count s = put 10 count (record s { segments = segments; input = drop count s.input })

-- the call that reads: as many bytes as x12 asks for, or all that are left, come to the address in x11
abbrev pub reads_input : MachineState → StepResult
reads_input s =
    received (kept_in (register s 11) (take (register s 12) s.input) s.segments) (min (register s 12) (length s.input)) s

-- the bytes are put out, and x10 has their number
abbrev pub sent : Option (List ℕ) → MachineState → StepResult
sent None s = Traps s.pc Load
sent (Some bytes) s = put 10 (length bytes) (record s { out = s.out ++ bytes })

-- the call that writes: the x12 bytes at the address in x11 are put out
abbrev pub writes_output : MachineState → StepResult
writes_output s = sent (bytes_for (register s 11) (register s 12) s.segments) s

-- the environment's call that x17 numbers: 93 ends the program with the lowest byte of x10, 63 reads where x10 is 0, and 64 writes
-- where x10 is 1
abbrev pub called : MachineState → StepResult
called s =
    if register s 17 == 93 then Ends (register s 10 % 256)
    else if register s 17 == 63 && register s 10 == 0 then reads_input s
    else if register s 17 == 64 && register s 10 == 1 then writes_output s
    else Traps s.pc Call

-- the state after a branch: it goes on at the offset where the test holds, else at the next word
abbrev pub branched : Bool → ℤ → MachineState → MachineState
branched test offset s = jump s (if test then plus64 s.pc (bits64 offset) else plus64 s.pc 4)

-- rd gets the address of the next word, and the machine goes on at the target
abbrev pub linked : ℕ → ℕ → MachineState → StepResult
linked rd target s = Continues (jump (set_register s rd (plus64 s.pc 4)) target)

-- the address of a load or a store
abbrev pub address : ℕ → ℤ → MachineState → ℕ
address rs1 offset s = plus64 (register s rs1) (bits64 offset)

-- a load from the address into rd
abbrev pub loads : Kind → ℕ → ℕ → MachineState → StepResult
loads k rd at s = loaded (bytes_at read at (width k) s.segments) (width k) (extended k) rd s

-- a store of the lowest bytes of a value at the address
abbrev pub stores : Kind → ℕ → ℕ → MachineState → StepResult
stores k at value s = kept (stored at (little_bytes (width k) value) s.segments) s

-- what an instruction with these operands does, by its group: LUI, AUIPC, JAL and JALR have a group each, and what is computed, tested,
-- loaded or stored goes by the tables
abbrev pub act_by : Group → Kind → Operands → MachineState → StepResult
act_by Constants k o s = put o.rd (upper_value o.imm) s
act_by Addresses k o s = put o.rd (plus64 s.pc (upper_value o.imm)) s
act_by Jumps k o s = linked o.rd (plus64 s.pc (bits64 o.imm)) s
act_by RegisterJumps k o s = linked o.rd (even_part (plus64 (register s o.rs1) (bits64 o.imm))) s
act_by Branches k o s = Continues (branched (is_taken k (register s o.rs1) (register s o.rs2)) o.imm s)
act_by Loads k o s = loads k o.rd (address o.rs1 o.imm s) s
act_by Stores k o s = stores k (address o.rs1 o.imm s) (register s o.rs2) s
act_by Immediates k o s = put o.rd (operation k (register s o.rs1) (bits64 o.imm)) s
act_by Registers k o s = put o.rd (operation k (register s o.rs1) (register s o.rs2)) s
act_by Calls k o s = called s

-- what an instruction does
unfoldable pub act : Form → MachineState → StepResult
act i s = act_by (group_of (kind_of i)) (kind_of i) (operands_of i) s

-- what the machine does with the instruction of a word, where it has one
abbrev pub decoded : Option Form → MachineState → StepResult
decoded None s = Traps s.pc Illegal
decoded (Some i) s = act i s

-- what it does with the word at the pc, where one can be executed there
abbrev pub fetched : Option ℕ → MachineState → StepResult
fetched None s = Traps s.pc Fetch
fetched (Some w) s = decoded (form_at w) s

-- one step: the word at the pc is fetched and decoded, and its instruction acts
unfoldable pub step : MachineState → StepResult
step s = fetched (word_at s.pc s.segments) s
