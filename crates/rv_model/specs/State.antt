-- The state of the machine.
use Rattle.std.specs.Prelude.{ℕ, ◌+◌, ◌%◌, ◌^◌, ◌==◌, List, if◌then◌else◌, slice_index, slice_set}

-- a segment of memory, with the byte at each of its addresses; its flags are 1 (executed), 2 (written) and 4 (read), added up
pub record LoadedSegment : Type 0 where
  pub base : ℕ
  pub flags : ℕ
  pub bytes : List ℕ

-- the registers x0 to x31, the address of the next instruction, the memory, the input not yet read, and the output so far
pub record MachineState : Type 0 where
  pub regs : List ℕ
  pub pc : ℕ
  pub segments : List LoadedSegment
  pub input : List ℕ
  pub out : List ℕ

-- what register r holds
abbrev pub register : MachineState → ℕ → ℕ
register s r = slice_index s.regs r

-- the state after v is written to register r; x0 stays 0
unfoldable pub set_register : MachineState → ℕ → ℕ → MachineState
set_register s r v = record s { regs = if r == 0 then s.regs else slice_set s.regs r v }

-- a sum of 64 bits
abbrev pub plus64 : ℕ → ℕ → ℕ
plus64 a b = (a + b) % 2 ^ 64

-- the state that goes on at p
abbrev pub jump : MachineState → ℕ → MachineState
jump s p = record s { pc = p }

-- the state that goes on at the next word
abbrev pub next : MachineState → MachineState
next s = jump s (plus64 s.pc 4)
