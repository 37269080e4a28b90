-- A run in which at most one bit of one register is flipped.
use Rattle.std.specs.Prelude.{ℕ, zero, suc, ◌+◌, ◌-◌, ◌^◌, ◌<◌, ◌==◌, List, Option, Some, None, IfSome, if◌then◌else◌, bit_xor}
use Rattle.rv_model.specs.declared.Cause.{Cause}
use Rattle.rv_model.specs.declared.Flip.{Flip}
use Rattle.rv_model.specs.State.{MachineState, register, set_register}
use Rattle.rv_model.specs.Step.{StepResult, Continues, Ends, Traps, step}

-- how a run stands: it has ended with its output, a status and the number of instructions executed, the ending one counted;
-- it has trapped, with the output so far; or it goes on from a state
pub data RunResult : Type 0 where
  HasEnded : (out : List ℕ) (status steps : ℕ) → RunResult
  HasTrapped : (pc : ℕ) (cause : Cause) (out : List ℕ) → RunResult
  GoesOn : (state : MachineState) → RunResult

-- the register and the bit are there
abbrev pub FlipFits : Flip → Type 0
FlipFits f = (0 < f.reg) × (f.reg < 32) × (f.bit < 64)

-- the state with one bit of one register turned
abbrev pub flipped : ℕ → ℕ → MachineState → MachineState
flipped r b s = set_register s r (bit_xor (register s r) (2 ^ b))

-- the state in which the next instruction is tried, where the flip counts instructions from here
abbrev pub struck : Option Flip → MachineState → MachineState
struck None s = s
struck (Some f) s = if f.at == 0 then flipped f.reg f.bit s else s

-- the flip that is left after an instruction
abbrev pub later : Option Flip → Option Flip
later None = None
later (Some f) = if f.at == 0 then None else Some (record f { at = f.at - 1 })

-- the result of a run that n instructions came before
abbrev pub more : ℕ → RunResult → RunResult
more n (HasEnded out status steps) = HasEnded out status (n + steps)
more n (HasTrapped pc cause out) = HasTrapped pc cause out
more n (GoesOn s) = GoesOn s

-- a run whose first instruction does this, with this output so far; the rest is a run from the state that it gives
abbrev pub after : StepResult → List ℕ → (MachineState → RunResult) → RunResult
after (Continues s) out rest = more 1 (rest s)
after (Ends status) out rest = HasEnded out status 1
after (Traps pc cause) out rest = HasTrapped pc cause out

-- the run of at most k instructions, with a flip or with none
unfoldable pub run : ℕ → MachineState → Option Flip → RunResult
run zero s f = GoesOn s
run (suc k) s f = after (step (struck f s)) s.out (λ t. run k t (later f))

abbrev pub continued : StepResult → (MachineState → Option ℕ) → Option ℕ
continued (Continues s) rest = rest s
continued (Ends status) rest = None
continued (Traps pc cause) rest = None

-- the pc at the instruction numbered n of the run without a flip, where that run gets there
unfoldable pub pc_at : ℕ → MachineState → Option ℕ
pc_at zero s = Some s.pc
pc_at (suc n) s = continued (step s) (pc_at n)

-- the flip falls outside a list of pairs of a pc and a register: the run without a flip doesn't get so far, or its pc there and the
-- register are no pair of the list
abbrev pub IsOutside : (ℕ → ℕ → Type 0) → MachineState → Flip → Type 0
IsOutside listed s f = IfSome (pc_at f.at s) (λ p. listed p f.reg → ⊥)
