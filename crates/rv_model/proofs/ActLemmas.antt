-- What each instruction does, as one equation.
use Rattle.std.proofs.Common.{◌≡◌, ℕ, ◌+◌, ◌-◌, ◌*◌, ◌%◌, ◌<◌, ◌≤◌, ◌^◌, ◌==◌, Bool, true, false, cond, refl, ap, arith}
use Rattle.std.specs.Prelude.{ℤ, pos, negsuc, nat_lt}
use Rattle.rv_inst.specs.declared.instruction.Form.{Form}
use Rattle.rv_inst.specs.declared.instruction.Form.TheVariants.{LUI, BEQ, ADDI, ECALL}
use Rattle.rv_inst.specs.declared.table.Group.TheVariants.{Immediates, Registers}
use Rattle.rv_inst.specs.Forms.{kind_of, operands_of}
use Rattle.rv_inst.specs.Groups.{group_of}
use Rattle.rv_inst.specs.Word.{IsBelow, IsSigned}
use Rattle.rv_model.specs.State.{MachineState, register, plus64}
use Rattle.rv_model.specs.Step.{Continues, Ends, bits64, sign_extended, upper_value, put, branched, called, act_by, act}
use Rattle.rv_model.specs.Operations.{operation}

pub act-LUI : (rd : ℕ) (imm : ℤ) (s : MachineState) → act (LUI rd imm) s ≡ put rd (upper_value imm) s
unfolding act
act-LUI rd imm s = refl

pub act-ADDI : (rd rs1 : ℕ) (imm : ℤ) (s : MachineState) → act (ADDI rd rs1 imm) s ≡ put rd (plus64 (register s rs1) (bits64 imm)) s
unfolding act
act-ADDI rd rs1 imm s = refl

pub act-BEQ : (rs1 rs2 : ℕ) (offset : ℤ) (s : MachineState) → act (BEQ rs1 rs2 offset) s ≡ Continues (branched (register s rs1 == register s rs2) offset s)
unfolding act
act-BEQ rs1 rs2 offset s = refl

pub act-ECALL : (s : MachineState) → act ECALL s ≡ called s
unfolding act
act-ECALL s = refl

-- an operation on a register and an immediate
pub act-immediate : (i : Form) (s : MachineState) → group_of (kind_of i) ≡ Immediates
    → act i s ≡ put (operands_of i).rd (operation (kind_of i) (register s (operands_of i).rs1) (bits64 (operands_of i).imm)) s
unfolding act
act-immediate i s e = ap (λ g. act_by g (kind_of i) (operands_of i) s) e

-- an operation on two registers
pub act-registers : (i : Form) (s : MachineState) → group_of (kind_of i) ≡ Registers
    → act i s ≡ put (operands_of i).rd (operation (kind_of i) (register s (operands_of i).rs1) (register s (operands_of i).rs2)) s
unfolding act
act-registers i s e = ap (λ g. act_by g (kind_of i) (operands_of i) s) e

-- the call that ends the program
pub called-ends : (s : MachineState) (n : ℕ) → register s 17 ≡ 93 → register s 10 ≡ n → called s ≡ Ends (n % 256)
called-ends s n number status = rw (number, status) refl

-- the bits of an immediate are a number of 64 bits
pub bits64_small : (half : ℕ) (imm : ℤ) → half ≤ 2 ^ 63 → IsSigned half imm → bits64 imm < 2 ^ 64
bits64_small half (pos n) le h = omega arith
bits64_small half (negsuc n) le h = omega arith

sign_extended_small : (n : ℕ) → n < 2 ^ 32 → sign_extended (2 ^ 31) n < 2 ^ 64
sign_extended_small n h = by_sign (nat_lt n (2 ^ 31)) refl
  where
    by_sign : (b : Bool) → nat_lt n (2 ^ 31) ≡ b → cond b n (n + 2 ^ 64 - 2 * 2 ^ 31) < 2 ^ 64
    by_sign true e = omega arith
    by_sign false e = omega arith

pub upper_value_small : (imm : ℤ) → IsBelow (2 ^ 20) imm → upper_value imm < 2 ^ 64
upper_value_small (pos n) h = sign_extended_small (2 ^ 12 * n) (omega arith)
upper_value_small (negsuc n) h = absurd h
