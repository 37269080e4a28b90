-- Two phis of one block that take each other's values: both are read before either is set.
use Rattle.std.specs.Prelude.{◌≡◌, refl, ℕ, [], ◌∷◌}
use Rattle.ir_tree.specs.declared.module.Bin.TheVariants.{Add, Mul}
use Rattle.ir_tree.specs.declared.module.Pred.TheVariants.{Eq}
use Rattle.ir_model.specs.Operations.{Binary, Compare, compute}
use Rattle.ir_model.specs.Programs.{Operand, Local, Compute, Jump, Branch, Return, Phi, Program}
use Rattle.ir_model.specs.Steps.{act, step}
use Rattle.ir_model.specs.Runs.{HasEnded, StepsOver, run}
use Rattle.ir_model.proofs.Examples.{plain, no_signed_wrap, number, gives, does, block, function, program, runs}

-- a phi that takes one operand from block 0 and another from block 1
abbrev takes : ℕ → Operand → Operand → Phi
takes id first later = record { result = id; inputs = record { from = 0; operand = first } ∷ record { from = 1; operand = later } ∷ [] }

-- a, b = 1, 2; three times round, of which each but the first swaps a and b; then 10 * a + b
abbrev swaps : Program
swaps = program (function 0 7 (
    block (does (Jump 1) [] ∷ [])
    ∷ record {
      phis = takes 0 (number 32 1) (Local 1) ∷ takes 1 (number 32 2) (Local 0) ∷ takes 2 (number 32 0) (Local 3) ∷ [];
      body =
          gives 3 (Compute (Binary Add no_signed_wrap 32)) (Local 2 ∷ number 32 1 ∷ [])
          ∷ gives 4 (Compute (Compare Eq)) (Local 3 ∷ number 32 3 ∷ [])
          ∷ does (Branch 2 1) (Local 4 ∷ [])
          ∷ [];
    }
    ∷ block (
    gives 5 (Compute (Binary Mul plain 32)) (Local 0 ∷ number 32 10 ∷ [])
    ∷ gives 6 (Compute (Binary Add plain 32)) (Local 5 ∷ Local 1 ∷ [])
    ∷ does Return (Local 6 ∷ [])
    ∷ [])
    ∷ []) ∷ [])

pub phis_swap : runs 13 swaps [] ≡ HasEnded [] 12 13
unfolding run step act compute
phis_swap = refl

pub phis_are_no_steps : runs 12 swaps [] ≡ StepsOver []
unfolding run step act compute
phis_are_no_steps = refl
