-- Each reason why a program has no meaning, by a small program that has it.
use Rattle.std.specs.Prelude.{◌≡◌, refl, [], ◌∷◌}
use Rattle.ir_tree.specs.declared.module.Bin.TheVariants.{Shl, Udiv, Sdiv, Urem}
use Rattle.ir_tree.specs.declared.module.Pred.{Pred}
use Rattle.ir_tree.specs.declared.module.Pred.TheVariants.{Eq, Ult}
use Rattle.ir_model.specs.declared.Why.TheVariants as why
use Rattle.ir_model.specs.declared.Access.TheVariants.{I32}
use Rattle.ir_model.specs.Values.{Address, Poison, null_pointer}
use Rattle.ir_model.specs.Operations.{Binary, Compare, Select, Freeze, compute}
use Rattle.ir_model.specs.Programs.{Fixed, Local, Compute, Alloca, Load, Call, PutChar, Branch, Return, Unreachable, Instruction, Program}
use Rattle.ir_model.specs.Steps.{act, step}
use Rattle.ir_model.specs.Runs.{Outcome, HasEnded, IsUndefined, run}
use Rattle.ir_model.proofs.Examples.{plain, number, gives, does, block, function, program, straight, runs}

-- what comes of an instruction whose value is not used
abbrev pub alone : Instruction → Outcome
alone x = runs 2 (straight 1 (x ∷ does Return (number 32 0 ∷ []) ∷ [])) []

-- a division by zero, whatever is divided
pub by_zero : alone (gives 0 (Compute (Binary Urem plain 32)) (Fixed Poison ∷ number 32 0 ∷ [])) ≡ IsUndefined why.Divide []
unfolding run step act compute
by_zero = refl

-- the least number by -1
pub least_by_minus_one : alone (gives 0 (Compute (Binary Sdiv plain 8)) (number 8 128 ∷ number 8 255 ∷ [])) ≡ IsUndefined why.Divide []
unfolding run step act compute
least_by_minus_one = refl

-- a division by poison
pub by_poison : alone (gives 0 (Compute (Binary Udiv plain 32)) (number 32 1 ∷ Fixed Poison ∷ [])) ≡ IsUndefined why.Poison []
unfolding run step act compute
by_poison = refl

-- a division of poison by -1 gives poison, which isn't used
pub of_poison : alone (gives 0 (Compute (Binary Sdiv plain 32)) (Fixed Poison ∷ number 32 4294967295 ∷ [])) ≡ HasEnded [] 0 2
unfolding run step act compute
of_poison = refl

-- poison that is put: a number shifted by its width
pub poison_is_put : runs 3 (straight 2 (
    gives 0 (Compute (Binary Shl plain 32)) (number 32 1 ∷ number 32 32 ∷ [])
    ∷ gives 1 PutChar (Local 0 ∷ [])
    ∷ does Return (number 32 0 ∷ [])
    ∷ [])) [] ≡ IsUndefined why.Poison []
unfolding run step act compute
poison_is_put = refl

-- poison that is frozen
pub poison_is_frozen : alone (gives 0 (Compute Freeze) (Fixed Poison ∷ [])) ≡ IsUndefined why.Poison []
unfolding run step act compute
poison_is_frozen = refl

-- a branch on poison
pub branch_on_poison : alone (does (Branch 0 0) (Fixed Poison ∷ [])) ≡ IsUndefined why.Poison []
unfolding run step act compute
branch_on_poison = refl

-- a `select` gives the arm that it chooses, and the other may be poison
pub poison_is_not_chosen : runs 2 (straight 1 (
    gives 0 (Compute Select) (number 1 1 ∷ number 32 9 ∷ Fixed Poison ∷ []) ∷ does Return (Local 0 ∷ []) ∷ [])) [] ≡ HasEnded [] 9 2
unfolding run step act compute
poison_is_not_chosen = refl

-- a load of four bytes from a room of two
pub out_of_bounds : runs 3 (straight 2 (
    gives 0 (Alloca 2) [] ∷ gives 1 (Load I32) (Local 0 ∷ []) ∷ does Return (number 32 0 ∷ []) ∷ [])) [] ≡ IsUndefined why.OutOfBounds []
unfolding run step act compute
out_of_bounds = refl

-- `main` takes the address of a room that another function made and left, and uses it
abbrev pub outlives : Instruction → Program
outlives x = program (
    function 0 2 (block (gives 0 (Call 1) [] ∷ x ∷ does Return (number 32 0 ∷ []) ∷ []) ∷ [])
    ∷ function 0 1 (block (gives 0 (Alloca 1) [] ∷ does Return (Local 0 ∷ []) ∷ []) ∷ [])
    ∷ [])

-- the room is dead for a load, one out of its bounds too
pub dead : runs 5 (outlives (gives 1 (Load I32) (Local 0 ∷ []))) [] ≡ IsUndefined why.Dead []
unfolding run step act compute
dead = refl

-- its address equals itself still
pub dead_is_itself : runs 5 (outlives (gives 1 (Compute (Compare Eq)) (Local 0 ∷ Local 0 ∷ []))) [] ≡ HasEnded [] 0 5
unfolding run step act compute
dead_is_itself = refl

-- but compares with no other: not with null, and so with no address of another block
pub dead_is_not_compared : runs 5 (outlives (gives 1 (Compute (Compare Eq)) (Local 0 ∷ Fixed (Address null_pointer) ∷ []))) [] ≡ IsUndefined why.Compare []
unfolding run step act compute
dead_is_not_compared = refl

-- with poison the comparison is poison
pub dead_with_poison : runs 5 (outlives (gives 1 (Compute (Compare Eq)) (Local 0 ∷ Fixed Poison ∷ []))) [] ≡ HasEnded [] 0 5
unfolding run step act compute
dead_with_poison = refl

-- two rooms, compared by a predicate
abbrev pub compares : Pred → Program
compares predicate = straight 3 (
    gives 0 (Alloca 1) [] ∷ gives 1 (Alloca 1) [] ∷ gives 2 (Compute (Compare predicate)) (Local 0 ∷ Local 1 ∷ []) ∷ does Return (Local 2 ∷ []) ∷ [])

-- they aren't equal
pub rooms_are_not_equal : runs 4 (compares Eq) [] ≡ HasEnded [] 0 4
unfolding run step act compute
rooms_are_not_equal = refl

-- and have no order
pub rooms_have_no_order : runs 4 (compares Ult) [] ≡ IsUndefined why.Compare []
unfolding run step act compute
rooms_have_no_order = refl

-- an `unreachable`
pub unreachable : alone (does Unreachable []) ≡ IsUndefined why.Unreachable []
unfolding run step act compute
unreachable = refl

-- `main` returns poison
pub main_returns_poison : runs 1 (straight 0 (does Return (Fixed Poison ∷ []) ∷ [])) [] ≡ IsUndefined why.Poison []
unfolding run step act compute
main_returns_poison = refl
