-- Calls, and bytes that are read and written.
use Rattle.std.specs.Prelude.{◌≡◌, refl, [], ◌∷◌}
use Rattle.ir_tree.specs.declared.module.Bin.TheVariants.{Add, Sub}
use Rattle.ir_tree.specs.declared.module.Pred.TheVariants.{Eq}
use Rattle.ir_model.specs.Operations.{Binary, Compare, compute}
use Rattle.ir_model.specs.Programs.{Local, Compute, Call, PutChar, GetChar, Branch, Return, ReturnVoid, Program}
use Rattle.ir_model.specs.Steps.{act, step}
use Rattle.ir_model.specs.Runs.{HasEnded, run}
use Rattle.ir_model.proofs.Examples.{plain, number, gives, does, block, function, program, straight, runs}

-- `main` returns what another function makes of 3 and 4
abbrev pub sums : Program
sums = program (
    function 0 1 (block (gives 0 (Call 1) (number 32 3 ∷ number 32 4 ∷ []) ∷ does Return (Local 0 ∷ []) ∷ []) ∷ [])
    ∷ function 2 3 (block (gives 2 (Compute (Binary Add plain 32)) (Local 0 ∷ Local 1 ∷ []) ∷ does Return (Local 2 ∷ []) ∷ []) ∷ [])
    ∷ [])

-- a call is one step, and the value comes back to it
pub a_call_gives_its_value : runs 4 sums [] ≡ HasEnded [] 7 4
unfolding run step act compute
a_call_gives_its_value = refl

-- function 1 puts its parameter and calls itself with one less, down to zero
abbrev pub counts_down : Program
counts_down = program (
    function 0 0 (block (does (Call 1) (number 32 3 ∷ []) ∷ does Return (number 32 0 ∷ []) ∷ []) ∷ [])
    ∷ function 1 4 (
    block (gives 1 (Compute (Compare Eq)) (Local 0 ∷ number 32 0 ∷ []) ∷ does (Branch 1 2) (Local 1 ∷ []) ∷ [])
    ∷ block (does ReturnVoid [] ∷ [])
    ∷ block (
    gives 2 PutChar (Local 0 ∷ [])
    ∷ gives 3 (Compute (Binary Sub plain 32)) (Local 0 ∷ number 32 1 ∷ [])
    ∷ does (Call 1) (Local 3 ∷ [])
    ∷ does ReturnVoid []
    ∷ [])
    ∷ [])
    ∷ [])

-- each activation has values of its own
pub calls_nest : runs 24 counts_down [] ≡ HasEnded (3 ∷ 2 ∷ 1 ∷ []) 0 23
unfolding run step act compute
calls_nest = refl

-- a byte is read, put and returned
abbrev pub echoes : Program
echoes = straight 2 (gives 0 GetChar [] ∷ gives 1 PutChar (Local 0 ∷ []) ∷ does Return (Local 1 ∷ []) ∷ [])

pub a_byte_is_put : runs 3 echoes (97 ∷ 98 ∷ []) ≡ HasEnded (97 ∷ []) 97 3
unfolding run step act compute
a_byte_is_put = refl

-- at the end of the input the byte is -1, of which the lowest byte is put
pub the_end_is_minus_one : runs 3 echoes [] ≡ HasEnded (255 ∷ []) 255 3
unfolding run step act compute
the_end_is_minus_one = refl
