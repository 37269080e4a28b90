-- Loads and stores of small programs.
use Rattle.std.specs.Prelude.{◌≡◌, refl, true, false, List, [], ◌∷◌}
use Rattle.ir_tree.specs.declared.module.Bin.TheVariants.{Add}
use Rattle.ir_model.specs.declared.Why.TheVariants as why
use Rattle.ir_model.specs.declared.Access.TheVariants.{I8, I16, I32, I64, Ptr}
use Rattle.ir_model.specs.Values.{Address, Byte}
use Rattle.ir_model.specs.Pointers.{Scaled, Field}
use Rattle.ir_model.specs.Operations.{Binary, Walk, compute}
use Rattle.ir_model.specs.Programs.{Fixed, Local, Compute, Alloca, Load, Store, Return, Instruction, Program}
use Rattle.ir_model.specs.Steps.{act, step}
use Rattle.ir_model.specs.Runs.{HasEnded, IsUndefined, run}
use Rattle.ir_model.proofs.Examples.{no_signed_wrap, number, gives, does, straight, runs}

-- a byte is stored behind an address that was itself stored and loaded
abbrev pub keeps_an_address : Program
keeps_an_address = straight 4 (
    gives 0 (Alloca 8) []
    ∷ gives 1 (Alloca 1) []
    ∷ does (Store Ptr) (Local 1 ∷ Local 0 ∷ [])
    ∷ gives 2 (Load Ptr) (Local 0 ∷ [])
    ∷ does (Store I8) (number 8 5 ∷ Local 2 ∷ [])
    ∷ gives 3 (Load I8) (Local 1 ∷ [])
    ∷ does Return (Local 3 ∷ [])
    ∷ [])

pub addresses_are_kept : runs 7 keeps_an_address [] ≡ HasEnded [] 5 7
unfolding run step act compute
addresses_are_kept = refl

-- `main` stores a number of 32 bits and returns what a load finds
abbrev pub loads : Instruction → Program
loads load = straight 2 (gives 0 (Alloca 4) [] ∷ does (Store I32) (number 32 67305985 ∷ Local 0 ∷ []) ∷ load ∷ does Return (Local 1 ∷ []) ∷ [])

-- the low byte comes first
pub the_first_byte_is_the_lowest : runs 4 (loads (gives 1 (Load I8) (Local 0 ∷ []))) [] ≡ HasEnded [] 1 4
unfolding run step act compute
the_first_byte_is_the_lowest = refl

-- part of an address is no integer
abbrev pub loads_a_part : Program
loads_a_part = straight 2 (
    gives 0 (Alloca 8) [] ∷ does (Store Ptr) (Local 0 ∷ Local 0 ∷ []) ∷ gives 1 (Load I8) (Local 0 ∷ []) ∷ does Return (Local 1 ∷ []) ∷ [])

pub addresses_are_no_integers : runs 4 loads_a_part [] ≡ IsUndefined why.Poison []
unfolding run step act compute
addresses_are_no_integers = refl

-- the bytes of an integer that isn't zero are no address
abbrev pub loads_an_address : Program
loads_an_address = straight 2 (
    gives 0 (Alloca 8) []
    ∷ does (Store I64) (number 64 1 ∷ Local 0 ∷ [])
    ∷ gives 1 (Load Ptr) (Local 0 ∷ [])
    ∷ does (Store Ptr) (Local 1 ∷ Local 1 ∷ [])
    ∷ [])

pub integers_are_no_addresses : runs 4 loads_an_address [] ≡ IsUndefined why.Poison []
unfolding run step act compute
integers_are_no_addresses = refl

-- bytes that were not stored are poison, and so is a number of which they are a part
abbrev pub loads_too_much : Program
loads_too_much = straight 2 (
    gives 0 (Alloca 2) [] ∷ does (Store I8) (number 8 1 ∷ Local 0 ∷ []) ∷ gives 1 (Load I16) (Local 0 ∷ []) ∷ does Return (Local 1 ∷ []) ∷ [])

pub what_was_not_stored_is_poison : runs 4 loads_too_much [] ≡ IsUndefined why.Poison []
unfolding run step act compute
what_was_not_stored_is_poison = refl

-- eight bytes that are zero are null
abbrev pub stores_zero : Program
stores_zero = straight 3 (
    gives 0 (Alloca 8) []
    ∷ does (Store I64) (number 64 0 ∷ Local 0 ∷ [])
    ∷ gives 1 (Load Ptr) (Local 0 ∷ [])
    ∷ gives 2 (Load I8) (Local 1 ∷ [])
    ∷ does Return (Local 2 ∷ [])
    ∷ [])

pub zero_bytes_are_null : runs 5 stores_zero [] ≡ IsUndefined why.OutOfBounds []
unfolding run step act compute
zero_bytes_are_null = refl

-- poison may be stored, where it isn't used
abbrev pub stores_poison : Program
stores_poison = straight 2 (
    gives 0 (Alloca 4) []
    ∷ gives 1 (Compute (Binary Add no_signed_wrap 32)) (number 32 2147483647 ∷ number 32 1 ∷ [])
    ∷ does (Store I32) (Local 1 ∷ Local 0 ∷ [])
    ∷ does Return (number 32 0 ∷ [])
    ∷ [])

pub poison_may_be_stored : runs 4 stores_poison [] ≡ HasEnded [] 0 4
unfolding run step act compute
poison_may_be_stored = refl

-- the byte of a global at steps from its start: block 1 is global 0
abbrev pub reads_global : List Instruction → Program
reads_global steps = record (straight 3 steps) { globals = (Byte 10 ∷ Byte 11 ∷ Byte 12 ∷ Byte 13 ∷ []) ∷ [] }

-- one step of two bytes and a field one byte from there, and then three bytes back
pub steps_lead_both_ways : runs 4 (reads_global (
    gives 0 (Compute (Walk true (Scaled 32 2 ∷ Field 1 ∷ []))) (Fixed (Address (record { block = 1; offset = 0 })) ∷ number 32 1 ∷ [])
    ∷ gives 1 (Compute (Walk false (Scaled 8 1 ∷ []))) (Local 0 ∷ number 8 253 ∷ [])
    ∷ gives 2 (Load I8) (Local 1 ∷ [])
    ∷ does Return (Local 2 ∷ [])
    ∷ [])) [] ≡ HasEnded [] 10 4
unfolding run step act compute
steps_lead_both_ways = refl

-- with `inbounds` a step past the end is poison
pub steps_out_of_bounds_are_poison : runs 4 (reads_global (
    gives 0 (Compute (Walk true (Scaled 32 1 ∷ []))) (Fixed (Address (record { block = 1; offset = 0 })) ∷ number 32 5 ∷ [])
    ∷ gives 1 (Load I8) (Local 0 ∷ [])
    ∷ does Return (Local 1 ∷ [])
    ∷ [])) [] ≡ IsUndefined why.Poison []
unfolding run step act compute
steps_out_of_bounds_are_poison = refl

-- without it, it is an address that can't be loaded from
pub steps_may_lead_out : runs 4 (reads_global (
    gives 0 (Compute (Walk false (Scaled 32 1 ∷ []))) (Fixed (Address (record { block = 1; offset = 0 })) ∷ number 32 5 ∷ [])
    ∷ gives 1 (Load I8) (Local 0 ∷ [])
    ∷ does Return (Local 1 ∷ [])
    ∷ [])) [] ≡ IsUndefined why.OutOfBounds []
unfolding run step act compute
steps_may_lead_out = refl
