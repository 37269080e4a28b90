-- A program with two functions that is whole.
use Rattle.std.specs.Prelude.{◌<◌, ℕ, zero, suc, length}
use Rattle.std.specs.List.{AllByRecursion}
use Rattle.std.proofs.Common.{arith, refl}
use Rattle.ir_model.specs.Programs.{function_at}
use Rattle.ir_typed_runs.proofs.Examples.{small}
use Rattle.ir_placed_runs.specs.Places.{IsWholeBlock, IsWhole}

pub small_whole : IsWhole small
small_whole = record { main = omega arith; entries = entries; blocks = wholes }
  where
    entries : (f : ℕ) → f < length small.functions → 0 < length (function_at small f).blocks
    entries zero lt = omega arith
    entries (suc zero) lt = omega arith
    entries (suc (suc f)) lt = absurd (omega arith)

    wholes : (f : ℕ) → AllByRecursion (IsWholeBlock small f) (function_at small f).blocks
    wholes zero = (record { body = (refl, (refl, (refl, (refl, refl)))); named = (tt, (tt, (tt, (omega arith, (tt, tt))))) }, tt)
    wholes (suc zero) = (record { body = (refl, refl); named = (tt, (tt, tt)) }, tt)
    wholes (suc (suc f)) = tt
