-- A program that is typed: `main` stores a number in a room, loads it, and returns what another function makes of it.
use Rattle.std.specs.Prelude.{◌≡◌, ℕ, zero, suc, false, List, [], ◌∷◌, length, Some, None}
use Rattle.std.specs.List.{AllByRecursion}
use Rattle.std.proofs.Common.{arith, refl}
use Rattle.ir_tree.specs.declared.module.Bin.TheVariants.{Add}
use Rattle.ir_tree.specs.declared.module.Flags.{Flags}
use Rattle.ir_model.specs.declared.Access.TheVariants.{I32}
use Rattle.ir_model.specs.Values.{Integer}
use Rattle.ir_model.specs.Operations.{Binary}
use Rattle.ir_model.specs.Programs.{Operand, Local, Fixed, Compute, Alloca, Load, Store, Call, Return, Instruction, Block, Program, function_at}
use Rattle.ir_typed_runs.specs.Kinds.{OfWidth, OfPointer, HasWidth}
use Rattle.ir_typed_runs.specs.TypedPrograms.{FunctionKinds, kinds_in, IsTypedBlock, IsTyped}

abbrev plain : Flags
plain = record { nuw = false; nsw = false; exact = false }

abbrev five : Operand
five = Fixed (Integer 32 5)

abbrev makes : Instruction
makes = record { result = Some 0; action = Alloca 4; operands = [] }

abbrev keeps : Instruction
keeps = record { result = None; action = Store I32; operands = five ∷ Local 0 ∷ [] }

abbrev finds : Instruction
finds = record { result = Some 1; action = Load I32; operands = Local 0 ∷ [] }

abbrev calls : Instruction
calls = record { result = Some 2; action = Call 1; operands = Local 1 ∷ [] }

abbrev gives : ℕ → Instruction
gives id = record { result = None; action = Return; operands = Local id ∷ [] }

abbrev adds : Instruction
adds = record { result = Some 1; action = Compute (Binary Add plain 32); operands = Local 0 ∷ five ∷ [] }

abbrev pub outer : Block
outer = record { phis = []; body = makes ∷ keeps ∷ finds ∷ calls ∷ gives 2 ∷ [] }

abbrev pub inner : Block
inner = record { phis = []; body = adds ∷ gives 1 ∷ [] }

abbrev pub small : Program
small = record {
  globals = [];
  functions = record { params = 0; values = 3; frame = 0; blocks = outer ∷ [] } ∷ record { params = 1; values = 2; frame = 0; blocks = inner ∷ [] } ∷ [];
  main = 0;
}

-- its kinds
abbrev small_kinds : List FunctionKinds
small_kinds =
    record { values = OfPointer ∷ OfWidth 32 ∷ OfWidth 32 ∷ []; result = Some (OfWidth 32) }
    ∷ record { values = OfWidth 32 ∷ OfWidth 32 ∷ []; result = Some (OfWidth 32) }
    ∷ []

wide : HasWidth (OfWidth 32)
wide = (omega arith, omega arith)

outer_typed : IsTypedBlock small small_kinds 0 outer
outer_typed = record {
  phis = tt;
  body = (
    record { taken = []; widths = tt; operands = tt; fits = (refl, refl) },
    (
      record { taken = OfWidth 32 ∷ OfPointer ∷ []; widths = (wide, (tt, tt)); operands = ((refl, omega arith), (refl, tt)); fits = (refl, refl) },
      (
        record { taken = OfPointer ∷ []; widths = (tt, tt); operands = (refl, tt); fits = (refl, refl) },
        (
          record { taken = OfWidth 32 ∷ []; widths = (wide, tt); operands = (refl, tt); fits = (refl, refl) },
          (record { taken = OfWidth 32 ∷ []; widths = (wide, tt); operands = (refl, tt); fits = (OfWidth 32, refl, refl) }, tt),
        ),
      ),
    ),
  );
}

inner_typed : IsTypedBlock small small_kinds 1 inner
inner_typed = record {
  phis = tt;
  body = (
    record {
      taken = OfWidth 32 ∷ OfWidth 32 ∷ [];
      widths = (wide, (wide, tt));
      operands = (refl, ((refl, omega arith), tt));
      fits = (OfWidth 32, (refl, refl), refl);
    },
    (record { taken = OfWidth 32 ∷ []; widths = (wide, tt); operands = (refl, tt); fits = (OfWidth 32, refl, refl) }, tt),
  );
}

widths : (f : ℕ) → AllByRecursion HasWidth (kinds_in small_kinds f).values
widths zero = (tt, (wide, (wide, tt)))
widths (suc zero) = (wide, (wide, tt))
widths (suc (suc f)) = tt

blocks : (f : ℕ) → AllByRecursion (IsTypedBlock small small_kinds f) (function_at small f).blocks
blocks zero = (outer_typed, tt)
blocks (suc zero) = (inner_typed, tt)
blocks (suc (suc f)) = tt

pub small_typed : IsTyped small small_kinds
small_typed = record { values = counts; widths = widths; blocks = blocks; globals = tt; main = refl }
  where
    counts : (f : ℕ) → length (kinds_in small_kinds f).values ≡ (function_at small f).values
    counts zero = refl
    counts (suc zero) = refl
    counts (suc (suc f)) = refl
