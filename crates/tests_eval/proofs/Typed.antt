use Rattle.std.specs.Prelude.{◌≡◌, ◌<◌, ◌^◌, ℕ, zero, suc, List, [], ◌∷◌, length, Some}
use Rattle.std.specs.List.{AllByRecursion}
use Rattle.std.proofs.Common.{arith, refl}
use Rattle.ir_model.specs.Programs.{function_at}
use Rattle.ir_typed_runs.specs.Kinds.{OfWidth, OfPointer, HasWidth}
use Rattle.ir_typed_runs.specs.TypedPrograms.{FunctionKinds, kinds_in, IsTypedBlock, IsTyped}
use Rattle.tests_eval.specs.Programs.{last, roomed, entry_room, body_room, inner}

wide : HasWidth (OfWidth 64)
wide = (omega arith, omega arith)

one : HasWidth (OfWidth 1)
one = (omega arith, omega arith)

word : HasWidth (OfWidth 32)
word = (omega arith, omega arith)

abbrev pub roomed_kinds : List FunctionKinds
roomed_kinds =
    record { values = OfWidth 64 ∷ OfWidth 64 ∷ OfWidth 1 ∷ OfWidth 64 ∷ OfWidth 64 ∷ OfWidth 32 ∷ OfPointer ∷ []; result = Some (OfWidth 32) }
    ∷ record { values = OfWidth 64 ∷ OfWidth 64 ∷ []; result = Some (OfWidth 64) } ∷ []

module _ (n : ℕ) (lt : n < 2 ^ 64) where
  room_entry_typed : IsTypedBlock (roomed n) roomed_kinds 0 entry_room
  room_entry_typed = record {
    phis = tt;
    body = (
      record { taken = []; widths = tt; operands = tt; fits = (refl, refl) },
      (record { taken = []; widths = tt; operands = tt; fits = refl }, tt),
    );
  }

  room_body_typed : IsTypedBlock (roomed n) roomed_kinds 0 (body_room n)
  room_body_typed = record {
    phis = (record { kind = OfWidth 64; result = refl; inputs = ((refl, omega arith), (refl, tt)) }, tt);
    body = (
      record { taken = OfWidth 64 ∷ OfPointer ∷ []; widths = (wide, (tt, tt)); operands = (refl, (refl, tt)); fits = (refl, refl) },
      (
        record { taken = OfPointer ∷ []; widths = (tt, tt); operands = (refl, tt); fits = (refl, refl) },
        (
          record { taken = OfWidth 64 ∷ []; widths = (wide, tt); operands = (refl, tt); fits = (refl, refl) },
          (
            record { taken = OfWidth 64 ∷ OfWidth 64 ∷ []; widths = (wide, (wide, tt)); operands = (refl, ((refl, lt), tt)); fits = (OfWidth 1, (OfWidth 64, refl, refl), refl) },
            (record { taken = OfWidth 1 ∷ []; widths = (one, tt); operands = (refl, tt); fits = refl }, tt),
          ),
        ),
      ),
    );
  }

  room_last_typed : IsTypedBlock (roomed n) roomed_kinds 0 last
  room_last_typed = record {
    phis = tt;
    body = (
      record { taken = OfWidth 64 ∷ []; widths = (wide, tt); operands = (refl, tt); fits = (OfWidth 32, (refl, refl, omega arith), refl) },
      (record { taken = OfWidth 32 ∷ []; widths = (word, tt); operands = (refl, tt); fits = (OfWidth 32, refl, refl) }, tt),
    );
  }

  inner_typed : IsTypedBlock (roomed n) roomed_kinds 1 inner
  inner_typed = record {
    phis = tt;
    body = (
      record { taken = OfWidth 64 ∷ OfWidth 64 ∷ []; widths = (wide, (wide, tt)); operands = (refl, ((refl, omega arith), tt)); fits = (OfWidth 64, (refl, refl), refl) },
      (record { taken = OfWidth 64 ∷ []; widths = (wide, tt); operands = (refl, tt); fits = (OfWidth 64, refl, refl) }, tt),
    );
  }

  pub roomed_typed : IsTyped (roomed n) roomed_kinds
  roomed_typed = record { values = counts; widths = widths; blocks = blocks; globals = tt; main = refl }
    where
      counts : (f : ℕ) → length (kinds_in roomed_kinds f).values ≡ (function_at (roomed n) f).values
      counts zero = refl
      counts (suc zero) = refl
      counts (suc (suc f)) = refl

      widths : (f : ℕ) → AllByRecursion HasWidth (kinds_in roomed_kinds f).values
      widths zero = (wide, (wide, (one, (wide, (wide, (word, (tt, tt)))))))
      widths (suc zero) = (wide, (wide, tt))
      widths (suc (suc f)) = tt

      blocks : (f : ℕ) → AllByRecursion (IsTypedBlock (roomed n) roomed_kinds f) (function_at (roomed n) f).blocks
      blocks zero = (room_entry_typed, (room_body_typed, (room_last_typed, tt)))
      blocks (suc zero) = (inner_typed, tt)
      blocks (suc (suc f)) = tt
