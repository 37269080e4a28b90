-- Constants that are numbers, as indices, and how far steps by them lead.
use Rattle.std.proofs.Common.{◌≡◌, ℕ, ◌+◌, ℤ, pos, List, [], ◌∷◌, ◌++◌, map, Option, Some, refl, sym, ap, ap₂, subst, ◌∙◌}
use Rattle.std.specs.Prelude.{unwrap_or}
use Rattle.std.specs.Option.{option_map}
use Rattle.std.specs.List.{AllByRecursion, AllZip}
use Rattle.ir_tree.specs.Shape.{TyShape, integer, pointer, void, array, structure, named, ConstShape, number, typed, TypedShapes, no_values, values, typed_row, NamedTyShape, ModuleShape}
use Rattle.ir_tree.specs.ShapeOf.{typed_shape}
use Rattle.ir_tree.specs.declared.types.Typed.{Typed}
use Rattle.ir_rules.specs.Constants.{AreNumbers, const_number, row_numbers}
use Rattle.ir_model.specs.Values.{Value, Integer}
use Rattle.ir_model.specs.Integers.{bits_of}
use Rattle.ir_model.specs.Pointers.{Stride, Scaled, Field, distance}
use Rattle.ir_arith.specs.Widths.{IsWidth}
use Rattle.ir_program.specs.Sizes.{opened}
use Rattle.ir_program.specs.Strides.{Index, width_of, stride_into, type_inside, strides_inside, strides_of, scaled_only}
use Rattle.ir_program.specs.Constants.{const_value, const_index, row_indices, row_values}
use Rattle.program_steps.specs.declared.index.Index.{Index as CodeIndex}
use Rattle.program_steps.specs.Steps.{index_shape}
use Rattle.program_consts.specs.Walks.{index_value, IsNumbered, Counts, AreSteps, step_length, whole_length}

-- a number as an index has the value of the number
pub numbers_values : (m : ModuleShape) (vs : TypedShapes) → AreNumbers vs → row_values m vs ≡ map index_value (row_indices vs)
unfolding const_value
numbers_values m no_values are = refl
numbers_values m (values (typed t c) vs) are =
    let is : c ≡ number are.0.0 = are.0.1.is_number in
    let first : const_value m t c ≡ Integer (width_of t) (bits_of (width_of t) (unwrap_or (const_number c) (pos 0))) =
    subst (λ (z : ConstShape). const_value m t z ≡ Integer (width_of t) (bits_of (width_of t) (unwrap_or (const_number z) (pos 0)))) (sym is) refl in
    ap₂ (λ (x : Value) (xs : List Value). x ∷ xs) first (numbers_values m vs are.1)

-- and a width of 1 to 64 bits
pub numbers_numbered : (vs : TypedShapes) → AreNumbers vs → AllByRecursion IsNumbered (row_indices vs)
numbers_numbered no_values are = tt
numbers_numbered (values (typed t c) vs) are =
    let index = are.0.1 in (
      record {
        bits = subst (λ (u : TyShape). IsWidth (width_of u)) (sym index.fits.1) (record { some = index.fits.2; most = index.fits.3 });
        value = are.0.0;
        is_number = ap const_number index.is_number;
      },
      numbers_numbered vs are.1,
    )

-- the numbers of indices
pub numbers_same : (vs : TypedShapes) → map (λ i. i.number) (row_indices vs) ≡ row_numbers vs
numbers_same no_values = refl
numbers_same (values (typed t c) vs) = ap (λ (ns : List (Option ℤ)). const_number c ∷ ns) (numbers_same vs)

pub numbers_mapped : (xs : List CodeIndex) (ys : List Index) → map index_shape xs ≡ ys → map (λ (i : CodeIndex). i.number) xs ≡ map (λ (i : Index). i.number) ys
numbers_mapped xs ys same = shaped xs ∙ ap (map (λ (i : Index). i.number)) same
  where
    shaped : (xs : List CodeIndex) → map (λ (i : CodeIndex). i.number) xs ≡ map (λ (i : Index). i.number) (map index_shape xs)
    shaped [] = refl
    shaped (x ∷ xs) = ap (λ (ns : List (Option ℤ)). x.number ∷ ns) (shaped xs)

-- an index more
pub indices_more : (names : List (List ℕ)) (xs : List Typed) (x : Typed) → row_indices (typed_row (map (typed_shape names) (xs ++ x ∷ [])))
    ≡ row_indices (typed_row (map (typed_shape names) xs)) ++ const_index (typed_shape names x) ∷ []
indices_more names [] x = refl
indices_more names (y ∷ xs) x = ap (λ (is : List Index). const_index (typed_shape names y) ∷ is) (indices_more names xs x)

-- the steps of indices count the indices
counts_into : (ts : List NamedTyShape) (u : TyShape) (i : Index) → Counts (stride_into ts u i) i
counts_into ts (integer bits) i = refl
counts_into ts pointer i = refl
counts_into ts void i = refl
counts_into ts (array count element) i = refl
counts_into ts (structure row packed) i = tt
counts_into ts (named name) i = refl

counts_inside : (ts : List NamedTyShape) (t : TyShape) (indices : List Index) → AllZip Counts (strides_inside ts t indices) indices
counts_inside ts t [] = tt
counts_inside ts t (i ∷ indices) = (counts_into ts (opened ts t) i, counts_inside ts (type_inside (opened ts t) i) indices)

counts_all : (ts : List NamedTyShape) (t : TyShape) (indices : List Index) → AllZip Counts (strides_of ts t indices) indices
counts_all ts t [] = tt
counts_all ts t (i ∷ indices) = (refl, counts_inside ts t indices)

pub are_steps : (ts : List NamedTyShape) (t : TyShape) (vs : TypedShapes) → AreNumbers vs → AreSteps (strides_of ts t (row_indices vs)) (row_indices vs)
are_steps ts t vs are = record { numbered = numbers_numbered vs are; counted = counts_all ts t (row_indices vs) }

-- how far steps by numbers lead
pub far_is : (strides : List Stride) (indices : List Index) → AllZip Counts strides indices
    → distance strides (scaled_only strides (map index_value indices)) ≡ Some (whole_length strides indices)
far_is [] [] counted = refl
far_is [] (i ∷ indices) counted = absurd counted
far_is (s ∷ strides) [] counted = absurd counted
far_is (Scaled width size ∷ strides) (i ∷ indices) counted =
    ap (option_map (λ rest. step_length (Scaled width size) i + rest)) (far_is strides indices counted.1)
far_is (Field offset ∷ strides) (i ∷ indices) counted = ap (option_map (λ rest. offset + rest)) (far_is strides indices counted.1)
