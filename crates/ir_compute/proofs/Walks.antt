-- Operands of steps from an address.
use Rattle.std.proofs.Common.{◌≡◌, ℕ, List, [], ◌∷◌, subst}
use Rattle.std.specs.List.{AllByRecursion, AllZip}
use Rattle.ir_model.specs.Values.{Value, Integer, Address, Poison}
use Rattle.ir_model.specs.Pointers.{Stride, Scaled, Field}
use Rattle.ir_typed_runs.specs.Kinds.{Kind, OfWidth, OfPointer, HasWidth, IsOfKind, index_kinds}
use Rattle.ir_compute.specs.Fitting.{FitsWalk}

-- a number is one, however many blocks there are
index_is : (blocks width : ℕ) (v : Value) → IsOfKind blocks (OfWidth width) v → IsOfKind 0 (OfWidth width) v
index_is blocks width (Integer w n) fits = fits
index_is blocks width (Address q) fits = fits
index_is blocks width Poison fits = fits

indices_are : (blocks : ℕ) (strides : List Stride) (vs : List Value) → AllZip (IsOfKind blocks) (index_kinds strides) vs
    → AllZip (IsOfKind 0) (index_kinds strides) vs
indices_are blocks [] [] fit = fit
indices_are blocks [] (v ∷ vs) fit = fit
indices_are blocks (Field offset ∷ strides) vs fit = indices_are blocks strides vs fit
indices_are blocks (Scaled width size ∷ strides) [] fit = fit
indices_are blocks (Scaled width size ∷ strides) (v ∷ vs) fit = (index_is blocks width v fit.0, indices_are blocks strides vs fit.1)

-- operands of steps are an address and indices
pub walk_fits : (blocks : ℕ) (strides : List Stride) (taken : List Kind) (vs : List Value) → taken ≡ OfPointer ∷ index_kinds strides
    → AllByRecursion HasWidth taken → AllZip (IsOfKind blocks) taken vs → FitsWalk blocks strides vs
walk_fits blocks strides taken vs is widths fit =
    from_address vs (subst (AllByRecursion HasWidth) is widths) (subst (λ (ks : List Kind). AllZip (IsOfKind blocks) ks vs) is fit)
  where
    from_address : (vs : List Value) → AllByRecursion HasWidth (OfPointer ∷ index_kinds strides)
        → AllZip (IsOfKind blocks) (OfPointer ∷ index_kinds strides) vs → FitsWalk blocks strides vs
    from_address [] widths fit = absurd fit
    from_address (v ∷ vs) widths fit = record {
      base = fit.0;
      indices = record { widths = widths.1; operands = indices_are blocks strides vs fit.1 };
    }
