-- How far steps lead, one after the other.
use Rattle.std.proofs.Common.{◌≡◌, ◌≤◌, ◌<◌, ℕ, ◌+◌, ◌*◌, ◌%◌, ◌^◌, List, [], ◌∷◌, map, drop, length, get_or, Option, Some, None, arith, refl, ap, ap₂, sym, subst, ◌∙◌}
use Rattle.std.proofs.Math.Nat.{mod-add-mod, add-mod-mod, mod-eq_of_lt}
use Rattle.std.proofs.lemmas.List.{drop_more, drop_all}
use Rattle.std.proofs.lemmas.Bool.{cases_lt}
use Rattle.std.proofs.Common.{inl, inr}
use Rattle.std.specs.List.{AllZip}
use Rattle.std.specs.Option.{option_map}
use Rattle.ir_model.specs.Values.{Value, Integer, Address, Poison}
use Rattle.ir_model.specs.Operations.{operand}
use Rattle.ir_model.specs.Pointers as pointers
use Rattle.ir_model.specs.Pointers.{distance, extended}
use Rattle.ir_typed_runs.specs.Kinds.{Kind, OfWidth, IsOfKind, index_kinds}
use Rattle.program_tables.specs.declared.operations.Stride.{Stride}
use Rattle.program_tables.specs.declared.operations.Stride.TheVariants.{Scaled, Field}
use Rattle.program_tables.specs.Shapes.{stride_shape}
use Rattle.ir_arith.specs.Widths.{IsNumber}
use Rattle.ir_compute.specs.Fitting.{FitsIndices}

-- steps have led so far, of which so many are done, and the next index has this number
pub record HasCome (strides : List Stride) (vs : List Value) (done next far : ℕ) : Type 0 where
  pub fits : FitsIndices (map stride_shape (drop done strides)) (drop next vs)
  pub leads : option_map (λ far. far % 2 ^ 64) (distance (map stride_shape strides) (drop 1 vs))
      ≡ option_map (λ rest. (far + rest) % 2 ^ 64) (distance (map stride_shape (drop done strides)) (drop next vs))
  pub few : next ≤ done + 1

-- a word that was added to, and a number of which only a word counts
added : (far step rest : ℕ) → (far + (step + rest)) % 2 ^ 64 ≡ ((far + step) % 2 ^ 64 + rest) % 2 ^ 64
added far step rest =
    ap (λ (n : ℕ). n % 2 ^ 64) (let e : far + (step + rest) ≡ far + step + rest = omega arith in e) ∙ sym (mod-add-mod (far + step) (2 ^ 64) rest)

same_maps : (f g : ℕ → ℕ) (o : Option ℕ) → ((n : ℕ) → f n ≡ g n) → option_map f o ≡ option_map g o
same_maps f g None same = refl
same_maps f g (Some n) same = ap Some (same n)

map_map : (f g h : ℕ → ℕ) (o : Option ℕ) → ((n : ℕ) → f (g n) ≡ h n) → option_map f (option_map g o) ≡ option_map h o
map_map f g h None same = refl
map_map f g h (Some n) same = ap Some (same n)

-- nothing is done
pub at_start : (strides : List Stride) (vs : List Value) → FitsIndices (map stride_shape strides) (drop 1 vs) → HasCome strides vs 0 1 0
at_start strides vs fits = record {
  fits = fits;
  leads = same_maps (λ far. far % 2 ^ 64) (λ rest. (0 + rest) % 2 ^ 64) (distance (map stride_shape strides) (drop 1 vs))
      (λ n. ap (λ (m : ℕ). m % 2 ^ 64) (let e : n ≡ 0 + n = omega arith in e));
  few = omega arith;
}

module _ (strides : List Stride) (vs : List Value) (i next far : ℕ) (come : HasCome strides vs i next far) (lt : i < length strides) where
  -- what is left begins with a stride
  left_is : (s : Stride) → get_or strides i (Scaled 0 0) ≡ s → drop i strides ≡ s ∷ drop (i + 1) strides
  left_is s is = drop_more strides i (Scaled 0 0) lt ∙ ap (λ (t : Stride). t ∷ drop (i + 1) strides) is

  -- after a field
  pub past_field : (offset : ℕ) → get_or strides i (Scaled 0 0) ≡ Field offset → HasCome strides vs (i + 1) next ((far + offset) % 2 ^ 64)
  past_field offset is =
      let cut = left_is (Field offset) is in
      let fits = subst (λ (ss : List Stride). FitsIndices (map stride_shape ss) (drop next vs)) cut come.fits in
      record {
        fits = record { widths = fits.widths; operands = fits.operands };
        leads = come.leads
            ∙ ap (λ (ss : List Stride). option_map (λ rest. (far + rest) % 2 ^ 64) (distance (map stride_shape ss) (drop next vs))) cut
            ∙ map_map (λ rest. (far + rest) % 2 ^ 64) (λ rest. offset + rest) (λ rest. ((far + offset) % 2 ^ 64 + rest) % 2 ^ 64)
            (distance (map stride_shape (drop (i + 1) strides)) (drop next vs)) (added far offset);
        few = omega (arith, come.few);
      }

  module _ (width size : ℕ) (is : get_or strides i (Scaled 0 0) ≡ Scaled width size) where
    -- an index is left
    fits_here : FitsIndices (map stride_shape (Scaled width size ∷ drop (i + 1) strides)) (drop next vs)
    fits_here = subst (λ (ss : List Stride). FitsIndices (map stride_shape ss) (drop next vs)) (left_is (Scaled width size) is) come.fits

    abbrev kinds : List Kind
    kinds = index_kinds (map stride_shape (drop (i + 1) strides))

    -- there is a next index
    next_below : next < length vs
    next_below = elim (cases_lt next (length vs)) [
      | inl below ↦ below
      | inr past ↦ absurd (no_index (subst (AllZip (IsOfKind 0) (OfWidth width ∷ kinds)) (drop_all next vs past) fits_here.operands))
    ]
      where
        no_index : AllZip (IsOfKind 0) (OfWidth width ∷ kinds) (let none : List Value = [] in none) → ⊥
        no_index h = h

    next_is : drop next vs ≡ operand next vs ∷ drop (next + 1) vs
    next_is = drop_more vs next Poison next_below

    zipped : IsOfKind 0 (OfWidth width) (operand next vs) × AllZip (IsOfKind 0) kinds (drop (next + 1) vs)
    zipped = subst (AllZip (IsOfKind 0) (OfWidth width ∷ kinds)) next_is fits_here.operands

    -- the number of an index
    pub index_number : (w n : ℕ) → Integer w n ≡ operand next vs → IsNumber width n
    index_number w n is_value =
        let fits : IsOfKind 0 (OfWidth width) (Integer w n) = subst (IsOfKind 0 (OfWidth width)) (sym is_value) zipped.0 in
        record { bits = record { some = fits_here.widths.0.0; most = fits_here.widths.0.1 }; below = fits.1 }

    -- after an index
    pub past_index : (w n : ℕ) → Integer w n ≡ operand next vs
        → HasCome strides vs (i + 1) (next + 1) ((far + extended width n * size % 2 ^ 64) % 2 ^ 64)
    past_index w n is_value =
        let rest : List pointers.Stride = map stride_shape (drop (i + 1) strides) in
        let step : ℕ = extended width n * size in
        let cut : drop next vs ≡ Integer w n ∷ drop (next + 1) vs = next_is ∙ ap (λ (v : Value). v ∷ drop (next + 1) vs) (sym is_value) in
        record {
          fits = record { widths = fits_here.widths.1; operands = zipped.1 };
          leads = come.leads
              ∙ ap₂ (λ (ss : List Stride) (xs : List Value). option_map (λ rest. (far + rest) % 2 ^ 64) (distance (map stride_shape ss) xs))
              (left_is (Scaled width size) is) cut
              ∙ map_map (λ rest. (far + rest) % 2 ^ 64) (λ rest. step + rest) (λ rest. ((far + step % 2 ^ 64) % 2 ^ 64 + rest) % 2 ^ 64)
              (distance rest (drop (next + 1) vs))
              (λ m. added far step m ∙ ap (λ (k : ℕ). (k + m) % 2 ^ 64) (sym (add-mod-mod far step (2 ^ 64))));
          few = omega (arith, come.few);
        }

    -- an index that is no number
    pub no_distance : ((w n : ℕ) → Integer w n ≡ operand next vs → ⊥)
        → None ≡ option_map (λ far. far % 2 ^ 64) (distance (map stride_shape strides) (drop 1 vs))
    no_distance no_number =
        let rest : List pointers.Stride = map stride_shape (drop (i + 1) strides) in
        sym (come.leads
        ∙ ap₂ (λ (ss : List Stride) (xs : List Value). option_map (λ rest. (far + rest) % 2 ^ 64) (distance (map stride_shape ss) xs))
        (left_is (Scaled width size) is) next_is
        ∙ ap (option_map (λ rest. (far + rest) % 2 ^ 64)) (nowhere (operand next vs) no_number))
      where
        nowhere : (v : Value) → ((w n : ℕ) → Integer w n ≡ v → ⊥)
            → distance (map stride_shape (Scaled width size ∷ drop (i + 1) strides)) (v ∷ drop (next + 1) vs) ≡ None
        nowhere (Integer w n) none = absurd (none w n refl)
        nowhere (Address q) none = refl
        nowhere Poison none = refl

-- all is done
pub at_end : (strides : List Stride) (vs : List Value) (i next far : ℕ) → HasCome strides vs i next far → length strides ≤ i → far < 2 ^ 64
    → Some far ≡ option_map (λ far. far % 2 ^ 64) (distance (map stride_shape strides) (drop 1 vs))
at_end strides vs i next far come past small =
    let none = drop_all i strides past in
    let fits = subst (λ (ss : List Stride). FitsIndices (map stride_shape ss) (drop next vs)) none come.fits in
    sym (come.leads
    ∙ ap (λ (ss : List Stride). option_map (λ rest. (far + rest) % 2 ^ 64) (distance (map stride_shape ss) (drop next vs))) none
    ∙ ap (option_map (λ rest. (far + rest) % 2 ^ 64)) (no_steps (drop next vs) fits.operands)
    ∙ ap Some (ap (λ (n : ℕ). n % 2 ^ 64) (let e : far + 0 ≡ far = omega arith in e) ∙ mod-eq_of_lt small))
  where
    no_steps : (xs : List Value) → AllZip (IsOfKind 0) (let none : List Kind = [] in none) xs
        → distance (map stride_shape (let none : List Stride = [] in none)) xs ≡ Some 0
    no_steps [] zipped = refl
    no_steps (x ∷ xs) zipped = absurd zipped
