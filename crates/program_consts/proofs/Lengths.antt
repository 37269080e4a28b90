-- How far steps lead together, by those that are left.
use Rattle.std.proofs.Common.{◌≡◌, ◌≤◌, ◌<◌, ℕ, ◌+◌, ◌%◌, ◌^◌, ℤ, pos, negsuc, List, [], ◌∷◌, map, drop, length, get_or, None, inl, inr, arith, refl, sym, ap, subst, ◌∙◌}
use Rattle.std.specs.List.{AllZip}
use Rattle.std.proofs.Math.Nat.{mod-lt, mod-add-mod, add-mod-mod, mod-eq_of_lt}
use Rattle.std.proofs.lemmas.Nat.{pow_pos}
use Rattle.std.proofs.lemmas.Bool.{cases_lt}
use Rattle.std.proofs.lemmas.List.{drop_more, drop_all}
use Rattle.ir_model.specs.Integers.{bits_of}
use Rattle.ir_model.specs.Pointers as model
use Rattle.program_tables.specs.declared.operations.Stride.{Stride}
use Rattle.program_tables.specs.Shapes.{stride_shape}
use Rattle.ir_program.specs.Strides.{Index as IndexShape}
use Rattle.program_steps.specs.declared.index.Index.{Index}
use Rattle.program_steps.specs.Steps.{index_shape}
use Rattle.program_consts.specs.Walks.{IsNumbered, Counts, AreSteps, step_length, whole_length}

-- bits of a width are a number of it
pub bits_below : (width : ℕ) (z : ℤ) → bits_of width z < 2 ^ width
bits_below width (pos n) = mod-lt n (pow_pos width)
bits_below width (negsuc n) = omega (arith, pow_pos width)

-- what is known from a place on
pub record FarLeft (strides : List Stride) (indices : List Index) (k far : ℕ) : Type 0 where
  pub left : AreSteps (map stride_shape (drop k strides)) (map index_shape (drop k indices))
  pub missing : (far + whole_length (map stride_shape (drop k strides)) (map index_shape (drop k indices))) % 2 ^ 64
      ≡ whole_length (map stride_shape strides) (map index_shape indices) % 2 ^ 64

pub all_left : (strides : List Stride) (indices : List Index) → AreSteps (map stride_shape strides) (map index_shape indices) → FarLeft strides indices 0 0
all_left strides indices are = record {
  left = are;
  missing = ap (λ (n : ℕ). n % 2 ^ 64)
      (let e : 0 + whole_length (map stride_shape strides) (map index_shape indices) ≡ whole_length (map stride_shape strides) (map index_shape indices) = omega arith in e);
}

no_step : (i : IndexShape) (indices : List IndexShape) (strides : List model.Stride) → strides ≡ [] → AllZip Counts strides (i ∷ indices) → ⊥
no_step i indices [] none zipped = zipped
no_step i indices (s ∷ strides) none zipped = cc

-- there is a step for each index
pub step_there : (strides : List Stride) (indices : List Index) (k far : ℕ) → FarLeft strides indices k far → k < length indices → k < length strides
step_there strides indices k far left lt =
    let none : Index = record { width = 0; number = None } in
    elim (cases_lt k (length strides)) [
      | inl below ↦ below
      | inr past ↦ absurd (no_step (index_shape (get_or indices k none)) (map index_shape (drop (k + 1) indices)) (map stride_shape (drop k strides))
          (ap (λ (z : List Stride). map stride_shape z) (drop_all k strides past))
          (subst (λ (z : List Index). AllZip Counts (map stride_shape (drop k strides)) (map index_shape z)) (drop_more indices k none lt) left.left.counted))
    ]

module _ (strides : List Stride) (indices : List Index) (k far : ℕ) (left : FarLeft strides indices k far) (d : Stride) (e : Index) (lt : k < length indices) where
  abbrev s : Stride
  s = get_or strides k d

  abbrev i : Index
  i = get_or indices k e

  steps_here : AreSteps (map stride_shape (s ∷ drop (k + 1) strides)) (map index_shape (i ∷ drop (k + 1) indices))
  steps_here =
      subst (λ (z : List Index). AreSteps (map stride_shape (s ∷ drop (k + 1) strides)) (map index_shape z)) (drop_more indices k e lt)
      (subst (λ (z : List Stride). AreSteps (map stride_shape z) (map index_shape (drop k indices))) (drop_more strides k d (step_there strides indices k far left lt)) left.left)

  pub numbered_here : IsNumbered (index_shape i)
  numbered_here = steps_here.numbered.0

  pub counted_here : Counts (stride_shape s) (index_shape i)
  counted_here = steps_here.counted.0

  pub one_less : FarLeft strides indices (k + 1) ((far + step_length (stride_shape s) (index_shape i) % 2 ^ 64) % 2 ^ 64)
  one_less =
      let step : ℕ = step_length (stride_shape s) (index_shape i) in
      let rest : ℕ = whole_length (map stride_shape (drop (k + 1) strides)) (map index_shape (drop (k + 1) indices)) in
      let here : (far + (step + rest)) % 2 ^ 64 ≡ whole_length (map stride_shape strides) (map index_shape indices) % 2 ^ 64 =
      subst (λ (z : List Index). (far + whole_length (map stride_shape (s ∷ drop (k + 1) strides)) (map index_shape z)) % 2 ^ 64
      ≡ whole_length (map stride_shape strides) (map index_shape indices) % 2 ^ 64) (drop_more indices k e lt)
      (subst (λ (z : List Stride). (far + whole_length (map stride_shape z) (map index_shape (drop k indices))) % 2 ^ 64
      ≡ whole_length (map stride_shape strides) (map index_shape indices) % 2 ^ 64) (drop_more strides k d (step_there strides indices k far left lt)) left.missing) in
      record {
        left = record { numbered = steps_here.numbered.1; counted = steps_here.counted.1 };
        missing =
            mod-add-mod (far + step % 2 ^ 64) (2 ^ 64) rest
            ∙ ap (λ (n : ℕ). n % 2 ^ 64) (let e : far + step % 2 ^ 64 + rest ≡ far + rest + step % 2 ^ 64 = omega arith in e)
            ∙ add-mod-mod (far + rest) step (2 ^ 64)
            ∙ ap (λ (n : ℕ). n % 2 ^ 64) (let e : far + rest + step ≡ far + (step + rest) = omega arith in e)
            ∙ here;
      }

-- nothing is left
none_long : (strides : List model.Stride) → whole_length strides [] ≡ 0
none_long [] = refl
none_long (s ∷ strides) = refl

pub none_left : (strides : List Stride) (indices : List Index) (k far : ℕ) → FarLeft strides indices k far → length indices ≤ k → far < 2 ^ 64
    → far ≡ whole_length (map stride_shape strides) (map index_shape indices) % 2 ^ 64
none_left strides indices k far left past small =
    let none : (far + whole_length (map stride_shape (drop k strides)) (map index_shape (drop k indices))) % 2 ^ 64 ≡ (far + 0) % 2 ^ 64 =
    ap (λ (z : List Index). (far + whole_length (map stride_shape (drop k strides)) (map index_shape z)) % 2 ^ 64) (drop_all k indices past)
    ∙ ap (λ (n : ℕ). (far + n) % 2 ^ 64) (none_long (map stride_shape (drop k strides))) in
    sym (ap (λ (n : ℕ). n % 2 ^ 64) (let e : far + 0 ≡ far = omega arith in e) ∙ mod-eq_of_lt small) ∙ sym none ∙ left.missing
