-- The operands of steps, one after the other.
use Rattle.std.proofs.Common.{◌≡◌, ◌<◌, ◌+◌, ℕ, zero, suc, List, [], ◌∷◌, ◌++◌, map, take, length, get_or, arith, refl, ap, ◌∙◌}
use Rattle.std.specs.Prelude.{if◌then◌else◌}
use Rattle.std.proofs.lemmas.List.{map-append, take_more}
use Rattle.ir_program.specs.Strides.{scaled_only}
use Rattle.program_tables.specs.declared.operations.Stride.{Stride}
use Rattle.program_tables.specs.declared.operations.Stride.TheVariants.{Scaled, Field}
use Rattle.program_tables.specs.Shapes.{stride_shape}
use Rattle.program_actions.specs.Scaled.{is_scaled_at}

pub scaled_none : {A : Type 0} (strides : List Stride) → scaled_only {A = A} (map stride_shape strides) [] ≡ []
scaled_none [] = refl
scaled_none (stride ∷ strides) = refl

-- one more beside the steps
one_more : {A : Type 0} (strides : List Stride) (xs : List A) (x : A)
    → scaled_only (map stride_shape strides) (xs ++ x ∷ []) ≡ scaled_only (map stride_shape strides) xs ++ (if is_scaled_at strides (length xs) then x ∷ [] else [])
one_more [] [] x = refl
one_more [] (y ∷ xs) x = refl
one_more {A} (Scaled width size ∷ strides) [] x = ap (λ (z : List A). x ∷ z) (scaled_none strides)
one_more (Field offset ∷ strides) [] x = scaled_none strides
one_more {A} (Scaled width size ∷ strides) (y ∷ xs) x = ap (λ (z : List A). y ∷ z) (one_more strides xs x)
one_more (Field offset ∷ strides) (y ∷ xs) x = one_more strides xs x

taken_long : {X : Type 0} (k : ℕ) (xs : List X) → k < length xs → length (take k xs) ≡ k
taken_long zero xs lt = refl
taken_long (suc k) [] lt = absurd (omega (arith, lt))
taken_long (suc k) (x ∷ xs) lt = ap suc (taken_long k xs (omega (arith, lt)))

mapped_long : {X Y : Type 0} (f : X → Y) (xs : List X) → length (map f xs) ≡ length xs
mapped_long f [] = refl
mapped_long f (x ∷ xs) = ap suc (mapped_long f xs)

-- the operands beside one step more
pub one_taken : {X Y Z : Type 0} (f : X → Y) (g : Y → Z) (strides : List Stride) (xs : List X) (k : ℕ) (x : X) → k < length xs → get_or xs k x ≡ x
    → scaled_only (map stride_shape strides) (map g (map f (take (k + 1) xs)))
    ≡ scaled_only (map stride_shape strides) (map g (map f (take k xs))) ++ (if is_scaled_at strides k then g (f x) ∷ [] else [])
one_taken {X} {Y} {Z} f g strides xs k x lt is =
    let cut : map g (map f (take (k + 1) xs)) ≡ map g (map f (take k xs)) ++ g (f x) ∷ [] =
    ap (λ (z : List X). map g (map f z)) (take_more xs k x lt ∙ ap (λ (z : X). take k xs ++ z ∷ []) is)
    ∙ ap (map g) (map-append f (take k xs) (x ∷ [])) ∙ map-append g (map f (take k xs)) (f x ∷ []) in
    let long : length (map g (map f (take k xs))) ≡ k =
    mapped_long g (map f (take k xs)) ∙ mapped_long f (take k xs) ∙ taken_long k xs lt in
    ap (scaled_only (map stride_shape strides)) cut
    ∙ one_more strides (map g (map f (take k xs))) (g (f x))
    ∙ ap (λ (n : ℕ). scaled_only (map stride_shape strides) (map g (map f (take k xs))) ++ (if is_scaled_at strides n then g (f x) ∷ [] else [])) long
