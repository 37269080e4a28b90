-- The bytes of a frame, by what each instruction takes.
use Rattle.std.proofs.Common.{◌≡◌, ℕ, ◌+◌, ◌*◌, ◌≤◌, min, Bool, true, false, List, [], ◌∷◌, ◌++◌, length, refl, subst, arith, length-append}
use Rattle.std.specs.Prelude.{sum_by, flat_map}
use Rattle.std.proofs.lemmas.List.Sums.{sum_by-cons, sum_by-append}
use Rattle.ir_tree.specs.Shape.{InstShape, BlockShape, FunctionShape, NamedTyShape}
use Rattle.ir_layout.specs.Layout.{next_multiple}
use Rattle.ir_rules.specs.Values.{gives_value, results_of, results_from, all_results_from}
use Rattle.ir_proper.specs.Limits.{capped, all_insts, phi_count, result_count, TakeRoom, frame_base}
use Rattle.ir_limits.specs.Sums.{HaveSum}
use Rattle.ir_limits.specs.Shares.{value_count, own_bytes, TakesBytes}
use Rattle.ir_limits.proofs.Sums.{over_blocks}

-- ---- how many values instructions give
one_counted : (b i : ℕ) (x : InstShape) → length (results_of b i x) ≡ value_count x
one_counted b i x = by_test (gives_value x) refl
  where
    by_test : (t : Bool) → gives_value x ≡ t → length (results_of b i x) ≡ value_count x
    by_test true is = rw is refl
    by_test false is = rw is refl

insts_counted : (b i : ℕ) (xs : List InstShape) → length (results_from b i xs) ≡ sum_by value_count xs
insts_counted b i [] = refl
insts_counted b i (x ∷ xs) =
    omega (arith, length-append (results_of b i x) (results_from b (i + 1) xs), one_counted b i x, insts_counted b (i + 1) xs, sum_by-cons value_count x xs)

blocks_counted : (b : ℕ) (bs : List BlockShape) → length (all_results_from b bs) ≡ sum_by (λ b. sum_by value_count b.insts) bs
blocks_counted b [] = refl
blocks_counted b (x ∷ bs) =
    omega (
      arith,
      length-append (results_from b 0 x.insts) (all_results_from (b + 1) bs),
      insts_counted b 0 x.insts,
      blocks_counted (b + 1) bs,
      sum_by-cons (λ (b : BlockShape). sum_by value_count b.insts) x bs,
    )

pub results_counted : (f : FunctionShape) → result_count f ≡ sum_by (λ b. sum_by value_count b.insts) f.blocks
results_counted f = blocks_counted 0 f.blocks

-- ---- what instructions take together
pub take_append : (ts : List NamedTyShape) (xs ys : List InstShape) (a b : ℕ) → TakeRoom ts xs a → TakeRoom ts ys b → TakeRoom ts (xs ++ ys) (a + b)
take_append ts [] ys a b is others = let same : b ≡ a + b = omega arith in subst (λ (n : ℕ). TakeRoom ts ys n) same others
take_append ts (x ∷ xs) ys a b (first, rest, one, more, is) others = (first, rest + b, one, take_append ts xs ys rest b more others, omega arith)

take_split : (ts : List NamedTyShape) (xs ys : List InstShape) (n : ℕ) → TakeRoom ts (xs ++ ys) n
    → ((a : ℕ) × TakeRoom ts xs a) × ((b : ℕ) × TakeRoom ts ys b)
take_split ts [] ys n both = ((0, refl), (n, both))
take_split ts (x ∷ xs) ys n (first, rest, one, more, is) =
    let split = take_split ts xs ys rest more in ((first + split.0.0, (first, split.0.0, one, split.0.1, refl)), split.1)

-- the sum of what instructions take for themselves
abbrev own_sum : List InstShape → ℕ
own_sum xs = 40 * sum_by value_count xs + 24 * sum_by (λ x. phi_count x.body) xs

own_cons : (x : InstShape) (xs : List InstShape) → own_sum (x ∷ xs) ≡ own_bytes x + own_sum xs
own_cons x xs = omega (arith, sum_by-cons value_count x xs, sum_by-cons (λ (x : InstShape). phi_count x.body) x xs)

own_append : (xs ys : List InstShape) → own_sum (xs ++ ys) ≡ own_sum xs + own_sum ys
own_append xs ys = omega (arith, sum_by-append value_count xs ys, sum_by-append (λ (x : InstShape). phi_count x.body) xs ys)

insts_take : (ts : List NamedTyShape) (xs : List InstShape) (n : ℕ) → HaveSum (TakesBytes ts) xs n
    → (room : ℕ) × TakeRoom ts xs room × (n ≡ own_sum xs + room)
insts_take ts [] n none = (0, refl, omega arith)
insts_take ts (x ∷ xs) n (first, rest, (one, takes, first_is), others, sum) =
    let more = insts_take ts xs rest others in
    (one + more.0, (one, more.0, takes, more.1, refl), omega (arith, own_cons x xs, first_is, sum, more.2))

blocks_take : (ts : List NamedTyShape) (bs : List BlockShape) (n : ℕ) → HaveSum (λ b. HaveSum (TakesBytes ts) b.insts) bs n
    → (room : ℕ) × TakeRoom ts (flat_map (λ b. b.insts) bs) room × (n ≡ own_sum (flat_map (λ b. b.insts) bs) + room)
blocks_take ts [] n none = (0, refl, omega arith)
blocks_take ts (b ∷ bs) n (first, rest, here, others, sum) =
    let one = insts_take ts b.insts first here in
    let more = blocks_take ts bs rest others in (
      one.0 + more.0,
      take_append ts b.insts (flat_map (λ b. b.insts) bs) one.0 more.0 one.1 more.1,
      omega (arith, own_append b.insts (flat_map (λ b. b.insts) bs), one.2, more.2, sum),
    )

insts_have : (ts : List NamedTyShape) (xs : List InstShape) (room : ℕ) → TakeRoom ts xs room → (n : ℕ) × HaveSum (TakesBytes ts) xs n
insts_have ts [] room none = (0, refl)
insts_have ts (x ∷ xs) room (first, rest, one, others, is) =
    let more = insts_have ts xs rest others in
    (first + own_bytes x + more.0, (first + own_bytes x, more.0, (first, one, refl), more.1, refl))

pub blocks_have : (ts : List NamedTyShape) (bs : List BlockShape) (room : ℕ) → TakeRoom ts (flat_map (λ b. b.insts) bs) room
    → (n : ℕ) × HaveSum (λ b. HaveSum (TakesBytes ts) b.insts) bs n
blocks_have ts [] room none = (0, refl)
blocks_have ts (b ∷ bs) room takes =
    let split = take_split ts b.insts (flat_map (λ b. b.insts) bs) room takes in
    let one = insts_have ts b.insts split.0.0 split.0.1 in
    let more = blocks_have ts bs split.1.0 split.1.1 in
    (one.0 + more.0, (one.0, more.0, one.1, more.1, refl))

-- ---- the frame
pub rounded_once : (most n told : ℕ) → told ≡ min n most → 18446744073709551615 ≤ most → capped (next_multiple 16 told) ≡ capped (next_multiple 16 n)
rounded_once most n told is large = omega arith

pub frame_is : (ts : List NamedTyShape) (f : FunctionShape) (n : ℕ) → HaveSum (λ b. HaveSum (TakesBytes ts) b.insts) f.blocks n
    → (room : ℕ) × TakeRoom ts (all_insts f) room × (n + 48 * length f.params + 64 ≡ frame_base f + room)
frame_is ts f n has =
    let all = blocks_take ts f.blocks n has in
    (all.0, all.1, omega (arith, all.2, results_counted f, over_blocks value_count f.blocks))

-- the sum of the parts of a frame
pub frame_sum : (most count sum insts params first second : ℕ) → params ≡ min (count * 48) most → insts ≡ min sum most → first ≡ min (insts + params) most
    → second ≡ min (first + 64) most → second ≡ min (sum + 48 * count + 64) most
frame_sum most count sum insts params first second params_are insts_are first_is second_is = omega arith
