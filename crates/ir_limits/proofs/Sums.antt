-- Sums that are told: one that would pass 2^64 - 1 is 2^64 - 1.
use Rattle.std.proofs.Common.{◌≡◌, ℕ, ◌+◌, ◌*◌, ◌-◌, ◌^◌, ◌<◌, min, List, [], ◌∷◌, ◌++◌, length, get_or, map, take, refl, sym, ◌∙◌, ap, arith}
use Rattle.std.specs.Prelude.{sum_by, flat_map}
use Rattle.std.proofs.lemmas.List.{take_more, map-append}
use Rattle.std.proofs.lemmas.List.Sums.{sum_by_push, sum_by-cons, sum_by-append}
use Rattle.ir_tree.specs.Shape.{InstShape, BlockShape, FunctionShape}
use Rattle.ir_proper.specs.Limits.{capped, all_insts, more_operands, function_weight}
use Rattle.ir_limits.specs.Shares.{inst_weight}

pub min_more : (most sum term all one next : ℕ) → sum ≡ min all most → term ≡ min one most → next ≡ min (sum + term) most → next ≡ min (all + one) most
min_more most sum term all one next so_far last is = omega arith

-- the elements up to one more
pub mapped_more : {X S : Type 0} (g : X → S) (xs : List X) (i : ℕ) (x : X) → i < length xs → x ≡ get_or xs i x
    → map g (take (i + 1) xs) ≡ map g (take i xs) ++ g x ∷ []
mapped_more g xs i x within is =
    ap (map g) (take_more xs i x within) ∙ map-append g (take i xs) (get_or xs i x ∷ []) ∙ ap (λ y. map g (take i xs) ++ g y ∷ []) (sym is)

-- a sum that is told, with one term more
pub capped_more : {X S : Type 0} (g : X → S) (w : S → ℕ) (xs : List X) (i : ℕ) (x : X) (total term next : ℕ) → i < length xs → x ≡ get_or xs i x
    → total ≡ capped (sum_by w (map g (take i xs))) → term ≡ capped (w (g x)) → next ≡ min (total + term) (2 ^ 64 - 1)
    → next ≡ capped (sum_by w (map g (take (i + 1) xs)))
capped_more g w xs i x total term next within is so_far one sum =
    min_more 18446744073709551615 total term (sum_by w (map g (take i xs))) (w (g x)) next so_far one sum
    ∙ ap capped (sym (ap (sum_by w) (mapped_more g xs i x within is) ∙ sum_by_push w (map g (take i xs)) (g x)))

-- what is counted over the instructions of blocks
pub over_blocks : (w : InstShape → ℕ) (bs : List BlockShape) → sum_by (λ b. sum_by w b.insts) bs ≡ sum_by w (flat_map (λ b. b.insts) bs)
over_blocks w [] = refl
over_blocks w (b ∷ bs) =
    sum_by-cons (λ (b : BlockShape). sum_by w b.insts) b bs ∙ ap (λ n. sum_by w b.insts + n) (over_blocks w bs)
    ∙ sym (sum_by-append w b.insts (flat_map (λ b. b.insts) bs))

-- the weight of instructions
insts_weigh : (xs : List InstShape) → sum_by inst_weight xs ≡ 256 * length xs + 128 * sum_by (λ x. more_operands x.body) xs
insts_weigh [] = refl
insts_weigh (x ∷ xs) =
    omega (arith, sum_by-cons inst_weight x xs, sum_by-cons (λ (x : InstShape). more_operands x.body) x xs, insts_weigh xs)

-- the weight of a function: that of its head and of its instructions
pub function_weighs : (f : FunctionShape) → function_weight f ≡ 64 + 128 * length f.params + sum_by (λ b. sum_by inst_weight b.insts) f.blocks
function_weighs f = omega (arith, over_blocks inst_weight f.blocks, insts_weigh (all_insts f))

-- a head of a fixed part and a part for each parameter, and what comes of the instructions
pub head_more : (most each fixed count sum parts head insts all : ℕ) → parts ≡ min (count * each) most → head ≡ min (parts + fixed) most
    → insts ≡ min sum most → all ≡ min (head + insts) most → all ≡ min (fixed + count * each + sum) most
head_more most each fixed count sum parts head insts all parts_are head_is insts_are all_is = omega arith
