-- Values that are counted have the numbers of their places among all values.
use Rattle.std.proofs.Common.{◌≡◌, ◌<◌, ◌≤◌, ℕ, suc, ◌+◌, Bool, true, false, inl, inr, ◌⊎◌, List, [], ◌∷◌, ◌++◌, map, length, Option, Some, None, arith, refl, sym, ap, ap₂, ◌∙◌, append_assoc, append-nil}
use Rattle.std.proofs.lemmas.Bool.Decides.{nat_tests}
use Rattle.std.specs.Prelude.{if◌then◌else◌}
use Rattle.std.specs.List.{AllByRecursion, position_from}
use Rattle.ir_tree.specs.Shape.{InstShape, BlockShape, ParamShape}
use Rattle.ir_rules.specs.declared.Site.{Site}
use Rattle.ir_rules.specs.declared.Site.TheVariants.{Param, Inst}
use Rattle.ir_rules.specs.Values.{ValueShape, values, params_from, results_of, results_from, all_results_from, gives_value}
use Rattle.ir_rules.specs.Instructions.{Around as Surroundings}
use Rattle.ir_model.specs.Programs.{Instruction, Phi, Block}
use Rattle.ir_forms.specs.Instructions.{is_phi}
use Rattle.ir_program.specs.Operands.{is_given_at, result_number}
use Rattle.ir_program.specs.ProgramOf.{phi_of, phis_from, instruction_of, body_from, blocks_from}
use Rattle.ir_tree.specs.ShapeOf.{param_shape}
use Rattle.program_actions.specs.declared.around.Around.{Around as CodeAround}
use Rattle.program_actions.specs.Around.{around_of, names_around}
use Rattle.program_insts.specs.Numbers.{numbered, number_by, next_by, after, phis_by, others_by, blocks_by, after_all}

-- what gives a value stands before the instruction of these numbers of a block and in it
abbrev IsBefore : ℕ → ℕ → Site → Type 0
IsBefore b i (Param k) = Unit {0}
IsBefore b i (Inst c j) = (c < b) ⊎ ((c ≡ b) × (j < i))

abbrev AreBefore : ℕ → ℕ → List ValueShape → Type 0
AreBefore b i vs = AllByRecursion (λ v. IsBefore b i v.site) vs

not_given : (b i : ℕ) (s : Site) → IsBefore b i s → is_given_at b i s ≡ false
not_given b i (Param k) h = refl
not_given b i (Inst c j) (inl h) = grind (arith, nat_tests, h)
not_given b i (Inst c j) (inr h) = grind (arith, nat_tests, h)

is_given : (b i : ℕ) → is_given_at b i (Inst b i) ≡ true
is_given b i = grind (arith, nat_tests)

later : (b i : ℕ) (s : Site) → IsBefore b i s → IsBefore b (i + 1) s
later b i (Param k) h = tt
later b i (Inst c j) (inl h) = inl h
later b i (Inst c j) (inr h) = inr (h.0, omega (arith, h.1))

all_later : (b i : ℕ) (vs : List ValueShape) → AreBefore b i vs → AreBefore b (i + 1) vs
all_later b i [] h = tt
all_later b i (v ∷ vs) h = (later b i v.site h.0, all_later b i vs h.1)

next_block : (b i : ℕ) (s : Site) → IsBefore b i s → IsBefore (b + 1) 0 s
next_block b i (Param k) h = tt
next_block b i (Inst c j) (inl h) = inl (omega (arith, h))
next_block b i (Inst c j) (inr h) = inl (omega (arith, h.0))

all_next_block : (b i : ℕ) (vs : List ValueShape) → AreBefore b i vs → AreBefore (b + 1) 0 vs
all_next_block b i [] h = tt
all_next_block b i (v ∷ vs) h = (next_block b i v.site h.0, all_next_block b i vs h.1)

both : (b i : ℕ) (vs ws : List ValueShape) → AreBefore b i vs → AreBefore b i ws → AreBefore b i (vs ++ ws)
both b i [] ws h g = g
both b i (v ∷ vs) ws h g = (h.0, both b i vs ws h.1 g)

-- the place of what gives a value
found : (b i k : ℕ) (before : List ValueShape) (v : ValueShape) (rest : List ValueShape) → AreBefore b i before → v.site ≡ Inst b i
    → position_from (λ w. is_given_at b i w.site) k (before ++ v ∷ rest) ≡ Some (k + length before)
found b i k [] v rest h is =
    let n : k ≡ k + 0 = omega arith in
    ap (λ (t : Bool). if t then Some k else position_from (λ w. is_given_at b i w.site) (k + 1) rest) (ap (is_given_at b i) is ∙ is_given b i) ∙ ap (λ (z : ℕ). Some z) n
found b i k (w ∷ ws) v rest h is =
    let n : k + 1 + length ws ≡ k + length (w ∷ ws) = omega arith in
    ap (λ (t : Bool). if t then Some k else position_from (λ u. is_given_at b i u.site) (k + 1) (ws ++ v ∷ rest)) (not_given b i w.site h.0)
    ∙ found b i (k + 1) ws v rest h.1 is
    ∙ ap (λ (z : ℕ). Some z) n

-- an instruction's number, by whether it gives a value
number_at : (b i : ℕ) (all before rest : List ValueShape) (v : ValueShape) (gives : Bool) → v.site ≡ Inst b i → AreBefore b i before
    → all ≡ before ++ ((if gives then v ∷ [] else []) ++ rest)
    → (if gives then position_from (λ w. is_given_at b i w.site) 0 all else None) ≡ (if gives then Some (length before) else None)
number_at b i all before rest v true is early cut =
    let n : 0 + length before ≡ length before = omega arith in
    ap (position_from (λ w. is_given_at b i w.site) 0) cut ∙ found b i 0 before v rest early is ∙ ap (λ (z : ℕ). Some z) n
number_at b i all before rest v false is early cut = refl

length_at : (before : List ValueShape) (v : ValueShape) (gives : Bool) → length (before ++ (if gives then v ∷ [] else [])) ≡ (if gives then suc (length before) else length before)
length_at [] v true = refl
length_at [] v false = refl
length_at (w ∷ ws) v true = ap suc (length_at ws v true)
length_at (w ∷ ws) v false = ap suc (length_at ws v false)

early_at : (b i : ℕ) (v : ValueShape) (gives : Bool) → IsBefore b i v.site → AreBefore b i (if gives then v ∷ [] else [])
early_at b i v true h = (h, tt)
early_at b i v false h = tt

-- where instructions stand among the values: after these, before those
record Stands (a : Surroundings) (b i : ℕ) (before : List ValueShape) (xs : List InstShape) (rest : List ValueShape) : Type 0 where
  cut : values a.function ≡ before ++ (results_from b i xs ++ rest)
  early : AreBefore b i before

abbrev here : (b i : ℕ) (x : InstShape) → ValueShape
here b i x = record { name = x.result; site = Inst b i }

one_more : (a : Surroundings) (b i : ℕ) (before : List ValueShape) (x : InstShape) (xs : List InstShape) (rest : List ValueShape) → Stands a b i before (x ∷ xs) rest
    → Stands a b (i + 1) (before ++ results_of b i x) xs rest
one_more a b i before x xs rest s = record {
  cut = s.cut ∙ ap (λ (z : List ValueShape). before ++ z) (append_assoc (results_of b i x) (results_from b (i + 1) xs) rest)
      ∙ sym (append_assoc before (results_of b i x) (results_from b (i + 1) xs ++ rest));
  early = both b (i + 1) before (results_of b i x) (all_later b i before s.early)
      (early_at b (i + 1) (here b i x) (gives_value x) (inr (refl, omega arith)));
}

number_is : (a : Surroundings) (b i : ℕ) (before : List ValueShape) (x : InstShape) (xs : List InstShape) (rest : List ValueShape) → Stands a b i before (x ∷ xs) rest
    → number_by (length before) x ≡ result_number a b i x
number_is a b i before x xs rest s =
    sym (number_at b i (values a.function) before (results_from b (i + 1) xs ++ rest) (here b i x) (gives_value x) refl s.early
    (s.cut ∙ ap (λ (z : List ValueShape). before ++ z) (append_assoc (results_of b i x) (results_from b (i + 1) xs) rest)))

next_is : (b i : ℕ) (before : List ValueShape) (x : InstShape) → length (before ++ results_of b i x) ≡ next_by (length before) x
next_is b i before x = length_at before (here b i x) (gives_value x)

-- the phis
phis_same : (a : Surroundings) (b i : ℕ) (before : List ValueShape) (xs : List InstShape) (rest : List ValueShape) → Stands a b i before xs rest
    → phis_by a (length before) xs ≡ phis_from a b i xs
phis_same a b i before [] rest s = refl
phis_same a b i before (x ∷ xs) rest s =
    ap₂ (λ (n : Option ℕ) (z : List Phi). phi_of a n x.body ++ z) (number_is a b i before x xs rest s)
    (ap (λ (n : ℕ). phis_by a n xs) (sym (next_is b i before x))
    ∙ phis_same a b (i + 1) (before ++ results_of b i x) xs rest (one_more a b i before x xs rest s))

-- the others
other_same : (phi : Bool) (x y : Instruction) (xs ys : List Instruction) → x ≡ y → xs ≡ ys
    → (if phi then [] else x ∷ []) ++ xs ≡ (if phi then ys else y ∷ ys)
other_same true x y xs ys first later = later
other_same false x y xs ys first later = ap₂ (λ (z : Instruction) (zs : List Instruction). z ∷ zs) first later

others_same : (a : Surroundings) (b i : ℕ) (before : List ValueShape) (xs : List InstShape) (rest : List ValueShape) → Stands a b i before xs rest
    → others_by a (length before) xs ≡ body_from a b i xs
others_same a b i before [] rest s = refl
others_same a b i before (x ∷ xs) rest s =
    other_same (is_phi x.body) (numbered a (number_by (length before) x) x.body) (instruction_of a b i x) (others_by a (next_by (length before) x) xs) (body_from a b (i + 1) xs)
    (ap (λ (n : Option ℕ). numbered a n x.body) (number_is a b i before x xs rest s))
    (ap (λ (n : ℕ). others_by a n xs) (sym (next_is b i before x))
    ∙ others_same a b (i + 1) (before ++ results_of b i x) xs rest (one_more a b i before x xs rest s))

-- how many values there are after instructions
after_is : (b i : ℕ) (before : List ValueShape) (xs : List InstShape) → length (before ++ results_from b i xs) ≡ after (length before) xs
after_is b i before [] = ap length (append-nil before)
after_is b i before (x ∷ xs) =
    ap length (sym (append_assoc before (results_of b i x) (results_from b (i + 1) xs)))
    ∙ after_is b (i + 1) (before ++ results_of b i x) xs
    ∙ ap (λ (n : ℕ). after n xs) (next_is b i before x)

results_early : (b i : ℕ) (xs : List InstShape) → AreBefore (b + 1) 0 (results_from b i xs)
results_early b i [] = tt
results_early b i (x ∷ xs) =
    both (b + 1) 0 (results_of b i x) (results_from b (i + 1) xs) (early_at (b + 1) 0 (here b i x) (gives_value x) (inl (omega arith))) (results_early b (i + 1) xs)

-- blocks
record BlocksStand (a : Surroundings) (b : ℕ) (before : List ValueShape) (bs : List BlockShape) : Type 0 where
  cut : values a.function ≡ before ++ all_results_from b bs
  early : AreBefore b 0 before

block_more : (a : Surroundings) (b : ℕ) (before : List ValueShape) (x : BlockShape) (bs : List BlockShape) → BlocksStand a b before (x ∷ bs)
    → BlocksStand a (b + 1) (before ++ results_from b 0 x.insts) bs
block_more a b before x bs s = record {
  cut = s.cut ∙ sym (append_assoc before (results_from b 0 x.insts) (all_results_from (b + 1) bs));
  early = both (b + 1) 0 before (results_from b 0 x.insts) (all_next_block b 0 before s.early) (results_early b 0 x.insts);
}

blocks_same : (a : Surroundings) (b : ℕ) (before : List ValueShape) (bs : List BlockShape) → BlocksStand a b before bs
    → blocks_by a (length before) bs ≡ blocks_from a b bs
blocks_same a b before [] s = refl
blocks_same a b before (x ∷ bs) s =
    let inside : Stands a b 0 before x.insts (all_results_from (b + 1) bs) = record { cut = s.cut; early = s.early } in
    ap₂ (λ (z : Block) (zs : List Block). z ∷ zs)
    (ap₂ (λ (ps : List Phi) (os : List Instruction). record { phis = ps; body = os }) (phis_same a b 0 before x.insts _ inside) (others_same a b 0 before x.insts _ inside))
    (ap (λ (n : ℕ). blocks_by a n bs) (sym (after_is b 0 before x.insts))
    ∙ blocks_same a (b + 1) (before ++ results_from b 0 x.insts) bs (block_more a b before x bs s))

after_blocks : (b : ℕ) (before : List ValueShape) (bs : List BlockShape) → length (before ++ all_results_from b bs) ≡ after_all (length before) bs
after_blocks b before [] = ap length (append-nil before)
after_blocks b before (x ∷ bs) =
    ap length (sym (append_assoc before (results_from b 0 x.insts) (all_results_from (b + 1) bs)))
    ∙ after_blocks (b + 1) (before ++ results_from b 0 x.insts) bs
    ∙ ap (λ (n : ℕ). after_all n bs) (after_is b 0 before x.insts)

params_long : (k : ℕ) (ps : List ParamShape) → length (params_from k ps) ≡ length ps
params_long k [] = refl
params_long k (p ∷ ps) = ap suc (params_long (k + 1) ps)

params_early : (k : ℕ) (ps : List ParamShape) → AreBefore 0 0 (params_from k ps)
params_early k [] = tt
params_early k (p ∷ ps) = (tt, params_early (k + 1) ps)

-- the blocks of a function whose values are counted from its parameters on
pub counted_blocks : (a : Surroundings) → blocks_by a (length a.function.params) a.function.blocks ≡ blocks_from a 0 a.function.blocks
counted_blocks a =
    ap (λ (n : ℕ). blocks_by a n a.function.blocks) (sym (params_long 0 a.function.params))
    ∙ blocks_same a 0 (params_from 0 a.function.params) a.function.blocks (record { cut = refl; early = params_early 0 a.function.params })

-- and there are as many values as are counted
pub counted_values : (a : Surroundings) → after_all (length a.function.params) a.function.blocks ≡ length (values a.function)
counted_values a =
    ap (λ (n : ℕ). after_all n a.function.blocks) (sym (params_long 0 a.function.params))
    ∙ sym (after_blocks 0 (params_from 0 a.function.params) a.function.blocks)

-- what is counted grows
pub next_grows : (n : ℕ) (x : InstShape) → n ≤ next_by n x
next_grows n x = grows n (gives_value x)
  where
    grows : (n : ℕ) (gives : Bool) → n ≤ (if gives then suc n else n)
    grows n true = omega arith
    grows n false = omega arith

pub after_grows : (n : ℕ) (xs : List InstShape) → n ≤ after n xs
after_grows n [] = omega arith
after_grows n (x ∷ xs) = omega (arith, next_grows n x, after_grows (next_by n x) xs)

pub after_all_grows : (n : ℕ) (bs : List BlockShape) → n ≤ after_all n bs
after_all_grows n [] = omega arith
after_all_grows n (b ∷ bs) = omega (arith, after_grows n b.insts, after_all_grows (after n b.insts) bs)

-- the parameters of a function as code has it
pub params_counted : (a : CodeAround) → length (around_of a).function.params ≡ length a.function.now.params.items
params_counted a = mapped_long (param_shape (names_around a)) a.function.now.params.items
  where
    mapped_long : {X Y : Type 0} (f : X → Y) (xs : List X) → length (map f xs) ≡ length xs
    mapped_long f [] = refl
    mapped_long f (x ∷ xs) = ap suc (mapped_long f xs)
