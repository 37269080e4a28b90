-- The phis and the instructions of a function give the values above its parameters in order, so each of them once.
use Rattle.std.proofs.Common.{◌≡◌, ◌≤◌, ◌<◌, ◌==◌, ℕ, zero, suc, ◌+◌, ◌-◌, inl, inr, Bool, true, false, List, [], ◌∷◌, ◌++◌, map, length, Option, Some, None, refl, sym, ap, ap₂, subst, ◌∙◌, arith, slice_get, append_assoc, length-append}
use Rattle.std.specs.Prelude.{⊤, if◌then◌else◌, ◌&&◌, flat_map}
use Rattle.std.specs.List.{AllByRecursion, position_from, cons_option, filter_map, range_with_len}
use Rattle.std.proofs.lemmas.Bool.{ne_eqb}
use Rattle.std.proofs.lemmas.Bool.Decides.{eqb_tells, nat_tests}
use Rattle.std.proofs.lemmas.List.{map-append}
use Rattle.std.proofs.lemmas.Option.{same_Some, none-some}
use Rattle.ir_tree.specs.Shape.{BodyShape, phi, binary, icmp, select, convert, freeze, alloca, load, store, get_element, call, jump, branch, switch, return_void, return_value, unreachable, InstShape, BlockShape, ParamShape, FunctionShape, ModuleShape}
use Rattle.ir_rules.specs.declared.Site.{Site}
use Rattle.ir_rules.specs.declared.Site.TheVariants.{Param, Inst}
use Rattle.ir_rules.specs.Values.{gives_value, ValueShape, params_from, results_from, all_results_from, values}
use Rattle.ir_rules.specs.Instructions.{Around}
use Rattle.ir_forms.specs.Instructions.{is_phi}
use Rattle.ir_forms.specs.Modules.{IsInner, HasBlockForm, HasFunctionForm, HasForm}
use Rattle.ir_model.specs.Programs.{Instruction, Phi, Function}
use Rattle.ir_program.specs.Operands.{is_given_at, result_number}
use Rattle.ir_program.specs.ProgramOf.{phi_of, phis_from, instruction_of, body_from, blocks_from, program_function, program_of}
use Rattle.ir_typed_runs.proofs.Lists.{all_joined, all_mapped}
use Rattle.proper_programs.specs.Results.{block_results, function_results, GivesInOrder, GivesOnce}
use Rattle.proper_programs.proofs.WholeModules.{terminator_no_phi}

-- ---- the number of what is given somewhere
-- a value is given before the instruction of these numbers
abbrev IsBefore : ℕ → ℕ → Site → Type 0
IsBefore b i (Param k) = ⊤
IsBefore b i (Inst c j) = (c ≤ b) × (c ≡ b → j < i)

abbrev AreBefore : ℕ → ℕ → List ValueShape → Type 0
AreBefore b i vs = AllByRecursion (λ (v : ValueShape). IsBefore b i v.site) vs

not_given : (b i : ℕ) (s : Site) → IsBefore b i s → is_given_at b i s ≡ false
not_given b i (Param k) before = refl
not_given b i (Inst c j) before =
    elim (eqb_tells c b) [
      | inl e ↦ ap (λ (t : Bool). t && j == i) e.0 ∙ ne_eqb j i (λ same. omega (arith, before.1 e.1))
      | inr e ↦ ap (λ (t : Bool). t && j == i) e.0
    ]

given_here : (b i : ℕ) → is_given_at b i (Inst b i) ≡ true
given_here b i = grind (arith, nat_tests)

before_more : (b i : ℕ) (s : Site) → IsBefore b i s → IsBefore b (i + 1) s
before_more b i (Param k) before = tt
before_more b i (Inst c j) before = (before.0, λ e. omega (arith, before.1 e))

before_next : (b : ℕ) (s : Site) → IsBefore b 0 s → IsBefore (b + 1) 0 s
before_next b (Param k) before = tt
before_next b (Inst c j) before = (omega (arith, before.0), λ e. omega (arith, before.0))

none_given : (b i : ℕ) (vs : List ValueShape) → AreBefore b i vs → AllByRecursion (λ (v : ValueShape). is_given_at b i v.site ≡ false) vs
none_given b i [] before = tt
none_given b i (v ∷ vs) before = (not_given b i v.site before.0, none_given b i vs before.1)

all_more : (b i : ℕ) (vs : List ValueShape) → AreBefore b i vs → AreBefore b (i + 1) vs
all_more b i [] before = tt
all_more b i (v ∷ vs) before = (before_more b i v.site before.0, all_more b i vs before.1)

all_next : (b : ℕ) (vs : List ValueShape) → AreBefore b 0 vs → AreBefore (b + 1) 0 vs
all_next b [] before = tt
all_next b (v ∷ vs) before = (before_next b v.site before.0, all_next b vs before.1)

-- what the instructions of a block give stands before the next block
one_before : (b i : ℕ) (v : ValueShape) (gives : Bool) (rest : List ValueShape) → v.site ≡ Inst b i → AreBefore (b + 1) 0 rest
    → AreBefore (b + 1) 0 ((if gives then v ∷ [] else []) ++ rest)
one_before b i v true rest site before = (subst (IsBefore (b + 1) 0) (sym site) (omega arith, λ e. omega arith), before)
one_before b i v false rest site before = before

block_before : (b i : ℕ) (xs : List InstShape) → AreBefore (b + 1) 0 (results_from b i xs)
block_before b i [] = tt
block_before b i (x ∷ xs) =
    one_before b i (record { name = x.result; site = Inst b i }) (gives_value x) (results_from b (i + 1) xs) refl (block_before b (i + 1) xs)

params_before : (k : ℕ) (ps : List ParamShape) → AreBefore 0 0 (params_from k ps)
params_before k [] = tt
params_before k (p ∷ ps) = (tt, params_before (k + 1) ps)

params_long : (k : ℕ) (ps : List ParamShape) → length (params_from k ps) ≡ length ps
params_long k [] = refl
params_long k (p ∷ ps) = ap suc (params_long (k + 1) ps)

-- the place of the first that passes
position_after : (P : ValueShape → Bool) (at : ℕ) (before : List ValueShape) (v : ValueShape) (after : List ValueShape)
    → AllByRecursion (λ (w : ValueShape). P w ≡ false) before → P v ≡ true → position_from P at (before ++ (v ∷ after)) ≡ Some (at + length before)
position_after P at [] v after none here =
    ap (λ (b : Bool). if b then Some at else position_from P (at + 1) after) here ∙ ap (λ (n : ℕ). Some n) (omega arith)
position_after P at (w ∷ ws) v after none here =
    ap (λ (b : Bool). if b then Some at else position_from P (at + 1) (ws ++ (v ∷ after))) none.0
    ∙ position_after P (at + 1) ws v after none.1 here
    ∙ ap (λ (n : ℕ). Some n) (omega arith)

-- ---- numbers in a row
range_joined : (n p q : ℕ) → range_with_len n p ++ range_with_len (n + p) q ≡ range_with_len n (p + q)
range_joined n zero q = ap₂ (λ (a b : ℕ). range_with_len a b) (omega arith) (omega arith)
range_joined n (suc p) q =
    let e : n + suc p ≡ n + 1 + p = omega arith in
    let s : suc p + q ≡ suc (p + q) = omega arith in
    ap (λ (k : ℕ). n ∷ (range_with_len (n + 1) p ++ range_with_len k q)) e ∙ ap (λ (l : List ℕ). n ∷ l) (range_joined (n + 1) p q)
    ∙ ap (λ (k : ℕ). range_with_len n k) (sym s)

range_at : (a n i k : ℕ) → slice_get (range_with_len a n) i ≡ Some k → (k ≡ a + i) × (i < n)
range_at a zero i k is = absurd (none-some k is)
range_at a (suc n) zero k is = let same : a ≡ k = same_Some a k is in (omega arith, omega arith)
range_at a (suc n) (suc i) k is = let later = range_at (a + 1) n i k is in (omega (arith, later.0), omega (arith, later.1))

range_has : (a n i : ℕ) → i < n → slice_get (range_with_len a n) i ≡ Some (a + i)
range_has a zero i lt = absurd (omega (arith, lt))
range_has a (suc n) zero lt = ap (λ (k : ℕ). Some k) (omega arith)
range_has a (suc n) (suc i) lt = range_has (a + 1) n i (omega (arith, lt)) ∙ ap (λ (k : ℕ). Some k) (omega arith)

module _ (a : Around) where
  -- the numbers of what instructions give, in the order of the text
  abbrev text_results : ℕ → ℕ → List InstShape → List ℕ
  text_results b i [] = []
  text_results b i (x ∷ xs) = cons_option (result_number a b i x) (text_results b (i + 1) xs)

  abbrev text_blocks : ℕ → List BlockShape → List ℕ
  text_blocks b [] = []
  text_blocks b (x ∷ xs) = text_results b 0 x.insts ++ text_blocks (b + 1) xs

  -- they are in a row, where those given before are so many
  number_next : (b i : ℕ) (v : ValueShape) (gives : Bool) (before rest after : List ValueShape) (given : List ℕ) → v.site ≡ Inst b i
      → values a.function ≡ before ++ (((if gives then v ∷ [] else []) ++ rest) ++ after) → AreBefore b i before
      → ((longer : List ValueShape) → values a.function ≡ longer ++ (rest ++ after) → AreBefore b (i + 1) longer → given ≡ range_with_len (length longer) (length rest))
      → cons_option (if gives then position_from (λ (w : ValueShape). is_given_at b i w.site) 0 (values a.function) else None) given
      ≡ range_with_len (length before) (length ((if gives then v ∷ [] else []) ++ rest))
  number_next b i v false before rest after given site are all later = later before are (all_more b i before all)
  number_next b i v true before rest after given site are all later =
      let here : is_given_at b i v.site ≡ true = ap (is_given_at b i) site ∙ given_here b i in
      let place : position_from (λ (w : ValueShape). is_given_at b i w.site) 0 (values a.function) ≡ Some (length before) =
      ap (position_from (λ (w : ValueShape). is_given_at b i w.site) 0) are
      ∙ position_after (λ (w : ValueShape). is_given_at b i w.site) 0 before v (rest ++ after) (none_given b i before all) here
      ∙ ap (λ (n : ℕ). Some n) (omega arith) in
      let one : IsBefore b (i + 1) v.site = subst (IsBefore b (i + 1)) (sym site) (omega arith, λ e. omega arith) in
      let long : length (before ++ (v ∷ [])) ≡ length before + 1 = length-append before (v ∷ []) in
      let next : given ≡ range_with_len (length (before ++ (v ∷ []))) (length rest) =
      later (before ++ (v ∷ [])) (are ∙ sym (append_assoc before (v ∷ []) (rest ++ after)))
      (all_joined (λ (w : ValueShape). IsBefore b (i + 1) w.site) before (v ∷ []) (all_more b i before all) (one, tt)) in
      ap (λ (o : Option ℕ). cons_option o given) place
      ∙ ap (λ (l : List ℕ). length before ∷ l) (next ∙ ap (λ (n : ℕ). range_with_len n (length rest)) long)

  numbered : (b i : ℕ) (xs : List InstShape) (before after : List ValueShape) → values a.function ≡ before ++ (results_from b i xs ++ after)
      → AreBefore b i before → text_results b i xs ≡ range_with_len (length before) (length (results_from b i xs))
  numbered b i [] before after are all = refl
  numbered b i (x ∷ xs) before after are all =
      number_next b i (record { name = x.result; site = Inst b i }) (gives_value x) before (results_from b (i + 1) xs) after (text_results b (i + 1) xs)
      refl are all (λ longer is more. numbered b (i + 1) xs longer after is more)

  numbered_blocks : (b : ℕ) (xs : List BlockShape) (before : List ValueShape) → values a.function ≡ before ++ all_results_from b xs
      → AreBefore b 0 before → text_blocks b xs ≡ range_with_len (length before) (length (all_results_from b xs))
  numbered_blocks b [] before are all = refl
  numbered_blocks b (x ∷ xs) before are all =
      let own : List ValueShape = results_from b 0 x.insts in
      let rest : List ValueShape = all_results_from (b + 1) xs in
      let first : text_results b 0 x.insts ≡ range_with_len (length before) (length own) = numbered b 0 x.insts before rest are all in
      let next : text_blocks (b + 1) xs ≡ range_with_len (length (before ++ own)) (length rest) =
      numbered_blocks (b + 1) xs (before ++ own) (are ∙ sym (append_assoc before own rest))
      (all_joined (λ (w : ValueShape). IsBefore (b + 1) 0 w.site) before own (all_next b before all) (block_before b 0 x.insts)) in
      ap₂ (λ (l k : List ℕ). l ++ k) first (next ∙ ap (λ (n : ℕ). range_with_len n (length rest)) (length-append before own))
      ∙ range_joined (length before) (length own) (length rest)
      ∙ ap (λ (n : ℕ). range_with_len (length before) n) (sym (length-append own rest))

  -- ---- the phis and the others, where phis stand first
  no_phi : (number : Option ℕ) (body : BodyShape) → is_phi body ≡ false → phi_of a number body ≡ []
  no_phi None body isnt = refl
  no_phi (Some id) (phi t inputs) isnt = cc
  no_phi (Some id) (binary operation flags t left right) isnt = refl
  no_phi (Some id) (icmp predicate t left right) isnt = refl
  no_phi (Some id) (select condition met unmet) isnt = refl
  no_phi (Some id) (convert conversion t val to) isnt = refl
  no_phi (Some id) (freeze t val) isnt = refl
  no_phi (Some id) (alloca t count) isnt = refl
  no_phi (Some id) (load t from) isnt = refl
  no_phi (Some id) (store stored to) isnt = refl
  no_phi (Some id) (get_element inbounds t base indices) isnt = refl
  no_phi (Some id) (call ret callee arguments) isnt = refl
  no_phi (Some id) (jump to) isnt = refl
  no_phi (Some id) (branch condition met unmet) isnt = refl
  no_phi (Some id) (switch on otherwise cases) isnt = refl
  no_phi (Some id) return_void isnt = refl
  no_phi (Some id) (return_value given) isnt = refl
  no_phi (Some id) unreachable isnt = refl

  abbrev phi_results : List Phi → List ℕ
  phi_results xs = map (λ (x : Phi). x.result) xs

  abbrev other_results : List Instruction → List ℕ
  other_results xs = filter_map (λ (x : Instruction). x.result) xs

  one_phi : (number : Option ℕ) (body : BodyShape) (rest : List ℕ) → is_phi body ≡ true → phi_results (phi_of a number body) ++ rest ≡ cons_option number rest
  one_phi None body rest is = refl
  one_phi (Some id) (phi t inputs) rest is = refl
  one_phi (Some id) (binary operation flags t left right) rest is = cc
  one_phi (Some id) (icmp predicate t left right) rest is = cc
  one_phi (Some id) (select condition met unmet) rest is = cc
  one_phi (Some id) (convert conversion t val to) rest is = cc
  one_phi (Some id) (freeze t val) rest is = cc
  one_phi (Some id) (alloca t count) rest is = cc
  one_phi (Some id) (load t from) rest is = cc
  one_phi (Some id) (store stored to) rest is = cc
  one_phi (Some id) (get_element inbounds t base indices) rest is = cc
  one_phi (Some id) (call ret callee arguments) rest is = cc
  one_phi (Some id) (jump to) rest is = cc
  one_phi (Some id) (branch condition met unmet) rest is = cc
  one_phi (Some id) (switch on otherwise cases) rest is = cc
  one_phi (Some id) return_void rest is = cc
  one_phi (Some id) (return_value given) rest is = cc
  one_phi (Some id) unreachable rest is = cc

  abbrev chosen : ℕ → ℕ → InstShape → List InstShape → Bool → List Instruction
  chosen b i x xs leaves = if leaves then body_from a b (i + 1) xs else instruction_of a b i x ∷ body_from a b (i + 1) xs

  -- instructions that are no phis
  others_alone : (b i : ℕ) (xs : List InstShape) → AllByRecursion (λ (x : InstShape). is_phi x.body ≡ false) xs
      → phi_results (phis_from a b i xs) ++ other_results (body_from a b i xs) ≡ text_results b i xs
  others_alone b i [] are = refl
  others_alone b i (x ∷ xs) are =
      let none : phis_from a b i (x ∷ xs) ≡ phis_from a b (i + 1) xs = ap (λ (l : List Phi). l ++ phis_from a b (i + 1) xs) (no_phi (result_number a b i x) x.body are.0) in
      let empty : phis_from a b (i + 1) xs ≡ [] = no_phis (i + 1) xs are.1 in
      let rest : other_results (body_from a b (i + 1) xs) ≡ text_results b (i + 1) xs =
      sym (ap (λ (l : List Phi). phi_results l ++ other_results (body_from a b (i + 1) xs)) empty) ∙ others_alone b (i + 1) xs are.1 in
      ap (λ (l : List Phi). phi_results l ++ other_results (body_from a b i (x ∷ xs))) (none ∙ empty)
      ∙ ap (λ (t : Bool). other_results (chosen b i x xs t)) are.0
      ∙ ap (cons_option (result_number a b i x)) rest
    where
      no_phis : (j : ℕ) (ys : List InstShape) → AllByRecursion (λ (y : InstShape). is_phi y.body ≡ false) ys → phis_from a b j ys ≡ []
      no_phis j [] all = refl
      no_phis j (y ∷ ys) all = ap₂ (λ (l k : List Phi). l ++ k) (no_phi (result_number a b j y) y.body all.0) (no_phis (j + 1) ys all.1)

  phis_first : (b i : ℕ) (phis others : List InstShape) → AllByRecursion (λ (x : InstShape). is_phi x.body ≡ true) phis
      → AllByRecursion (λ (x : InstShape). is_phi x.body ≡ false) others
      → phi_results (phis_from a b i (phis ++ others)) ++ other_results (body_from a b i (phis ++ others)) ≡ text_results b i (phis ++ others)
  phis_first b i [] others are arent = others_alone b i others arent
  phis_first b i (x ∷ xs) others are arent =
      let number : Option ℕ = result_number a b i x in
      let rest : List InstShape = xs ++ others in
      let phis : List Phi = phis_from a b (i + 1) rest in
      let body : List ℕ = other_results (body_from a b (i + 1) rest) in
      ap (λ (t : Bool). phi_results (phi_of a number x.body ++ phis) ++ other_results (chosen b i x rest t)) are.0
      ∙ ap (λ (l : List ℕ). l ++ body) (map-append (λ (y : Phi). y.result) (phi_of a number x.body) phis)
      ∙ append_assoc (phi_results (phi_of a number x.body)) (phi_results phis) body
      ∙ one_phi number x.body (phi_results phis ++ body) are.0
      ∙ ap (cons_option number) (phis_first b (i + 1) xs others are.1 arent)

  inner_no_phi : (xs : List InstShape) → AllByRecursion IsInner xs → AllByRecursion (λ (x : InstShape). is_phi x.body ≡ false) xs
  inner_no_phi [] are = tt
  inner_no_phi (x ∷ xs) are = (are.0.no_phi, inner_no_phi xs are.1)

  of_block : (b : ℕ) (x : BlockShape) → HasBlockForm x
      → block_results (record { phis = phis_from a b 0 x.insts; body = body_from a b 0 x.insts }) ≡ text_results b 0 x.insts
  of_block b x form =
      subst (λ (insts : List InstShape). block_results (record { phis = phis_from a b 0 insts; body = body_from a b 0 insts }) ≡ text_results b 0 insts) (sym form.cut)
      (phis_first b 0 form.phis (form.inner ++ (form.last ∷ [])) form.are_phis
      (all_joined (λ (y : InstShape). is_phi y.body ≡ false) form.inner (form.last ∷ []) (inner_no_phi form.inner form.are_inner)
      (terminator_no_phi form.last.body form.is_last, tt)))

  of_blocks : (b : ℕ) (xs : List BlockShape) → AllByRecursion HasBlockForm xs → flat_map block_results (blocks_from a b xs) ≡ text_blocks b xs
  of_blocks b [] forms = refl
  of_blocks b (x ∷ xs) forms = ap₂ (λ (l k : List ℕ). l ++ k) (of_block b x forms.0) (of_blocks (b + 1) xs forms.1)

-- ---- the whole
in_order : (m : ModuleShape) (f : FunctionShape) → HasFunctionForm f → GivesInOrder (program_function m f)
in_order m f form =
    let a : Around = record { within = m; function = f } in
    let params : List ValueShape = params_from 0 f.params in
    let results : List ValueShape = all_results_from 0 f.blocks in
    let long : length params ≡ length f.params = params_long 0 f.params in
    let all : length (values f) ≡ length params + length results = length-append params results in
    let count : length results ≡ length (values f) - length f.params = omega (arith, long, all) in
    record {
      fits = omega (arith, long, all);
      order = of_blocks a 0 f.blocks form.blocks ∙ numbered_blocks a 0 f.blocks params refl (params_before 0 f.params)
          ∙ ap₂ (λ (n k : ℕ). range_with_len n k) long count;
    }

all_in_order : (m : ModuleShape) (fs : List FunctionShape) → AllByRecursion HasFunctionForm fs → AllByRecursion (λ (f : FunctionShape). GivesInOrder (program_function m f)) fs
all_in_order m [] forms = tt
all_in_order m (f ∷ fs) forms = (in_order m f forms.0, all_in_order m fs forms.1)

pub given_in_order : (m : ModuleShape) → HasForm m → AllByRecursion GivesInOrder (program_of m).functions
unfolding program_of
given_in_order m form = all_mapped GivesInOrder (program_function m) m.functions (all_in_order m m.functions form.functions)

pub once_in_order : (f : Function) → GivesInOrder f → GivesOnce f
once_in_order f gives =
    record {
      above = λ place n is. let found = at place n is in (omega (arith, found.0), omega (arith, found.0, found.1, gives.fits));
      each = λ n least most. (
        n - f.params,
        ap (λ (l : List ℕ). slice_get l (n - f.params)) gives.order
            ∙ range_has f.params (f.values - f.params) (n - f.params) (omega (arith, least, most))
            ∙ ap (λ (k : ℕ). Some k) (omega (arith, least)),
      );
      once = λ place other n one two. let first = at place n one in let second = at other n two in omega (arith, first.0, second.0);
    }
  where
    at : (place n : ℕ) → slice_get (function_results f) place ≡ Some n → (n ≡ f.params + place) × (place < f.values - f.params)
    at place n is = range_at f.params (f.values - f.params) place n (ap (λ (l : List ℕ). slice_get l place) (sym gives.order) ∙ is)

all_once : (fs : List Function) → AllByRecursion GivesInOrder fs → AllByRecursion GivesOnce fs
all_once [] all = tt
all_once (f ∷ fs) all = (once_in_order f all.0, all_once fs all.1)

pub given_once : (m : ModuleShape) → HasForm m → AllByRecursion GivesOnce (program_of m).functions
given_once m form = all_once (program_of m).functions (given_in_order m form)
