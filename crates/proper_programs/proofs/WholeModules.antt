-- The program of a proper module is whole.
use Rattle.std.proofs.Common.{◌≡◌, ◌≤◌, ◌<◌, ℕ, zero, suc, ◌+◌, Bool, true, false, List, [], ◌∷◌, ◌++◌, map, length, Option, Some, None, refl, sym, ap, subst, ◌∙◌, arith, slice_get}
use Rattle.std.specs.Prelude.{codes, unwrap_or, if◌then◌else◌}
use Rattle.std.specs.List.{AllByRecursion}
use Rattle.std.specs.Str.{bytes_eq}
use Rattle.std.proofs.lemmas.Option.{none-some, slice_get_within}
use Rattle.std.proofs.lemmas.List.{length-map}
use Rattle.ir_tree.specs.Shape.{ConstShape, global, local, fixed, CaseShape, BodyShape, phi, binary, icmp, select, convert, freeze, alloca, load, store, get_element, call, jump, branch, switch, return_void, return_value, unreachable, InstShape, BlockShape, FunctionShape, ModuleShape}
use Rattle.ir_rules.specs.declared.Callee.{Callee}
use Rattle.ir_rules.specs.declared.Callee.TheVariants.{Defined, Declared}
use Rattle.ir_rules.specs.Values.{block_of, inst_at}
use Rattle.ir_rules.specs.Things.{callee_of, Signature, signature_of}
use Rattle.ir_rules.specs.Places.{inst_at_place}
use Rattle.ir_rules.specs.Instructions.{Around, IsWellTyped}
use Rattle.ir_rules.specs.TypeRules.{HasTypes}
use Rattle.ir_proper.specs.Proper.{IsProper}
use Rattle.ir_forms.specs.Instructions.{is_phi, is_terminator as ends_block}
use Rattle.ir_forms.specs.Modules.{IsInner, HasBlockForm, HasFunctionForm, HasForm}
use Rattle.ir_model.specs.Programs.{Case, PutChar, GetChar, Instruction, Function, function_at}
use Rattle.ir_program.specs.Strides.{width_of}
use Rattle.ir_program.specs.Operands.{block_number, program_case, action_of, called, call_of}
use Rattle.ir_program.specs.ProgramOf.{phis_from, instruction_of, body_from, program_function, program_of}
use Rattle.ir_placed_runs.specs.Places.{is_terminator, IsBody, Names, IsWholeBlock, IsWhole}
use Rattle.ir_typed_runs.proofs.Lists.{all_get}
use Rattle.proper_programs.proofs.Positions.{found_at}
use Rattle.proper_programs.proofs.CalledKinds.{defined_is}
use Rattle.proper_programs.proofs.TypedBodies.{function_is, for_each}
use Rattle.proper_programs.proofs.Bodies.{StandAt, first_stands, rest_stands, block_stands, all_blocks, body_has, blocks_have, as_many_blocks}
use Rattle.proper_programs.proofs.TypedModules.{begins_with}

-- ---- bodies
longer_body : (x : Instruction) (rest : List Instruction) → is_terminator x.action ≡ false → IsBody rest → IsBody (x ∷ rest)
longer_body x [] inner is = absurd is
longer_body x (y ∷ ys) inner is = (inner, is)

pub terminator_no_phi : (body : BodyShape) → ends_block body ≡ true → is_phi body ≡ false
terminator_no_phi (phi t inputs) is = cc
terminator_no_phi (binary operation flags t left right) is = refl
terminator_no_phi (icmp predicate t left right) is = refl
terminator_no_phi (select condition met unmet) is = refl
terminator_no_phi (convert conversion t val to) is = refl
terminator_no_phi (freeze t val) is = refl
terminator_no_phi (alloca t count) is = refl
terminator_no_phi (load t from) is = refl
terminator_no_phi (store stored to) is = refl
terminator_no_phi (get_element inbounds t base indices) is = refl
terminator_no_phi (call ret callee arguments) is = refl
terminator_no_phi (jump to) is = refl
terminator_no_phi (branch condition met unmet) is = refl
terminator_no_phi (switch on otherwise cases) is = refl
terminator_no_phi return_void is = refl
terminator_no_phi (return_value given) is = refl
terminator_no_phi unreachable is = refl

call_goes_on : (put : Bool) → is_terminator (if put then PutChar else GetChar) ≡ false
call_goes_on true = refl
call_goes_on false = refl

module _ (m : ModuleShape) (f : FunctionShape) where
  abbrev a : Around
  a = record { within = m; function = f }

  callee_goes_on : (name : List ℕ) (callee : Callee) → is_terminator (call_of name (Some callee)) ≡ false
  callee_goes_on name (Defined g) = refl
  callee_goes_on name (Declared j) = call_goes_on (bytes_eq name (codes "putchar"))

  -- a call that names a function is no terminator
  called_goes_on : (c : ConstShape) (name : List ℕ) (callee : Callee) → c ≡ global name → callee_of m name ≡ Some callee → is_terminator (called a (fixed c)) ≡ false
  called_goes_on c name callee is names =
      ap (λ (e : ConstShape). is_terminator (called a (fixed e))) is ∙ ap (λ (o : Option Callee). is_terminator (call_of name o)) names ∙ callee_goes_on name callee

  -- terminators are those of the text
  ends_alike : (body : BodyShape) → is_phi body ≡ false → IsWellTyped a body → is_terminator (action_of a body) ≡ ends_block body
  ends_alike (phi t inputs) not_phi is = cc
  ends_alike (binary operation flags t left right) not_phi is = refl
  ends_alike (icmp predicate t left right) not_phi is = refl
  ends_alike (select condition met unmet) not_phi is = refl
  ends_alike (convert conversion t val to) not_phi is = refl
  ends_alike (freeze t val) not_phi is = refl
  ends_alike (alloca t count) not_phi is = refl
  ends_alike (load t from) not_phi is = refl
  ends_alike (store stored to) not_phi is = refl
  ends_alike (get_element inbounds t base indices) not_phi is = refl
  ends_alike (call ret (local name) arguments) not_phi is = absurd is.1
  ends_alike (call ret (fixed c) arguments) not_phi is = let calls = is.1 in called_goes_on c calls.0 calls.1 calls.2 calls.3
  ends_alike (jump to) not_phi is = refl
  ends_alike (branch condition met unmet) not_phi is = refl
  ends_alike (switch on otherwise cases) not_phi is = refl
  ends_alike return_void not_phi is = refl
  ends_alike (return_value given) not_phi is = refl
  ends_alike unreachable not_phi is = refl

  abbrev WellTyped : ℕ → Type 0
  WellTyped b = (i : ℕ) (x : InstShape) → inst_at f b i ≡ Some x → IsWellTyped a x.body

  taken_in : (b i : ℕ) (x : InstShape) (xs : List InstShape) → is_phi x.body ≡ false → body_from a b i (x ∷ xs) ≡ instruction_of a b i x ∷ body_from a b (i + 1) xs
  taken_in b i x xs is = ap (λ (phi : Bool). if phi then body_from a b (i + 1) xs else instruction_of a b i x ∷ body_from a b (i + 1) xs) is

  left_out : (b i : ℕ) (x : InstShape) (xs : List InstShape) → is_phi x.body ≡ true → body_from a b i (x ∷ xs) ≡ body_from a b (i + 1) xs
  left_out b i x xs is = ap (λ (phi : Bool). if phi then body_from a b (i + 1) xs else instruction_of a b i x ∷ body_from a b (i + 1) xs) is

  inner_body : (b i : ℕ) (inner : List InstShape) (last : InstShape) → WellTyped b → StandAt f b i (inner ++ (last ∷ [])) → AllByRecursion IsInner inner
      → ends_block last.body ≡ true → IsBody (body_from a b i (inner ++ (last ∷ [])))
  inner_body b i [] last typed stand are ends =
      let plain : is_phi last.body ≡ false = terminator_no_phi last.body ends in
      subst IsBody (sym (taken_in b i last [] plain)) (ends_alike last.body plain (typed i last (first_stands f b i last [] stand)) ∙ ends)
  inner_body b i (x ∷ xs) last typed stand are ends =
      subst IsBody (sym (taken_in b i x (xs ++ (last ∷ [])) are.0.no_phi))
      (longer_body (instruction_of a b i x) (body_from a b (i + 1) (xs ++ (last ∷ [])))
      (ends_alike x.body are.0.no_phi (typed i x (first_stands f b i x (xs ++ (last ∷ [])) stand)) ∙ are.0.no_terminator)
      (inner_body b (i + 1) xs last typed (rest_stands f b i x (xs ++ (last ∷ [])) stand) are.1 ends))

  cut_body : (b i : ℕ) (phis inner : List InstShape) (last : InstShape) → WellTyped b → StandAt f b i (phis ++ (inner ++ (last ∷ [])))
      → AllByRecursion (λ (x : InstShape). is_phi x.body ≡ true) phis → AllByRecursion IsInner inner
      → ends_block last.body ≡ true → IsBody (body_from a b i (phis ++ (inner ++ (last ∷ []))))
  cut_body b i [] inner last typed stand phis_are are ends = inner_body b i inner last typed stand are ends
  cut_body b i (x ∷ xs) inner last typed stand phis_are are ends =
      subst IsBody (sym (left_out b i x (xs ++ (inner ++ (last ∷ []))) phis_are.0))
      (cut_body b (i + 1) xs inner last typed (rest_stands f b i x (xs ++ (inner ++ (last ∷ []))) stand) phis_are.1 are ends)

  has_body : (b : ℕ) (x : BlockShape) → WellTyped b → slice_get f.blocks b ≡ Some x → HasBlockForm x → IsBody (body_from a b 0 x.insts)
  has_body b x typed there form =
      subst (λ (insts : List InstShape). IsBody (body_from a b 0 insts)) (sym form.cut)
      (cut_body b 0 form.phis form.inner form.last typed (subst (StandAt f b 0) form.cut (block_stands f b x there)) form.are_phis form.are_inner form.is_last)

  -- ---- what instructions name
  block_there : (name : List ℕ) → 0 < length f.blocks → block_number a name < length f.blocks
  block_there name some = by_option (block_of f name) refl
    where
      by_option : (o : Option ℕ) → block_of f name ≡ o → unwrap_or o 0 < length f.blocks
      by_option None is = some
      by_option (Some k) is =
          let found = found_at (λ (x : BlockShape). bytes_eq x.name name) 0 f.blocks k is in
          let within : found.index < length f.blocks = slice_get_within f.blocks found.index found.element found.there in
          let place : k ≡ 0 + found.index = found.place in
          omega arith

  cases_there : (width : ℕ) (cases : List CaseShape) → 0 < length f.blocks → AllByRecursion (λ (c : Case). c.to < length f.blocks) (map (program_case a width) cases)
  cases_there width [] some = tt
  cases_there width (c ∷ cases) some = (block_there c.to some, cases_there width cases some)

  called_outside_names : (put : Bool) → Names (length m.functions) (length f.blocks) (if put then PutChar else GetChar)
  called_outside_names true = tt
  called_outside_names false = tt

  callee_there : (name : List ℕ) (callee : Callee) (s : Signature) → signature_of m callee ≡ Some s
      → Names (length m.functions) (length f.blocks) (call_of name (Some callee))
  callee_there name (Defined g) s is = let d = defined_is m g s is in slice_get_within m.functions g d.function d.there
  callee_there name (Declared j) s is = called_outside_names (bytes_eq name (codes "putchar"))

  all_named : (body : BodyShape) → 0 < length f.blocks → IsWellTyped a body → Names (length m.functions) (length f.blocks) (action_of a body)
  all_named (phi t inputs) some is = tt
  all_named (binary operation flags t left right) some is = tt
  all_named (icmp predicate t left right) some is = tt
  all_named (select condition met unmet) some is = tt
  all_named (convert conversion t val to) some is = tt
  all_named (freeze t val) some is = tt
  all_named (alloca t count) some is = tt
  all_named (load t from) some is = tt
  all_named (store stored to) some is = tt
  all_named (get_element inbounds t base indices) some is = tt
  all_named (call ret (local name) arguments) some is = absurd is.1
  all_named (call ret (fixed c) arguments) some is =
      let calls = is.1 in
      subst (λ (e : ConstShape). Names (length m.functions) (length f.blocks) (called a (fixed e))) (sym calls.2)
      (subst (λ (o : Option Callee). Names (length m.functions) (length f.blocks) (call_of calls.0 o)) (sym calls.3)
      (callee_there calls.0 calls.1 is.0 calls.4))
  all_named (jump to) some is = block_there to some
  all_named (branch condition met unmet) some is = (block_there met some, block_there unmet some)
  all_named (switch on otherwise cases) some is = (block_there otherwise some, cases_there (width_of on.ty) cases some)
  all_named return_void some is = tt
  all_named (return_value given) some is = tt
  all_named unreachable some is = tt

-- ---- the whole
functions_many : (m : ModuleShape) → length (program_of m).functions ≡ length m.functions
unfolding program_of
functions_many m = length-map m.functions _

blocks_whole : (m : ModuleShape) (k : ℕ) (f : FunctionShape) → HasTypes m → slice_get m.functions k ≡ Some f → HasFunctionForm f
    → AllByRecursion (IsWholeBlock (program_of m) k) (program_function m f).blocks
blocks_whole m k f types at form =
    blocks_have (record { within = m; function = f }) (IsWholeBlock (program_of m) k) each 0 f.blocks (all_blocks f)
  where
    typed : (b i : ℕ) (x : InstShape) → inst_at f b i ≡ Some x → IsWellTyped (record { within = m; function = f }) x.body
    typed b i x there = (types (inst_at_place k b i) f x at there).typed

    many : length (function_at (program_of m) k).blocks ≡ length f.blocks
    many = ap (λ (F : Function). length F.blocks) (function_is m k f at) ∙ as_many_blocks (record { within = m; function = f }) 0 f.blocks

    named : (x : Instruction) → Names (length m.functions) (length f.blocks) x.action
        → Names (length (program_of m).functions) (length (function_at (program_of m) k).blocks) x.action
    named x is =
        subst (λ (n : ℕ). Names n (length (function_at (program_of m) k).blocks) x.action) (sym (functions_many m))
        (subst (λ (n : ℕ). Names (length m.functions) n x.action) (sym many) is)

    each : (b : ℕ) (x : BlockShape) → slice_get f.blocks b ≡ Some x
        → IsWholeBlock (program_of m) k (record {
          phis = phis_from (record { within = m; function = f }) b 0 x.insts;
          body = body_from (record { within = m; function = f }) b 0 x.insts;
        })
    each b x there =
        record {
          body = has_body m f b x (typed b) there (all_get HasBlockForm f.blocks b x form.blocks there);
          named = body_has (record { within = m; function = f })
              (λ (y : Instruction). Names (length (program_of m).functions) (length (function_at (program_of m) k).blocks) y.action) b
              (λ i y stands. named (instruction_of (record { within = m; function = f }) b i y) (all_named m f y.body form.has_block (typed b i y stands)))
              0 x.insts (block_stands f b x there);
        }

there_is : (fs : List FunctionShape) (j : ℕ) → j < length fs → slice_get fs j ≡ None → ⊥
there_is [] j lt is = omega arith
there_is (g ∷ gs) zero lt is = none-some g (sym is)
there_is (g ∷ gs) (suc j) lt is = there_is gs j (omega arith) is

pub whole : (m : ModuleShape) → IsProper m → HasForm m → IsWhole (program_of m)
whole m proper form =
    let begins = begins_with m proper in
    record {
      main = let lt : begins.number < length m.functions = slice_get_within m.functions begins.number begins.function begins.there in
          omega (arith, begins.main, functions_many m);
      entries = entered;
      blocks = λ k. for_each m (λ K F. AllByRecursion (IsWholeBlock (program_of m) k) F.blocks) k tt
          (λ f at. blocks_whole m k f proper.types at (all_get HasFunctionForm m.functions k f form.functions at));
    }
  where
    entered : (k : ℕ) → k < length (program_of m).functions → 0 < length (function_at (program_of m) k).blocks
    entered k lt = by_option (slice_get m.functions k) refl
      where
        by_option : (o : Option FunctionShape) → slice_get m.functions k ≡ o → 0 < length (function_at (program_of m) k).blocks
        by_option None is = absurd (there_is m.functions k (let e = functions_many m in omega arith) is)
        by_option (Some f) is =
            let some : 1 ≤ length f.blocks = (all_get HasFunctionForm m.functions k f form.functions is).has_block in
            omega (arith, ap (λ (F : Function). length F.blocks) (function_is m k f is), as_many_blocks (record { within = m; function = f }) 0 f.blocks)
