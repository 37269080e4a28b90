-- The program of a proper module is typed.
use Rattle.std.proofs.Common.{◌≡◌, ℕ, suc, ◌+◌, inl, inr, true, List, [], ◌∷◌, map, length, Option, Some, None, refl, sym, ap, subst, ◌∙◌, arith, slice_get}
use Rattle.std.specs.Prelude.{codes, unwrap_or}
use Rattle.std.specs.Option.{option_map}
use Rattle.std.specs.List.{AllByRecursion}
use Rattle.std.specs.Str.{bytes_eq}
use Rattle.std.proofs.lemmas.Bool.Decides.{eqb_tells}
use Rattle.std.proofs.lemmas.Option.{none-some}
use Rattle.std.proofs.lemmas.List.{length-map}
use Rattle.std.proofs.lemmas.Slice.Eq.{bytes_eq-Decides}
use Rattle.ir_tree.specs.Shape.{BodyShape, phi, binary, icmp, select, convert, freeze, alloca, load, store, get_element, call, jump, branch, switch, return_void, return_value, unreachable, InstShape, BlockShape, FunctionShape, GlobalShape, ModuleShape}
use Rattle.ir_rules.specs.Values.{ValueShape, result_ty, values, inst_at}
use Rattle.ir_rules.specs.Things.{function_of}
use Rattle.ir_rules.specs.Places.{global_at, function_at as function_place, inst_at_place}
use Rattle.ir_rules.specs.NameRules.{two_symbols}
use Rattle.ir_rules.specs.Instructions.{Around, IsWellTyped}
use Rattle.ir_rules.specs.TypeRules.{IsProperGlobal, HasTypes}
use Rattle.ir_proper.specs.Proper.{IsMain, IsProper}
use Rattle.ir_model.specs.Programs.{Input}
use Rattle.ir_program.specs.Constants.{global_cells}
use Rattle.ir_program.specs.Operands.{result_number}
use Rattle.ir_program.specs.ProgramOf.{input_of, phi_of, phis_from, body_from, program_function, program_of}
use Rattle.ir_typed_runs.specs.Kinds.{HasWidth, IsCell}
use Rattle.ir_typed_runs.specs.TypedPrograms.{FunctionKinds, kinds_in, first_blocks, GivesKind, IsOperand, IsTypedInstruction, IsTypedPhi, IsTypedBlock, IsTyped}
use Rattle.ir_typed_runs.proofs.Lists.{all_joined, all_mapped}
use Rattle.ir_program.specs.Bytes.{HasByte, HaveBytes}
use Rattle.proper_programs.specs.ModuleKinds.{kind_of_ty, returned_kind, site_kind, function_kinds, module_kinds}
use Rattle.proper_programs.proofs.Positions.{found_at, exists_at, all_of}
use Rattle.proper_programs.proofs.ValueKinds.{site_width, gives_kind, gives_nothing}
use Rattle.proper_programs.proofs.ConstantKinds.{block_count, const_parts, are_cells}
use Rattle.proper_programs.proofs.InstructionKinds.{all_inputs}
use Rattle.proper_programs.proofs.TypedBodies.{kinds_are, for_each, blocks_are, typed_body}
use Rattle.proper_programs.proofs.Bodies.{StandAt, first_stands, rest_stands, block_stands, all_blocks, body_has, blocks_have}

module _ (m : ModuleShape) (types : HasTypes m) (k : ℕ) (f : FunctionShape) (at : slice_get m.functions k ≡ Some f) where
  abbrev a : Around
  a = record { within = m; function = f }

  phi_typed : (number : Option ℕ) (body : BodyShape) → IsWellTyped a body → GivesKind (function_kinds f).values number (kind_of_ty (result_ty body))
      → AllByRecursion (IsTypedPhi (program_of m) (function_kinds f).values) (phi_of a number body)
  phi_typed None body is has = tt
  phi_typed (Some id) (phi t inputs) is has = (
    record {
      kind = kind_of_ty t;
      result = has;
      inputs = all_mapped (λ (i : Input). IsOperand (program_of m) (function_kinds f).values (kind_of_ty t) i.operand) (input_of a t) inputs
          (all_inputs a (program_of m) (blocks_are m) t inputs is.1);
    },
    tt,
  )
  phi_typed (Some id) (binary operation flags t left right) is has = tt
  phi_typed (Some id) (icmp predicate t left right) is has = tt
  phi_typed (Some id) (select condition met unmet) is has = tt
  phi_typed (Some id) (convert conversion t val to) is has = tt
  phi_typed (Some id) (freeze t val) is has = tt
  phi_typed (Some id) (alloca t count) is has = tt
  phi_typed (Some id) (load t from) is has = tt
  phi_typed (Some id) (store stored to) is has = tt
  phi_typed (Some id) (get_element inbounds t base indices) is has = tt
  phi_typed (Some id) (call ret callee arguments) is has = tt
  phi_typed (Some id) (jump to) is has = tt
  phi_typed (Some id) (branch condition met unmet) is has = tt
  phi_typed (Some id) (switch on otherwise cases) is has = tt
  phi_typed (Some id) return_void is has = tt
  phi_typed (Some id) (return_value given) is has = tt
  phi_typed (Some id) unreachable is has = tt

  phis_typed : (b i : ℕ) (xs : List InstShape) → StandAt f b i xs
      → AllByRecursion (IsTypedPhi (program_of m) (function_kinds f).values) (phis_from a b i xs)
  phis_typed b i [] stand = tt
  phis_typed b i (x ∷ xs) stand =
      let there : inst_at f b i ≡ Some x = first_stands f b i x xs stand in
      all_joined (IsTypedPhi (program_of m) (function_kinds f).values) (phi_of a (result_number a b i x) x.body) (phis_from a b (i + 1) xs)
      (phi_typed (result_number a b i x) x.body (types (inst_at_place k b i) f x at there).typed (gives_kind a b i x there))
      (phis_typed b (i + 1) xs (rest_stands f b i x xs stand))

  block_typed : (b : ℕ) (x : BlockShape) → slice_get f.blocks b ≡ Some x
      → IsTypedBlock (program_of m) (module_kinds m) k (record { phis = phis_from a b 0 x.insts; body = body_from a b 0 x.insts })
  block_typed b x there =
      record {
        phis = subst (λ (K : FunctionKinds). AllByRecursion (IsTypedPhi (program_of m) K.values) (phis_from a b 0 x.insts)) (sym (kinds_are m k f at))
            (phis_typed b 0 x.insts (block_stands f b x there));
        body = body_has a (IsTypedInstruction (program_of m) (module_kinds m) k) b
            (λ i y stands.
            let proper = types (inst_at_place k b i) f y at stands in
            typed_body m types k f at y.body proper.typed (result_number a b i y) (gives_kind a b i y stands) (gives_nothing a b i b y proper))
            0 x.insts (block_stands f b x there);
      }

  pub function_typed : AllByRecursion (IsTypedBlock (program_of m) (module_kinds m) k) (program_function m f).blocks
  function_typed = blocks_have a (IsTypedBlock (program_of m) (module_kinds m) k) block_typed 0 f.blocks (all_blocks f)

  pub values_wide : AllByRecursion HasWidth (function_kinds f).values
  values_wide = all_mapped HasWidth (λ (v : ValueShape). site_kind f v.site) (values f)
      (all_of (λ (v : ValueShape). HasWidth (site_kind f v.site)) (λ v. site_width m k f types at v.site) (values f))

-- ---- globals
globals_typed : (m : ModuleShape) → HasTypes m → HaveBytes (program_of m) → AllByRecursion (AllByRecursion (IsCell (first_blocks (program_of m)))) (program_of m).globals
unfolding program_of
globals_typed m types bytes =
    subst (λ (n : ℕ). AllByRecursion (AllByRecursion (IsCell n)) (map (global_cells m) m.globals)) (sym (blocks_are m))
    (each m.globals (λ j g is. types (global_at j) g is) bytes)
  where
    each : (gs : List GlobalShape) → ((j : ℕ) (g : GlobalShape) → slice_get gs j ≡ Some g → IsProperGlobal m.types g) → AllByRecursion (AllByRecursion HasByte) (map (global_cells m) gs)
        → AllByRecursion (AllByRecursion (IsCell (block_count m))) (map (global_cells m) gs)
    each [] proper has = tt
    each (g ∷ gs) proper has = (
      are_cells (block_count m) (global_cells m g) has.0 (const_parts m g.ty g.init (proper 0 g refl).1),
      each gs (λ j h is. proper (suc j) h is) has.1,
    )

-- ---- `main`
-- the function that a program begins with is the one called `main`
pub record BeginsWith (m : ModuleShape) : Type 0 where
  pub number : ℕ
  pub function : FunctionShape
  pub there : slice_get m.functions number ≡ Some function
  pub main : (program_of m).main ≡ number
  pub is_main : IsMain function

main_number : (m : ModuleShape) (k : ℕ) → function_of m (codes "main") ≡ Some k → (program_of m).main ≡ k
unfolding program_of
main_number m k is = ap (λ (o : Option ℕ). unwrap_or o 0) is

same_place : (j k : ℕ) → function_place j ≡ function_place k → j ≡ k
same_place j k e = grind arith

pub begins_with : (m : ModuleShape) → IsProper m → BeginsWith m
begins_with m proper =
    let k : ℕ = proper.main.0 in
    let f : FunctionShape = proper.main.1 in
    let there : slice_get m.functions k ≡ Some f = proper.main.2 in
    let called : f.name ≡ codes "main" = proper.main.3.called_main in
    let test : bytes_eq f.name (codes "main") ≡ true = (bytes_eq-Decides f.name (codes "main")).1 called in
    let number = exists_at (λ (g : FunctionShape). bytes_eq g.name (codes "main")) 0 m.functions k f there test in
    let found = found_at (λ (g : FunctionShape). bytes_eq g.name (codes "main")) 0 m.functions number.0 number.1 in
    let place : found.index ≡ number.0 = let e : number.0 ≡ 0 + found.index = found.place in omega arith in
    let first : slice_get m.functions number.0 ≡ Some found.element = subst (λ (n : ℕ). slice_get m.functions n ≡ Some found.element) place found.there in
    let named : found.element.name ≡ codes "main" = (bytes_eq-Decides found.element.name (codes "main")).0 found.passes in
    let once : number.0 ≡ k = one_main number.0 k found.element f first there named called in
    record { number = k; function = f; there = there; main = main_number m number.0 number.1 ∙ once; is_main = proper.main.3 }
  where
    one_main : (j k : ℕ) (g f : FunctionShape) → slice_get m.functions j ≡ Some g → slice_get m.functions k ≡ Some f → g.name ≡ codes "main"
        → f.name ≡ codes "main" → j ≡ k
    one_main j k g f at there one other =
        elim (eqb_tells j k) [
          | inl e ↦ e.1
          | inr e ↦ absurd (proper.names.apart (function_place j) (function_place k) (two_symbols (codes "main")
              (λ same. e.1 (same_place j k same))
              (ap (option_map (λ (h : FunctionShape). h.name)) at ∙ ap Some one)
              (ap (option_map (λ (h : FunctionShape). h.name)) there ∙ ap Some other)
              (λ twins. none-some twins.0 twins.2)))
        ]

-- ---- the whole
pub typed : (m : ModuleShape) → IsProper m → HaveBytes (program_of m) → IsTyped (program_of m) (module_kinds m)
typed m proper bytes =
    let begins = begins_with m proper in
    record {
      values = λ k. for_each m (λ K F. length K.values ≡ F.values) k refl (λ f at. length-map (values f) (λ (v : ValueShape). site_kind f v.site));
      widths = λ k. for_each m (λ K F. AllByRecursion HasWidth K.values) k tt (λ f at. values_wide m proper.types k f at);
      blocks = λ k. for_each m (λ K F. AllByRecursion (IsTypedBlock (program_of m) (module_kinds m) k) F.blocks) k tt
          (λ f at. function_typed m proper.types k f at);
      globals = globals_typed m proper.types bytes;
      main = ap (λ (n : ℕ). (kinds_in (module_kinds m) n).result) begins.main
          ∙ ap (λ (K : FunctionKinds). K.result) (kinds_are m begins.number begins.function begins.there)
          ∙ ap returned_kind begins.is_main.gives_status;
    }
