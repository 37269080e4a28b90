-- Each instruction of a proper module's program is typed.
use Rattle.std.proofs.Common.{◌≡◌, ℕ, zero, suc, List, [], ◌∷◌, map, Option, Some, None, refl, sym, ap, subst, ◌∙◌, arith, slice_get, slice_index_or}
use Rattle.std.specs.Prelude.{take}
use Rattle.std.specs.List.{AllByRecursion, AllZip}
use Rattle.std.proofs.lemmas.Option.{same_Some, none-some}
use Rattle.std.proofs.lemmas.List.{length-map}
use Rattle.ir_tree.specs.Shape.{TyShape, integer, pointer, void, array, structure, named, ConstShape, global, ValShape, local, fixed, TyValShape, BodyShape, phi, binary, icmp, select, convert, freeze, alloca, load, store, get_element, call, jump, branch, switch, return_void, return_value, unreachable, ParamShape, FunctionShape, ModuleShape}
use Rattle.ir_rules.specs.declared.Callee.{Callee}
use Rattle.ir_rules.specs.declared.Callee.TheVariants.{Defined, Declared}
use Rattle.ir_rules.specs.Constants.{IsScalar}
use Rattle.ir_rules.specs.Values.{result_ty}
use Rattle.ir_rules.specs.Things.{callee_of, Signature, signature_of}
use Rattle.ir_rules.specs.Instructions.{Around, HasTy, Fits, IsWellTyped}
use Rattle.ir_rules.specs.Places.{function_at as function_place, declare_at}
use Rattle.ir_rules.specs.TypeRules.{HasTypes}
use Rattle.ir_model.specs.Programs.{Operand, Action, Call, Function, no_function, function_at}
use Rattle.ir_program.specs.Constants.{access_of}
use Rattle.ir_program.specs.Operands.{operand_of, operands_of, typed_operand, action_of, called, call_of, outside_call, steps_of}
use Rattle.ir_program.specs.Strides.{width_of}
use Rattle.ir_program.specs.ProgramOf.{program_function, program_of}
use Rattle.ir_typed_runs.specs.Kinds.{Kind, OfWidth, OfPointer, HasWidth, kind_of, Converts, index_kinds}
use Rattle.ir_typed_runs.specs.TypedPrograms.{FunctionKinds, no_kinds, kinds_in, first_blocks, GivesKind, GivesReturned, IsOperand, IsTypedInstruction}
use Rattle.ir_typed_runs.proofs.Lists.{all_mapped}
use Rattle.proper_programs.specs.ModuleKinds.{kind_of_ty, returned_kind, function_kinds, module_kinds}
use Rattle.proper_programs.proofs.ValueKinds.{scalar_width, integer_width, storable_scalar}
use Rattle.proper_programs.proofs.ConstantKinds.{block_count}
use Rattle.proper_programs.proofs.InstructionKinds.{integer_kind, storable_kind, changes_convert, operand_kind, stated_kind, fits_kind, all_stated, steps_taken, cases_below}
use Rattle.proper_programs.proofs.CalledKinds.{defined_is, first_kinds, kinds_of_types, kinds_of_arguments, gives_returned, IsOutside, outside_is, IsCalledOutside, puts, gets, called_outside}

-- ---- functions of a module by number
pub index_mapped : {A B : Type 0} (g : A → B) (xs : List A) (k : ℕ) (x : A) (d : B) → slice_get xs k ≡ Some x → slice_index_or (map g xs) k d ≡ g x
index_mapped g [] k x d is = absurd (none-some x is)
index_mapped g (y ∷ ys) zero x d is = ap g (same_Some y x is)
index_mapped g (y ∷ ys) (suc k) x d is = index_mapped g ys k x d is

pub index_past : {A B : Type 0} (g : A → B) (xs : List A) (k : ℕ) (d : B) → slice_get xs k ≡ None → slice_index_or (map g xs) k d ≡ d
index_past g [] k d is = refl
index_past g (y ∷ ys) zero d is = absurd (none-some y (sym is))
index_past g (y ∷ ys) (suc k) d is = index_past g ys k d is

pub kinds_are : (m : ModuleShape) (k : ℕ) (f : FunctionShape) → slice_get m.functions k ≡ Some f → kinds_in (module_kinds m) k ≡ function_kinds f
kinds_are m k f at = index_mapped function_kinds m.functions k f no_kinds at

pub function_is : (m : ModuleShape) (k : ℕ) (f : FunctionShape) → slice_get m.functions k ≡ Some f → function_at (program_of m) k ≡ program_function m f
unfolding program_of
function_is m k f at = index_mapped (program_function m) m.functions k f no_function at

-- what holds of each function that is there, and of what stands for one that isn't
pub for_each : (m : ModuleShape) (P : FunctionKinds → Function → Type 0) (k : ℕ) → P no_kinds no_function
    → ((f : FunctionShape) → slice_get m.functions k ≡ Some f → P (function_kinds f) (program_function m f))
    → P (kinds_in (module_kinds m) k) (function_at (program_of m) k)
unfolding program_of
for_each m P k none some = by_option (slice_get m.functions k) refl
  where
    by_option : (o : Option FunctionShape) → slice_get m.functions k ≡ o → P (kinds_in (module_kinds m) k) (function_at (program_of m) k)
    by_option None is =
        subst (λ (F : Function). P (kinds_in (module_kinds m) k) F) (sym (index_past (program_function m) m.functions k no_function is))
        (subst (λ (K : FunctionKinds). P K no_function) (sym (index_past function_kinds m.functions k no_kinds is)) none)
    by_option (Some f) is =
        subst (λ (F : Function). P (kinds_in (module_kinds m) k) F) (sym (index_mapped (program_function m) m.functions k f no_function is))
        (subst (λ (K : FunctionKinds). P K (program_function m f)) (sym (index_mapped function_kinds m.functions k f no_kinds is)) (some f is))

pub blocks_are : (m : ModuleShape) → first_blocks (program_of m) ≡ block_count m
unfolding program_of
blocks_are m = ap suc (length-map m.globals _)

-- ---- instructions
arguments_wide : (xs : List TyValShape) (ts : List TyShape) → map (λ (x : TyValShape). x.ty) xs ≡ ts → AllByRecursion IsScalar ts
    → AllByRecursion HasWidth (map (λ (x : TyValShape). kind_of_ty x.ty) xs)
arguments_wide xs ts is scalars = wide xs (subst (AllByRecursion IsScalar) (sym is) scalars)
  where
    wide : (ys : List TyValShape) → AllByRecursion IsScalar (map (λ (x : TyValShape). x.ty) ys)
        → AllByRecursion HasWidth (map (λ (x : TyValShape). kind_of_ty x.ty) ys)
    wide [] all = tt
    wide (y ∷ ys) all = (scalar_width y.ty all.0, wide ys all.1)

narrow : HasWidth (OfWidth 1)
narrow = (omega arith, omega arith)

module _ (m : ModuleShape) (types : HasTypes m) (k : ℕ) (f : FunctionShape) (at : slice_get m.functions k ≡ Some f) where
  abbrev a : Around
  a = record { within = m; function = f }

  abbrev pub Typed : Option ℕ → Action → List Operand → Type 0
  Typed number action operands = IsTypedInstruction (program_of m) (module_kinds m) k (record { result = number; action = action; operands = operands })

  gives : (number : Option ℕ) (kind : Kind) → GivesKind (function_kinds f).values number kind
      → GivesKind (kinds_in (module_kinds m) k).values number kind
  gives number kind has = subst (λ (K : FunctionKinds). GivesKind K.values number kind) (sym (kinds_are m k f at)) has

  takes : (ks : List Kind) (operands : List Operand) → AllZip (IsOperand (program_of m) (function_kinds f).values) ks operands
      → AllZip (IsOperand (program_of m) (kinds_in (module_kinds m) k).values) ks operands
  takes ks operands all = subst (λ (K : FunctionKinds). AllZip (IsOperand (program_of m) K.values) ks operands) (sym (kinds_are m k f at)) all

  returns : (o : Option Kind) → returned_kind f.ret ≡ o → (kinds_in (module_kinds m) k).result ≡ o
  returns o is = ap (λ (K : FunctionKinds). K.result) (kinds_are m k f at) ∙ is

  -- ---- calls
  call_defined : (g : ℕ) (s : Signature) (ret : TyShape) (arguments : List TyValShape) (number : Option ℕ) → signature_of m (Defined g) ≡ Some s → ret ≡ s.ret
      → map (λ (x : TyValShape). x.ty) arguments ≡ s.params → AllByRecursion (Fits a) arguments
      → GivesKind (function_kinds f).values number (kind_of_ty ret) → (ret ≡ void → number ≡ None) → Typed number (Call g) (map (typed_operand a) arguments)
  call_defined g s ret arguments number signature same stated fit has nothing =
      let d = defined_is m g s signature in
      let h : FunctionShape = d.function in
      let head = types (function_place g) h d.there in
      let kinds : map (λ (x : TyValShape). kind_of_ty x.ty) arguments ≡ map (λ (q : ParamShape). kind_of_ty q.ty) h.params =
      kinds_of_arguments arguments ∙ kinds_of_types m (map (λ (x : TyValShape). x.ty) arguments) h.params (stated ∙ d.params) in
      record {
        taken = map (λ (x : TyValShape). kind_of_ty x.ty) arguments;
        widths = arguments_wide arguments (map (λ (q : ParamShape). q.ty) h.params) (stated ∙ d.params) (all_mapped IsScalar (λ (q : ParamShape). q.ty) h.params head.1);
        operands = takes _ _ (all_stated a (program_of m) (blocks_are m) arguments fit);
        fits = (
          kinds ∙ sym (first_kinds h) ∙ ap (λ (n : ℕ). take n (function_kinds h).values) (ap (λ (F : Function). F.params) (sym (function_is m g h d.there)))
              ∙ ap (λ (K : FunctionKinds). take (function_at (program_of m) g).params K.values) (sym (kinds_are m g h d.there)),
          subst (λ (K : FunctionKinds). GivesReturned (kinds_in (module_kinds m) k).values number K.result) (sym (kinds_are m g h d.there))
              (gives_returned (kinds_in (module_kinds m) k).values number ret h.ret (same ∙ d.ret) head.0 (gives number (kind_of_ty ret) has) nothing),
        );
      }

  call_outside : (name : List ℕ) (j : ℕ) (s : Signature) (ret : TyShape) (arguments : List TyValShape) (number : Option ℕ) → callee_of m name ≡ Some (Declared j)
      → signature_of m (Declared j) ≡ Some s → ret ≡ s.ret → map (λ (x : TyValShape). x.ty) arguments ≡ s.params → AllByRecursion (Fits a) arguments
      → GivesKind (function_kinds f).values number (kind_of_ty ret) → Typed number (outside_call name) (map (typed_operand a) arguments)
  call_outside name j s ret arguments number names signature same stated fit has =
      by_name (called_outside name d.outside)
    where
      d : IsOutside m name s
      d = outside_is m name j s names signature

      by_name : IsCalledOutside name → Typed number (outside_call name) (map (typed_operand a) arguments)
      by_name (puts is called) =
          let outside = (types (declare_at d.number) d.function d.there).2.0 (d.same ∙ called) in
          let params : map (λ (x : TyValShape). x.ty) arguments ≡ integer 32 ∷ [] = stated ∙ d.params ∙ outside.1 in
          let ret_is : ret ≡ integer 32 = same ∙ d.ret ∙ outside.0 in
          subst (λ (action : Action). Typed number action (map (typed_operand a) arguments)) (sym is)
          (record {
            taken = map (λ (x : TyValShape). kind_of_ty x.ty) arguments;
            widths = arguments_wide arguments (integer 32 ∷ []) params ((omega arith, omega arith), tt);
            operands = takes _ _ (all_stated a (program_of m) (blocks_are m) arguments fit);
            fits = (
              kinds_of_arguments arguments ∙ ap (map kind_of_ty) params,
              gives number (OfWidth 32) (subst (λ (t : TyShape). GivesKind (function_kinds f).values number (kind_of_ty t)) ret_is has),
            );
          })
      by_name (gets is called) =
          let outside = (types (declare_at d.number) d.function d.there).2.1 (d.same ∙ called) in
          let params : map (λ (x : TyValShape). x.ty) arguments ≡ [] = stated ∙ d.params ∙ outside.1 in
          let ret_is : ret ≡ integer 32 = same ∙ d.ret ∙ outside.0 in
          subst (λ (action : Action). Typed number action (map (typed_operand a) arguments)) (sym is)
          (record {
            taken = map (λ (x : TyValShape). kind_of_ty x.ty) arguments;
            widths = arguments_wide arguments [] params tt;
            operands = takes _ _ (all_stated a (program_of m) (blocks_are m) arguments fit);
            fits = (
              kinds_of_arguments arguments ∙ ap (map kind_of_ty) params,
              gives number (OfWidth 32) (subst (λ (t : TyShape). GivesKind (function_kinds f).values number (kind_of_ty t)) ret_is has),
            );
          })

  call_kind : (name : List ℕ) (callee : Callee) (s : Signature) (ret : TyShape) (arguments : List TyValShape) (number : Option ℕ)
      → callee_of m name ≡ Some callee → signature_of m callee ≡ Some s → ret ≡ s.ret → map (λ (x : TyValShape). x.ty) arguments ≡ s.params
      → AllByRecursion (Fits a) arguments → GivesKind (function_kinds f).values number (kind_of_ty ret) → (ret ≡ void → number ≡ None)
      → Typed number (call_of name (Some callee)) (map (typed_operand a) arguments)
  call_kind name (Defined g) s ret arguments number names signature same stated fit has nothing =
      call_defined g s ret arguments number signature same stated fit has nothing
  call_kind name (Declared j) s ret arguments number names signature same stated fit has nothing =
      call_outside name j s ret arguments number names signature same stated fit has

  call_typed : (name : List ℕ) (callee : Callee) (c : ConstShape) (s : Signature) (ret : TyShape) (arguments : List TyValShape) (number : Option ℕ) → c ≡ global name
      → callee_of m name ≡ Some callee → signature_of m callee ≡ Some s → ret ≡ s.ret → map (λ (x : TyValShape). x.ty) arguments ≡ s.params
      → AllByRecursion (Fits a) arguments → GivesKind (function_kinds f).values number (kind_of_ty ret) → (ret ≡ void → number ≡ None)
      → Typed number (called a (fixed c)) (map (typed_operand a) arguments)
  call_typed name callee c s ret arguments number is names signature same stated fit has nothing =
      subst (λ (e : ConstShape). Typed number (called a (fixed e)) (map (typed_operand a) arguments)) (sym is)
      (subst (λ (o : Option Callee). Typed number (call_of name o) (map (typed_operand a) arguments)) (sym names)
      (call_kind name callee s ret arguments number names signature same stated fit has nothing))

  -- ---- one operand, and two
  abbrev Has : Kind → Operand → Type 0
  Has kind o = IsOperand (program_of m) (function_kinds f).values kind o

  one : (kind : Kind) (o : Operand) → Has kind o → AllZip (IsOperand (program_of m) (kinds_in (module_kinds m) k).values) (kind ∷ []) (o ∷ [])
  one kind o has = takes (kind ∷ []) (o ∷ []) (has, tt)

  two : (kind other : Kind) (o q : Operand) → Has kind o → Has other q
      → AllZip (IsOperand (program_of m) (kinds_in (module_kinds m) k).values) (kind ∷ other ∷ []) (o ∷ q ∷ [])
  two kind other o q has also = takes (kind ∷ other ∷ []) (o ∷ q ∷ []) (has, (also, tt))

  value : (x : ValShape) (t : TyShape) → HasTy a x t → IsOperand (program_of m) (function_kinds f).values (kind_of_ty t) (operand_of a t x)
  value x t has = operand_kind a (program_of m) (blocks_are m) x t has

  pub typed_body : (body : BodyShape) → IsWellTyped a body → (number : Option ℕ) → GivesKind (function_kinds f).values number (kind_of_ty (result_ty body))
      → (result_ty body ≡ void → number ≡ None) → Typed number (action_of a body) (operands_of a body)
  typed_body (phi t inputs) is number has nothing = record { taken = []; widths = tt; operands = tt; fits = refl }
  typed_body (binary operation flags t left right) is number has nothing =
      let width : kind_of_ty t ≡ OfWidth (width_of t) = integer_kind t is.0 in
      record {
        taken = kind_of_ty t ∷ kind_of_ty t ∷ [];
        widths = (integer_width t is.0, (integer_width t is.0, tt));
        operands = two (kind_of_ty t) (kind_of_ty t) (operand_of a t left) (operand_of a t right) (value left t is.1) (value right t is.2);
        fits = (kind_of_ty t, (ap (λ (kind : Kind). kind ∷ kind ∷ []) width, width), gives number (kind_of_ty t) has);
      }
  typed_body (icmp predicate t left right) is number has nothing =
      record {
        taken = kind_of_ty t ∷ kind_of_ty t ∷ [];
        widths = (scalar_width t is.0, (scalar_width t is.0, tt));
        operands = two (kind_of_ty t) (kind_of_ty t) (operand_of a t left) (operand_of a t right) (value left t is.1) (value right t is.2);
        fits = (OfWidth 1, (kind_of_ty t, refl, refl), gives number (OfWidth 1) has);
      }
  typed_body (select condition met unmet) is number has nothing =
      record {
        taken = OfWidth 1 ∷ kind_of_ty met.ty ∷ kind_of_ty met.ty ∷ [];
        widths = (narrow, (scalar_width met.ty is.1, (scalar_width met.ty is.1, tt)));
        operands = takes (OfWidth 1 ∷ kind_of_ty met.ty ∷ kind_of_ty met.ty ∷ []) (typed_operand a condition ∷ typed_operand a met ∷ typed_operand a unmet ∷ []) (
          fits_kind a (program_of m) (blocks_are m) condition (integer 1) is.0,
          (stated_kind a (program_of m) (blocks_are m) met is.2, (fits_kind a (program_of m) (blocks_are m) unmet met.ty is.3, tt)),
        );
        fits = (kind_of_ty met.ty, refl, gives number (kind_of_ty met.ty) has);
      }
  typed_body (convert conversion t val to) is number has nothing =
      let leads = is.2 in
      let from_is : width_of t ≡ leads.0 = ap width_of leads.2 in
      let to_is : width_of to ≡ leads.1 = ap width_of leads.3 in
      record {
        taken = kind_of_ty t ∷ [];
        widths = (integer_width t is.0, tt);
        operands = one (kind_of_ty t) (operand_of a t val) (value val t is.3);
        fits = (
          kind_of_ty to,
          (
            ap (λ (kind : Kind). kind ∷ []) (integer_kind t is.0),
            integer_kind to is.1,
            subst (λ (n : ℕ). Converts conversion n (width_of to)) (sym from_is)
                (subst (λ (n : ℕ). Converts conversion leads.0 n) (sym to_is) (changes_convert conversion leads.0 leads.1 leads.4)),
          ),
          gives number (kind_of_ty to) has,
        );
      }
  typed_body (freeze t val) is number has nothing =
      record {
        taken = kind_of_ty t ∷ [];
        widths = (scalar_width t is.0, tt);
        operands = one (kind_of_ty t) (operand_of a t val) (value val t is.1);
        fits = (kind_of_ty t, refl, gives number (kind_of_ty t) has);
      }
  typed_body (alloca t count) is number has nothing = record { taken = []; widths = tt; operands = tt; fits = (refl, gives number OfPointer has) }
  typed_body (load t from) is number has nothing =
      record {
        taken = OfPointer ∷ [];
        widths = (tt, tt);
        operands = one OfPointer (typed_operand a from) (fits_kind a (program_of m) (blocks_are m) from pointer is.1);
        fits = (refl, gives number (kind_of (access_of t)) (subst (GivesKind (function_kinds f).values number) (storable_kind t is.0) has));
      }
  typed_body (store stored to) is number has nothing =
      record {
        taken = kind_of_ty stored.ty ∷ OfPointer ∷ [];
        widths = (scalar_width stored.ty (storable_scalar stored.ty is.0), (tt, tt));
        operands = two (kind_of_ty stored.ty) OfPointer (typed_operand a stored) (typed_operand a to) (stated_kind a (program_of m) (blocks_are m) stored is.1)
            (fits_kind a (program_of m) (blocks_are m) to pointer is.2);
        fits = (ap (λ (kind : Kind). kind ∷ OfPointer ∷ []) (storable_kind stored.ty is.0), nothing refl);
      }
  typed_body (get_element inbounds t base indices) is number has nothing =
      let steps = steps_taken a (program_of m) (blocks_are m) m.types t indices is.2 in
      record {
        taken = OfPointer ∷ index_kinds (steps_of a t indices);
        widths = (tt, steps.widths);
        operands = takes (OfPointer ∷ index_kinds (steps_of a t indices)) (operands_of a (get_element inbounds t base indices))
            (fits_kind a (program_of m) (blocks_are m) base pointer is.1, steps.operands);
        fits = (OfPointer, (refl, refl), gives number OfPointer has);
      }
  typed_body (call ret (local name) arguments) is number has nothing = absurd is.1
  typed_body (call ret (fixed c) arguments) is number has nothing =
      let calls = is.1 in
      call_typed calls.0 calls.1 c is.0 ret arguments number calls.2 calls.3 calls.4 is.2 is.3 is.4 has nothing
  typed_body (jump to) is number has nothing = record { taken = []; widths = tt; operands = tt; fits = refl }
  typed_body (branch condition met unmet) is number has nothing =
      record {
        taken = OfWidth 1 ∷ [];
        widths = (narrow, tt);
        operands = one (OfWidth 1) (typed_operand a condition) (fits_kind a (program_of m) (blocks_are m) condition (integer 1) is);
        fits = refl;
      }
  typed_body (switch on otherwise cases) is number has nothing =
      record {
        taken = kind_of_ty on.ty ∷ [];
        widths = (integer_width on.ty is.2, tt);
        operands = one (kind_of_ty on.ty) (typed_operand a on) (stated_kind a (program_of m) (blocks_are m) on is.3);
        fits = (width_of on.ty, ap (λ (kind : Kind). kind ∷ []) (integer_kind on.ty is.2), cases_below a (program_of m) (blocks_are m) (width_of on.ty) cases);
      }
  typed_body return_void is number has nothing = record { taken = []; widths = tt; operands = tt; fits = (refl, returns None (ap returned_kind is)) }
  typed_body (return_value given) is number has nothing =
      record {
        taken = kind_of_ty given.ty ∷ [];
        widths = (scalar_width given.ty is.1, tt);
        operands = one (kind_of_ty given.ty) (typed_operand a given) (stated_kind a (program_of m) (blocks_are m) given is.2);
        fits = (kind_of_ty given.ty, refl, returns (Some (kind_of_ty given.ty)) (ap returned_kind (sym is.0) ∙ scalar_returned given.ty is.1));
      }
    where
      scalar_returned : (t : TyShape) → IsScalar t → returned_kind t ≡ Some (kind_of_ty t)
      scalar_returned (integer bits) may = refl
      scalar_returned pointer may = refl
      scalar_returned void may = absurd may
      scalar_returned (array count element) may = absurd may
      scalar_returned (structure row packed) may = absurd may
      scalar_returned (named name) may = absurd may
  typed_body unreachable is number has nothing = record { taken = []; widths = tt; operands = tt; fits = refl }
