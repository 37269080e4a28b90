-- What a step needs, in a state that is ready.
use Rattle.std.proofs.Common.{◌≡◌, ◌<◌, ◌≤◌, ℕ, zero, suc, List, [], ◌∷◌, ◌++◌, map, length, reverse, Option, Some, None, slice_get, arith, refl, ap, sym, subst, ◌∙◌}
use Rattle.std.proofs.lemmas.List.{reverse-append}
use Rattle.std.specs.List.{AllByRecursion, AllZip}
use Rattle.ir_model.specs.declared.Access.{Access}
use Rattle.ir_model.specs.declared.Access.TheVariants.{I8, I16, I32, I64, Ptr}
use Rattle.ir_model.specs.Values.{Value, Integer, Address, Poison}
use Rattle.ir_model.specs.MemoryFacts.{Carries}
use Rattle.ir_model.specs.Operations.{Operation, Binary, Compare, Select, Convert, Freeze, Walk, operand}
use Rattle.ir_model.specs.Programs.{Instruction, Compute, Load, Store}
use Rattle.ir_model.specs.States.{instruction_at, value_of}
use Rattle.ir_typed_runs.specs.Kinds.{Kind, OfWidth, OfPointer, HasWidth, IsOfKind, kind_of, HasKinds}
use Rattle.ir_typed_runs.specs.TypedPrograms.{Fits, GivesKind, kinds_in}
use Rattle.ir_typed_runs.specs.TypedStates.{HasFittingOperands}
use Rattle.ir_typed_runs.proofs.Steps.{operands_fit}
use Rattle.ir_placed_runs.specs.OwnedBlocks.{Descends, owned_by}
use Rattle.mem_cells.specs.Shown.{block_count}
use Rattle.mem_cells.proofs.BlocksKept.{as_many_blocks}
use Rattle.program_tables.specs.declared.program.Program.{Program}
use Rattle.program_tables.specs.Shapes.{program_shape}
use Rattle.ir_compute.specs.Fitting.{FitsOperands}
use Rattle.ir_eval.specs.declared.machine.Machine.{Machine}
use Rattle.ir_eval.specs.Shapes.{activation_shape, below, state_of}
use Rattle.ir_eval.specs.Computing.{Computes}
use Rattle.ir_eval.specs.Ready.{IsReady}

-- the kind of a number
kind_at : (kinds : List Kind) (id : ℕ) (kind : Kind) → AllByRecursion HasWidth kinds → slice_get kinds id ≡ Some kind → HasWidth kind
kind_at [] id kind widths is = cc
kind_at (k ∷ ks) zero kind widths is = subst HasWidth (same is) widths.0
  where
    same : Some k ≡ Some kind → k ≡ kind
    same is = cc
kind_at (k ∷ ks) (suc id) kind widths is = kind_at ks id kind widths.1 is

-- operands of an operation fit it
computed : (blocks : ℕ) (operation : Operation) (given : Option ℕ) (vs : List Value) (taken : List Kind) (kind : Kind) → HasKinds operation taken kind
    → AllByRecursion HasWidth taken → AllZip (IsOfKind blocks) taken vs → ((id : ℕ) → given ≡ Some id → HasWidth kind) → Computes blocks operation given vs
computed blocks operation (Some id) vs taken kind has widths fit wide = record {
  taken = taken;
  kind = kind;
  kinds = has;
  widths = (wide id refl, widths);
  operands = fit;
}
computed blocks (Binary operation flags width) None vs taken kind has widths fit wide =
    let first = subst (AllByRecursion HasWidth) has.0 widths in
    record { taken = taken; kind = kind; kinds = has; widths = (subst HasWidth (sym has.1) first.0, widths); operands = fit }
computed blocks (Compare predicate) None vs taken kind has widths fit wide =
    record { taken = taken; kind = kind; kinds = has; widths = (subst HasWidth (sym has.2) (omega arith, omega arith), widths); operands = fit }
computed blocks Select None vs taken kind has widths fit wide =
    let first = subst (AllByRecursion HasWidth) has widths in
    record { taken = taken; kind = kind; kinds = has; widths = (first.1.0, widths); operands = fit }
computed blocks (Convert conversion from to) None vs taken kind has widths fit wide = tt
computed blocks Freeze None vs taken kind has widths fit wide =
    let first = subst (AllByRecursion HasWidth) has widths in
    record { taken = taken; kind = kind; kinds = has; widths = (first.0, widths); operands = fit }
computed blocks (Walk inbounds strides) None vs taken kind has widths fit wide =
    record { taken = taken; kind = kind; kinds = has; widths = (subst HasWidth (sym has.1) tt, widths); operands = fit }

-- an access moves a value of its kind
carried : (blocks : ℕ) (access : Access) (v : Value) → IsOfKind blocks (kind_of access) v → Carries access v
carried blocks access Poison fits = tt
carried blocks I8 (Integer w n) fits = fits
carried blocks I16 (Integer w n) fits = fits
carried blocks I32 (Integer w n) fits = fits
carried blocks I64 (Integer w n) fits = fits
carried blocks Ptr (Integer w n) fits = fits
carried blocks I8 (Address q) fits = fits
carried blocks I16 (Address q) fits = fits
carried blocks I32 (Address q) fits = fits
carried blocks I64 (Address q) fits = fits
carried blocks Ptr (Address q) fits = tt

first_of : (blocks : ℕ) (kind : Kind) (kinds : List Kind) (vs : List Value) → AllZip (IsOfKind blocks) (kind ∷ kinds) vs → IsOfKind blocks kind (operand 0 vs)
first_of blocks kind kinds [] fit = absurd fit
first_of blocks kind kinds (v ∷ vs) fit = fit.0

second_of : (blocks : ℕ) (k kind : Kind) (kinds : List Kind) (vs : List Value) → AllZip (IsOfKind blocks) (k ∷ kind ∷ kinds) vs
    → IsOfKind blocks kind (operand 1 vs)
second_of blocks k kind kinds [] fit = absurd fit
second_of blocks k kind kinds (v ∷ []) fit = absurd fit.1
second_of blocks k kind kinds (v ∷ w ∷ vs) fit = fit.1.0

-- numbers that descend from a bound are below it
all_below : (bound first : ℕ) (xs ys : List ℕ) → first ≤ bound → Descends first (xs ++ ys) → AllByRecursion (λ k. k < bound) xs
all_below bound first [] ys le down = tt
all_below bound first (x ∷ xs) ys le down = (omega (arith, le, down.0), all_below bound x xs ys (omega (arith, le, down.0)) down.1)

-- what holds of all in one order holds in the other
turned_all : {A : Type 0} → (P : A → Type 0) (xs : List A) → AllByRecursion P (reverse xs) → AllByRecursion P xs
turned_all P [] all = tt
turned_all P (x ∷ xs) all =
    let parts = both (reverse xs) (x ∷ []) (subst (AllByRecursion P) (reverse-append (x ∷ []) xs) all) in
    (parts.1.0, turned_all P xs parts.0)
  where
    both : (xs ys : List _) → AllByRecursion P (xs ++ ys) → AllByRecursion P xs × AllByRecursion P ys
    both [] ys all = (tt, all)
    both (x ∷ xs) ys all = let rest = both xs ys all.1 in ((all.0, rest.0), rest.1)

module _ (p : Program) (input : List ℕ) (m : Machine) (ready : IsReady p input m) where
  abbrev values_of_operands : Instruction → List Value
  values_of_operands x = map (value_of (activation_shape m.current).values) x.operands

  counted : block_count m.mem ≡ length ready.memory
  counted = as_many_blocks m.mem.blocks.items ready.memory ready.shown

  fitting : (x : Instruction) → instruction_at (program_shape p) (activation_shape m.current) ≡ Some x
      → HasFittingOperands (program_shape p) ready.kinds (block_count m.mem) (activation_shape m.current) x
  fitting x at =
      subst (λ (n : ℕ). HasFittingOperands (program_shape p) ready.kinds n (activation_shape m.current) x) (sym counted)
      (operands_fit (program_shape p) ready.kinds ready.typed (state_of input ready.memory m) (activation_shape m.current) (below m) x ready.state refl at)

  pub computing : (x : Instruction) (operation : Operation) → instruction_at (program_shape p) (activation_shape m.current) ≡ Some x
      → x.action ≡ Compute operation → Computes (block_count m.mem) operation x.result (values_of_operands x)
  computing x operation at is =
      let f : ℕ = m.current.function in
      let fit = fitting x at in
      let fits = subst (λ action. Fits (program_shape p) ready.kinds f action fit.taken x.result) is fit.fits in
      computed (block_count m.mem) operation x.result (values_of_operands x) fit.taken fits.0 fits.1 fit.widths fit.operands
      (λ id given. kind_at (kinds_in ready.kinds f).values id fits.0 (ready.typed.widths f)
      (subst (λ result. GivesKind (kinds_in ready.kinds f).values result fits.0) given fits.2))

  pub loading : (x : Instruction) (access : Access) → instruction_at (program_shape p) (activation_shape m.current) ≡ Some x
      → x.action ≡ Load access → IsOfKind (block_count m.mem) OfPointer (operand 0 (values_of_operands x))
  loading x access at is =
      let fit = fitting x at in
      let fits = subst (λ action. Fits (program_shape p) ready.kinds m.current.function action fit.taken x.result) is fit.fits in
      first_of (block_count m.mem) OfPointer [] (values_of_operands x)
      (subst (λ (ks : List Kind). AllZip (IsOfKind (block_count m.mem)) ks (values_of_operands x)) fits.0 fit.operands)

  storing : (x : Instruction) (access : Access) → instruction_at (program_shape p) (activation_shape m.current) ≡ Some x
      → x.action ≡ Store access → AllZip (IsOfKind (block_count m.mem)) (kind_of access ∷ OfPointer ∷ []) (values_of_operands x)
  storing x access at is =
      let fit = fitting x at in
      let fits = subst (λ action. Fits (program_shape p) ready.kinds m.current.function action fit.taken x.result) is fit.fits in
      subst (λ (ks : List Kind). AllZip (IsOfKind (block_count m.mem)) ks (values_of_operands x)) fits.0 fit.operands

  pub storing_value : (x : Instruction) (access : Access) → instruction_at (program_shape p) (activation_shape m.current) ≡ Some x
      → x.action ≡ Store access → Carries access (operand 0 (values_of_operands x))
  storing_value x access at is =
      carried (block_count m.mem) access (operand 0 (values_of_operands x))
      (first_of (block_count m.mem) (kind_of access) (OfPointer ∷ []) (values_of_operands x) (storing x access at is))

  pub storing_address : (x : Instruction) (access : Access) → instruction_at (program_shape p) (activation_shape m.current) ≡ Some x
      → x.action ≡ Store access → IsOfKind (block_count m.mem) OfPointer (operand 1 (values_of_operands x))
  storing_address x access at is =
      second_of (block_count m.mem) (kind_of access) OfPointer [] (values_of_operands x) (storing x access at is)

  pub owning : AllByRecursion (λ k. k < block_count m.mem) m.current.owned.items
  owning =
      subst (λ (n : ℕ). AllByRecursion (λ k. k < n) m.current.owned.items) (sym counted)
      (turned_all (λ k. k < length ready.memory) m.current.owned.items
      (all_below (length ready.memory) (length ready.memory) (reverse m.current.owned.items) (owned_by (below m)) (omega arith) ready.owned.once))
