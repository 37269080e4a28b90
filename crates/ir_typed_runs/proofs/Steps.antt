-- Each step keeps states typed.
use Rattle.std.specs.Prelude.{◌≡◌, ◌≤◌, ◌<◌, ⊤, ℕ, suc, ◌-◌, ◌%◌, ◌^◌, ◌==◌, List, [], ◌∷◌, ◌++◌, length, map, replicate, take, Option, Some, None, slice_get}
use Rattle.std.specs.Option.{option_map, option_and_then}
use Rattle.std.specs.List.{AllByRecursion, AllZip}
use Rattle.std.proofs.Common.{arith, refl, ap, sym, subst}
use Rattle.std.proofs.Math.Nat.{mod-lt}
use Rattle.std.proofs.lemmas.List.{length-map}
use Rattle.ir_model.specs.declared.Why.{Why}
use Rattle.ir_model.specs.declared.Access.{Access}
use Rattle.ir_model.specs.Values.{Pointer, Value, Integer, Address, Poison, MemoryBlock, Answer, Gives, Fails, live_block}
use Rattle.ir_model.specs.Memory.{made, all_ended, access_fault, stored}
use Rattle.ir_model.specs.Operations.{compute, operand}
use Rattle.ir_model.specs.Programs.{Operand, Local, Fixed, Action, Compute, Alloca, Load, Store, Call, PutChar, GetChar, Jump, Branch, Switch, ReturnVoid, Return, Unreachable, Instruction, Input, Phi, Program, function_at, block_in, empty_block}
use Rattle.ir_model.specs.States.{Activation, State, StepResult, Continues, Ends, Undefined, value_of, instruction_at, after, entered, begun}
use Rattle.ir_model.specs.Steps.{answered, loaded, written, stores, puts, gets, input_from, taken, at_block, branches, branch_target, switch_target, finishes, awaited, returns, act, did, stepped, step}
use Rattle.ir_typed_runs.specs.Invariants.{AreBytes, IsInvariant}
use Rattle.ir_typed_runs.specs.Kinds.{Kind, OfWidth, OfPointer, IsOfKind, IsCell, kind_of, Answers}
use Rattle.ir_typed_runs.specs.TypedPrograms.{FunctionKinds, kinds_in, first_blocks, GivesKind, GivesReturned, IsOperand, Fits, IsTypedInstruction, IsTypedPhi, IsTypedBlock, IsTyped}
use Rattle.ir_typed_runs.specs.TypedStates.{HasTypedValues, AreTyped, HasTypedCells, IsTypedState, HasFittingOperands, HasFittingInputs}
use Rattle.ir_typed_runs.proofs.Lists.{if_holds, all_get, all_at, all_joined, all_weaker, all_mapped, zip_at, zip_set, zip_weaker, zip_entered}
use Rattle.ir_typed_runs.proofs.Computed.{first_kind, of_kinds, compute_kind}
use Rattle.ir_typed_runs.proofs.Cells.{kind_grows, cells_grow, memory_grows, loaded_kind, stored_cells, made_cells, ended_cells, made_count, stored_count, ended_count}

-- a step that goes on leads to a typed state
abbrev pub Stays : Program → List FunctionKinds → StepResult → Type 0
Stays p kinds (Continues t) = IsTypedState p kinds t
Stays p kinds (Ends status) = ⊤
Stays p kinds (Undefined cause) = ⊤

-- what a function returns is of the kind that it returns, if it returns something
abbrev pub IsReturned : ℕ → Option Kind → Value → Type 0
IsReturned blocks None v = ⊤
IsReturned blocks (Some kind) v = IsOfKind blocks kind v

module _ (p : Program) (kinds : List FunctionKinds) where
  stack_grows : (m n : ℕ) → m ≤ n → (stack : List Activation) → AreTyped p kinds m stack → AreTyped p kinds n stack
  stack_grows m n le [] all = tt
  stack_grows m n le (a ∷ rest) all =
      (zip_weaker (IsOfKind m) (IsOfKind n) (kind_grows m n le) (kinds_in kinds a.function).values a.values all.0, all.1, stack_grows m n le rest all.2)

  -- a typed state with other memory, in which no block is gone
  with_memory : (s : State) (memory : List MemoryBlock) → length s.memory ≤ length memory → AllByRecursion (HasTypedCells (length memory)) memory
      → IsTypedState p kinds s → IsTypedState p kinds (record s { memory = memory })
  with_memory s memory le cells is = record {
    stack = stack_grows (length s.memory) (length memory) le s.stack is.stack;
    memory = cells;
    first = omega (arith, is.first);
    input = is.input;
    out = is.out;
  }

  -- with an activation that has other values, or stands at another place
  with_top : (a : Activation) (block position : ℕ) (values : List Value) (owned : List ℕ) (rest : List Activation) (s : State)
      → AllZip (IsOfKind (length s.memory)) (kinds_in kinds a.function).values values → IsTypedState p kinds (record s { stack = a ∷ rest })
      → IsTypedState p kinds (record s { stack = record { function = a.function; block = block; position = position; values = values; owned = owned } ∷ rest })
  with_top a block position values owned rest s all is = record {
    stack = (all, is.stack.1, is.stack.2);
    memory = is.memory;
    first = is.first;
    input = is.input;
    out = is.out;
  }

  -- with an activation after an instruction that gave a value of its kind; what it owns doesn't matter
  gave_owning : (result : Option ℕ) (v : Value) (kind : Kind) (owned : List ℕ) (a : Activation) (rest : List Activation) (s : State)
      → GivesKind (kinds_in kinds a.function).values result kind → IsOfKind (length s.memory) kind v → IsTypedState p kinds (record s { stack = a ∷ rest })
      → IsTypedState p kinds (record s { stack = record (after result v a) { owned = owned } ∷ rest })
  gave_owning None v kind owned a rest s gives is t = with_top a a.block (suc a.position) a.values owned rest s t.stack.0 t
  gave_owning (Some id) v kind owned a rest s gives is t =
      with_top a a.block (suc a.position) (after (Some id) v a).values owned rest s
      (zip_set (IsOfKind (length s.memory)) (kinds_in kinds a.function).values a.values id kind v t.stack.0 gives is) t

  gave : (result : Option ℕ) (v : Value) (kind : Kind) (a : Activation) (rest : List Activation) (s : State)
      → GivesKind (kinds_in kinds a.function).values result kind → IsOfKind (length s.memory) kind v → IsTypedState p kinds (record s { stack = a ∷ rest })
      → IsTypedState p kinds (record s { stack = after result v a ∷ rest })
  gave result v kind a rest s gives is t = gave_owning result v kind a.owned a rest s gives is t

  gave_returned : (returned : Option Kind) (result : Option ℕ) (v : Value) (a : Activation) (rest : List Activation) (s : State)
      → GivesReturned (kinds_in kinds a.function).values result returned → IsReturned (length s.memory) returned v
      → IsTypedState p kinds (record s { stack = a ∷ rest }) → IsTypedState p kinds (record s { stack = after result v a ∷ rest })
  gave_returned None result v a rest s gives is t =
      subst (λ (o : Option ℕ). IsTypedState p kinds (record s { stack = after o v a ∷ rest })) (sym gives)
      (with_top a a.block (suc a.position) a.values a.owned rest s t.stack.0 t)
  gave_returned (Some kind) result v a rest s gives is t = gave result v kind a rest s gives is t

  answered_stays : (answer : Answer) (result : Option ℕ) (kind : Kind) (a : Activation) (rest : List Activation) (s : State)
      → GivesKind (kinds_in kinds a.function).values result kind → Answers (length s.memory) kind answer
      → IsTypedState p kinds (record s { stack = a ∷ rest }) → Stays p kinds (answered answer result a rest s)
  answered_stays (Gives v) result kind a rest s gives is t = gave result v kind a rest s gives is t
  answered_stays (Fails cause) result kind a rest s gives is t = tt

  roomed_stays : (size : ℕ) (result : Option ℕ) (a : Activation) (rest : List Activation) (s : State)
      → GivesKind (kinds_in kinds a.function).values result OfPointer → IsTypedState p kinds (record s { stack = a ∷ rest })
      → IsTypedState p kinds (record s {
        stack = record (after result (Address (record { block = length s.memory; offset = 0 })) a) { owned = length s.memory ∷ a.owned } ∷ rest;
        memory = made size s.memory;
      })
  roomed_stays size result a rest s gives t =
      let memory : List MemoryBlock = made size s.memory in
      let count : length memory ≡ suc (length s.memory) = made_count size s.memory in
      let cells = made_cells (length memory) size s.memory (memory_grows (length s.memory) (length memory) (omega arith) s.memory t.memory) in
      gave_owning result (Address (record { block = length s.memory; offset = 0 })) OfPointer (length s.memory ∷ a.owned) a rest
      (record s { memory = memory }) gives (record { exists = omega arith; distance = omega arith })
      (with_memory (record s { stack = a ∷ rest }) memory (omega arith) cells t)

  written_stays : (fault : Option Why) (access : Access) (v : Value) (q : Pointer) (a : Activation) (rest : List Activation) (s : State)
      → IsOfKind (length s.memory) (kind_of access) v → IsTypedState p kinds (record s { stack = a ∷ rest })
      → Stays p kinds (written fault (stored access v q s.memory) a rest s)
  written_stays (Some cause) access v q a rest s is t = tt
  written_stays None access v q a rest s is t =
      let memory : List MemoryBlock = stored access v q s.memory in
      let count : length memory ≡ length s.memory = stored_count access v q s.memory in
      let cells = memory_grows (length s.memory) (length memory) (omega arith) memory (stored_cells (length s.memory) access v q s.memory is t.memory) in
      let later = with_memory (record s { stack = a ∷ rest }) memory (omega arith) cells t in
      with_top a a.block (suc a.position) a.values a.owned rest (record s { memory = memory }) later.stack.0 later

  stores_stay : (access : Access) (v at : Value) (a : Activation) (rest : List Activation) (s : State)
      → IsOfKind (length s.memory) (kind_of access) v → IsTypedState p kinds (record s { stack = a ∷ rest }) → Stays p kinds (stores access v at a rest s)
  stores_stay access v (Integer w n) a rest s is t = tt
  stores_stay access v (Address q) a rest s is t = written_stays (access_fault access q s.memory) access v q a rest s is t
  stores_stay access v Poison a rest s is t = tt

  puts_stay : (v : Value) (result : Option ℕ) (a : Activation) (rest : List Activation) (s : State)
      → GivesKind (kinds_in kinds a.function).values result (OfWidth 32) → IsTypedState p kinds (record s { stack = a ∷ rest })
      → Stays p kinds (puts v result a rest s)
  puts_stay (Integer w n) result a rest s gives t =
      let low : n % 256 < 256 = mod-lt n (omega arith) in
      gave result (Integer 32 (n % 256)) (OfWidth 32) a rest (record s { out = s.out ++ n % 256 ∷ [] }) gives (refl, omega arith)
      (record {
        stack = t.stack;
        memory = t.memory;
        first = t.first;
        input = t.input;
        out = all_joined (λ (c : ℕ). c < 256) s.out (n % 256 ∷ []) t.out (low, tt);
      })
  puts_stay (Address q) result a rest s gives t = tt
  puts_stay Poison result a rest s gives t = tt

  gets_stay : (input : List ℕ) (result : Option ℕ) (a : Activation) (rest : List Activation) (s : State)
      → AreBytes input → GivesKind (kinds_in kinds a.function).values result (OfWidth 32) → IsTypedState p kinds (record s { stack = a ∷ rest })
      → Stays p kinds (gets input result a rest s)
  gets_stay [] result a rest s bytes gives t = gave result (Integer 32 (2 ^ 32 - 1)) (OfWidth 32) a rest s gives (refl, omega arith) t
  gets_stay (c ∷ cs) result a rest s bytes gives t =
      let low : c < 256 = bytes.0 in
      gave result (Integer 32 c) (OfWidth 32) a rest (record s { input = cs }) gives (refl, omega arith)
      (record { stack = t.stack; memory = t.memory; first = t.first; input = bytes.1; out = t.out })

  -- operands are of their kinds
  module _ (blocks : ℕ) (first : first_blocks p ≤ blocks) (values : List Value) (ks : List Kind) (all : AllZip (IsOfKind blocks) ks values) where
    local_kind : (ks : List Kind) (values : List Value) (id : ℕ) (kind : Kind) → slice_get ks id ≡ Some kind → AllZip (IsOfKind blocks) ks values
        → IsOfKind blocks kind (value_of values (Local id))
    local_kind ks values id kind has each = zip_at (IsOfKind blocks) ks values id kind Poison each has

    value_kind : (kind : Kind) (o : Operand) → IsOperand p ks kind o → IsOfKind blocks kind (value_of values o)
    value_kind kind (Local id) is = local_kind ks values id kind is all
    value_kind kind (Fixed v) is = kind_grows (first_blocks p) blocks first kind v is

    pub operands_kinds : (js : List Kind) (os : List Operand) → AllZip (IsOperand p ks) js os → AllZip (IsOfKind blocks) js (map (value_of values) os)
    operands_kinds [] [] each = tt
    operands_kinds [] (o ∷ os) each = absurd each
    operands_kinds (j ∷ js) [] each = absurd each
    operands_kinds (j ∷ js) (o ∷ os) each = (value_kind j o each.0, operands_kinds js os each.1)

    pub input_kind : (from : ℕ) (kind : Kind) (xs : List Input) → AllByRecursion (λ (x : Input). IsOperand p ks kind x.operand) xs
        → IsOfKind blocks kind (value_of values (input_from from xs))
    input_kind from kind [] each = tt
    input_kind from kind (x ∷ xs) each =
        if_holds (λ (o : Operand). IsOfKind blocks kind (value_of values o)) (x.from == from) x.operand (input_from from xs) (value_kind kind x.operand each.0)
        (input_kind from kind xs each.1)

    pub taken_kinds : (from : ℕ) (phis : List Phi) → AllByRecursion (IsTypedPhi p ks) phis → AllZip (IsOfKind blocks) ks (taken from values phis)
    taken_kinds from [] each = all
    taken_kinds from (x ∷ xs) each =
        zip_set (IsOfKind blocks) ks (taken from values xs) x.result each.0.kind (value_of values (input_from from x.inputs)) (taken_kinds from xs each.1)
        each.0.result (input_kind from each.0.kind x.inputs each.0.inputs)

  module _ (typed : IsTyped p kinds) where
    -- blocks and instructions are typed
    block_typed : (f b : ℕ) → IsTypedBlock p kinds f (block_in p f b)
    block_typed f b = all_at (IsTypedBlock p kinds f) (function_at p f).blocks b empty_block (record { phis = tt; body = tt }) (typed.blocks f)

    instruction_typed : (a : Activation) (x : Instruction) → instruction_at p a ≡ Some x → IsTypedInstruction p kinds a.function x
    instruction_typed a x is =
        all_get (IsTypedInstruction p kinds a.function) (block_in p a.function a.block).body a.position x (block_typed a.function a.block).body is

    -- a function's values as it is entered
    entered_values : (f : ℕ) (n blocks : ℕ) (vs : List Value) → AllZip (IsOfKind blocks) (take n (kinds_in kinds f).values) vs
        → HasTypedValues kinds blocks (entered p f vs)
    entered_values f n blocks vs all =
        subst (λ (count : ℕ). AllZip (IsOfKind blocks) (kinds_in kinds f).values (vs ++ replicate (count - length vs) Poison)) (typed.values f)
        (zip_entered (IsOfKind blocks) Poison (λ k. tt) n (kinds_in kinds f).values vs all)

    branches_stay : (to : Option ℕ) (a : Activation) (rest : List Activation) (s : State) → IsTypedState p kinds (record s { stack = a ∷ rest })
        → Stays p kinds (branches p to a rest s)
    branches_stay None a rest s t = tt
    branches_stay (Some to) a rest s t =
        with_top a to 0 (at_block p to a).values a.owned rest s
        (taken_kinds (length s.memory) t.first a.values (kinds_in kinds a.function).values t.stack.0 a.block (block_in p a.function to).phis
        (block_typed a.function to).phis) t

    finishes_stays : (v : Value) → Stays p kinds (finishes v)
    finishes_stays (Integer w n) = tt
    finishes_stays (Address q) = tt
    finishes_stays Poison = tt

    -- what a call gives is what its function returns
    awaited_gives : (o : Option Instruction) (f g : ℕ) → ((x : Instruction) → o ≡ Some x → IsTypedInstruction p kinds f x)
        → option_map (λ (x : Instruction). x.action) o ≡ Some (Call g)
        → GivesReturned (kinds_in kinds f).values (option_and_then (λ (x : Instruction). x.result) o) (kinds_in kinds g).result
    awaited_gives None f g all is = absurd (subst (λ (o : Option Action). elim o as (λ _. Type 0) [ None ↦ ⊤ | Some y ↦ ⊥ ]) is tt)
    awaited_gives (Some x) f g all is =
        let x_typed : IsTypedInstruction p kinds f x = all x refl in
        let P : Option Action → Type 0 = λ o. elim o as (λ _. Type 0) [ None ↦ ⊤ | Some action ↦ Fits p kinds f action x_typed.taken x.result ] in
        (subst P is x_typed.fits).1

    returns_stay : (v : Value) (a : Activation) (rest : List Activation) (s : State)
        → IsReturned (length s.memory) (kinds_in kinds a.function).result v → IsTypedState p kinds (record s { stack = a ∷ rest })
        → Stays p kinds (returns p v a rest s)
    returns_stay v a [] s is t = finishes_stays v
    returns_stay v a (b ∷ rest) s is t =
        let memory : List MemoryBlock = all_ended a.owned s.memory in
        let count : length memory ≡ length s.memory = ended_count a.owned s.memory in
        let cells = memory_grows (length s.memory) (length memory) (omega arith) memory (ended_cells (length s.memory) a.owned s.memory t.memory) in
        let left : IsTypedState p kinds (record s { stack = b ∷ rest }) =
        record { stack = t.stack.2; memory = t.memory; first = t.first; input = t.input; out = t.out } in
        gave_returned (kinds_in kinds a.function).result (awaited p b) v b rest (record s { memory = memory })
        (awaited_gives (instruction_at p b) b.function a.function (instruction_typed b) t.stack.1)
        (subst (λ (n : ℕ). IsReturned n (kinds_in kinds a.function).result v) (sym count) is)
        (with_memory (record s { stack = b ∷ rest }) memory (omega arith) cells left)

    act_stays : (action : Action) (result : Option ℕ) (ks : List Kind) (vs : List Value) (a : Activation) (rest : List Activation) (s : State)
        → option_map (λ (x : Instruction). x.action) (instruction_at p a) ≡ Some action → Fits p kinds a.function action ks result
        → AllZip (IsOfKind (length s.memory)) ks vs → IsTypedState p kinds (record s { stack = a ∷ rest }) → Stays p kinds (act p action result vs a rest s)
    unfolding act
    act_stays (Compute operation) result ks vs a rest s at fits all t =
        answered_stays (compute operation s.memory vs) result fits.0 a rest s fits.2
        (compute_kind (length s.memory) operation ks fits.0 s.memory vs fits.1 all) t
    act_stays (Alloca size) result ks vs a rest s at fits all t = roomed_stays size result a rest s fits.1 t
    act_stays (Load access) result ks vs a rest s at fits all t =
        let some : 0 < length s.memory = omega (arith, t.first) in
        answered_stays (loaded access (operand 0 vs) s.memory) result (kind_of access) a rest s fits.1
        (loaded_kind (length s.memory) access (operand 0 vs) s.memory some t.memory) t
    act_stays (Store access) result ks vs a rest s at fits all t =
        stores_stay access (operand 0 vs) (operand 1 vs) a rest s
        (first_kind (length s.memory) (kind_of access) (OfPointer ∷ []) vs
        (of_kinds (length s.memory) ks (kind_of access ∷ OfPointer ∷ []) vs fits.0 all)) t
    act_stays (Call f) result ks vs a rest s at fits all t = record {
      stack = (
        entered_values f (function_at p f).params (length s.memory) vs
            (of_kinds (length s.memory) ks (take (function_at p f).params (kinds_in kinds f).values) vs fits.0 all),
        at,
        t.stack,
      );
      memory = t.memory;
      first = t.first;
      input = t.input;
      out = t.out;
    }
    act_stays PutChar result ks vs a rest s at fits all t = puts_stay (operand 0 vs) result a rest s fits.1 t
    act_stays GetChar result ks vs a rest s at fits all t = gets_stay s.input result a rest s t.input fits.1 t
    act_stays (Jump to) result ks vs a rest s at fits all t = branches_stay (Some to) a rest s t
    act_stays (Branch met unmet) result ks vs a rest s at fits all t = branches_stay (branch_target met unmet (operand 0 vs)) a rest s t
    act_stays (Switch otherwise cases) result ks vs a rest s at fits all t = branches_stay (switch_target otherwise cases (operand 0 vs)) a rest s t
    act_stays ReturnVoid result ks vs a rest s at fits all t =
        returns_stay Poison a rest s (subst (λ (r : Option Kind). IsReturned (length s.memory) r Poison) (sym fits.1) tt) t
    act_stays Return result ks vs a rest s at fits all t =
        returns_stay (operand 0 vs) a rest s
        (subst (λ (r : Option Kind). IsReturned (length s.memory) r (operand 0 vs)) (sym fits.2)
        (first_kind (length s.memory) fits.0 [] vs (of_kinds (length s.memory) ks (fits.0 ∷ []) vs fits.1 all))) t
    act_stays Unreachable result ks vs a rest s at fits all t = tt

    did_stays : (o : Option Instruction) (a : Activation) (rest : List Activation) (s : State) → instruction_at p a ≡ o
        → IsTypedState p kinds (record s { stack = a ∷ rest }) → Stays p kinds (did p o a rest s)
    did_stays None a rest s is t = tt
    did_stays (Some x) a rest s is t =
        let x_typed : IsTypedInstruction p kinds a.function x = instruction_typed a x is in
        act_stays x.action x.result x_typed.taken (map (value_of a.values) x.operands) a rest s
        (ap (λ (o : Option Instruction). option_map (λ (y : Instruction). y.action) o) is) x_typed.fits
        (operands_kinds (length s.memory) t.first a.values (kinds_in kinds a.function).values t.stack.0 x_typed.taken x.operands x_typed.operands) t

    stepped_stays : (stack : List Activation) (s : State) → IsTypedState p kinds (record s { stack = stack }) → Stays p kinds (stepped p stack s)
    stepped_stays [] s t = tt
    stepped_stays (a ∷ rest) s t = did_stays (instruction_at p a) a rest s refl t

    begins : (input : List ℕ) → AreBytes input → IsTypedState p kinds (begun p input)
    begins input bytes =
        let count : length (begun p input).memory ≡ first_blocks p = ap suc (length-map p.globals live_block) in
        let n : ℕ = length (begun p input).memory in
        let le : first_blocks p ≤ n = omega (arith, count) in
        record {
          stack = (entered_values p.main 0 n [] tt, refl, tt);
          memory = (
            tt,
            all_mapped (HasTypedCells n) live_block p.globals
                (all_weaker (AllByRecursion (IsCell (first_blocks p))) (AllByRecursion (IsCell n)) (cells_grow (first_blocks p) n le) p.globals typed.globals),
          );
          first = le;
          input = bytes;
          out = tt;
        }

    pub typed_stays : IsInvariant p (IsTypedState p kinds)
    unfolding step
    typed_stays = record {
      begins = begins;
      stays = λ s t is goes. subst (Stays p kinds) goes (stepped_stays s.stack s is);
    }

    -- what an instruction and a phi meet
    pub operands_fit : (s : State) (a : Activation) (rest : List Activation) (x : Instruction) → IsTypedState p kinds s → s.stack ≡ a ∷ rest
        → instruction_at p a ≡ Some x → HasFittingOperands p kinds (length s.memory) a x
    operands_fit s a rest x t is at =
        let x_typed : IsTypedInstruction p kinds a.function x = instruction_typed a x at in
        let stack : AreTyped p kinds (length s.memory) (a ∷ rest) = subst (AreTyped p kinds (length s.memory)) is t.stack in
        record {
          taken = x_typed.taken;
          widths = x_typed.widths;
          fits = x_typed.fits;
          operands = operands_kinds (length s.memory) t.first a.values (kinds_in kinds a.function).values stack.0 x_typed.taken x.operands x_typed.operands;
        }

    inputs_of : (s : State) (a : Activation) (xs : List Phi) → IsTypedState p kinds s → HasTypedValues kinds (length s.memory) a
        → AllByRecursion (IsTypedPhi p (kinds_in kinds a.function).values) xs → AllByRecursion (HasFittingInputs kinds (length s.memory) a) xs
    inputs_of s a [] t own all = tt
    inputs_of s a (x ∷ xs) t own all = (
      record {
        kind = all.0.kind;
        result = all.0.result;
        input = input_kind (length s.memory) t.first a.values (kinds_in kinds a.function).values own a.block all.0.kind x.inputs all.0.inputs;
      },
      inputs_of s a xs t own all.1,
    )

    pub inputs_fit : (s : State) (a : Activation) (rest : List Activation) (to : ℕ) → IsTypedState p kinds s → s.stack ≡ a ∷ rest
        → AllByRecursion (HasFittingInputs kinds (length s.memory) a) (block_in p a.function to).phis
    inputs_fit s a rest to t is =
        let stack : AreTyped p kinds (length s.memory) (a ∷ rest) = subst (AreTyped p kinds (length s.memory)) is t.stack in
        inputs_of s a (block_in p a.function to).phis t stack.0 (block_typed a.function to).phis
