-- Each step of a whole program leads to a place that is there.
use Rattle.std.specs.Prelude.{◌≡◌, ◌<◌, ⊤, ℕ, zero, suc, ◌==◌, false, List, [], ◌∷◌, length, map, Option, Some, None, slice_get, slice_index_or}
use Rattle.std.specs.List.{AllByRecursion}
use Rattle.std.proofs.Common.{arith, refl, sym, subst, ◌∙◌, true≢false}
use Rattle.std.proofs.lemmas.Option.{slice_get_within}
use Rattle.ir_model.specs.declared.Why.{Why}
use Rattle.ir_model.specs.declared.Access.{Access}
use Rattle.ir_model.specs.Values.{Value, Integer, Address, Poison, MemoryBlock, Answer, Gives, Fails}
use Rattle.ir_model.specs.Memory.{access_fault, stored}
use Rattle.ir_model.specs.Operations.{compute, operand}
use Rattle.ir_model.specs.Programs.{Case, Action, Compute, Alloca, Load, Store, Call, PutChar, GetChar, Jump, Branch, Switch, ReturnVoid, Return, Unreachable, Instruction, Block, Program, function_at, block_in, empty_block}
use Rattle.ir_model.specs.States.{Activation, State, StepResult, Continues, Ends, Undefined, value_of, instruction_at}
use Rattle.ir_model.specs.Steps.{answered, loaded, written, stores, puts, gets, branches, branch_target, case_of, switch_target, finishes, returns, act, did, stepped, step}
use Rattle.ir_typed_runs.specs.Invariants.{IsInvariant}
use Rattle.ir_placed_runs.specs.Places.{is_terminator, IsBody, Names, IsWholeBlock, IsWhole, body_around, Waits, ArePlaced, HasPlaces, HasNext}
use Rattle.ir_typed_runs.proofs.Lists.{if_holds, all_get, all_at, all_weaker}

-- a body has an instruction
body_some : (xs : List Instruction) → IsBody xs → 0 < length xs
body_some [] is = absurd is
body_some (x ∷ xs) is = omega arith

-- after one that is no terminator there is another one
body_next : (xs : List Instruction) (i : ℕ) (x : Instruction) → IsBody xs → slice_get xs i ≡ Some x → is_terminator x.action ≡ false → suc i < length xs
body_next [] i x is at on = absurd is
body_next (y ∷ []) zero x is at on =
    let same : is_terminator y.action ≡ is_terminator x.action = subst (λ (o : Option Instruction). elim o as (λ _. Type 0)
    [ None ↦ ⊤ | Some z ↦ is_terminator y.action ≡ is_terminator z.action ]) at refl in
    absurd (true≢false (sym is ∙ same ∙ on))
body_next (y ∷ []) (suc i) x is at on = absurd (omega (arith, slice_get_within {A = Instruction} [] i x at))
body_next (y ∷ z ∷ zs) zero x is at on = omega arith
body_next (y ∷ z ∷ zs) (suc i) x is at on = omega (arith, body_next (z ∷ zs) i x is.1 at on)

-- an element that is there
all_within : {X : Type 0} (P : X → Type 0) (xs : List X) (i : ℕ) (d : X) → i < length xs → AllByRecursion P xs → P (slice_index_or xs i d)
all_within P [] i d lt all = absurd (omega arith)
all_within P (x ∷ xs) zero d lt all = all.0
all_within P (x ∷ xs) (suc i) d lt all = all_within P xs i d (omega arith) all.1

-- an instruction that is there
got : {X : Type 0} (xs : List X) (i : ℕ) → i < length xs → (x : X) × (slice_get xs i ≡ Some x)
got [] i lt = absurd (omega arith)
got (x ∷ xs) zero lt = (x, refl)
got (x ∷ xs) (suc i) lt = got xs i (omega arith)

-- where branches lead, if they lead somewhere, is there
abbrev pub Inside : ℕ → Option ℕ → Type 0
Inside blocks None = ⊤
Inside blocks (Some to) = to < blocks

branch_inside : (blocks met unmet : ℕ) (v : Value) → met < blocks → unmet < blocks → Inside blocks (branch_target met unmet v)
branch_inside blocks met unmet (Integer w n) lm lu = if_holds (λ (to : ℕ). to < blocks) (n == 0) unmet met lu lm
branch_inside blocks met unmet (Address q) lm lu = tt
branch_inside blocks met unmet Poison lm lu = tt

case_inside : (blocks n otherwise : ℕ) (cases : List Case) → otherwise < blocks → AllByRecursion (λ (x : Case). x.to < blocks) cases
    → case_of n otherwise cases < blocks
case_inside blocks n otherwise [] lo all = lo
case_inside blocks n otherwise (x ∷ xs) lo all =
    if_holds (λ (to : ℕ). to < blocks) (x.number == n) x.to (case_of n otherwise xs) all.0 (case_inside blocks n otherwise xs lo all.1)

switch_inside : (blocks otherwise : ℕ) (cases : List Case) (v : Value) → otherwise < blocks → AllByRecursion (λ (x : Case). x.to < blocks) cases
    → Inside blocks (switch_target otherwise cases v)
switch_inside blocks otherwise cases (Integer w n) lo all = case_inside blocks n otherwise cases lo all
switch_inside blocks otherwise cases (Address q) lo all = tt
switch_inside blocks otherwise cases Poison lo all = tt

-- a step that goes on leads to a state whose activations stand at places
abbrev pub Places : Program → StepResult → Type 0
Places p (Continues t) = HasPlaces p t
Places p (Ends status) = ⊤
Places p (Undefined cause) = ⊤

module _ (p : Program) (a : Activation) (rest : List Activation) (s : State) (wait : AllByRecursion (Waits p) rest) (next : Waits p a) where
  answered_placed : (answer : Answer) (result : Option ℕ) → Places p (answered answer result a rest s)
  answered_placed (Gives v) result = (next, wait)
  answered_placed (Fails cause) result = tt

  written_placed : (fault : Option Why) (memory : List MemoryBlock) → Places p (written fault memory a rest s)
  written_placed (Some cause) memory = tt
  written_placed None memory = (next, wait)

  stores_placed : (access : Access) (v at : Value) → Places p (stores access v at a rest s)
  stores_placed access v (Integer w n) = tt
  stores_placed access v (Address q) = written_placed (access_fault access q s.memory) (stored access v q s.memory)
  stores_placed access v Poison = tt

  puts_placed : (v : Value) (result : Option ℕ) → Places p (puts v result a rest s)
  puts_placed (Integer w n) result = (next, wait)
  puts_placed (Address q) result = tt
  puts_placed Poison result = tt

  gets_placed : (input : List ℕ) (result : Option ℕ) → Places p (gets input result a rest s)
  gets_placed [] result = (next, wait)
  gets_placed (c ∷ cs) result = (next, wait)

finishes_placed : (p : Program) (v : Value) → Places p (finishes v)
finishes_placed p (Integer w n) = tt
finishes_placed p (Address q) = tt
finishes_placed p Poison = tt

returns_placed : (p : Program) (v : Value) (a : Activation) (rest : List Activation) (s : State) → AllByRecursion (Waits p) rest
    → Places p (returns p v a rest s)
returns_placed p v a [] s wait = finishes_placed p v
returns_placed p v a (b ∷ rest) s wait = wait

module _ (p : Program) (whole : IsWhole p) where
  -- a block that is there is whole, and so is one that has an instruction
  block_whole : (f b : ℕ) → b < length (function_at p f).blocks → IsWholeBlock p f (block_in p f b)
  block_whole f b lt = all_within (IsWholeBlock p f) (function_at p f).blocks b empty_block lt (whole.blocks f)

  filled_whole : (f b : ℕ) → 0 < length (block_in p f b).body → IsWholeBlock p f (block_in p f b)
  filled_whole f b some =
      all_at (λ (c : Block). 0 < length c.body → IsWholeBlock p f c) (function_at p f).blocks b empty_block (λ none. absurd (omega (arith, none)))
      (all_weaker (IsWholeBlock p f) (λ (c : Block). 0 < length c.body → IsWholeBlock p f c) (λ c is filled. is) (function_at p f).blocks (whole.blocks f)) some

  -- the first instruction of a block
  starts : (f b : ℕ) → b < length (function_at p f).blocks → 0 < length (block_in p f b).body
  starts f b lt = body_some (block_in p f b).body (block_whole f b lt).body

  enters : (f : ℕ) → f < length p.functions → 0 < length (block_in p f 0).body
  enters f lt = starts f 0 (whole.entries f lt)

  branches_placed : (to : Option ℕ) (a : Activation) (rest : List Activation) (s : State) → AllByRecursion (Waits p) rest
      → Inside (length (function_at p a.function).blocks) to → Places p (branches p to a rest s)
  branches_placed None a rest s wait inside = tt
  branches_placed (Some to) a rest s wait inside = (starts a.function to inside, wait)

  act_placed : (x : Action) (result : Option ℕ) (vs : List Value) (a : Activation) (rest : List Activation) (s : State) → AllByRecursion (Waits p) rest
      → (is_terminator x ≡ false → Waits p a) → Names (length p.functions) (length (function_at p a.function).blocks) x
      → Places p (act p x result vs a rest s)
  unfolding act
  act_placed (Compute operation) result vs a rest s wait next named = answered_placed p a rest s wait (next refl) (compute operation s.memory vs) result
  act_placed (Alloca size) result vs a rest s wait next named = (next refl, wait)
  act_placed (Load access) result vs a rest s wait next named = answered_placed p a rest s wait (next refl) (loaded access (operand 0 vs) s.memory) result
  act_placed (Store access) result vs a rest s wait next named = stores_placed p a rest s wait (next refl) access (operand 0 vs) (operand 1 vs)
  act_placed (Call f) result vs a rest s wait next named = (enters f named, (next refl, wait))
  act_placed PutChar result vs a rest s wait next named = puts_placed p a rest s wait (next refl) (operand 0 vs) result
  act_placed GetChar result vs a rest s wait next named = gets_placed p a rest s wait (next refl) s.input result
  act_placed (Jump to) result vs a rest s wait next named = branches_placed (Some to) a rest s wait named
  act_placed (Branch met unmet) result vs a rest s wait next named =
      branches_placed (branch_target met unmet (operand 0 vs)) a rest s wait
      (branch_inside (length (function_at p a.function).blocks) met unmet (operand 0 vs) named.0 named.1)
  act_placed (Switch otherwise cases) result vs a rest s wait next named =
      branches_placed (switch_target otherwise cases (operand 0 vs)) a rest s wait
      (switch_inside (length (function_at p a.function).blocks) otherwise cases (operand 0 vs) named.0 named.1)
  act_placed ReturnVoid result vs a rest s wait next named = returns_placed p Poison a rest s wait
  act_placed Return result vs a rest s wait next named = returns_placed p (operand 0 vs) a rest s wait
  act_placed Unreachable result vs a rest s wait next named = tt

  did_placed : (o : Option Instruction) (a : Activation) (rest : List Activation) (s : State) → AllByRecursion (Waits p) rest → instruction_at p a ≡ o
      → Places p (did p o a rest s)
  did_placed None a rest s wait at = tt
  did_placed (Some x) a rest s wait at =
      let here : a.position < length (body_around p a) = slice_get_within (body_around p a) a.position x at in
      let is : IsWholeBlock p a.function (block_in p a.function a.block) = filled_whole a.function a.block (omega arith) in
      act_placed x.action x.result (map (value_of a.values) x.operands) a rest s wait (body_next (body_around p a) a.position x is.body at)
      (all_get (λ (y : Instruction). Names (length p.functions) (length (function_at p a.function).blocks) y.action) (body_around p a) a.position x is.named at)

  stepped_placed : (stack : List Activation) (s : State) → ArePlaced p stack → Places p (stepped p stack s)
  stepped_placed [] s placed = tt
  stepped_placed (a ∷ rest) s placed = did_placed (instruction_at p a) a rest s placed.1 refl

  pub places_stay : IsInvariant p (HasPlaces p)
  unfolding step
  places_stay = record {
    begins = λ input bytes. (enters p.main whole.main, tt);
    stays = λ s t placed goes. subst (Places p) goes (stepped_placed s.stack s placed);
  }

next_of : (p : Program) (stack : List Activation) (s : State) → s.stack ≡ stack → ArePlaced p stack → HasNext p s
next_of p [] s is placed = absurd placed
next_of p (a ∷ rest) s is placed =
    let there = got (body_around p a) a.position placed.0 in
    record { innermost = a; below = rest; stack = is; instruction = there.0; is_next = there.1 }

pub placed_next : (p : Program) (s : State) → HasPlaces p s → HasNext p s
placed_next p s placed = next_of p s.stack s refl placed
