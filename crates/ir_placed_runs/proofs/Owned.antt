-- Each step keeps the blocks that activations own.
use Rattle.std.specs.Prelude.{◌≡◌, ◌≢◌, ◌≤◌, ◌<◌, ◌⊎◌, ⊤, ℕ, zero, suc, true, false, List, [], ◌∷◌, ◌++◌, length, map, Option, Some, None, slice_set, slice_index_or}
use Rattle.std.specs.List.{Contains}
use Rattle.std.proofs.Common.{arith, refl, ap, sym, subst, ◌∙◌, inl, inr, true≢false, length-set, get_or-set_same, get_or-set_other}
use Rattle.ir_model.specs.declared.Why.{Why}
use Rattle.ir_model.specs.declared.Access.{Access}
use Rattle.ir_model.specs.Values.{Pointer, Value, Integer, Address, Poison, Cell, MemoryBlock, Answer, Gives, Fails, no_block, live_block}
use Rattle.ir_model.specs.Memory.{block_at, made, ended, all_ended, access_fault, cells_of, overwritten, stored}
use Rattle.ir_model.specs.Operations.{compute, operand}
use Rattle.ir_model.specs.Programs.{Action, Compute, Alloca, Load, Store, Call, PutChar, GetChar, Jump, Branch, Switch, ReturnVoid, Return, Unreachable, Instruction, Program}
use Rattle.ir_model.specs.States.{Activation, State, StepResult, Continues, Ends, Undefined, value_of, instruction_at, begun}
use Rattle.ir_model.specs.Steps.{answered, loaded, written, stores, puts, gets, branches, branch_target, switch_target, finishes, returns, act, did, stepped, step}
use Rattle.ir_model.proofs.Stored.{common_stays}
use Rattle.ir_typed_runs.specs.Invariants.{IsInvariant}
use Rattle.ir_typed_runs.specs.TypedPrograms.{first_blocks}
use Rattle.ir_placed_runs.specs.OwnedBlocks.{owned_by, Descends, AreOwned, HasOwnBlocks}
use Rattle.ir_typed_runs.proofs.Cells.{made_count, stored_count}

-- members of a list with one more
contains_first : (x : ℕ) (xs : List ℕ) → Contains (x ∷ xs) x
contains_first x xs = (0, omega arith, refl)

contains_more : (x k : ℕ) (xs : List ℕ) → Contains xs k → Contains (x ∷ xs) k
contains_more x k xs is = (suc is.0, omega (arith, is.1), is.2)

contains_at : (x k i : ℕ) (xs : List ℕ) → i < length (x ∷ xs) → slice_index_or (x ∷ xs) i k ≡ k → (k ≡ x) ⊎ Contains xs k
contains_at x k zero xs lt is = inl (sym is)
contains_at x k (suc i) xs lt is = inr (i, omega arith, is)

contains_cases : (x k : ℕ) (xs : List ℕ) → Contains (x ∷ xs) k → (k ≡ x) ⊎ Contains xs k
contains_cases x k xs is = contains_at x k is.0 xs is.1 is.2

none_contained : (k : ℕ) → Contains [] k → ⊥
none_contained k is = omega (arith, is.1)

-- what descends from a bound is below it
descends_more : (bound more : ℕ) (ks : List ℕ) → bound ≤ more → Descends bound ks → Descends more ks
descends_more bound more [] le is = tt
descends_more bound more (k ∷ ks) le is = (omega (arith, is.0), is.1)

below_at : (bound k i : ℕ) (ks : List ℕ) → Descends bound ks → i < length ks → slice_index_or ks i k ≡ k → k < bound
below_at bound k i [] is lt at = absurd (omega arith)
below_at bound k zero (x ∷ xs) is lt at = omega (arith, is.0, at)
below_at bound k (suc i) (x ∷ xs) is lt at = below_at bound k i xs (descends_more x bound xs (omega (arith, is.0)) is.1) (omega arith) at

below : (bound k : ℕ) (ks : List ℕ) → Descends bound ks → Contains ks k → k < bound
below bound k ks is in' = below_at bound k in'.0 ks is in'.1 in'.2

-- blocks that are live in a memory, and after one more was made
made_live : (size k : ℕ) (memory : List MemoryBlock) → (block_at (made size memory) k).live ≡ true → (k ≡ length memory) ⊎ ((block_at memory k).live ≡ true)
made_live size zero [] is = inl refl
made_live size (suc k) [] is = absurd (true≢false (sym is))
made_live size zero (x ∷ xs) is = inr is
made_live size (suc k) (x ∷ xs) is = grow (made_live size k xs is)
  where
    grow : (k ≡ length xs) ⊎ ((block_at xs k).live ≡ true) → (suc k ≡ length (x ∷ xs)) ⊎ ((block_at xs k).live ≡ true)
    grow (inl e) = inl (omega arith)
    grow (inr e) = inr e

live_made : (size k : ℕ) (memory : List MemoryBlock) → (block_at memory k).live ≡ true → (block_at (made size memory) k).live ≡ true
live_made size k [] is = absurd (true≢false (sym is))
live_made size zero (x ∷ xs) is = is
live_made size (suc k) (x ∷ xs) is = live_made size k xs is

new_live : (size : ℕ) (memory : List MemoryBlock) → (block_at (made size memory) (length memory)).live ≡ true
new_live size [] = refl
new_live size (x ∷ xs) = new_live size xs

-- and after one ended
live_before : (x k : ℕ) (b : MemoryBlock) (memory : List MemoryBlock) → b.live ≡ false → (block_at (slice_set memory x b) k).live ≡ true
    → (block_at memory k).live ≡ true
live_before x k b [] dead is = is
live_before zero zero b (y ∷ ys) dead is = absurd (true≢false (sym is ∙ dead))
live_before zero (suc k) b (y ∷ ys) dead is = is
live_before (suc x) zero b (y ∷ ys) dead is = is
live_before (suc x) (suc k) b (y ∷ ys) dead is = live_before x k b ys dead is

module _ (first : ℕ) where
  -- memory in which the same blocks are live
  owned_same : (memory other : List MemoryBlock) (owned : List ℕ) → length other ≡ length memory
      → ((k : ℕ) → (block_at other k).live ≡ (block_at memory k).live) → AreOwned first memory owned → AreOwned first other owned
  owned_same memory other owned count same is = record {
    once = subst (λ (n : ℕ). Descends n owned) (sym count) is.once;
    later = is.later;
    live = λ k. ((λ l. (is.live k).0 (sym (same k) ∙ l)), (λ h. same k ∙ (is.live k).1 h));
  }

  owned_made : (size : ℕ) (memory : List MemoryBlock) (owned : List ℕ) → first ≤ length memory → AreOwned first memory owned
      → AreOwned first (made size memory) (length memory ∷ owned)
  owned_made size memory owned some is =
      let count : length (made size memory) ≡ suc (length memory) = made_count size memory in
      record {
        once = (omega arith, is.once);
        later = λ k in'. later k (contains_cases (length memory) k owned in');
        live = λ k. ((λ l. from k (made_live size k memory l)), (λ h. to k h));
      }
    where
      later : (k : ℕ) → (k ≡ length memory) ⊎ Contains owned k → first ≤ k
      later k (inl e) = omega arith
      later k (inr in') = is.later k in'

      more : (k : ℕ) → (k < first) ⊎ Contains owned k → (k < first) ⊎ Contains (length memory ∷ owned) k
      more k (inl lt) = inl lt
      more k (inr in') = inr (contains_more (length memory) k owned in')

      from : (k : ℕ) → (k ≡ length memory) ⊎ ((block_at memory k).live ≡ true) → (k < first) ⊎ Contains (length memory ∷ owned) k
      from k (inl e) = inr (subst (λ (n : ℕ). Contains (length memory ∷ owned) n) (sym e) (contains_first (length memory) owned))
      from k (inr l) = more k ((is.live k).0 l)

      old : (k : ℕ) → (k ≡ length memory) ⊎ Contains owned k → (block_at (made size memory) k).live ≡ true
      old k (inl e) = subst (λ (n : ℕ). (block_at (made size memory) n).live ≡ true) (sym e) (new_live size memory)
      old k (inr in') = live_made size k memory ((is.live k).1 (inr in'))

      to : (k : ℕ) → (k < first) ⊎ Contains (length memory ∷ owned) k → (block_at (made size memory) k).live ≡ true
      to k (inl lt) = live_made size k memory ((is.live k).1 (inl lt))
      to k (inr in') = old k (contains_cases (length memory) k owned in')

  owned_ended : (x : ℕ) (memory : List MemoryBlock) (owned : List ℕ) → AreOwned first memory (x ∷ owned) → AreOwned first (ended x memory) owned
  owned_ended x memory owned is = record {
    once = subst (λ (n : ℕ). Descends n owned) (sym count) (descends_more x (length memory) owned (omega (arith, is.once.0)) is.once.1);
    later = λ k in'. is.later k (contains_more x k owned in');
    live = λ k. ((λ l. from k l ((is.live k).0 (live_before x k b memory refl l))), (λ h. to k h));
  }
    where
      b : MemoryBlock
      b = record (block_at memory x) { live = false }

      count : length (ended x memory) ≡ length memory
      count = length-set memory x (record (block_at memory x) { live = false })

      dead : (block_at (ended x memory) x).live ≡ false
      dead = ap (λ (c : MemoryBlock). c.live) (get_or-set_same memory x (record (block_at memory x) { live = false }) no_block is.once.0)

      other : (k : ℕ) → k ≢ x → (block_at (ended x memory) k).live ≡ (block_at memory k).live
      other k ne = ap (λ (c : MemoryBlock). c.live) (get_or-set_other memory x k (record (block_at memory x) { live = false }) no_block ne)

      left : (k : ℕ) → (block_at (ended x memory) k).live ≡ true → (k ≡ x) ⊎ Contains owned k → (k < first) ⊎ Contains owned k
      left k l (inl e) = absurd (true≢false (sym (subst (λ (n : ℕ). (block_at (ended x memory) n).live ≡ true) e l) ∙ dead))
      left k l (inr in') = inr in'

      from : (k : ℕ) → (block_at (ended x memory) k).live ≡ true → (k < first) ⊎ Contains (x ∷ owned) k → (k < first) ⊎ Contains owned k
      from k l (inl lt) = inl lt
      from k l (inr in') = left k l (contains_cases x k owned in')

      to : (k : ℕ) → (k < first) ⊎ Contains owned k → (block_at (ended x memory) k).live ≡ true
      to k (inl lt) = other k (λ e. omega (arith, is.later x (contains_first x owned), e)) ∙ (is.live k).1 (inl lt)
      to k (inr in') =
          other k (λ e. omega (arith, below x k owned is.once.1 in', e)) ∙ (is.live k).1 (inr (contains_more x k owned in'))

  owned_all_ended : (xs owned : List ℕ) (memory : List MemoryBlock) → AreOwned first memory (xs ++ owned) → AreOwned first (all_ended xs memory) owned
  owned_all_ended [] owned memory is = is
  owned_all_ended (x ∷ xs) owned memory is = owned_all_ended xs owned (ended x memory) (owned_ended x memory (xs ++ owned) is)

-- the blocks of null and of the globals are live
start_live : (globals : List (List Cell)) (k : ℕ) → (block_at (map live_block globals) k).live ≡ true → k < length globals
start_live [] k is = absurd (true≢false (sym is))
start_live (x ∷ xs) zero is = omega arith
start_live (x ∷ xs) (suc k) is = omega (arith, start_live xs k is)

live_start : (globals : List (List Cell)) (k : ℕ) → k < length globals → (block_at (map live_block globals) k).live ≡ true
live_start [] k lt = absurd (omega arith)
live_start (x ∷ xs) zero lt = refl
live_start (x ∷ xs) (suc k) lt = live_start xs k (omega arith)

-- a live block is there
live_there : (memory : List MemoryBlock) (k : ℕ) → (block_at memory k).live ≡ true → k < length memory
live_there [] k live = absurd (true≢false (sym live))
live_there (x ∷ xs) zero live = omega arith
live_there (x ∷ xs) (suc k) live = omega (arith, live_there xs k live)

-- and so are those of the start
start_there : (n : ℕ) (memory : List MemoryBlock) (owned : List ℕ) → AreOwned (suc n) memory owned → suc n ≤ length memory
start_there n memory owned is = omega (arith, live_there memory n ((is.live n).1 (inl (omega arith))))

-- a store makes and ends no block
stored_live : (access : Access) (v : Value) (q : Pointer) (memory : List MemoryBlock) (k : ℕ)
    → (block_at (stored access v q memory) k).live ≡ (block_at memory k).live
stored_live access v q memory k =
    common_stays (λ (c : MemoryBlock). c.live) memory q.block k (overwritten q.offset (cells_of access v) (block_at memory q.block)) refl

-- a step that goes on leads to a state with blocks so owned
abbrev pub Owns : Program → StepResult → Type 0
Owns p (Continues t) = HasOwnBlocks p t
Owns p (Ends status) = ⊤
Owns p (Undefined cause) = ⊤

module _ (p : Program) (a : Activation) (rest : List Activation) (s : State) (is : HasOwnBlocks p (record s { stack = a ∷ rest })) where
  answered_owns : (answer : Answer) (result : Option ℕ) → Owns p (answered answer result a rest s)
  answered_owns (Gives v) result = is
  answered_owns (Fails cause) result = tt

  written_owns : (fault : Option Why) (access : Access) (v : Value) (q : Pointer) → Owns p (written fault (stored access v q s.memory) a rest s)
  written_owns (Some cause) access v q = tt
  written_owns None access v q =
      owned_same (first_blocks p) s.memory (stored access v q s.memory) (owned_by (a ∷ rest)) (stored_count access v q s.memory)
      (stored_live access v q s.memory) is

  stores_own : (access : Access) (v at : Value) → Owns p (stores access v at a rest s)
  stores_own access v (Integer w n) = tt
  stores_own access v (Address q) = written_owns (access_fault access q s.memory) access v q
  stores_own access v Poison = tt

  puts_own : (v : Value) (result : Option ℕ) → Owns p (puts v result a rest s)
  puts_own (Integer w n) result = is
  puts_own (Address q) result = tt
  puts_own Poison result = tt

  gets_own : (input : List ℕ) (result : Option ℕ) → Owns p (gets input result a rest s)
  gets_own [] result = is
  gets_own (c ∷ cs) result = is

  branches_own : (to : Option ℕ) → Owns p (branches p to a rest s)
  branches_own None = tt
  branches_own (Some to) = is

finishes_owns : (p : Program) (v : Value) → Owns p (finishes v)
finishes_owns p (Integer w n) = tt
finishes_owns p (Address q) = tt
finishes_owns p Poison = tt

returns_own : (p : Program) (v : Value) (a : Activation) (rest : List Activation) (s : State) → HasOwnBlocks p (record s { stack = a ∷ rest })
    → Owns p (returns p v a rest s)
returns_own p v a [] s is = finishes_owns p v
returns_own p v a (b ∷ rest) s is = owned_all_ended (first_blocks p) a.owned (owned_by (b ∷ rest)) s.memory is

act_owns : (p : Program) (x : Action) (result : Option ℕ) (vs : List Value) (a : Activation) (rest : List Activation) (s : State)
    → HasOwnBlocks p (record s { stack = a ∷ rest }) → Owns p (act p x result vs a rest s)
unfolding act
act_owns p (Compute operation) result vs a rest s is = answered_owns p a rest s is (compute operation s.memory vs) result
act_owns p (Alloca size) result vs a rest s is =
    owned_made (first_blocks p) size s.memory (owned_by (a ∷ rest)) (start_there (length p.globals) s.memory (owned_by (a ∷ rest)) is) is
act_owns p (Load access) result vs a rest s is = answered_owns p a rest s is (loaded access (operand 0 vs) s.memory) result
act_owns p (Store access) result vs a rest s is = stores_own p a rest s is access (operand 0 vs) (operand 1 vs)
act_owns p (Call f) result vs a rest s is = is
act_owns p PutChar result vs a rest s is = puts_own p a rest s is (operand 0 vs) result
act_owns p GetChar result vs a rest s is = gets_own p a rest s is s.input result
act_owns p (Jump to) result vs a rest s is = branches_own p a rest s is (Some to)
act_owns p (Branch met unmet) result vs a rest s is = branches_own p a rest s is (branch_target met unmet (operand 0 vs))
act_owns p (Switch otherwise cases) result vs a rest s is = branches_own p a rest s is (switch_target otherwise cases (operand 0 vs))
act_owns p ReturnVoid result vs a rest s is = returns_own p Poison a rest s is
act_owns p Return result vs a rest s is = returns_own p (operand 0 vs) a rest s is
act_owns p Unreachable result vs a rest s is = tt

did_owns : (p : Program) (x : Option Instruction) (a : Activation) (rest : List Activation) (s : State)
    → HasOwnBlocks p (record s { stack = a ∷ rest }) → Owns p (did p x a rest s)
did_owns p None a rest s is = tt
did_owns p (Some x) a rest s is = act_owns p x.action x.result (map (value_of a.values) x.operands) a rest s is

stepped_owns : (p : Program) (stack : List Activation) (s : State) → HasOwnBlocks p (record s { stack = stack }) → Owns p (stepped p stack s)
stepped_owns p [] s is = tt
stepped_owns p (a ∷ rest) s is = did_owns p (instruction_at p a) a rest s is

begins : (p : Program) (input : List ℕ) → HasOwnBlocks p (begun p input)
begins p input = record {
  once = tt;
  later = λ k in'. absurd (none_contained k in');
  live = λ k. (from k, to k);
}
  where
    from : (k : ℕ) → (block_at (begun p input).memory k).live ≡ true → (k < first_blocks p) ⊎ Contains [] k
    from zero l = inl (omega arith)
    from (suc k) l = inl (omega (arith, start_live p.globals k l))

    to : (k : ℕ) → (k < first_blocks p) ⊎ Contains [] k → (block_at (begun p input).memory k).live ≡ true
    to zero h = refl
    to (suc k) (inl lt) = live_start p.globals k (omega arith)
    to (suc k) (inr in') = absurd (none_contained (suc k) in')

pub owns_stays : (p : Program) → IsInvariant p (HasOwnBlocks p)
unfolding step
owns_stays p = record {
  begins = λ input bytes. begins p input;
  stays = λ s t is goes. subst (Owns p) goes (stepped_owns p s.stack s is);
}
