-- Each step keeps the blocks of memory.
use Rattle.std.specs.Prelude.{◌≡◌, ℕ, zero, suc, false, List, [], ◌∷◌, map, length, replicate, Option, Some, None, ⊤, slice_set}
use Rattle.std.proofs.Common.{arith, refl, subst, ap, ◌∙◌, length-append, length-set}
use Rattle.std.proofs.lemmas.List.{get_or_append_left}
use Rattle.std.proofs.lemmas.Simd.{length-put_chunk}
use Rattle.ir_model.specs.declared.Why.{Why}
use Rattle.ir_model.specs.declared.Access.{Access}
use Rattle.ir_model.specs.Values.{Pointer, Value, Integer, Address, Poison, Unknown, MemoryBlock, Answer, Gives, Fails, no_block, live_block}
use Rattle.ir_model.specs.Memory.{block_at, made, ended, all_ended, access_fault, cells_of, overwritten, stored}
use Rattle.ir_model.specs.MemoryFacts.{KeepsBlocks}
use Rattle.ir_model.specs.Operations.{compute, operand}
use Rattle.ir_model.specs.Programs.{Action, Compute, Alloca, Load, Store, Call, PutChar, GetChar, Jump, Branch, Switch, ReturnVoid, Return, Unreachable, Instruction, Program}
use Rattle.ir_model.specs.States.{Activation, State, StepResult, Continues, Ends, Undefined, value_of, instruction_at}
use Rattle.ir_model.specs.Steps.{answered, loaded, written, stores, puts, gets, branches, branch_target, switch_target, finishes, returns, act, did, stepped, step}
use Rattle.ir_model.proofs.Stored.{common_stays}

keeps_same : (m : List MemoryBlock) → KeepsBlocks m m
keeps_same m = record { count = omega arith; sizes = λ k lt. refl; dead = λ k lt is. is }

keeps_both : (a b c : List MemoryBlock) → KeepsBlocks a b → KeepsBlocks b c → KeepsBlocks a c
keeps_both a b c first second = record {
  count = omega (arith, first.count, second.count);
  sizes = λ k lt. second.sizes k (omega (arith, first.count)) ∙ first.sizes k lt;
  dead = λ k lt is. second.dead k (omega (arith, first.count)) (first.dead k lt is);
}

keeps_made : (size : ℕ) (m : List MemoryBlock) → KeepsBlocks m (made size m)
keeps_made size m = record {
  count = omega (arith, length-append m (live_block (replicate size Unknown) ∷ []));
  sizes = λ k lt. ap (λ (b : MemoryBlock). length b.cells) (get_or_append_left m (live_block (replicate size Unknown) ∷ []) no_block k lt);
  dead = λ k lt is. ap (λ (b : MemoryBlock). b.live) (get_or_append_left m (live_block (replicate size Unknown) ∷ []) no_block k lt) ∙ is;
}

-- a block in the place of which one is set that isn't live is dead, and the others are as they were
dead_stays : (m : List MemoryBlock) (k j : ℕ) (b : MemoryBlock) → b.live ≡ false → (block_at m j).live ≡ false → (block_at (slice_set m k b) j).live ≡ false
dead_stays [] k j b is was = was
dead_stays (x ∷ xs) zero zero b is was = is
dead_stays (x ∷ xs) zero (suc j) b is was = was
dead_stays (x ∷ xs) (suc k) zero b is was = was
dead_stays (x ∷ xs) (suc k) (suc j) b is was = dead_stays xs k j b is was

keeps_ended : (k : ℕ) (m : List MemoryBlock) → KeepsBlocks m (ended k m)
keeps_ended k m =
    let b : MemoryBlock = record (block_at m k) { live = false } in
    record {
      count = omega (arith, length-set m k b);
      sizes = λ j lt. common_stays (λ (c : MemoryBlock). length c.cells) m k j b refl;
      dead = λ j lt is. dead_stays m k j b refl is;
    }

keeps_all_ended : (ks : List ℕ) (m : List MemoryBlock) → KeepsBlocks m (all_ended ks m)
keeps_all_ended [] m = keeps_same m
keeps_all_ended (k ∷ ks) m = keeps_both m (ended k m) (all_ended ks (ended k m)) (keeps_ended k m) (keeps_all_ended ks (ended k m))

keeps_stored : (access : Access) (v : Value) (q : Pointer) (m : List MemoryBlock) → KeepsBlocks m (stored access v q m)
keeps_stored access v q m =
    let b : MemoryBlock = overwritten q.offset (cells_of access v) (block_at m q.block) in
    record {
      count = omega (arith, length-set m q.block b);
      sizes = λ j lt. common_stays (λ (c : MemoryBlock). length c.cells) m q.block j b
          (length-put_chunk q.offset (block_at m q.block).cells (cells_of access v));
      dead = λ j lt is. common_stays (λ (c : MemoryBlock). c.live) m q.block j b refl ∙ is;
    }

-- a step that goes on keeps the blocks of this memory
abbrev pub StepKeeps : List MemoryBlock → StepResult → Type 0
StepKeeps m (Continues t) = KeepsBlocks m t.memory
StepKeeps m (Ends status) = ⊤
StepKeeps m (Undefined cause) = ⊤

answered_keeps : (answer : Answer) (result : Option ℕ) (a : Activation) (rest : List Activation) (s : State)
    → StepKeeps s.memory (answered answer result a rest s)
answered_keeps (Gives v) result a rest s = keeps_same s.memory
answered_keeps (Fails cause) result a rest s = tt

written_keeps : (fault : Option Why) (m : List MemoryBlock) (a : Activation) (rest : List Activation) (s : State) → KeepsBlocks s.memory m
    → StepKeeps s.memory (written fault m a rest s)
written_keeps None m a rest s keeps = keeps
written_keeps (Some cause) m a rest s keeps = tt

stores_keep : (access : Access) (v at : Value) (a : Activation) (rest : List Activation) (s : State) → StepKeeps s.memory (stores access v at a rest s)
stores_keep access v (Integer width n) a rest s = tt
stores_keep access v (Address q) a rest s = written_keeps (access_fault access q s.memory) (stored access v q s.memory) a rest s
    (keeps_stored access v q s.memory)
stores_keep access v Poison a rest s = tt

puts_keep : (v : Value) (result : Option ℕ) (a : Activation) (rest : List Activation) (s : State) → StepKeeps s.memory (puts v result a rest s)
puts_keep (Integer width n) result a rest s = keeps_same s.memory
puts_keep (Address q) result a rest s = tt
puts_keep Poison result a rest s = tt

gets_keep : (input : List ℕ) (result : Option ℕ) (a : Activation) (rest : List Activation) (s : State) → StepKeeps s.memory (gets input result a rest s)
gets_keep [] result a rest s = keeps_same s.memory
gets_keep (c ∷ cs) result a rest s = keeps_same s.memory

branches_keep : (p : Program) (target : Option ℕ) (a : Activation) (rest : List Activation) (s : State) → StepKeeps s.memory (branches p target a rest s)
branches_keep p None a rest s = tt
branches_keep p (Some to) a rest s = keeps_same s.memory

finishes_keeps : (m : List MemoryBlock) (v : Value) → StepKeeps m (finishes v)
finishes_keeps m (Integer width n) = tt
finishes_keeps m (Address q) = tt
finishes_keeps m Poison = tt

returns_keep : (p : Program) (v : Value) (a : Activation) (rest : List Activation) (s : State) → StepKeeps s.memory (returns p v a rest s)
returns_keep p v a [] s = finishes_keeps s.memory v
returns_keep p v a (b ∷ rest) s = keeps_all_ended a.owned s.memory

act_keeps : (p : Program) (x : Action) (result : Option ℕ) (vs : List Value) (a : Activation) (rest : List Activation) (s : State)
    → StepKeeps s.memory (act p x result vs a rest s)
unfolding act
act_keeps p (Compute operation) result vs a rest s = answered_keeps (compute operation s.memory vs) result a rest s
act_keeps p (Alloca size) result vs a rest s = keeps_made size s.memory
act_keeps p (Load access) result vs a rest s = answered_keeps (loaded access (operand 0 vs) s.memory) result a rest s
act_keeps p (Store access) result vs a rest s = stores_keep access (operand 0 vs) (operand 1 vs) a rest s
act_keeps p (Call f) result vs a rest s = keeps_same s.memory
act_keeps p PutChar result vs a rest s = puts_keep (operand 0 vs) result a rest s
act_keeps p GetChar result vs a rest s = gets_keep s.input result a rest s
act_keeps p (Jump to) result vs a rest s = branches_keep p (Some to) a rest s
act_keeps p (Branch met unmet) result vs a rest s = branches_keep p (branch_target met unmet (operand 0 vs)) a rest s
act_keeps p (Switch otherwise cases) result vs a rest s = branches_keep p (switch_target otherwise cases (operand 0 vs)) a rest s
act_keeps p ReturnVoid result vs a rest s = returns_keep p Poison a rest s
act_keeps p Return result vs a rest s = returns_keep p (operand 0 vs) a rest s
act_keeps p Unreachable result vs a rest s = tt

did_keeps : (p : Program) (x : Option Instruction) (a : Activation) (rest : List Activation) (s : State) → StepKeeps s.memory (did p x a rest s)
did_keeps p None a rest s = tt
did_keeps p (Some x) a rest s = act_keeps p x.action x.result (map (value_of a.values) x.operands) a rest s

stepped_keeps : (p : Program) (stack : List Activation) (s : State) → StepKeeps s.memory (stepped p stack s)
stepped_keeps p [] s = tt
stepped_keeps p (a ∷ rest) s = did_keeps p (instruction_at p a) a rest s

pub step_keeps : (p : Program) (s t : State) → step p s ≡ Continues t → KeepsBlocks s.memory t.memory
unfolding step
step_keeps p s t goes = subst (λ (r : StepResult). StepKeeps s.memory r) goes (stepped_keeps p s.stack s)
