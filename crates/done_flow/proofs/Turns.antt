-- Jumps, branches and switches do their steps.
use Rattle.std.proofs.Common.{◌≡◌, ◌≢◌, ◌≤◌, ◌<◌, ◌+◌, ◌*◌, ◌%◌, ◌^◌, ◌==◌, ℕ, zero, suc, ℤ, Bool, true, false, List, [], ◌∷◌, length, Option, Some, None, inl, inr, refl, sym, ap, subst, ◌∙◌, arith}
use Rattle.std.specs.Prelude.{pos, if◌then◌else◌}
use Rattle.std.proofs.lemmas.Bool.{ne_eqb}
use Rattle.std.proofs.lemmas.Bool.Decides.{eqb_tells, nat_tests}
use Rattle.ir_model.specs.Values.{Value, Integer, Address, Poison}
use Rattle.ir_model.specs.Pointers.{extended}
use Rattle.ir_model.specs.Programs.{Operand, Instruction, Action, Jump, Branch, Switch, Program, function_at}
use Rattle.ir_model.specs.Programs as model
use Rattle.ir_model.specs.States.{Activation, State, StepResult, Continues, value_of, instruction_at}
use Rattle.ir_model.specs.Steps.{branches, branch_target, case_of, switch_target, act, did, stepped, step}
use Rattle.ir_model.specs.Runs.{IsWithinStack}
use Rattle.ir_typed_runs.specs.Kinds.{OfWidth, HasWidth, IsOfKind}
use Rattle.rv_inst.specs.declared.instruction.Form.TheVariants.{JAL}
use Rattle.rv_flips.specs.Cells.{One}
use Rattle.flip_words.specs.Placed.{IsPlaced}
use Rattle.flip_frames.specs.Views.{Stage}
use Rattle.flip_versions.specs.Operations.{resting}
use Rattle.flip_jumps.specs.Jumps.{target}
use Rattle.flip_jumps.specs.Places.{Goes}
use Rattle.flip_jumps.proofs.PlaceLaws.{jumps_go}
use Rattle.flip_guards.specs.Sources.{Part}
use Rattle.flip_guards.specs.Fetching.{IsGiven}
use Rattle.flip_guards.specs.Fetching as fetching
use Rattle.flip_branches.specs.Branches.{branch_words}
use Rattle.flip_branches.specs.Switches.{Case, case_test, case_words, switch_words, AreCases}
use Rattle.flip_branches.specs.Switches as switches
use Rattle.flip_branches.proofs.TestLaws.{branches_turn}
use Rattle.flip_branches.proofs.SwitchLaws.{switches_turn}
use Rattle.op_words.proofs.Powers.{Width, width}
use Rattle.op_words.proofs.Extended.{word_below, word_number}
use Rattle.kept_states.specs.Layouts.{Layout, IsGoodFrame, IsGoodLayout}
use Rattle.kept_states.specs.Kept.{word_of, KeepsState}
use Rattle.kept_states.proofs.Stacks.{room}
use Rattle.done_operations.specs.Sources.{MakeWords, source_of, IsWithin}
use Rattle.done_operations.proofs.Done.{Sourced, sourced}
use Rattle.done_flow.specs.Edges.{in_block}
use Rattle.done_flow.specs.Turns.{Turns, AtTerminator, JumpsAreDone, LeadTo, BranchesAreDone, CasesLead, SwitchesAreDone}

same_state : (u v : State) → Continues u ≡ Continues v → v ≡ u
same_state u v e = grind arith

-- ---- jumps
jump_step : (p : Program) (s : State) (a : Activation) (rest : List Activation) (to : ℕ) → AtTerminator p s (Jump to) [] a rest
    → step p s ≡ branches p (Some to) a rest s
unfolding step act
jump_step p s a rest to at =
    ap (λ (st : List Activation). stepped p st s) at.stack ∙ ap (λ (i : Option Instruction). did p i a rest s) at.next

pub jumps : JumpsAreDone
jumps p words g s t a rest to from offset edge at goes placed leads =
    record {
      block = to;
      state = same_state (in_block p to a rest s) t (sym (jump_step p s a rest to at) ∙ goes);
      goes = subst (λ (q : ℕ). Goes words (resting g One) from 1 (resting g One) q) leads (jumps_go words (resting g One) from offset placed);
    }

-- ---- values that decide
given_word : (p : Program) (l : Layout) (address : ℕ → ℕ) (size : ℕ) (parts : Value → List Part) (g : Stage) (s : State) (a : Activation) (rest : List Activation)
    (x : Operand) (v : Value) (w : ℕ) → IsGoodLayout p l size → MakeWords address parts → KeepsState l address size g s → s.stack ≡ a ∷ rest
    → length a.values ≡ (function_at p a.function).values → IsWithinStack p s → IsWithin (length a.values) x → value_of a.values x ≡ v → word_of address v ≡ Some w
    → IsGiven g (source_of (l.frames a.function) parts x) (Some w)
given_word p l address size parts g s a rest x v w good makes kept stack many within there is word =
    let roomy = room p l address size g s a rest good kept stack within in
    let sx = sourced l address size parts g s a rest (function_at p a.function).values (good.frames a.function) makes kept stack many roomy.2 x there in
    subst (IsGiven g (source_of (l.frames a.function) parts x)) (sx.right w (ap (word_of address) is ∙ word)) sx.gives

-- ---- branches
branch_step : (p : Program) (s : State) (a : Activation) (rest : List Activation) (x : Operand) (met unmet : ℕ) → AtTerminator p s (Branch met unmet) (x ∷ []) a rest
    → step p s ≡ branches p (branch_target met unmet (value_of a.values x)) a rest s
unfolding step act
branch_step p s a rest x met unmet at =
    ap (λ (st : List Activation). stepped p st s) at.stack ∙ ap (λ (i : Option Instruction). did p i a rest s) at.next

-- the word of one bit is zero where the bit is
bit_test : (n : ℕ) → n < 2 → (extended 1 n == 0) ≡ (n == 0)
bit_test zero lt = refl
bit_test (suc zero) lt = refl
bit_test (suc (suc n)) lt = absurd (omega arith)

chosen_place : (test : Bool) (v met unmet one other : ℕ) (edge : ℕ → ℕ) → (v == 0) ≡ test → one ≡ edge unmet → other ≡ edge met
    → (if v == 0 then one else other) ≡ edge (if test then unmet else met)
chosen_place true v met unmet one other edge is first second = ap (λ (b : Bool). if b then one else other) is ∙ first
chosen_place false v met unmet one other edge is first second = ap (λ (b : Bool). if b then one else other) is ∙ second

pub branch_done : BranchesAreDone
branch_done p l address size words parts g s t a rest x met unmet from none other edge good makes kept at there kind within goes placed leads =
    by_value (value_of a.values x) refl kind (sym (branch_step p s a rest x met unmet at) ∙ goes)
  where
    by_value : (v : Value) → value_of a.values x ≡ v → IsOfKind (length s.memory) (OfWidth 1) v → branches p (branch_target met unmet v) a rest s ≡ Continues t
        → Turns p words g s t a rest edge from (length (branch_words (source_of (l.frames a.function) parts x) none other))
    by_value (Address q) is has continues = absurd has
    by_value Poison is has continues = cc
    by_value (Integer w n) is has continues =
        let word : word_of address (Integer w n) ≡ Some (extended 1 n) = ap (λ (u : ℕ). Some (extended u n)) has.0 in
        let given = given_word p l address size parts g s a rest x (Integer w n) (extended 1 n) good makes kept at.stack at.values.0 within there is word in
        let place = chosen_place (n == 0) (extended 1 n) met unmet _ _ edge (bit_test n has.1) leads.not_met leads.is_met in
        record {
          block = if n == 0 then unmet else met;
          state = same_state (in_block p (if n == 0 then unmet else met) a rest s) t continues;
          goes = subst (λ (q : ℕ). Goes words (resting g One) from (length (branch_words (source_of (l.frames a.function) parts x) none other)) (resting g One) q) place
              (branches_turn words g (source_of (l.frames a.function) parts x) (extended 1 n) from none other given placed);
        }

-- ---- switches
switch_step : (p : Program) (s : State) (a : Activation) (rest : List Activation) (x : Operand) (otherwise : ℕ) (cases : List model.Case)
    → AtTerminator p s (Switch otherwise cases) (x ∷ []) a rest → step p s ≡ branches p (switch_target otherwise cases (value_of a.values x)) a rest s
unfolding step act
switch_step p s a rest x otherwise cases at =
    ap (λ (st : List Activation). stepped p st s) at.stack ∙ ap (λ (i : Option Instruction). did p i a rest s) at.next

-- two numbers of a width have one word where they are one
word_test : (w n k : ℕ) → Width w → n < 2 ^ w → k < 2 ^ w → (extended w n == extended w k) ≡ (k == n)
word_test w n k is ln lk = elim (eqb_tells k n) [
  | inl e ↦ ap (λ (m : ℕ). extended w n == extended w m) e.1 ∙ (let same : (extended w n == extended w n) ≡ true = grind (arith, nat_tests) in same) ∙ sym e.0
  | inr e ↦
      ne_eqb (extended w n) (extended w k) (λ same. e.1 (sym (word_number w k is lk) ∙ ap (λ (m : ℕ). m % 2 ^ w) (sym same) ∙ word_number w n is ln)) ∙ sym e.0
]

case_place : (test : Bool) (v number to otherwise one rest_place later : ℕ) (edge : ℕ → ℕ) → (v == number) ≡ test → one ≡ edge to → rest_place ≡ edge later
    → (if v == number then one else rest_place) ≡ edge (if test then to else later)
case_place true v number to otherwise one rest_place later edge is first second = ap (λ (b : Bool). if b then one else rest_place) is ∙ first
case_place false v number to otherwise one rest_place later edge is first second = ap (λ (b : Bool). if b then one else rest_place) is ∙ second

cases_place : (w n : ℕ) → Width w → n < 2 ^ w → (x : fetching.Operand) (ks : List Case) (last : ℤ) (cases : List model.Case) (otherwise : ℕ) (edge : ℕ → ℕ) (from : ℕ)
    → CasesLead w x ks last cases otherwise edge from → switches.switch_target from x ks last (extended w n) ≡ edge (case_of n otherwise cases)
cases_place w n is ln x [] last [] otherwise edge from leads = leads
cases_place w n is ln x [] last (c ∷ cs) otherwise edge from leads = absurd leads
cases_place w n is ln x (k ∷ ks) last [] otherwise edge from leads = absurd leads
cases_place w n is ln x (k ∷ ks) last (c ∷ cs) otherwise edge from leads =
    case_place (c.number == n) (extended w n) k.number c.to otherwise (target (from + 4 * length (case_test x k.taking)) k.hit)
    (switches.switch_target (from + 4 * length (case_words x k)) x ks last (extended w n)) (case_of n otherwise cs) edge
    (ap (λ (m : ℕ). extended w n == m) leads.0 ∙ word_test w n c.number is ln leads.1) leads.2
    (cases_place w n is ln x ks last cs otherwise edge (from + 4 * length (case_words x k)) leads.3)

pub switch_done : SwitchesAreDone
switch_done p l address size words parts g s t a rest x w otherwise from cases ks last edge good makes kept at there wide kind within goes are placed leads =
    by_value (value_of a.values x) refl kind (sym (switch_step p s a rest x otherwise cases at) ∙ goes)
  where
    by_value : (v : Value) → value_of a.values x ≡ v → IsOfKind (length s.memory) (OfWidth w) v → branches p (switch_target otherwise cases v) a rest s ≡ Continues t
        → Turns p words g s t a rest edge from (length (switch_words (source_of (l.frames a.function) parts x) ks last))
    by_value (Address q) is has continues = absurd has
    by_value Poison is has continues = cc
    by_value (Integer u n) is has continues =
        let word : word_of address (Integer u n) ≡ Some (extended w n) = ap (λ (i : ℕ). Some (extended i n)) has.0 in
        let given = given_word p l address size parts g s a rest x (Integer u n) (extended w n) good makes kept at.stack at.values.0 within there is word in
        let width_is : Width w = width w wide.0 wide.1 in
        let place = cases_place w n width_is has.1 (source_of (l.frames a.function) parts x) ks last cases otherwise edge from leads in
        record {
          block = case_of n otherwise cases;
          state = same_state (in_block p (case_of n otherwise cases) a rest s) t continues;
          goes = subst (λ (q : ℕ). Goes words (resting g One) from (length (switch_words (source_of (l.frames a.function) parts x) ks last)) (resting g One) q) place
              (switches_turn words g (source_of (l.frames a.function) parts x) ks last (extended w n) from given (word_below w n width_is has.1) are placed);
        }
