-- The words of an operation on two operands do its step.
use Rattle.std.proofs.Common.{◌≡◌, ◌≢◌, ◌≤◌, ◌<◌, ◌+◌, ◌*◌, ◌==◌, ℕ, Bool, true, false, List, [], ◌∷◌, ◌++◌, map, length, Option, Some, None, inl, inr, refl, sym, ap, subst, ◌∙◌, arith, append-nil, slice_index_or}
use Rattle.std.specs.Prelude.{IsTrue}
use Rattle.std.specs.List.{list_all}
use Rattle.std.proofs.lemmas.Bool.Decides.{eqb_tells}
use Rattle.ir_model.specs.Values.{Value, Answer, Gives, Fails}
use Rattle.ir_model.specs.Operations.{Operation, Binary, Compare, Convert, Freeze, compute}
use Rattle.ir_model.specs.Programs.{Operand, Local, Fixed, Instruction, Compute, Program, function_at}
use Rattle.ir_model.specs.States.{Activation, State, StepResult, Continues, value_of, instruction_at, after}
use Rattle.ir_model.specs.Steps.{answered, act, did, stepped, step}
use Rattle.ir_model.specs.Runs.{IsWithinStack}
use Rattle.rv_inst.specs.declared.instruction.Form.{Form}
use Rattle.rv_flips.specs.Cells.{Tag, One, Two, Three, Cell, Free, Has, Sure, SaysLess}
use Rattle.rv_flips.specs.Assertion.{with_register}
use Rattle.rv_flips.proofs.CellLemmas.{says_free}
use Rattle.flip_words.specs.Placed.{IsPlaced}
use Rattle.flip_words.proofs.LessLemmas.{says_again, written_says}
use Rattle.flip_frames.specs.Views.{Stage, Runs, version, with_value, no_values}
use Rattle.flip_frames.specs.Computing.{is_pure, effect_of}
use Rattle.flip_frames.specs.Fetching.{Triple}
use Rattle.flip_frames.proofs.RunLaws.{runs_then}
use Rattle.flip_versions.specs.Operations.{resting, IsSlot, AreSlots, AreDifferent, defined, Leaves}
use Rattle.flip_guards.specs.Sources.{Part, made}
use Rattle.flip_guards.specs.Fetching.{IsGiven}
use Rattle.flip_guards.specs.Fetching as fetching
use Rattle.flip_guards.proofs.FetchLaws.{triples_give}
use Rattle.flip_copies.specs.Copies.{IsReadInTime, IsClear}
use Rattle.flip_jumps.specs.Places.{StageSaysLess, Goes}
use Rattle.flip_jumps.proofs.PlaceLaws.{runs_go, stage_forgotten}
use Rattle.flip_operations.specs.Operations.{two_operands}
use Rattle.flip_operations.proofs.OperationLaws.{two_run, one_runs}
use Rattle.op_words.specs.Words.{binary_words, compare_words, convert_words}
use Rattle.op_words.proofs.Answered.{binaries_pure, all_pure}
use Rattle.kept_states.specs.Layouts.{FrameLayout, Layout, IsGoodFrame, IsGoodLayout}
use Rattle.kept_states.specs.Kept.{word_of, KeepsStack, KeepsState}
use Rattle.kept_states.specs.Laws.{HaveValues}
use Rattle.kept_states.proofs.Stacks.{room, values_held, results}
use Rattle.done_operations.specs.Sources.{MakeWords, source_of, IsWithin}
use Rattle.done_operations.specs.Operations.{AtBinary, AtUnary, Reaches, two_at, one_at, BinariesAreDone, ComparisonsAreDone, ConversionsAreDone, FreezesAreDone}
use Rattle.done_operations.proofs.Serving.{Serve, ServeOne, binary_serves, comparison_serves, conversion_serves, freeze_serves}

-- ---- operands
-- sources that give a value, if it has a word
pub record Sourced (address : ℕ → ℕ) (g : Stage) (x : fetching.Operand) (v : Value) : Type 0 where
  pub given : Option ℕ
  pub gives : IsGiven g x given
  pub right : (u : ℕ) → word_of address v ≡ Some u → given ≡ Some u

-- the slots of a value are in reach
pub triple_slots : (g : Stage) (l : FrameLayout) (values id : ℕ) → IsGoodFrame l values → id < values → ((n : ℕ) → n < l.size → IsSlot g n) → AreSlots g (l.places id)
triple_slots g l values id good lt reach =
    let inside = good.inside id lt in
    record { one = reach (l.places id).one inside.one; two = reach (l.places id).two inside.two; three = reach (l.places id).three inside.three }

module _ (l : Layout) (address : ℕ → ℕ) (size : ℕ) (parts : Value → List Part) (g : Stage) (s : State) (a : Activation) (rest : List Activation) (values : ℕ)
    (good : IsGoodFrame (l.frames a.function) values) (makes : MakeWords address parts) (kept : KeepsState l address size g s) (stack : s.stack ≡ a ∷ rest)
    (many : length a.values ≡ values) (reach : (n : ℕ) → n < (l.frames a.function).size → IsSlot g n) where
  pub sourced : (x : Operand) → IsWithin (length a.values) x → Sourced address g (source_of (l.frames a.function) parts x) (value_of a.values x)
  sourced (Local id) there =
      let lay : FrameLayout = l.frames a.function in
      record {
        given = word_of address (value_of a.values (Local id));
        gives = triples_give g (lay.places id) (word_of address (value_of a.values (Local id)))
            (triple_slots g lay values id good (omega arith) reach) (values_held l address size g s a rest id kept stack there);
        right = λ u is. is;
      }
  sourced (Fixed v) there = record { given = made (parts v) None; gives = record { one = refl; two = refl; three = refl }; right = λ u is. makes v u is }

  -- no later version of an operand is read from where an earlier one of the result goes
  pub in_time : (x : Operand) (id : ℕ) → IsWithin (length a.values) x → id < length a.values
      → IsReadInTime ((l.frames a.function).places id) (source_of (l.frames a.function) parts x)
  in_time (Local j) id there lt =
      let lay : FrameLayout = l.frames a.function in
      elim (eqb_tells j id) [
        | inl e ↦ subst (λ (k : ℕ). IsReadInTime (lay.places id) (source_of lay parts (Local k))) (sym e.1) (own (good.different id (omega arith)))
        | inr e ↦ other (good.apart id j (omega arith) (omega arith) (λ same. e.1 (sym same)))
      ]
    where
      own : AreDifferent ((l.frames a.function).places id) → IsReadInTime ((l.frames a.function).places id) (source_of (l.frames a.function) parts (Local id))
      own apart = record { two_one = λ e. apart.one_two (sym e); three_one = λ e. apart.one_three (sym e); three_two = λ e. apart.two_three (sym e) }

      other : IsClear ((l.frames a.function).places id) ((l.frames a.function).places j)
          → IsReadInTime ((l.frames a.function).places id) (source_of (l.frames a.function) parts (Local j))
      other clear = record { two_one = clear.two.one; three_one = clear.three.one; three_two = clear.three.two }
  in_time (Fixed v) id there lt = record { two_one = tt; three_one = tt; three_two = tt }

-- ---- what is known of a result may be forgotten
pub version_less : (t : Tag) (o r : Option ℕ) → ((w : ℕ) → r ≡ Some w → o ≡ Some w) → SaysLess (version t o) (version t r)
version_less t o None right = says_free (version t o)
version_less t o (Some w) right = subst (λ (q : Option ℕ). SaysLess (version t q) (Has t w)) (sym (right w refl)) (says_again (Has t w))

pub defined_less : (g : Stage) (d : Triple) (o r : Option ℕ) → ((w : ℕ) → r ≡ Some w → o ≡ Some w) → StageSaysLess (defined g d o) (defined g d r)
defined_less g d o r right =
    record {
      base = refl;
      places = λ q. says_again (g.places q);
      slots = written_says (with_register (with_register g.slots (g.base + d.one) (version One o)) (g.base + d.two) (version Two o))
          (with_register (with_register g.slots (g.base + d.one) (version One r)) (g.base + d.two) (version Two r)) (g.base + d.three) (version Three o) (version Three r)
          (version_less Three o r right)
          (λ q ne. written_says (with_register g.slots (g.base + d.one) (version One o)) (with_register g.slots (g.base + d.one) (version One r)) (g.base + d.two) (version Two o) (version Two r)
          (version_less Two o r right)
          (λ i other. written_says g.slots g.slots (g.base + d.one) (version One o) (version One r) (version_less One o r right) (λ k third. says_again (g.slots k)) i) q);
      bytes = λ k x holds. holds;
      size = refl;
      input = refl;
      out = refl;
    }

-- ---- the step
step_is : (p : Program) (s : State) (operation : Operation) (a : Activation) (rest : List Activation) (x y : Operand) (id : ℕ) → s.stack ≡ a ∷ rest
    → instruction_at p a ≡ Some (record { result = Some id; action = Compute operation; operands = x ∷ y ∷ [] })
    → step p s ≡ answered (compute operation s.memory (value_of a.values x ∷ value_of a.values y ∷ [])) (Some id) a rest s
unfolding step act
step_is p s operation a rest x y id stack next =
    ap (λ (st : List Activation). stepped p st s) stack ∙ ap (λ (i : Option Instruction). did p i a rest s) next

-- words that lead from one stage to another, and define a result there, of which the value's word is known at least, do the step that gives it
pub defines : (p : Program) (l : Layout) (address : ℕ → ℕ) (size : ℕ) (words : List ℕ) (start g : Stage) (s t : State) (a : Activation) (rest : List Activation) (code : List Form) (id from : ℕ)
    (v : Value) (o : Option ℕ) → IsGoodLayout p l size → KeepsState l address size g s → s.stack ≡ a ∷ rest → HaveValues p (a ∷ rest) → id < length a.values
    → Continues (record s { stack = after (Some id) v a ∷ rest }) ≡ Continues t → ((w : ℕ) → word_of address v ≡ Some w → o ≡ Some w)
    → Runs words code (resting start One) (resting (defined g ((l.frames a.function).places id) o) One) → IsPlaced words from code
    → Reaches l address size words start t from (length code)
defines p l address size words start g s t a rest code id from v o good kept stack values there continues right run placed =
    let d : Triple = (l.frames a.function).places id in
    let less : StageSaysLess (defined g d o) (defined g d (word_of address v)) = defined_less g d o (word_of address v) right in
    let whole : Runs words code (resting start One) (resting (defined g d (word_of address v)) One) =
    subst (λ (zs : List Form). Runs words zs (resting start One) (resting (defined g d (word_of address v)) One)) (append-nil code)
    (runs_then run (stage_forgotten words (defined g d o) (defined g d (word_of address v)) One less (λ q w sure. none_sure q w (sym (kept.places q) ∙ sure)))) in
    let frames : KeepsStack l address g.slots g.base (a ∷ rest) = subst (KeepsStack l address g.slots g.base) stack kept.stack in
    let same : record s { stack = after (Some id) v a ∷ rest } ≡ t = continues_same (record s { stack = after (Some id) v a ∷ rest }) t continues in
    record {
      stage = defined g d (word_of address v);
      kept = subst (KeepsState l address size (defined g d (word_of address v))) same (record {
        stack = results p l address g a rest id v (good.frames a.function) values there frames;
        places = kept.places;
        data_size = kept.data_size;
        input = kept.input;
        out = kept.out;
      });
      goes = runs_go from placed whole;
    }
  where
    none_sure : (q w : ℕ) → Free ≡ Has Sure w → ⊥
    none_sure q w e = cc

    continues_same : (u v : State) → Continues u ≡ Continues v → u ≡ v
    continues_same u v e = grind arith

two_done : (p : Program) (l : Layout) (address : ℕ → ℕ) (size : ℕ) (words : List ℕ) (parts : Value → List Part) (g : Stage) (s t : State) (operation : Operation) (width : ℕ)
    (code : List Form) (a : Activation) (rest : List Activation) (x y : Operand) (id from : ℕ) → IsGoodLayout p l size → MakeWords address parts → KeepsState l address size g s
    → AtBinary p s operation width a rest x y id → IsWithinStack p s → step p s ≡ Continues t → list_all is_pure code ≡ true
    → Serve address (compute operation s.memory (value_of a.values x ∷ value_of a.values y ∷ [])) (value_of a.values x) (value_of a.values y) (Leaves code)
    → IsPlaced words from (two_at (l.frames a.function) parts code x y id)
    → Reaches l address size words g t from (length (two_at (l.frames a.function) parts code x y id))
two_done p l address size words parts g s t operation width code a rest x y id from good makes kept at within goes pure serves placed =
    by_answer (compute operation s.memory (value_of a.values x ∷ value_of a.values y ∷ [])) refl (sym (step_is p s operation a rest x y id at.stack at.next) ∙ goes)
  where
    by_answer : (answer : Answer) → compute operation s.memory (value_of a.values x ∷ value_of a.values y ∷ []) ≡ answer
        → answered answer (Some id) a rest s ≡ Continues t → Reaches l address size words g t from (length (two_at (l.frames a.function) parts code x y id))
    by_answer (Fails cause) is continues = cc
    by_answer (Gives v) is continues =
        let lay : FrameLayout = l.frames a.function in
        let frame : IsGoodFrame (l.frames a.function) (function_at p a.function).values = good.frames a.function in
        let many : length a.values ≡ (function_at p a.function).values = at.values.0 in
        let d : Triple = lay.places id in
        let reach = (room p l address size g s a rest good kept at.stack within).2 in
        let sx = sourced l address size parts g s a rest (function_at p a.function).values frame makes kept at.stack many reach x at.first_there in
        let sy = sourced l address size parts g s a rest (function_at p a.function).values frame makes kept at.stack many reach y at.second_there in
        let o : Option ℕ = effect_of code (with_value (with_value no_values 5 sx.given) 6 sy.given) 5 in
        let run : Runs words (two_at lay parts code x y id) (resting g One) (resting (defined g d o) One) =
        two_run words code g (source_of lay parts x) (source_of lay parts y) d sx.given sy.given o pure refl sx.gives sy.gives
        (triple_slots g lay (function_at p a.function).values id frame (omega (arith, at.result_there)) reach)
        (in_time l address size parts g s a rest (function_at p a.function).values frame makes kept at.stack many reach x id at.first_there at.result_there)
        (in_time l address size parts g s a rest (function_at p a.function).values frame makes kept at.stack many reach y id at.second_there at.result_there) in
        defines p l address size words g g s t a rest (two_at lay parts code x y id) id from v o good kept at.stack at.values at.result_there continues
        (λ w word. serves v w sx.given sy.given is word sx.right sy.right) run placed

-- ---- operations on one operand
one_step_is : (p : Program) (s : State) (operation : Operation) (a : Activation) (rest : List Activation) (x : Operand) (id : ℕ) → s.stack ≡ a ∷ rest
    → instruction_at p a ≡ Some (record { result = Some id; action = Compute operation; operands = x ∷ [] })
    → step p s ≡ answered (compute operation s.memory (value_of a.values x ∷ [])) (Some id) a rest s
unfolding step act
one_step_is p s operation a rest x id stack next =
    ap (λ (st : List Activation). stepped p st s) stack ∙ ap (λ (i : Option Instruction). did p i a rest s) next

one_done : (p : Program) (l : Layout) (address : ℕ → ℕ) (size : ℕ) (words : List ℕ) (parts : Value → List Part) (g : Stage) (s t : State) (operation : Operation)
    (code : List Form) (a : Activation) (rest : List Activation) (x : Operand) (id from : ℕ) → IsGoodLayout p l size → MakeWords address parts → KeepsState l address size g s
    → AtUnary p s operation a rest x id → IsWithinStack p s → step p s ≡ Continues t → list_all is_pure code ≡ true
    → ServeOne address (compute operation s.memory (value_of a.values x ∷ [])) (value_of a.values x) (λ o r. Leaves code o None r)
    → IsPlaced words from (one_at (l.frames a.function) parts code x id)
    → Reaches l address size words g t from (length (one_at (l.frames a.function) parts code x id))
one_done p l address size words parts g s t operation code a rest x id from good makes kept at within goes pure serves placed =
    by_answer (compute operation s.memory (value_of a.values x ∷ [])) refl (sym (one_step_is p s operation a rest x id at.stack at.next) ∙ goes)
  where
    by_answer : (answer : Answer) → compute operation s.memory (value_of a.values x ∷ []) ≡ answer
        → answered answer (Some id) a rest s ≡ Continues t → Reaches l address size words g t from (length (one_at (l.frames a.function) parts code x id))
    by_answer (Fails cause) is continues = cc
    by_answer (Gives v) is continues =
        let lay : FrameLayout = l.frames a.function in
        let frame : IsGoodFrame (l.frames a.function) (function_at p a.function).values = good.frames a.function in
        let many : length a.values ≡ (function_at p a.function).values = at.values.0 in
        let d : Triple = lay.places id in
        let reach = (room p l address size g s a rest good kept at.stack within).2 in
        let sx = sourced l address size parts g s a rest (function_at p a.function).values frame makes kept at.stack many reach x at.there in
        let o : Option ℕ = effect_of code (with_value (with_value no_values 5 sx.given) 6 None) 5 in
        let run : Runs words (one_at lay parts code x id) (resting g One) (resting (defined g d o) One) =
        one_runs words code g (source_of lay parts x) d sx.given o pure refl sx.gives
        (triple_slots g lay (function_at p a.function).values id frame (omega (arith, at.result_there)) reach)
        (in_time l address size parts g s a rest (function_at p a.function).values frame makes kept at.stack many reach x id at.there at.result_there) in
        defines p l address size words g g s t a rest (one_at lay parts code x id) id from v o good kept at.stack at.values at.result_there continues
        (λ w word. serves v w sx.given is word sx.right) run placed

pub binaries_done : BinariesAreDone
binaries_done p l address size words parts g s t operation flags width a rest x y id from good makes kept at within goes placed =
    two_done p l address size words parts g s t (Binary operation flags width) width (binary_words operation width) a rest x y id from good makes kept at within goes
    (binaries_pure operation width)
    (binary_serves address (length s.memory) s.memory operation flags width at.wide (value_of a.values x) (value_of a.values y) at.first at.second) placed

pub comparisons_done : ComparisonsAreDone
comparisons_done p l address size words parts g s t predicate width a rest x y id from good makes kept at within goes placed =
    two_done p l address size words parts g s t (Compare predicate) width (compare_words predicate) a rest x y id from good makes kept at within goes
    (all_pure.comparisons predicate)
    (comparison_serves address (length s.memory) s.memory predicate width at.wide (value_of a.values x) (value_of a.values y) at.first at.second) placed

pub conversions_done : ConversionsAreDone
conversions_done p l address size words parts g s t conversion width to a rest x id from good makes kept at wide fits leads first within goes placed =
    one_done p l address size words parts g s t (Convert conversion width to) (convert_words conversion width to) a rest x id from good makes kept at within goes
    (all_pure.conversions conversion width to)
    (conversion_serves address (length s.memory) s.memory conversion width to wide fits leads (value_of a.values x) first) placed

pub freezes_done : FreezesAreDone
freezes_done p l address size words parts g s t a rest x id from good makes kept at within goes placed =
    one_done p l address size words parts g s t Freeze [] a rest x id from good makes kept at within goes refl
    (freeze_serves address (length s.memory) s.memory (value_of a.values x)) placed
