-- A choice does its step.
use Rattle.std.proofs.Common.{◌≡◌, ◌<◌, ◌^◌, ◌==◌, ℕ, zero, suc, List, length, Option, Some, None, refl, sym, ap, ◌∙◌, arith}
use Rattle.std.specs.Prelude.{if◌then◌else◌}
use Rattle.ir_model.specs.Values.{Value, Integer, Address, Poison}
use Rattle.ir_model.specs.Pointers.{extended}
use Rattle.ir_model.specs.Operations.{chosen, compute}
use Rattle.ir_model.specs.Programs.{Operand, Instruction, Program, function_at}
use Rattle.ir_model.specs.States.{Activation, State, value_of, after, goes_on}
use Rattle.ir_model.specs.Steps.{act, did, stepped, step}
use Rattle.ir_typed_runs.specs.Kinds.{OfWidth, IsOfKind}
use Rattle.rv_flips.specs.Cells.{One}
use Rattle.flip_frames.specs.Views.{Runs}
use Rattle.flip_frames.specs.Computing.{effect_of}
use Rattle.flip_frames.specs.Fetching.{Triple}
use Rattle.flip_versions.specs.Operations.{resting, IsSlot, defined}
use Rattle.flip_copies.specs.Copies.{IsReadInTime}
use Rattle.flip_select.specs.Select.{select_code}
use Rattle.flip_select.proofs.SelectLaw.{ones, loaded_three}
use Rattle.kept_states.specs.Layouts.{FrameLayout, IsGoodFrame}
use Rattle.kept_states.specs.Kept.{word_of}
use Rattle.kept_states.proofs.Stacks.{room}
use Rattle.done_operations.specs.Sources.{source_of, IsWithin}
use Rattle.done_operations.proofs.Serving.{word_small}
use Rattle.done_operations.proofs.Done.{Sourced, triple_slots, sourced, in_time, defines}
use Rattle.done_select.specs.Select.{choice_at, AtChoice, SelectsAreDone}
use Rattle.done_select.proofs.Choices.{LeavesOf, choice_runs, leaves_some, leaves_first, leaves_second}

-- ---- what the code leaves
-- of what came in the code leaves something, which is a word where there is one
record Left (words : List ℕ) (m first second r : Option ℕ) : Type 0 where
  o : Option ℕ
  leaves : LeavesOf words m first second o
  right : (w : ℕ) → r ≡ Some w → o ≡ Some w

left_any : (words : List ℕ) (m first second : Option ℕ) → Left words m first second None
left_any words m first second =
    record { o = effect_of select_code (loaded_three m first second) 5; leaves = leaves_some words m first second; right = λ w e. cc }

left_first : (words : List ℕ) (m first second r : Option ℕ) → m ≡ Some ones → ((w : ℕ) → r ≡ Some w → first ≡ Some w) → ((w : ℕ) → r ≡ Some w → w < 2 ^ 64)
    → Left words m first second r
left_first words m first second None all right small = left_any words m first second
left_first words m first second (Some w) all right small =
    record { o = Some w; leaves = leaves_first words m first second w all (right w refl) (small w refl); right = λ u e. e }

left_second : (words : List ℕ) (m first second r : Option ℕ) → m ≡ Some 0 → ((w : ℕ) → r ≡ Some w → second ≡ Some w) → ((w : ℕ) → r ≡ Some w → w < 2 ^ 64)
    → Left words m first second r
left_second words m first second None zeros right small = left_any words m first second
left_second words m first second (Some w) zeros right small =
    record { o = Some w; leaves = leaves_second words m first second w zeros (right w refl) (small w refl); right = λ u e. e }

-- by the value of the condition
left : (words : List ℕ) (address : ℕ → ℕ) (blocks : ℕ) (c x y : Value) (m first second : Option ℕ) → IsOfKind blocks (OfWidth 1) c
    → ((w : ℕ) → word_of address c ≡ Some w → m ≡ Some w) → ((w : ℕ) → word_of address x ≡ Some w → first ≡ Some w)
    → ((w : ℕ) → word_of address y ≡ Some w → second ≡ Some w) → Left words m first second (word_of address (chosen c x y))
left words address blocks (Address q) x y m first second kind rc rx ry = absurd kind
left words address blocks Poison x y m first second kind rc rx ry = left_any words m first second
left words address blocks (Integer width n) x y m first second kind rc rx ry = by_bit n kind.1 (rc (extended width n) refl ∙ ap (λ (u : ℕ). Some (extended u n)) kind.0)
  where
    by_bit : (n : ℕ) → n < 2 → m ≡ Some (extended 1 n) → Left words m first second (word_of address (if n == 0 then y else x))
    by_bit zero lt is = left_second words m first second (word_of address y) is ry (word_small address y)
    by_bit (suc zero) lt is = left_first words m first second (word_of address x) is rx (word_small address x)
    by_bit (suc (suc n)) lt is = absurd (omega arith)

-- ---- the step
choice_step : (p : Program) (s : State) (a : Activation) (rest : List Activation) (c x y : Operand) (id : ℕ) → AtChoice p s a rest c x y id
    → step p s ≡ goes_on (after (Some id) (chosen (value_of a.values c) (value_of a.values x) (value_of a.values y)) a) rest s
unfolding step act compute
choice_step p s a rest c x y id at =
    ap (λ (st : List Activation). stepped p st s) at.stack ∙ ap (λ (i : Option Instruction). did p i a rest s) at.next

pub selects_done : SelectsAreDone
selects_done p l address size words parts g s t a rest c x y id from good makes kept at within goes placed =
    let lay : FrameLayout = l.frames a.function in
    let n : ℕ = (function_at p a.function).values in
    let frame : IsGoodFrame (l.frames a.function) (function_at p a.function).values = good.frames a.function in
    let many : length a.values ≡ (function_at p a.function).values = at.values.0 in
    let d : Triple = (l.frames a.function).places id in
    let v : Value = chosen (value_of a.values c) (value_of a.values x) (value_of a.values y) in
    let reach : (m : ℕ) → m < (l.frames a.function).size → IsSlot g m = (room p l address size g s a rest good kept at.stack within).2 in
    let source : (z : Operand) → IsWithin (length a.values) z → Sourced address g (source_of (l.frames a.function) parts z) (value_of a.values z) =
    λ z there. sourced l address size parts g s a rest n frame makes kept at.stack many reach z there in
    let time : (z : Operand) → IsWithin (length a.values) z → IsReadInTime ((l.frames a.function).places id) (source_of (l.frames a.function) parts z) =
    λ z there. in_time l address size parts g s a rest n frame makes kept at.stack many reach z id there at.result_there in
    let sc = source c at.condition_there in
    let sx = source x at.first_there in
    let sy = source y at.second_there in
    let found : Left words sc.given sx.given sy.given (word_of address v) =
    left words address (length s.memory) (value_of a.values c) (value_of a.values x) (value_of a.values y) sc.given sx.given sy.given at.kind sc.right sx.right sy.right in
    let run : Runs words (choice_at lay parts c x y id) (resting g One) (resting (defined g d found.o) One) =
    choice_runs words g (source_of lay parts c) (source_of lay parts x) (source_of lay parts y) d sc.given sx.given sy.given found.o found.leaves sc.gives sx.gives sy.gives
    (triple_slots g lay n id frame (omega (arith, at.result_there)) reach) (time c at.condition_there) (time x at.first_there) (time y at.second_there) in
    defines p l address size words g g s t a rest (choice_at lay parts c x y id) id from v found.o good kept at.stack at.values at.result_there
    (sym (choice_step p s a rest c x y id at) ∙ goes) found.right run placed
