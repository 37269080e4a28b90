-- One turn of the loop.
use Rattle.std.proofs.Common.{◌≡◌, ℕ, suc, ◌+◌, ◌-◌, ◌*◌, ◌<◌, ◌≤◌, ◌^◌, ◌==◌, inl, inr, true, false, cond, List, [], ◌∷◌, Option, Some, refl, ◌∙◌, ap, subst, arith, lit≤, lit<}
use Rattle.std.specs.Prelude.{pos, negsuc}
use Rattle.std.proofs.lemmas.Bool.Decides.{nat_tests}
use Rattle.rv_inst.specs.declared.instruction.Form.TheVariants.{ADDI, ADD}
use Rattle.rv_model.specs.State.{plus64}
use Rattle.rv_flips.specs.Cells.{Sure, One, Has}
use Rattle.rv_flips.proofs.CellLemmas.{with_register-same}
use Rattle.flip_frames.specs.Views.{Stage, with_value}
use Rattle.flip_versions.specs.Operations.{resting, AreSlots, HoldsVersions, defined, Leaves, IsApart}
use Rattle.flip_versions.proofs.VersionLaws.{operation_runs, defined_hold, others_stay}
use Rattle.flip_guards.specs.Fetching.{in_slots}
use Rattle.flip_guards.proofs.FetchLaws.{triples_give}
use Rattle.flip_programs.specs.Programs.{start_stage}
use Rattle.flip_copies.specs.Copies.{Compatible, copied}
use Rattle.flip_copies.specs.Edges.{IsEdge, entered}
use Rattle.flip_copies.specs.Narrowing.{HeldValue, knowing, AreSeparate}
use Rattle.flip_copies.proofs.CopyLaws.{goals_are_set, holds_copied, holds_defined}
use Rattle.flip_copies.proofs.EdgeLaws.{edges_run, phis_are_set}
use Rattle.flip_copies.proofs.NarrowingLaws.{narrowed, narrowed_holds}
use Rattle.flip_calls.specs.Frames.{based_at}
use Rattle.flip_calls.specs.Calls.{called, IsCall}
use Rattle.flip_calls.proofs.CallLaws.{calls_enter, arguments_are_set, callers_stay, returns_go, results_are_taken}
use Rattle.flip_branches.proofs.TestLaws.{branches_turn}
use Rattle.flip_words.specs.Placed.{IsPlaced}
use Rattle.flip_jumps.specs.Places.{Goes, StageSaysLess}
use Rattle.flip_jumps.proofs.PlaceLaws.{goes_then, runs_go, jumps_go, stage_forgotten}
use Rattle.flip_flow_examples.specs.Slots.{slots_from}
use Rattle.flip_flow_examples.specs.Countdown.{counter, summed, lessened, added, arguments, results, again, countdown_words}
use Rattle.flip_flow_examples.proofs.SlotFacts.{slots, different, other, clear, in_time, leaves_alone, AreApart}
use Rattle.flip_flow_examples.proofs.CountdownPlaces.{whole_placed, adding_placed, call_placed, entry_placed, taking_placed, return_placed, after_placed, branch_placed, edge_placed, jump_placed}

abbrev pub W : List ℕ
W = countdown_words

-- the stage at the start
abbrev pub begin : List ℕ → Stage
begin input = start_stage 512 [] input 4240

-- the values at the begin of the loop
abbrev pub carried : List HeldValue
carried = record { slots = counter; id = 0 } ∷ record { slots = summed; id = 1 } ∷ []

abbrev pub both : ℕ → ℕ → ℕ → Option ℕ
both i s id = cond (id == 0) (Some i) (Some s)

-- what is known there: the counter and the sum
abbrev pub head : List ℕ → ℕ → ℕ → Stage
head input i s = knowing (λ k. true) (begin input) carried (both i s)

-- and at the end of the loop: the new sum
abbrev pub done : List ℕ → ℕ → Stage
done input t = knowing (λ k. true) (begin input) (record { slots = added; id = 0 } ∷ []) (λ id. Some t)

carried_apart : AreSeparate carried
carried_apart = (different 0, (clear 0 3 (inr (lit≤ tt)), tt), (different 3, tt, tt))

-- slots of main's frame, and of the function's, are in reach
pub main_slots : (g : Stage) (n : ℕ) → g.base ≡ 512 → g.size ≡ 4240 → n ≤ 15 → AreSlots g (slots_from n)
main_slots g n base size small = slots g n (omega arith) (omega arith)

own_slots : (g : Stage) (n : ℕ) → g.base ≡ 504 → g.size ≡ 4240 → n ≤ 20 → AreSlots g (slots_from n)
own_slots g n base size small = slots g n (omega arith) (omega arith)

apart : (d x : ℕ) → AreApart x d → IsApart (slots_from d) (slots_from x)
apart d x h = let c = clear d x h in record { two_one = c.two.one; three_one = c.three.one; three_two = c.three.two }

-- the sum with the counter added
abbrev after_adding : List ℕ → ℕ → ℕ → Stage
after_adding input i s = defined (head input i s) added (Some (plus64 s i))

adds : (s i : ℕ) → Leaves (ADD 5 5 6 ∷ []) (Some s) (Some i) (Some (plus64 s i))
unfolding with_value
adds s i = refl

pub adding_goes : (input : List ℕ) (i s : ℕ) → Goes countdown_words (resting (head input i s) One) 65644 30 (resting (after_adding input i s) One) 65764
adding_goes input i s =
    let g = head input i s in
    let held = narrowed_holds (λ k. true) (begin input) carried (both i s) carried_apart in
    runs_go 65644 adding_placed
    (operation_runs W (ADD 5 5 6 ∷ []) g summed counter added (Some s) (Some i) (Some (plus64 s i)) refl (adds s i) (main_slots g 3 refl refl (lit≤ tt)) (main_slots g 0 refl refl (lit≤ tt)) (main_slots g 9 refl refl (lit≤ tt))
    held.1.0 held.0 (apart 9 3 (inl (lit≤ tt))) (apart 9 0 (inl (lit≤ tt))))

-- one value, whatever its number
abbrev pub one_value : ℕ → ℕ → Option ℕ
one_value v id = Some v

-- the stage in the function
abbrev pub inside : List ℕ → ℕ → ℕ → Stage
inside input i s = called (after_adding input i s) 504 arguments (one_value i) 0 65852

arguments_fit : Compatible arguments
arguments_fit = (different 4, in_time 4 8 (inr (lit≤ tt)), tt, tt)

-- the counter is still there after the addition
counter_held : (input : List ℕ) (i s : ℕ) → HoldsVersions (after_adding input i s) counter (Some i)
counter_held input i s =
    let held = narrowed_holds (λ k. true) (begin input) carried (both i s) carried_apart in
    holds_defined (head input i s) added counter (Some i) (Some (plus64 s i)) held.0 (clear 9 0 (inl (lit≤ tt)))

is_call : (input : List ℕ) (i s : ℕ) → IsCall (after_adding input i s) 8 504 0 arguments (one_value i)
is_call input i s =
    let g = based_at (after_adding input i s) 504 in
    let held = counter_held input i s in
    let there : HoldsVersions (based_at (after_adding input i s) 504) (slots_from 8) (Some i) = record { one = held.one; two = held.two; three = held.three } in
    record {
      size = lit< tt;
      below = refl;
      arguments = (triples_give g (slots_from 8) (Some i) (own_slots g 8 refl refl (lit≤ tt)) there, own_slots g 4 refl refl (lit≤ tt), tt);
      compatible = arguments_fit;
      link = lit≤ tt;
      unused = refl;
    }

call_goes : (input : List ℕ) (i s : ℕ) → Goes countdown_words (resting (after_adding input i s) One) 65764 25 (resting (inside input i s) One) 66348
call_goes input i s = calls_enter W (after_adding input i s) 65764 8 504 0 arguments (one_value i) (pos 488) (is_call input i s) call_placed entry_placed

-- the function takes one away
abbrev pub taken : List ℕ → ℕ → ℕ → Stage
taken input k s = defined (inside input (suc k) s) (slots_from 1) (Some k)

takes : (k : ℕ) → suc k < 2 ^ 64 → Leaves (ADDI 5 5 (negsuc 0) ∷ []) (Some (suc k)) (Some (suc k)) (Some k)
unfolding with_value
takes k small = let less : plus64 (suc k) (2 ^ 64 - 1) ≡ k = omega arith in ap Some less

taking_goes : (input : List ℕ) (k s : ℕ) → suc k < 2 ^ 64 → Goes countdown_words (resting (inside input (suc k) s) One) 66348 30 (resting (taken input k s) One) 66468
taking_goes input k s small =
    let g = inside input (suc k) s in
    let set = arguments_are_set (after_adding input (suc k) s) 504 0 65852 arguments (one_value (suc k)) arguments_fit (other 4 0 (inr (lit≤ tt)), tt) in
    let slots4 = own_slots g 4 refl refl (lit≤ tt) in
    runs_go 66348 taking_placed
    (operation_runs W (ADDI 5 5 (negsuc 0) ∷ []) g (slots_from 4) (slots_from 4) (slots_from 1) (Some (suc k)) (Some (suc k)) (Some k) refl (takes k small) slots4 slots4 (own_slots g 1 refl refl (lit≤ tt)) set.0 set.0 (apart 1 4 (inr (lit≤ tt))) (apart 1 4 (inr (lit≤ tt))))

-- and returns
return_goes : (input : List ℕ) (k s : ℕ) → Goes countdown_words (resting (taken input k s) One) 66468 4 (resting (taken input k s) One) 65852
return_goes input k s =
    let h = copied (based_at (after_adding input (suc k) s) 504) arguments (one_value (suc k)) in
    let link : (taken input k s).slots 504 ≡ Has Sure 65852 = others_stay (inside input (suc k) s) (slots_from 1) (Some k) 0 (other 1 0 (inr (lit≤ tt))) ∙ with_register-same h.slots 504 (Has Sure 65852) in
    returns_go W (taken input k s) 66468 0 65852 return_placed (lit≤ tt) link refl refl

-- the result comes to main
abbrev pub resumed : List ℕ → ℕ → ℕ → Stage
resumed input k s = based_at (copied (taken input k s) results (one_value k)) 512

results_fit : Compatible results
results_fit = (different 14, in_time 14 1 (inl (lit≤ tt)), tt, tt)

after_goes : (input : List ℕ) (k s : ℕ) → Goes countdown_words (resting (taken input k s) One) 65852 21 (resting (resumed input k s) One) 65936
after_goes input k s =
    let g = taken input k s in
    let result = defined_hold (inside input (suc k) s) (slots_from 1) (Some k) (different 1) in
    runs_go 65852 after_placed
    (results_are_taken W g 8 512 results (one_value k) (triples_give g (slots_from 1) (Some k) (own_slots g 1 refl refl (lit≤ tt)) result, own_slots g 14 refl refl (lit≤ tt), tt) results_fit (lit< tt) refl (lit≤ tt))

-- what is known in main then: the counter less one, and the new sum
lessened_held : (input : List ℕ) (k s : ℕ) → HoldsVersions (resumed input k s) lessened (Some k)
lessened_held input k s =
    let set = goals_are_set (taken input k s) results (one_value k) results_fit in
    record { one = set.0.one; two = set.0.two; three = set.0.three }

added_held : (input : List ℕ) (k s : ℕ) → HoldsVersions (resumed input k s) added (Some (plus64 s (suc k)))
added_held input k s =
    let g = after_adding input (suc k) s in
    let own = defined_hold (head input (suc k) s) added (Some (plus64 s (suc k))) (different 9) in
    let stay = callers_stay (after_adding input (suc k) s) 8 504 0 65852 arguments (one_value (suc k)) refl (lit< tt, lit< tt, lit< tt, tt) (lit< tt) in
    let called : HoldsVersions (inside input (suc k) s) (slots_from 17) (Some (plus64 s (suc k))) =
    record { one = stay.slots 521 (lit≤ tt) ∙ own.one; two = stay.slots 522 (lit≤ tt) ∙ own.two; three = stay.slots 523 (lit≤ tt) ∙ own.three } in
    let back = holds_defined (inside input (suc k) s) (slots_from 1) (slots_from 17) (Some (plus64 s (suc k))) (Some k) called (clear 1 17 (inr (lit≤ tt))) in
    let here = holds_copied (taken input k s) results (one_value k) (slots_from 17) (Some (plus64 s (suc k))) back (clear 14 17 (inr (lit≤ tt)), tt) in
    record { one = here.one; two = here.two; three = here.three }

-- the turn up to the branch
pub turn_goes : (input : List ℕ) (k s : ℕ) → suc k < 2 ^ 64 → Goes countdown_words (resting (head input (suc k) s) One) 65644 110 (resting (resumed input k s) One) 65936
turn_goes input k s small =
    goes_then (adding_goes input (suc k) s)
    (goes_then (call_goes input (suc k) s)
    (goes_then (taking_goes input k s small)
    (goes_then (return_goes input k s) (after_goes input k s))))

-- at any place what is known may be narrowed
pub forget_goes : (g h : Stage) (p : ℕ) → p ≤ 0x1000_0000 → StageSaysLess g h → ((q w : ℕ) → h.places q ≡ Has Sure w → ⊥) → Goes countdown_words (resting g One) p 0 (resting h One) p
forget_goes g h p small says unsure =
    let here : p + 4 * 0 ≡ p = omega arith in
    let none : IsPlaced countdown_words p [] = record { stands = tt; room = omega arith; short = whole_placed.short } in
    let P : ℕ → Type 0 = λ q. Goes countdown_words (resting g One) p 0 (resting h One) q in
    subst P here (runs_go p none (stage_forgotten countdown_words g h One says unsure))

-- where the counter is 0 the loop ends
pub last_goes : (input : List ℕ) (s : ℕ) → Goes countdown_words (resting (resumed input 0 s) One) 65936 14 (resting (done input (plus64 s 1)) One) 66284
last_goes input s =
    let g = resumed input 0 s in
    let lessened_slots = main_slots g 6 refl refl (lit≤ tt) in
    goes_then (branches_turn W g (in_slots lessened) 0 65936 (pos 300) (pos 4) (triples_give g lessened (Some 0) lessened_slots (lessened_held input 0 s)) branch_placed)
    (forget_goes g (done input (plus64 s 1)) 66284 (lit≤ tt) (narrowed (λ k. true) g (record { slots = added; id = 0 } ∷ []) (one_value (plus64 s 1)) (added_held input 0 s, tt)) (λ q w e. cc))

-- and else it goes on
again_is : (input : List ℕ) (k s : ℕ) → IsEdge (resumed input k s) again (both k (plus64 s (suc k)))
again_is input k s =
    let g = resumed input k s in
    record {
      inputs = (
        triples_give g lessened (Some k) (main_slots g 6 refl refl (lit≤ tt)) (lessened_held input k s),
        main_slots g 12 refl refl (lit≤ tt),
        (triples_give g added (Some (plus64 s (suc k))) (main_slots g 9 refl refl (lit≤ tt)) (added_held input k s), main_slots g 15 refl refl (lit≤ tt), tt),
      );
      places = (main_slots g 0 refl refl (lit≤ tt), (main_slots g 3 refl refl (lit≤ tt), tt));
      cells = (different 12, in_time 12 6 (inl (lit≤ tt)), (leaves_alone 12 9 15 1 (inl (lit≤ tt)) (inr (lit≤ tt)), tt), (different 15, in_time 15 9 (inl (lit≤ tt)), tt, tt));
      phis = (different 0, in_time 0 12 (inr (lit≤ tt)), (leaves_alone 0 15 3 1 (inr (lit≤ tt)) (inr (lit≤ tt)), tt), (different 3, in_time 3 15 (inr (lit≤ tt)), tt, tt));
    }

pub next_goes : (input : List ℕ) (k s : ℕ) → Goes countdown_words (resting (resumed input (suc k) s) One) 65936 87 (resting (head input (suc k) (plus64 s (suc (suc k)))) One) 65644
next_goes input k s =
    let g = resumed input (suc k) s in
    let t = plus64 s (suc (suc k)) in
    let h = entered g again (both (suc k) (plus64 s (suc (suc k)))) in
    let is = again_is input (suc k) s in
    let set = phis_are_set g again (both (suc k) (plus64 s (suc (suc k)))) is in
    let more : (suc k == 0) ≡ false = grind (arith, nat_tests) in
    let P : ℕ → Type 0 = λ q. Goes countdown_words (resting g One) 65936 14 (resting g One) q in
    let branch : Goes countdown_words (resting (resumed input (suc k) s) One) 65936 14 (resting (resumed input (suc k) s) One) 65992 =
    subst P (ap (λ b. cond b 66284 65992) more)
    (branches_turn W g (in_slots lessened) (suc k) 65936 (pos 300) (pos 4) (triples_give g lessened (Some (suc k)) (main_slots g 6 refl refl (lit≤ tt)) (lessened_held input (suc k) s)) branch_placed) in
    goes_then branch
    (goes_then (runs_go 65992 edge_placed (edges_run W g again (both (suc k) (plus64 s (suc (suc k)))) is))
    (goes_then (forget_goes h (head input (suc k) (plus64 s (suc (suc k)))) 66280 (lit≤ tt) (narrowed (λ k. true) h carried (both (suc k) (plus64 s (suc (suc k)))) (set.0, (set.1.0, tt))) (λ q w e. cc))
    (jumps_go W (resting (head input (suc k) (plus64 s (suc (suc k)))) One) 66280 (negsuc 635) jump_placed)))
