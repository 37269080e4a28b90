-- The whole run: the start, the turns of the loop, and the end.
use Rattle.std.proofs.Common.{◌≡◌, ℕ, zero, suc, ◌+◌, ◌*◌, ◌<◌, ◌^◌, inr, true, List, [], ◌∷◌, Some, refl, arith, lit≤, lit<}
use Rattle.std.specs.Prelude.{pos}
use Rattle.std.proofs.lemmas.List.Elements.{All-nil}
use Rattle.rv_model.specs.State.{plus64}
use Rattle.rv_flips.specs.Cells.{One}
use Rattle.rv_flips.specs.Moves.{Finishes}
use Rattle.flip_words.specs.Placed.{WindowPoints, Excepted}
use Rattle.flip_frames.specs.Views.{Stage, IsView, at_address}
use Rattle.flip_versions.specs.Operations.{resting, AreSlots}
use Rattle.flip_guards.specs.Sources.{Upper, Small}
use Rattle.flip_guards.specs.Fetching.{in_slots}
use Rattle.flip_guards.proofs.FetchLaws.{triples_give, constants_give}
use Rattle.flip_io.proofs.EndLaw.{value_ends}
use Rattle.flip_copies.specs.Copies.{CanCopy, Compatible, copied}
use Rattle.flip_copies.proofs.CopyLaws.{copy_lists_run, goals_are_set}
use Rattle.flip_copies.proofs.NarrowingLaws.{narrowed, narrowed_holds}
use Rattle.flip_jumps.specs.Places.{Goes}
use Rattle.flip_jumps.proofs.PlaceLaws.{goes_then, runs_go, places_end}
use Rattle.flip_texts.specs.Texts.{IsText}
use Rattle.flip_texts.proofs.TextLaws.{text_survives}
use Rattle.flip_branches.proofs.TestLaws.{goes_within}
use Rattle.flip_flow_examples.specs.Countdown.{added, first_values, countdown_words, CountdownHolds}
use Rattle.flip_flow_examples.proofs.SlotFacts.{different, constant_in_time, constant_alone}
use Rattle.flip_flow_examples.proofs.CountdownWords.{are_words}
use Rattle.flip_flow_examples.proofs.CountdownPlaces.{start_placed, first_placed, exit_placed}
use Rattle.flip_flow_examples.proofs.CountdownTurn.{begin, carried, both, head, done, one_value, main_slots, forget_goes, turn_goes, last_goes, next_goes}

-- the sum after the loop, which begins with the counter at k + 1 and the sum at s
total : ℕ → ℕ → ℕ
total zero s = plus64 s 1
total (suc k) s = total k (plus64 s (suc (suc k)))

-- from the begin of the loop to its end
loop_goes : (input : List ℕ) (k s : ℕ) → suc k < 2 ^ 64 → Goes countdown_words (resting (head input (suc k) s) One) 65644 (197 * k + 124) (resting (done input (total k s)) One) 66284
unfolding total
loop_goes input zero s small = goes_within (197 * 0 + 124) (omega arith) (goes_then (turn_goes input 0 s small) (last_goes input s))
loop_goes input (suc k) s small =
    let fewer : suc k < 2 ^ 64 = omega arith in
    goes_within (197 * suc k + 124) (omega arith) (goes_then (turn_goes input (suc k) s small) (goes_then (next_goes input k s) (loop_goes input k (plus64 s (suc (suc k))) fewer)))

-- the values at the begin
first_fit : Compatible first_values
first_fit = (different 0, constant_in_time 0 (Small (pos 3) ∷ []), (constant_alone 0 3 1 (Small (pos 0) ∷ []) (inr (lit≤ tt)), tt), (different 3, constant_in_time 3 (Small (pos 0) ∷ []), tt, tt))

first_can : (input : List ℕ) → CanCopy (begin input) first_values (both 3 0)
first_can input =
    let g = begin input in
    (constants_give g (Small (pos 3) ∷ []) 3 refl, main_slots g 0 refl refl (lit≤ tt), (constants_give g (Small (pos 0) ∷ []) 0 refl, main_slots g 3 refl refl (lit≤ tt), tt))

first_goes : (input : List ℕ) → Goes countdown_words (resting (begin input) One) 65548 24 (resting (head input 3 0) One) 65644
first_goes input =
    let g = begin input in
    let h = copied (begin input) first_values (both 3 0) in
    let set = goals_are_set (begin input) first_values (both 3 0) first_fit in
    goes_then (runs_go 65548 first_placed (copy_lists_run countdown_words g first_values (both 3 0) (first_can input) first_fit))
    (forget_goes h (head input 3 0) 65644 (lit≤ tt) (narrowed (λ k. true) h carried (both 3 0) (set.0, (set.1.0, tt))) (λ q w e. cc))

-- the end
done_slots : (g : Stage) → g.base ≡ 512 → g.size ≡ 4240 → AreSlots g added
done_slots g base size = main_slots g 9 base size (lit≤ tt)

exit_finishes : (input : List ℕ) → IsView (resting (done input 6) One) → Finishes countdown_words (Excepted WindowPoints countdown_words) (at_address (resting (done input 6) One) 66284) 13 [] 6
exit_finishes input is =
    let g = done input 6 in
    let held = narrowed_holds (λ k. true) (begin input) (record { slots = added; id = 0 } ∷ []) (one_value 6) (different 9, tt, tt) in
    value_ends countdown_words g (in_slots added) 6 66284 is (triples_give g added (Some 6) (done_slots g refl refl) held.0) exit_placed

is_text : IsText countdown_words [] 4240 512 (Upper (pos 65537) ∷ [])
is_text = record { placed = start_placed; address = refl; bytes = All-nil (λ b. b < 2 ^ 8); size = lit≤ tt; frame = lit≤ tt }

begins : (input : List ℕ) → IsView (resting (begin input) One)
begins input = record { tag = tt; places = λ q w e. cc; size = lit≤ tt; base = lit≤ tt }

goes : (input : List ℕ) → Goes countdown_words (resting (begin input) One) 65548 542 (resting (done input 6) One) 66284
unfolding total
goes input = goes_then (first_goes input) (loop_goes input 2 0 (lit< tt))

pub countdown_holds : CountdownHolds
countdown_holds =
    record {
      words = are_words;
      survives = λ input points all.
          text_survives countdown_words [] input 4240 512 (Upper (pos 65537) ∷ []) points 555 558 [] 6 is_text (places_end (begins input) (goes input) (exit_finishes input)) all (lit≤ tt);
    }
