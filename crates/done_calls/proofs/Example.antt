-- The laws apply to the example.
use Rattle.std.proofs.Common.{◌≡◌, ◌≢◌, ◌≤◌, ◌<◌, ◌+◌, ◌*◌, ◌/◌, ◌%◌, ◌^◌, ℕ, zero, suc, List, [], ◌∷◌, ◌++◌, Option, Some, None, inl, inr, refl, sym, ap, ◌∙◌, arith, append-nil, lit≤, slice_index_or}
use Rattle.std.specs.Prelude.{pos, unwrap_or}
use Rattle.std.proofs.lemmas.Bool.{cases_lt}
use Rattle.ir_model.specs.Values.{Value, Integer, Poison}
use Rattle.ir_model.specs.Programs.{Local, function_at, block_in}
use Rattle.ir_model.specs.States.{State, Continues, entered}
use Rattle.ir_model.specs.Steps.{act, step}
use Rattle.rv_inst.specs.declared.instruction.Form.{Form}
use Rattle.rv_model.specs.Text.{text_base}
use Rattle.rv_model.proofs.TextLemmas.{stands_from}
use Rattle.flip_words.specs.Placed.{IsPlaced}
use Rattle.flip_words.proofs.CarryLemmas.{placed_front, placed_back}
use Rattle.flip_versions.specs.Operations.{AreDifferent, IsOther}
use Rattle.flip_versions.proofs.VersionLaws.{defined_hold, others_stay}
use Rattle.flip_jumps.proofs.PlaceLaws.{goes_then}
use Rattle.flip_guards.specs.Sources.{Part, Plus, Shifted, part_value, made}
use Rattle.flip_copies.specs.Copies.{IsClear}
use Rattle.flip_calls.specs.Calls.{entry_words}
use Rattle.kept_states.specs.Layouts.{FrameLayout, AreInFrame, IsGoodFrame, AreGoodCells, IsGoodLayout}
use Rattle.kept_states.specs.Kept.{word_of, KeepsThree, KeepsState}
use Rattle.kept_states.proofs.Stacks.{held_three}
use Rattle.done_operations.specs.Sources.{MakeWords}
use Rattle.done_operations.proofs.Serving.{word_small}
use Rattle.done_flow.specs.Edges.{Arrives}
use Rattle.done_calls.specs.Calls.{call_at, AtCall}
use Rattle.done_calls.specs.Returns.{IsGoodResult, AreGoodResults, return_at, after_at, AtReturn, WaitsFor}
use Rattle.done_calls.specs.Example.{small, three_from, laid, frame_by, waiting, spread, small_code, small_words, main_at, in_main, blank, with_seven, parts_by, parts_for, ACallIsDone}
use Rattle.done_calls.proofs.Calls.{calls}
use Rattle.done_calls.proofs.Returns.{returns_done}
use Rattle.done_calls.proofs.ExampleWords.{are_words}

-- ---- the layout
in_frame : (size n : ℕ) → n + 2 < size → AreInFrame size (three_from n)
in_frame size n lt = record { one = omega arith; two = omega arith; three = omega arith }

three_differ : (n : ℕ) → AreDifferent (three_from n)
three_differ n = record { one_two = λ e. omega arith; one_three = λ e. omega arith; two_three = λ e. omega arith }

three_clear : (n m : ℕ) → (n + 3 ≤ m) → IsClear (three_from n) (three_from m)
three_clear n m far =
    record {
      one = record { one = λ e. omega arith; two = λ e. omega arith; three = λ e. omega arith };
      two = record { one = λ e. omega arith; two = λ e. omega arith; three = λ e. omega arith };
      three = record { one = λ e. omega arith; two = λ e. omega arith; three = λ e. omega arith };
    }

clear_down : (n m : ℕ) → (m + 3 ≤ n) → IsClear (three_from n) (three_from m)
clear_down n m far =
    record {
      one = record { one = λ e. omega arith; two = λ e. omega arith; three = λ e. omega arith };
      two = record { one = λ e. omega arith; two = λ e. omega arith; three = λ e. omega arith };
      three = record { one = λ e. omega arith; two = λ e. omega arith; three = λ e. omega arith };
    }

three_apart : (k id other : ℕ) → id ≢ other → IsClear (three_from (k + 3 * id)) (three_from (k + 3 * other))
three_apart k id other ne = elim (cases_lt id other) [
  | inl lt ↦ three_clear (k + 3 * id) (k + 3 * other) (omega arith)
  | inr le ↦ clear_down (k + 3 * id) (k + 3 * other) (omega (arith, ne))
]

-- of at most two values
good_frame : (size n : ℕ) → n ≤ 2 → ((id : ℕ) → id < n → 16 ≤ size) → IsGoodFrame (record laid { size = size }) n
good_frame size n few large =
    record {
      inside = λ id lt. in_frame size (1 + 3 * id) (omega (arith, large id lt));
      different = λ id lt. three_differ (1 + 3 * id);
      apart = λ id other lt small ne. three_apart 1 id other ne;
      link_spared = λ id lt. spared (1 + 3 * id) (omega arith);
    }
  where
    spared : (k : ℕ) → 0 < k → IsOther (three_from k) 0
    spared k lt = record { one = λ e. omega arith; two = λ e. omega arith; three = λ e. omega arith }

good_frames : (f : ℕ) → IsGoodFrame (frame_by f) (function_at small f).values
good_frames zero = good_frame 16 2 (lit≤ tt) (λ id lt. lit≤ tt)
good_frames (suc zero) = good_frame 16 1 (lit≤ tt) (λ id lt. lit≤ tt)
good_frames (suc (suc f)) = good_frame 0 0 (lit≤ tt) (λ id lt. absurd (omega arith))

counted : (f : ℕ) → 8 * (frame_by f).size ≤ (function_at small f).frame
counted zero = lit≤ tt
counted (suc zero) = lit≤ tt
counted (suc (suc f)) = lit≤ tt

-- no block has phis
no_cells : (l : FrameLayout) (n : ℕ) → AreGoodCells l n []
no_cells l n =
    record {
      inside = λ id given. absurd given;
      different = λ id given. absurd given;
      apart = λ id other given. absurd given;
      values_spared = λ id other given. absurd given;
      link_spared = λ id given. absurd given;
    }

no_phis : (f block : ℕ) → AreGoodCells (frame_by f) (function_at small f).values (block_in small f block).phis
no_phis zero zero = no_cells (frame_by 0) 2
no_phis zero (suc block) = no_cells (frame_by 0) 2
no_phis (suc zero) zero = no_cells (frame_by 1) 1
no_phis (suc zero) (suc block) = no_cells (frame_by 1) 1
no_phis (suc (suc f)) block = no_cells (frame_by (suc (suc f))) 0

linked : (f : ℕ) → f < 2 → (frame_by f).link < (frame_by f).size
linked zero lt = lit≤ tt
linked (suc zero) lt = lit≤ tt
linked (suc (suc f)) lt = absurd (omega arith)

good : IsGoodLayout small spread 8388624
good = record { frames = good_frames; cells = no_phis; links = linked; counted = counted; room = lit≤ tt; within = lit≤ tt; small = lit≤ tt }

good_result : (n : ℕ) → n ≤ 2 → IsGoodResult laid n (three_from 13)
good_result n few =
    record {
      inside = in_frame 16 13 (lit≤ tt);
      different = three_differ 13;
      apart = λ id lt. clear_down 13 (1 + 3 * id) (omega arith);
      link_spared = record { one = λ e. omega arith; two = λ e. omega arith; three = λ e. omega arith };
    }

results_good : AreGoodResults small spread waiting
results_good zero lt = good_result 2 (lit≤ tt)
results_good (suc zero) lt = good_result 1 (lit≤ tt)
results_good (suc (suc f)) lt = absurd (omega arith)

-- ---- the state before the call
first_value : (address : ℕ → ℕ) (id : ℕ) → id < 2 → KeepsThree with_seven.slots 1048562 (laid.places id) (word_of address (slice_index_or (Integer 32 7 ∷ Poison ∷ []) id Poison))
first_value address zero lt = held_three with_seven (three_from 1) (Some 7) (defined_hold blank (three_from 1) (Some 7) (three_differ 1))
first_value address (suc zero) lt =
    let clear : IsClear (three_from 1) (three_from 4) = three_clear 1 4 (lit≤ tt) in
    record {
      one = others_stay blank (three_from 1) (Some 7) 4 clear.one;
      two = others_stay blank (three_from 1) (Some 7) 5 clear.two;
      three = others_stay blank (three_from 1) (Some 7) 6 clear.three;
    }
first_value address (suc (suc id)) lt = absurd (omega arith)

kept : (address : ℕ → ℕ) → KeepsState spread address 8388624 with_seven (in_main 0 Poison)
kept address =
    record {
      stack = (first_value address, tt, refl);
      places = λ r. refl;
      data_size = refl;
      input = refl;
      out = refl;
    }

-- ---- constants are made
part_more : (xs ys : List Part) (o : Option ℕ) → made (xs ++ ys) o ≡ made ys (made xs o)
part_more [] ys o = refl
part_more (x ∷ xs) ys o = part_more xs ys (part_value x o)

number_made : (n w : ℕ) → w < 2 ^ 64 → made (parts_by n w) None ≡ Some w
number_made zero w lt = refl
number_made (suc n) w lt =
    part_more (parts_by n (w / 2048)) (Shifted (pos 11) ∷ Plus (pos (w % 2048)) ∷ []) None
    ∙ ap (made (Shifted (pos 11) ∷ Plus (pos (w % 2048)) ∷ [])) (number_made n (w / 2048) (omega arith))
    ∙ ap Some (let e : (w / 2048 * 2048 % 2 ^ 64 + w % 2048) % 2 ^ 64 ≡ w = omega arith in e)

constants_made : (address : ℕ → ℕ) → MakeWords address (parts_for address)
constants_made address v w is =
    ap (λ (o : Option ℕ). made (parts_by 5 (unwrap_or o 0)) None) is ∙ number_made 5 w (word_small address v w is)

-- ---- where the words stand
module _ (parts : Value → List Part) where
  abbrev calling_words : List Form
  calling_words = call_at laid laid parts (Local 0 ∷ []) (pos 88)

  abbrev after_words : List Form
  after_words = after_at laid laid (three_from 13) (Some 1)

  abbrev giving_words : List Form
  giving_words = return_at laid parts (three_from 13) (Some (Local 0))

  whole : IsPlaced small_words text_base (small_code parts)
  whole =
      record { stands = stands_from small_words 0 small_words [] (small_code parts) (sym (append-nil small_words)) (are_words parts); room = lit≤ tt; short = lit≤ tt }

  first : IsPlaced small_words text_base calling_words
  first = placed_front small_words text_base calling_words (after_words ++ (entry_words 0 ++ giving_words)) whole

  later : IsPlaced small_words (text_base + 88) (after_words ++ (entry_words 0 ++ giving_words))
  later = placed_back small_words text_base calling_words (after_words ++ (entry_words 0 ++ giving_words)) whole

  second : IsPlaced small_words (text_base + 88) after_words
  second = placed_front small_words (text_base + 88) after_words (entry_words 0 ++ giving_words) later

  function : IsPlaced small_words (text_base + 172) (entry_words 0 ++ giving_words)
  function = placed_back small_words (text_base + 88) after_words (entry_words 0 ++ giving_words) later

  third : IsPlaced small_words (text_base + 172) (entry_words 0)
  third = placed_front small_words (text_base + 172) (entry_words 0) giving_words function

  fourth : IsPlaced small_words (text_base + 184) giving_words
  fourth = placed_back small_words (text_base + 172) (entry_words 0) giving_words function

-- ---- the two steps
abbrev called : State
called = record (in_main 0 Poison) { stack = entered small 1 (Integer 32 7 ∷ []) ∷ main_at 0 Poison ∷ [] }

called_state : step small (in_main 0 Poison) ≡ Continues called
unfolding step act
called_state = refl

given_back : step small called ≡ Continues (in_main 1 (Integer 32 7))
unfolding step act
given_back = refl

at_call : AtCall small (in_main 0 Poison) 1 (Some 1) (Local 0 ∷ []) (main_at 0 Poison) []
at_call = record { stack = refl; next = refl; function_there = lit≤ tt; there = (lit≤ tt, tt); few = lit≤ tt; values = (refl, tt) }

at_return : AtReturn small called (Some (Local 0)) (entered small 1 (Integer 32 7 ∷ [])) (main_at 0 Poison) []
at_return = record { stack = refl; next = refl; there = lit≤ tt; values = (refl, (refl, tt)) }

waits : WaitsFor small (main_at 0 Poison) 1 (Some 1) (Local 0 ∷ [])
waits = record { next = refl; there = lit≤ tt }

pub a_call : ACallIsDone
a_call address =
    let parts : Value → List Part = parts_for address in
    let makes : MakeWords address (parts_for address) = constants_made address in
    let one : Arrives spread address 8388624 small_words with_seven called text_base 25 (text_base + 184) =
    calls small spread address 8388624 small_words parts with_seven (in_main 0 Poison) called 1 (Some 1) (Local 0 ∷ []) (main_at 0 Poison) [] text_base (pos 88) good makes
    (kept address) at_call called_state (lit≤ tt) (first parts) (third parts) refl in
    let two : Arrives spread address 8388624 small_words one.stage (in_main 1 (Integer 32 7)) (text_base + 184) 43 (text_base + 172) =
    returns_done small spread address 8388624 small_words parts waiting one.stage called (in_main 1 (Integer 32 7)) (Some (Local 0)) (Some 1) (Local 0 ∷ [])
    (entered small 1 (Integer 32 7 ∷ [])) (main_at 0 Poison) [] (text_base + 184) good results_good makes one.kept at_return waits (lit≤ tt) given_back (fourth parts) (second parts) in
    record { stage = two.stage; kept = two.kept; goes = goes_then one.goes two.goes }
