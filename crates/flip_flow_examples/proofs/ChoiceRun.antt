-- The program with a switch meets the premises of the laws.
use Rattle.std.proofs.Common.{ℕ, List, [], ◌∷◌, ◌++◌, ◌<◌, ◌^◌, Option, Some, refl, sym, append-nil, lit≤, lit<}
use Rattle.std.specs.Prelude.{pos}
use Rattle.std.proofs.lemmas.List.Elements.{All-nil}
use Rattle.rv_inst.specs.declared.instruction.Form.{Form}
use Rattle.rv_model.specs.Text.{text_base}
use Rattle.rv_model.proofs.TextLemmas.{stands_from}
use Rattle.rv_flips.specs.Cells.{One}
use Rattle.rv_flips.specs.Moves.{Finishes}
use Rattle.flip_words.specs.Placed.{WindowPoints, Excepted, IsPlaced}
use Rattle.flip_words.proofs.CarryLemmas.{placed_front, placed_back}
use Rattle.flip_frames.specs.Views.{Stage, IsView, at_address}
use Rattle.flip_versions.specs.Operations.{resting}
use Rattle.flip_guards.specs.Sources.{Upper, Small}
use Rattle.flip_guards.specs.Fetching.{in_slots, constant}
use Rattle.flip_guards.proofs.FetchLaws.{triples_give, constants_give}
use Rattle.flip_io.specs.Ending.{end_words}
use Rattle.flip_io.proofs.EndLaw.{value_ends}
use Rattle.flip_programs.specs.Programs.{start_stage}
use Rattle.flip_copies.specs.Copies.{copies_words, CanCopy, Compatible, copied}
use Rattle.flip_copies.proofs.CopyLaws.{copy_lists_run, goals_are_set}
use Rattle.flip_branches.specs.Switches.{AreCases, switch_words}
use Rattle.flip_branches.proofs.SwitchLaws.{switches_turn}
use Rattle.flip_jumps.specs.Places.{Goes}
use Rattle.flip_jumps.proofs.PlaceLaws.{goes_then, runs_go, places_end}
use Rattle.flip_texts.specs.Texts.{start_code, IsText}
use Rattle.flip_texts.proofs.TextLaws.{text_survives}
use Rattle.flip_flow_examples.specs.Slots.{slots_from}
use Rattle.flip_flow_examples.specs.Choice.{large, chosen, cases, choice_code, choice_words, ChoiceHolds}
use Rattle.flip_flow_examples.proofs.SlotFacts.{slots, different, constant_in_time}
use Rattle.flip_flow_examples.proofs.ChoiceWords.{are_words}

abbrev W : List ℕ
W = choice_words

-- where the parts stand
abbrev other_end : List Form
other_end = end_words (constant (Small (pos 1) ∷ []))

abbrev right_end : List Form
right_end = end_words (constant (Small (pos 2) ∷ []))

abbrev switching : List Form
switching = switch_words (in_slots (slots_from 0)) cases (pos 4)

whole : IsPlaced choice_words text_base choice_code
whole = record { stands = stands_from choice_words 0 choice_words [] choice_code (sym (append-nil choice_words)) are_words; room = lit≤ tt; short = lit≤ tt }

after_start : IsPlaced choice_words 65548 (copies_words chosen ++ (switching ++ (other_end ++ right_end)))
after_start = placed_back W text_base (start_code (Upper (pos 65536) ∷ [])) (copies_words chosen ++ (switching ++ (other_end ++ right_end))) whole

at_switch : IsPlaced choice_words 65608 (switching ++ (other_end ++ right_end))
at_switch = placed_back W 65548 (copies_words chosen) (switching ++ (other_end ++ right_end)) after_start

at_ends : IsPlaced choice_words 65852 (other_end ++ right_end)
at_ends = placed_back W 65608 switching (other_end ++ right_end) at_switch

at_right : IsPlaced choice_words 65880 right_end
at_right = placed_back W 65852 other_end right_end at_ends

-- the stages
abbrev begin : List ℕ → Stage
begin input = start_stage 0 [] input 24

abbrev value : ℕ → Option ℕ
value id = Some 0x100_0000_0000

abbrev held : List ℕ → Stage
held input = copied (begin input) chosen value

chosen_fit : Compatible chosen
chosen_fit = (different 0, constant_in_time 0 large, tt, tt)

chosen_can : (input : List ℕ) → CanCopy (begin input) chosen value
chosen_can input = (constants_give (begin input) large 0x100_0000_0000 refl, slots (begin input) 0 (lit≤ tt) (lit< tt), tt)

are_cases : AreCases cases
are_cases = (refl, lit< tt, (refl, lit< tt, (refl, lit< tt, tt)))

goes : (input : List ℕ) → Goes choice_words (resting (begin input) One) 65548 76 (resting (held input) One) 65880
goes input =
    let g = held input in
    let set = goals_are_set (begin input) chosen value chosen_fit in
    goes_then (runs_go 65548 (placed_front W 65548 (copies_words chosen) (switching ++ (other_end ++ right_end)) after_start) (copy_lists_run W (begin input) chosen value (chosen_can input) chosen_fit))
    (switches_turn W g (in_slots (slots_from 0)) cases (pos 4) 0x100_0000_0000 65608 (triples_give g (slots_from 0) (Some 0x100_0000_0000) (slots g 0 (lit≤ tt) (lit< tt)) set.0) (lit< tt) are_cases (placed_front W 65608 switching (other_end ++ right_end) at_switch))

is_text : IsText choice_words [] 24 0 (Upper (pos 65536) ∷ [])
is_text =
    record {
      placed = placed_front W text_base (start_code (Upper (pos 65536) ∷ [])) (copies_words chosen ++ (switching ++ (other_end ++ right_end))) whole;
      address = refl;
      bytes = All-nil (λ b. b < 2 ^ 8);
      size = lit≤ tt;
      frame = lit≤ tt;
    }

begins : (input : List ℕ) → IsView (resting (begin input) One)
begins input = record { tag = tt; places = λ q w e. cc; size = lit≤ tt; base = lit≤ tt }

ends : (input : List ℕ) → IsView (resting (held input) One) → Finishes choice_words (Excepted WindowPoints choice_words) (at_address (resting (held input) One) 65880) 7 [] 2
ends input is = value_ends W (held input) (constant (Small (pos 2) ∷ [])) 2 65880 is (constants_give (held input) (Small (pos 2) ∷ []) 2 refl) at_right

pub choice_holds : ChoiceHolds
choice_holds =
    record {
      words = are_words;
      survives = λ input points all. text_survives W [] input 24 0 (Upper (pos 65536) ∷ []) points 83 100 [] 2 is_text (places_end (begins input) (goes input) (ends input)) all (lit≤ tt);
    }
