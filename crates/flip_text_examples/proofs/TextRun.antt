-- The text survives.
use Rattle.std.proofs.Common.{◌≡◌, ◌≢◌, ℕ, zero, suc, ◌+◌, ◌-◌, ◌*◌, ◌<◌, ◌≤◌, ◌^◌, List, [], ◌∷◌, ◌++◌, length, Option, Some, refl, sym, ◌∙◌, subst, arith, append-nil, lit<, lit≤, inr}
use Rattle.std.specs.Prelude.{negsuc}
use Rattle.std.proofs.lemmas.List.Elements.{All-nil}
use Rattle.rv_inst.specs.declared.instruction.Form.{Form}
use Rattle.rv_inst.specs.declared.instruction.Form.TheVariants.{ADDI}
use Rattle.rv_model.specs.Text.{text_base}
use Rattle.rv_model.proofs.TextLemmas.{stands_from}
use Rattle.rv_flips.specs.Cells.{Tag, One, Two, Three, Free}
use Rattle.rv_flips.specs.Assertion.{AreBytes, Assertion, with_register}
use Rattle.rv_flips.specs.Moves.{Finishes}
use Rattle.rv_flips.proofs.CellLemmas.{with_register-other}
use Rattle.rv_flips.proofs.MoveLemmas.{moves_within}
use Rattle.flip_words.specs.Placed.{WindowPoints, Excepted, IsPlaced}
use Rattle.flip_words.proofs.CarryLemmas.{placed_front, placed_back}
use Rattle.flip_words.proofs.LessLemmas.{knows_same}
use Rattle.flip_frames.specs.Views.{Stage, IsView, Runs, version, with_value, at_address}
use Rattle.flip_frames.proofs.RunLaws.{runs_then}
use Rattle.flip_versions.specs.Operations.{resting, defined, IsSlot, AreSlots, HoldsVersions, Makes, IsApart, IsOther, AreDifferent}
use Rattle.flip_versions.proofs.VersionLaws.{constants_run, defined_hold, others_stay}
use Rattle.flip_guards.proofs.FetchLaws.{triples_give, constants_give}
use Rattle.flip_guards.specs.Fetching.{in_slots, constant}
use Rattle.flip_bytes.specs.Bytes.{with_bytes}
use Rattle.flip_io.specs.ByteCell.{MayCall}
use Rattle.flip_io.specs.Ending.{end_words}
use Rattle.flip_io.specs.Input.{read_value, with_input}
use Rattle.flip_io.specs.Output.{with_output}
use Rattle.flip_io.proofs.EndLaw.{value_ends}
use Rattle.flip_io.proofs.InputLaw.{byte_is_input}
use Rattle.flip_io.proofs.OutputLaw.{byte_is_output}
use Rattle.flip_blocks.specs.Blocks.{load_words, with_block, value_at}
use Rattle.flip_blocks.specs.Sizes.{OneByte, FourBytes}
use Rattle.flip_blocks.proofs.LoadLaw.{block_is_loaded}
use Rattle.flip_blocks.proofs.StoreLaw.{block_is_stored}
use Rattle.flip_select.proofs.SelectLaw.{select_runs}
use Rattle.flip_programs.specs.Programs.{start_stage}
use Rattle.flip_texts.specs.Texts.{IsWay, start_code, started_at, IsText}
use Rattle.flip_texts.proofs.TextLaws.{sequence_moves, way_survives}
use Rattle.flip_text_examples.specs.Text.{frame_parts, block_parts, letter_parts, mask_slots, loaded_slots, read_slots, chosen_slots, middle_code, text_code, text_words, TextHolds}
use Rattle.flip_text_examples.proofs.TextWords.{are_words}

-- the stages from the start on
abbrev stage0 : List ℕ → Stage
stage0 input = start_stage 4 [] input 4096

abbrev stage1 : List ℕ → Stage
stage1 input = with_block (stage0 input) 16 4 (Some 65)

abbrev stage2 : List ℕ → Stage
stage2 input = defined (stage1 input) loaded_slots (Some 65)

abbrev stage3 : List ℕ → Stage
stage3 input = with_output (stage2 input) 65

abbrev stage4 : List ℕ → Stage
stage4 input = defined (with_input (stage3 input)) read_slots (Some (read_value input))

abbrev stage5 : List ℕ → Stage
stage5 input = defined (stage4 input) mask_slots (Some (2 ^ 64 - 1))

abbrev stage6 : List ℕ → Stage
stage6 input = defined (stage5 input) chosen_slots (Some 65)

-- slots of the frame
slot : (g : Stage) (n : ℕ) → g.base ≡ 4 → g.size ≡ 4096 → n ≤ 300 → IsSlot g n
slot g n base size small = record { within = omega arith; small = omega arith }

slots : (g : Stage) (first : ℕ) → g.base ≡ 4 → g.size ≡ 4096 → first ≤ 9 → AreSlots g (record { one = first; two = first + 1; three = first + 2 })
slots g first base size small = record { one = slot g first base size (omega arith); two = slot g (first + 1) base size (omega arith); three = slot g (first + 2) base size (omega arith) }

chosen_are_slots : (g : Stage) → g.base ≡ 4 → g.size ≡ 4096 → AreSlots g chosen_slots
chosen_are_slots g base size = record { one = slot g 9 base size (lit≤ tt); two = slot g 10 base size (lit≤ tt); three = slot g 300 base size (lit≤ tt) }

different : (d : ℕ) → AreDifferent (record { one = d; two = d + 1; three = d + 2 })
different d = record { one_two = omega arith; one_three = omega arith; two_three = omega arith }

chosen_differ : AreDifferent chosen_slots
chosen_differ = record { one_two = omega arith; one_three = omega arith; two_three = omega arith }

other : (d n : ℕ) → (d + 3 ≤ n) → IsOther (record { one = d; two = d + 1; three = d + 2 }) n
other d n h = record { one = omega arith; two = omega arith; three = omega arith }

below : (d n : ℕ) → n < d → IsOther (record { one = d; two = d + 1; three = d + 2 }) n
below d n h = record { one = omega arith; two = omega arith; three = omega arith }

apart : (x : ℕ) → x ≤ 6 → IsApart chosen_slots (record { one = x; two = x + 1; three = x + 2 })
apart x h = record { two_one = omega arith; three_one = omega arith; three_two = omega arith }

may_call : (g : Stage) → g.size ≡ 4096 → ((r : ℕ) → g.places r ≡ Free) → MayCall g
may_call g size free = record { file = free 10; address = free 11; count = free 12; number = free 17; cell = omega arith }

-- the block of memory holds the letter
loads_letter : (input : List ℕ) → value_at (stage1 input) OneByte 16 ≡ Some 65
unfolding with_bytes
loads_letter input = refl

makes : Makes (ADDI 5 0 (negsuc 0) ∷ []) (Some (2 ^ 64 - 1))
unfolding with_value
makes = refl

-- what was loaded is still there after the byte cell was used
cell_apart : (g : Stage) (n : ℕ) → g.base ≡ 4 → with_register g.slots 0 Free (g.base + n) ≡ g.slots (g.base + n)
cell_apart g n base = let ne : g.base + n ≢ 0 = omega arith in with_register-other g.slots 0 (g.base + n) Free ne

loaded_holds2 : (input : List ℕ) → HoldsVersions (stage2 input) loaded_slots (Some 65)
loaded_holds2 input = defined_hold (stage1 input) loaded_slots (Some 65) (different 3)

loaded_holds5 : (input : List ℕ) → HoldsVersions (stage5 input) loaded_slots (Some 65)
loaded_holds5 input =
    let h = loaded_holds2 input in
    record { one = still 3 One (lit≤ tt) (lit< tt) h.one; two = still 4 Two (lit≤ tt) (lit< tt) h.two; three = still 5 Three (lit≤ tt) (lit< tt) h.three }
  where
    still : (n : ℕ) (tag : Tag) → 0 + 3 ≤ n → n < 6 → (stage2 input).slots ((stage2 input).base + n) ≡ version tag (Some 65) → (stage5 input).slots ((stage5 input).base + n) ≡ version tag (Some 65)
    still n tag above small h =
        others_stay (stage4 input) mask_slots (Some (2 ^ 64 - 1)) n (other 0 n above)
        ∙ others_stay (with_input (stage3 input)) read_slots (Some (read_value input)) n (below 6 n small)
        ∙ cell_apart (stage3 input) n refl ∙ cell_apart (stage2 input) n refl ∙ h

read_holds5 : (input : List ℕ) → HoldsVersions (stage5 input) read_slots (Some (read_value input))
read_holds5 input =
    let h = defined_hold (with_input (stage3 input)) read_slots (Some (read_value input)) (different 6) in
    record {
      one = others_stay (stage4 input) mask_slots (Some (2 ^ 64 - 1)) 6 (other 0 6 (lit≤ tt)) ∙ h.one;
      two = others_stay (stage4 input) mask_slots (Some (2 ^ 64 - 1)) 7 (other 0 7 (lit≤ tt)) ∙ h.two;
      three = others_stay (stage4 input) mask_slots (Some (2 ^ 64 - 1)) 8 (other 0 8 (lit≤ tt)) ∙ h.three;
    }

read_small : (input : List ℕ) → AreBytes input → read_value input < 2 ^ 64
read_small [] small = lit< tt
read_small (x ∷ xs) small = let byte : x < 2 ^ 8 = small 0 in omega arith

runs : (input : List ℕ) → AreBytes input → Runs text_words middle_code (resting (stage0 input) One) (resting (stage6 input) One)
runs input small =
    let g0 = stage0 input in
    let g1 = stage1 input in
    let g2 = stage2 input in
    let g3 = stage3 input in
    let g4 = stage4 input in
    let g5 = stage5 input in
    let P : Option ℕ → Type 0 = λ o. Runs text_words (load_words OneByte (constant block_parts) loaded_slots) (resting (stage1 input) One) (resting (defined (stage1 input) loaded_slots o) One) in
    let load = subst P (loads_letter input) (block_is_loaded text_words OneByte g1 (constant block_parts) loaded_slots 16 (constants_give g1 block_parts (0x1000_0000 + 16) refl) (lit≤ tt) (slots g1 3 refl refl (lit≤ tt))) in
    runs_then (block_is_stored text_words FourBytes g0 (constant letter_parts) (constant block_parts) (Some 65) 16 (constants_give g0 letter_parts 65 refl) (constants_give g0 block_parts (0x1000_0000 + 16) refl) (lit≤ tt))
    (runs_then load
    (runs_then (byte_is_output text_words g2 (in_slots loaded_slots) 65 (triples_give g2 loaded_slots (Some 65) (slots g2 3 refl refl (lit≤ tt)) (loaded_holds2 input)) (may_call g2 refl (λ r. refl)))
    (runs_then (byte_is_input text_words g3 read_slots (slots g3 6 refl refl (lit≤ tt)) (may_call g3 refl (λ r. refl)) (lit< tt) small)
    (runs_then (constants_run text_words (ADDI 5 0 (negsuc 0) ∷ []) g4 mask_slots (Some (2 ^ 64 - 1)) refl makes (slots g4 0 refl refl (lit≤ tt)))
    (select_runs text_words g5 mask_slots loaded_slots read_slots chosen_slots (Some (2 ^ 64 - 1)) (Some 65) (Some (read_value input)) (inr refl) (lit< tt) (read_small input small)
    (slots g5 0 refl refl (lit≤ tt)) (slots g5 3 refl refl (lit≤ tt)) (slots g5 6 refl refl (lit≤ tt)) (chosen_are_slots g5 refl refl)
    (defined_hold g4 mask_slots (Some (2 ^ 64 - 1)) (different 0)) (loaded_holds5 input) (read_holds5 input) (apart 0 (lit≤ tt)) (apart 3 (lit≤ tt)) (apart 6 (lit≤ tt)))))))

text_placed : IsPlaced text_words text_base text_code
text_placed = record { stands = stands_from text_words 0 text_words [] text_code (sym (append-nil text_words)) are_words; room = lit≤ tt; short = lit≤ tt }

abbrev last_code : List Form
last_code = end_words (in_slots chosen_slots)

is_text : IsText text_words [] 4096 4 frame_parts
is_text = record { placed = placed_front text_words text_base (start_code frame_parts) (middle_code ++ last_code) text_placed; address = refl; bytes = All-nil (λ b. b < 2 ^ 8); size = lit≤ tt; frame = lit≤ tt }

-- the text is one move and an end
abbrev known : List ℕ → ℕ → Assertion
known input zero = started_at 4 [] input 4096 (text_base + 4 * length (start_code frame_parts))
known input (suc k) = at_address (resting (stage6 input) One) (text_base + 4 * length (start_code frame_parts) + 4 * length middle_code)

view0 : (input : List ℕ) → IsView (resting (stage0 input) One)
view0 input = record { tag = tt; places = λ q w e. cc; size = lit≤ tt; base = lit≤ tt }

view6 : (input : List ℕ) → IsView (resting (stage6 input) One)
view6 input = record { tag = tt; places = λ q w e. cc; size = lit≤ tt; base = lit≤ tt }

rest_placed : IsPlaced text_words (text_base + 4 * length (start_code frame_parts)) (middle_code ++ last_code)
rest_placed = placed_back text_words text_base (start_code frame_parts) (middle_code ++ last_code) text_placed

way : (input : List ℕ) → AreBytes input → IsWay text_words (known input) 1 (length text_words)
way input small zero h =
    let p = text_base + 4 * length (start_code frame_parts) in
    moves_within text_words (Excepted WindowPoints text_words) (known input 0) (known input 1) (length middle_code) (length text_words) (lit≤ tt)
    (sequence_moves text_words middle_code (resting (stage0 input) One) (resting (stage6 input) One) p (runs input small) (view0 input) (placed_front text_words p middle_code last_code rest_placed))
way input small (suc k) h = absurd (omega arith)

ends : (input : List ℕ) → Finishes text_words (Excepted WindowPoints text_words) (known input 1) (length last_code) (65 ∷ []) 65
ends input =
    let p = text_base + 4 * length (start_code frame_parts) in
    value_ends text_words (stage6 input) (in_slots chosen_slots) 65 (p + 4 * length middle_code) (view6 input)
    (triples_give (stage6 input) chosen_slots (Some 65) (chosen_are_slots (stage6 input) refl refl) (defined_hold (stage5 input) chosen_slots (Some 65) chosen_differ))
    (placed_back text_words p middle_code last_code rest_placed)

pub text_holds : TextHolds
text_holds =
    record {
      are_words = are_words;
      survives = λ input points small all.
          way_survives text_words [] input 4096 4 frame_parts points (known input) 1 (length last_code) (65 ∷ []) 65 is_text (knows_same (known input 0)) (way input small) (ends input) all (lit≤ tt);
    }
