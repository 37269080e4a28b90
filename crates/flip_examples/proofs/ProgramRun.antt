-- The program survives, and the fetch brings its value.
use Rattle.std.proofs.Common.{◌≡◌, ℕ, ◌+◌, ◌≤◌, ◌<◌, ◌^◌, List, [], ◌∷◌, Some, None, refl, sym, ◌∙◌, arith, append-nil, lit≤, lit<}
use Rattle.std.specs.Prelude.{pos}
use Rattle.std.proofs.lemmas.List.Elements.{All-nil}
use Rattle.rv_inst.specs.declared.instruction.Form.TheVariants.{ADD, ADDI}
use Rattle.rv_model.specs.Text.{text_base}
use Rattle.rv_model.proofs.TextLemmas.{stands_from}
use Rattle.rv_flips.specs.Cells.{One, Two, Three, Free, Has, Sure}
use Rattle.rv_flips.specs.Assertion.{with_register, after_write}
use Rattle.rv_flips.specs.Fetching.{fetch_words}
use Rattle.rv_flips.specs.Known.{Sures}
use Rattle.rv_flips.proofs.KnownRegisters.{covered, sures_other}
use Rattle.flip_words.specs.Placed.{WindowPoints, Excepted, IsPlaced, Carries}
use Rattle.flip_frames.specs.Views.{Stage, Runs, with_value}
use Rattle.flip_frames.proofs.RunLaws.{runs_then}
use Rattle.flip_frames.proofs.Fetches.{fetch_carries}
use Rattle.flip_versions.specs.Operations.{resting, defined, IsSlot, AreSlots, HoldsVersions, Leaves, Makes, IsApart, IsOther, AreDifferent}
use Rattle.flip_versions.proofs.VersionLaws.{operation_runs, copies_run, constants_run, defined_hold, others_stay}
use Rattle.flip_programs.specs.Programs.{start_stage, IsProgram}
use Rattle.flip_programs.proofs.ProgramLaws.{programs_survive}
use Rattle.flip_examples.specs.Program.{constant_slots, copy_slots, unknown_slots, result_slots, middle_code, program_words, ProgramHolds}
use Rattle.flip_examples.specs.Fetch.{copies, before_fetch, fetch_text, FetchHolds}
use Rattle.flip_examples.proofs.ProgramWords.{are_program, are_fetch}

-- the stages from the start on
abbrev stage0 : List ℕ → Stage
stage0 input = start_stage 0 [] input 96

abbrev stage1 : List ℕ → Stage
stage1 input = defined (stage0 input) constant_slots (Some 7)

abbrev stage2 : List ℕ → Stage
stage2 input = defined (stage1 input) copy_slots (Some 7)

abbrev stage3 : List ℕ → Stage
stage3 input = defined (stage2 input) result_slots None

-- the first twelve slots
slot : (g : Stage) (n : ℕ) → g.base ≡ 0 → g.size ≡ 96 → n ≤ 11 → IsSlot g n
slot g n base size small = record { within = omega arith; small = omega arith }

slots : (g : Stage) (first : ℕ) → g.base ≡ 0 → g.size ≡ 96 → first ≤ 9 → AreSlots g (record { one = first; two = first + 1; three = first + 2 })
slots g first base size small = record { one = slot g first base size (omega arith); two = slot g (first + 1) base size (omega arith); three = slot g (first + 2) base size (omega arith) }

-- triples of slots one after another
apart_below : (d x : ℕ) → x + 3 ≤ d → IsApart (record { one = d; two = d + 1; three = d + 2 }) (record { one = x; two = x + 1; three = x + 2 })
apart_below d x h = record { two_one = omega arith; three_one = omega arith; three_two = omega arith }

different : (d : ℕ) → AreDifferent (record { one = d; two = d + 1; three = d + 2 })
different d = record { one_two = omega arith; one_three = omega arith; two_three = omega arith }

other : (d n : ℕ) → d + 3 ≤ n → IsOther (record { one = d; two = d + 1; three = d + 2 }) n
other d n h = record { one = omega arith; two = omega arith; three = omega arith }

makes : Makes (ADDI 5 0 (pos 7) ∷ []) (Some 7)
unfolding with_value
makes = refl

leaves : Leaves (ADD 5 5 6 ∷ []) (Some 7) None None
unfolding with_value
leaves = refl

unknown : (input : List ℕ) → HoldsVersions (stage2 input) unknown_slots None
unknown input =
    record {
      one = others_stay (stage1 input) copy_slots (Some 7) 6 (other 3 6 (lit≤ tt)) ∙ others_stay (stage0 input) constant_slots (Some 7) 6 (other 0 6 (lit≤ tt));
      two = others_stay (stage1 input) copy_slots (Some 7) 7 (other 3 7 (lit≤ tt)) ∙ others_stay (stage0 input) constant_slots (Some 7) 7 (other 0 7 (lit≤ tt));
      three = others_stay (stage1 input) copy_slots (Some 7) 8 (other 3 8 (lit≤ tt)) ∙ others_stay (stage0 input) constant_slots (Some 7) 8 (other 0 8 (lit≤ tt));
    }

runs : (input : List ℕ) → Runs program_words middle_code (resting (stage0 input) One) (resting (stage3 input) One)
runs input =
    let s0 = stage0 input in
    let s1 = stage1 input in
    let s2 = stage2 input in
    let a = slots (stage0 input) 0 refl refl (lit≤ tt) in
    runs_then (constants_run program_words (ADDI 5 0 (pos 7) ∷ []) s0 constant_slots (Some 7) refl makes a)
    (runs_then (copies_run program_words s1 constant_slots copy_slots (Some 7) (slots s1 0 refl refl (lit≤ tt)) (slots s1 3 refl refl (lit≤ tt)) (defined_hold s0 constant_slots (Some 7) (different 0)) (apart_below 3 0 (lit≤ tt)))
    (operation_runs program_words (ADD 5 5 6 ∷ []) s2 copy_slots unknown_slots result_slots (Some 7) None None refl leaves (slots s2 3 refl refl (lit≤ tt)) (slots s2 6 refl refl (lit≤ tt)) (slots s2 9 refl refl (lit≤ tt))
    (defined_hold s1 copy_slots (Some 7) (different 3)) (unknown input) (apart_below 9 3 (lit≤ tt)) (apart_below 9 6 (lit≤ tt))))

is_program : IsProgram program_words [] 96 0 (pos 65536) middle_code (pos 7)
is_program = record { are_words = are_program; short = lit≤ tt; bytes = All-nil (λ b. b < 2 ^ 8); size = lit≤ tt; address = refl; frame = lit≤ tt }

pub program_holds : ProgramHolds
program_holds =
    record { words = are_program; survives = λ input points all. programs_survive program_words [] input 96 0 (pos 65536) middle_code (pos 7) (resting (stage3 input) One) points is_program (runs input) all }

-- no register is kept for sure before the fetch, nor after its first word
none_sure : Sures (λ r. Free) []
none_sure r v e nonzero = absurd (cc)

one_unsure : (w : ℕ) → Has One 5 ≡ Has Sure w → ⊥
one_unsure w e = cc

two_unsure : (w : ℕ) → Has Two 5 ≡ Has Sure w → ⊥
two_unsure w e = cc

three_unsure : (w : ℕ) → Has Three 5 ≡ Has Sure w → ⊥
three_unsure w e = cc

copies_sure : Sures copies []
copies_sure =
    let r8 = with_register (λ r. Free) 8 (Has One 5) in
    let r9 = with_register r8 9 (Has Two 5) in
    sures_other r9 18 (Has Three 5) [] three_unsure (sures_other r8 9 (Has Two 5) [] two_unsure (sures_other (λ r. Free) 8 (Has One 5) [] one_unsure none_sure))

fetch_placed : IsPlaced fetch_text text_base (fetch_words 5 8 9 18)
fetch_placed = record { stands = stands_from fetch_text 0 fetch_text [] (fetch_words 5 8 9 18) (sym (append-nil fetch_text)) are_fetch; room = lit≤ tt; short = lit≤ tt }

fetches : Carries fetch_text (Excepted WindowPoints fetch_text) (fetch_words 5 8 9 18) before_fetch (after_write before_fetch 5 (Has Sure 5) (text_base + 12))
unfolding with_register
fetches =
    let next = after_write before_fetch 5 (Has One 5) (text_base + 4) in
    fetch_carries fetch_text before_fetch 5 8 9 18 5 (record { one = refl; two = refl; three = refl }) (lit< tt) (omega arith) (omega arith)
    (covered (Excepted WindowPoints fetch_text) before_fetch [] copies_sure tt)
    (covered (Excepted WindowPoints fetch_text) next [] (sures_other copies 5 (Has One 5) [] one_unsure copies_sure) tt)

pub fetch_holds : FetchHolds
fetch_holds = record { words = are_fetch; placed = fetch_placed; moves = fetches.moves fetch_placed }
