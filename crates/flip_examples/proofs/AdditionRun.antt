-- The text does what it shall.
use Rattle.std.proofs.Common.{ℕ, ◌+◌, ◌*◌, ◌≤◌, [], ◌∷◌, Some, refl, sym, ◌∙◌, arith, append-nil, lit≤}
use Rattle.rv_inst.specs.declared.instruction.Form.TheVariants.{ADD}
use Rattle.rv_model.specs.Text.{text_base}
use Rattle.rv_model.proofs.TextLemmas.{stands_from}
use Rattle.rv_flips.specs.Cells.{One}
use Rattle.rv_flips.specs.Assertion.{with_register}
use Rattle.flip_words.specs.Placed.{WindowPoints, Excepted, IsPlaced, Carries}
use Rattle.flip_words.proofs.CarryLemmas.{joined}
use Rattle.flip_frames.specs.Views.{IsView, Runs, with_value}
use Rattle.flip_frames.specs.Fetching.{HoldsTriple}
use Rattle.flip_frames.proofs.Fetches.{fetch_slots_carries}
use Rattle.flip_versions.specs.Operations.{resting, defined, operation_words, IsSlot, AreSlots, HoldsVersions, Leaves, IsApart, IsOther}
use Rattle.flip_versions.proofs.VersionLaws.{operation_runs, others_stay}
use Rattle.flip_examples.specs.Addition.{first_operand, second_operand, sum_slots, addition_code, addition_words, addition_stage, before_addition, after_addition, AdditionHolds}
use Rattle.flip_examples.proofs.AdditionWords.{are_words}

first_holds : HoldsVersions addition_stage first_operand (Some 7)
unfolding with_register
first_holds = record { one = refl; two = refl; three = refl }

second_holds : HoldsVersions addition_stage second_operand (Some 8)
unfolding with_register
second_holds = record { one = refl; two = refl; three = refl }

slot : (n : ℕ) → n ≤ 400 → IsSlot addition_stage n
slot n small = record { within = omega arith; small = omega arith }

first_slots : AreSlots addition_stage first_operand
first_slots = record { one = slot 0 (lit≤ tt); two = slot 1 (lit≤ tt); three = slot 2 (lit≤ tt) }

second_slots : AreSlots addition_stage second_operand
second_slots = record { one = slot 3 (lit≤ tt); two = slot 4 (lit≤ tt); three = slot 5 (lit≤ tt) }

sum_are_slots : AreSlots addition_stage sum_slots
sum_are_slots = record { one = slot 6 (lit≤ tt); two = slot 7 (lit≤ tt); three = slot 300 (lit≤ tt) }

adds : Leaves (ADD 5 5 6 ∷ []) (Some 7) (Some 8) (Some 15)
unfolding with_value
adds = refl

first_apart : IsApart sum_slots first_operand
first_apart = record { two_one = omega arith; three_one = omega arith; three_two = omega arith }

second_apart : IsApart sum_slots second_operand
second_apart = record { two_one = omega arith; three_one = omega arith; three_two = omega arith }

is_other : (n : ℕ) → n ≤ 5 → IsOther sum_slots n
is_other n small = record { one = omega arith; two = omega arith; three = omega arith }

is_view : IsView (resting addition_stage One)
is_view = record { tag = tt; places = λ q w e. cc; size = lit≤ tt; base = lit≤ tt }

still_view : IsView (resting (defined addition_stage sum_slots (Some 15)) One)
still_view = record { tag = tt; places = λ q w e. cc; size = lit≤ tt; base = lit≤ tt }

still_holds : HoldsTriple (resting (defined addition_stage sum_slots (Some 15)) One) first_operand 7
still_holds =
    record {
      one = others_stay addition_stage sum_slots (Some 15) 0 (is_other 0 (lit≤ tt)) ∙ first_holds.one;
      two = others_stay addition_stage sum_slots (Some 15) 1 (is_other 1 (lit≤ tt)) ∙ first_holds.two;
      three = others_stay addition_stage sum_slots (Some 15) 2 (is_other 2 (lit≤ tt)) ∙ first_holds.three;
      first = lit≤ tt;
      second = lit≤ tt;
      third = lit≤ tt;
    }

stands : IsPlaced addition_words text_base addition_code
stands = record { stands = stands_from addition_words 0 addition_words [] addition_code (sym (append-nil addition_words)) are_words; room = lit≤ tt; short = lit≤ tt }

carries : Carries addition_words (Excepted WindowPoints addition_words) addition_code before_addition after_addition
carries =
    let sum : Runs addition_words (operation_words (ADD 5 5 6 ∷ []) first_operand second_operand sum_slots) (resting addition_stage One) (resting (defined addition_stage sum_slots (Some 15)) One) =
    operation_runs addition_words (ADD 5 5 6 ∷ []) addition_stage first_operand second_operand sum_slots (Some 7) (Some 8) (Some 15) refl adds first_slots second_slots sum_are_slots first_holds second_holds first_apart second_apart in
    joined (sum.carries is_view text_base)
    (fetch_slots_carries addition_words (resting (defined addition_stage sum_slots (Some 15)) One) first_operand 7 (text_base + 4 * 35) still_view still_holds)

pub addition_holds : AdditionHolds
addition_holds = record { words = are_words; placed = stands; moves = carries.moves stands }
