-- A mask of zeros.
use Rattle.std.proofs.Common.{◌≡◌, ℕ, ◌+◌, ◌<◌, true, List, [], ◌∷◌, Some, refl, ◌∙◌, ap, subst, arith, bit_and}
use Rattle.std.specs.Int.Bits.{and_zero_r}
use Rattle.rv_inst.specs.declared.instruction.Form.TheVariants.{AND}
use Rattle.rv_inst.specs.Word.{Fits}
use Rattle.rv_model.specs.State.{MachineState, register, plus64}
use Rattle.rv_model.specs.Step.{put, step}
use Rattle.rv_model.proofs.ActLemmas.{act-registers}
use Rattle.rv_model.proofs.Widths.{and_wide}
use Rattle.rv_flips.specs.Cells.{Damage, Tag, Cell, Has, Holds}
use Rattle.rv_flips.specs.Assertion.{Assertion, Meets, after_write}
use Rattle.rv_flips.specs.Computing.{IsUncoded}
use Rattle.rv_flips.specs.Moves.{Covered, Does}
use Rattle.rv_flips.proofs.ComputingLaw.{result_holds}
use Rattle.rv_flips.proofs.WordLaws.{does_put, step_here}
use Rattle.flip_words.specs.Placed.{WindowPoints, Excepted, IsPlaced, Carries}
use Rattle.flip_words.proofs.CarryLemmas.{carries_word, carries_less}
use Rattle.flip_words.proofs.LessLemmas.{says_again, knows_same}
use Rattle.flip_frames.specs.Views.{View, Runs, is_scratch, version, view_cell, at_address, with_scratch}
use Rattle.flip_frames.proofs.RunLaws.{covered_view, version_uncoded}
use Rattle.flip_frames.proofs.ViewLemmas.{scratch_above, view_cell-scratch, scratch_less, scratch_kept}

pub zero_masks : (words : List ℕ) (listed : ℕ → ℕ → Type 0) (c : Assertion) (d a b : ℕ) (tag : Tag) → c.regs b ≡ Has tag 0 → IsUncoded tag → 0 < d → Covered listed c → Carries words listed (AND d a b ∷ []) c (after_write c d (Has tag 0) (c.pc + 4))
zero_masks words listed c d a b tag zero uncoded nonzero covered = carries_word words listed (AND d a b) c (after_write c d (Has tag 0) (c.pc + 4)) covered refl does
  where
    does : IsPlaced words c.pc (AND d a b ∷ []) → (damage : Damage) (s : MachineState) → Meets words c damage s → Does words damage s (after_write c d (Has tag 0) (c.pc + 4))
    does placed damage s meets =
        let fits : Fits (AND d a b) = placed.stands.0.is_word.0 in
        let x = register s a in
        let y = register s b in
        let P : Cell → Type 0 = λ cell. Holds cell damage (register s b) in
        let held : Holds (Has tag 0) damage (register s b) = subst P zero (meets.regs b) in
        let Q : ℕ → Type 0 = λ n. Holds (Has tag n) damage (bit_and (register s a) (register s b)) in
        let masked : Holds (Has tag 0) damage (bit_and (register s a) (register s b)) = subst Q (and_zero_r x) (result_holds tag (λ p q. bit_and (register s a) q) 0 0 y y damage uncoded held held) in
        let at : plus64 c.pc 4 ≡ c.pc + 4 = omega (arith, placed.room) in
        let goes : step s ≡ put d (bit_and (register s a) (register s b)) s = step_here words c damage s (AND d a b) meets placed.stands.0 ∙ act-registers (AND d a b) s refl in
        does_put words c damage s d (bit_and x y) (c.pc + 4) (Has tag 0) meets nonzero fits.0 (and_wide x y (meets.wide a)) masked at goes

-- the same of a view
pub mask_runs : (words : List ℕ) (v : View) (d a b : ℕ) → is_scratch d ≡ true → is_scratch b ≡ true → v.file b ≡ Some 0 → Runs words (AND d a b ∷ []) v (with_scratch v d (Some 0))
mask_runs words v d a b scratch other zero =
    record {
      carries = λ is p.
          let above : 4 < d = scratch_above d scratch in
          let nonzero : 0 < d = omega arith in
          let holds : view_cell v.stage v.tag v.file b ≡ Has v.tag 0 = view_cell-scratch v.stage v.tag v.file b other ∙ ap (version v.tag) zero in
          carries_less (knows_same (at_address v p)) (zero_masks words (Excepted WindowPoints words) (at_address v p) d a b v.tag holds (version_uncoded v.tag is.tag) nonzero (covered_view words v p is))
          (scratch_less v d (Some 0) (Has v.tag 0) (p + 4) (p + 4) scratch (says_again (Has v.tag 0)) refl);
      kept = scratch_kept v d (Some 0);
    }
