-- A program ends with a status that is computed.
use Rattle.std.proofs.Common.{◌≡◌, ℕ, ◌+◌, ◌*◌, ◌%◌, List, [], ◌∷◌, ◌++◌, length, Some, refl, subst, arith, lit<, length-append}
use Rattle.std.specs.Prelude.{pos}
use Rattle.rv_inst.specs.declared.instruction.Form.{Form}
use Rattle.rv_inst.specs.declared.instruction.Form.TheVariants.{ADDI, ECALL}
use Rattle.rv_flips.specs.Cells.{One, Sure}
use Rattle.rv_flips.specs.Moves.{Finishes}
use Rattle.rv_flips.proofs.MoveLemmas.{moves_finish}
use Rattle.flip_words.specs.Placed.{WindowPoints, Excepted, IsPlaced}
use Rattle.flip_words.proofs.CarryLemmas.{placed_front, placed_back}
use Rattle.flip_frames.specs.Views.{Stage, IsView, at_address, no_values}
use Rattle.flip_frames.proofs.ViewLemmas.{view_cell-zero}
use Rattle.flip_versions.specs.Operations.{resting}
use Rattle.flip_guards.specs.Guards.{guard_at, guarded}
use Rattle.flip_guards.specs.Fetching.{Operand, IsGiven, bring_three, check_words}
use Rattle.flip_guards.proofs.Lines.{line_start}
use Rattle.flip_guards.proofs.LineWords.{line_constant, line_check}
use Rattle.flip_guards.proofs.FetchLaws.{three_kept, keeping_six, keeping_seven, calm_stage, stage_brings}
use Rattle.flip_bytes.proofs.ByteLines.{line_ends}
use Rattle.flip_io.specs.Ending.{end_words}

abbrev end_rest : List Form
end_rest = check_words 10 6 7 ++ ADDI 17 0 (pos 93) ∷ ECALL ∷ []

end_finishes : (words : List ℕ) (g : Stage) (v p : ℕ) → IsView (resting g One) → IsPlaced words p end_rest → Finishes words (Excepted WindowPoints words) (guard_at (guarded g (three_kept 10 6 7 (Some v) [])) p) 4 g.out (v % 256)
end_finishes words g v p is placed =
    let l2 = line_check 10 6 7 v refl refl refl refl (lit< tt) refl (line_start words end_rest (guarded g (three_kept 10 6 7 (Some v) []))) in
    let l3 = line_constant 17 (pos 93) Sure refl (lit< tt) (view_cell-zero g One no_values) refl l2 in
    line_ends v (calm_stage g (three_kept 10 6 7 (Some v) []) is) p placed refl refl refl refl l3

pub value_ends : (words : List ℕ) (g : Stage) (x : Operand) (v p : ℕ) → IsView (resting g One) → IsGiven g x (Some v) → IsPlaced words p (end_words x) →
    Finishes words (Excepted WindowPoints words) (at_address (resting g One) p) (length (end_words x)) g.out (v % 256)
value_ends words g x v p is gives placed =
    let front = bring_three 10 6 7 x in
    let q = p + 4 * length (bring_three 10 6 7 x) in
    let size : length (bring_three 10 6 7 x) + 4 ≡ length (end_words x) = omega (arith, length-append (bring_three 10 6 7 x) end_rest) in
    let P : ℕ → Type 0 = λ n. Finishes words (Excepted WindowPoints words) (at_address (resting g One) p) n g.out (v % 256) in
    let brings = stage_brings words g 10 6 7 x (Some v) p is (omega arith) keeping_six keeping_seven gives in
    subst P size
    (moves_finish words (Excepted WindowPoints words) (at_address (resting g One) p) (guard_at (guarded g (three_kept 10 6 7 (Some v) [])) q) (length front) 4 g.out (v % 256) (brings.moves (placed_front words p front end_rest placed))
    (end_finishes words g v q is (placed_back words p front end_rest placed)))
