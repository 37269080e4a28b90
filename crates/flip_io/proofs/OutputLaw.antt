-- A byte is put out.
use Rattle.std.proofs.Common.{◌≡◌, ℕ, ◌+◌, ◌%◌, ◌<◌, ◌≤◌, List, [], ◌∷◌, ◌++◌, Some, refl, sym, subst, arith, lit<, lit≤, append_assoc}
use Rattle.std.specs.Prelude.{pos}
use Rattle.rv_inst.specs.declared.instruction.Form.{Form}
use Rattle.rv_inst.specs.declared.instruction.Form.TheVariants.{ADDI, SB, ECALL}
use Rattle.rv_model.specs.Text.{data_base}
use Rattle.rv_flips.specs.Cells.{One, Sure}
use Rattle.rv_flips.specs.Assertion.{IsByte, Assertion, KnowsLess}
use Rattle.flip_frames.specs.Views.{Stage, Runs, view_cell, at_address, no_values}
use Rattle.flip_frames.proofs.ViewLemmas.{view_cell-zero}
use Rattle.flip_versions.specs.Operations.{resting}
use Rattle.flip_guards.specs.Guards.{guard_at, guarded}
use Rattle.flip_guards.specs.Fetching.{Operand, IsGiven, bring_three, check_words}
use Rattle.flip_guards.proofs.Lines.{Line, line_start, line_forget}
use Rattle.flip_guards.proofs.LineWords.{line_upper, line_constant, line_check}
use Rattle.flip_guards.proofs.FetchLaws.{three_kept, keeping_six, keeping_seven, free_scratch}
use Rattle.flip_guards.proofs.GuardRuns.{brings_run}
use Rattle.flip_bytes.specs.Bytes.{with_bytes}
use Rattle.flip_bytes.proofs.ByteLines.{bytes_stored, line_store_bytes, line_write}
use Rattle.flip_io.specs.ByteCell.{cell_address, MayCall}
use Rattle.flip_io.specs.Output.{put_words, with_output}
use Rattle.flip_io.proofs.CellLaws.{call_free, cell_first, cell_slots, cell_bytes, cell_forgotten}

-- the words after the versions came in
abbrev put_rest : List Form
put_rest = check_words 5 6 7 ++ cell_address 6 ∷ SB 6 5 (pos 0) ∷ ADDI 10 0 (pos 1) ∷ cell_address 11 ∷ ADDI 12 0 (pos 1) ∷ ADDI 17 0 (pos 64) ∷ ECALL ∷ []

-- what is known all along once the byte lies in its cell, and once it is out
abbrev with_cell : Stage → ℕ → Assertion
with_cell g v = bytes_stored (at_address (resting g One) 0) 0 1 (Some v)

abbrev with_byte_out : Stage → ℕ → Assertion
with_byte_out g v = record (with_cell g v) { out = g.out ++ v % 256 ∷ [] }

-- the cell has the lowest byte
cell_has : (g : Stage) (v : ℕ) → (with_cell g v).bytes 0 ≡ IsByte (v % 256)
unfolding with_bytes
cell_has g v = refl

put_line : (words : List ℕ) (g : Stage) (v : ℕ) → MayCall g → Line words put_rest (guarded g (three_kept 5 6 7 (Some v) [])) 9 (record { around = with_byte_out g v; kept = [] })
put_line words g v may =
    let free = call_free g may in
    let x0 = view_cell-zero g One no_values in
    let within : 0 + 1 ≤ g.size = omega (arith, may.cell) in
    let some : 0 < g.size = omega (arith, may.cell) in
    let l2 = line_check 5 6 7 v refl refl refl refl (lit< tt) refl (line_start words put_rest (guarded g (three_kept 5 6 7 (Some v) []))) in
    let l3 = line_upper 6 (pos 65536) Sure refl (lit< tt) refl (line_forget 7 (free_scratch g 7 refl) l2) in
    let l4 = line_store_bytes (SB 6 5 (pos 0)) 0 (Some v) refl refl (λ q. record { base = data_base; right = refl; leads = refl; within = within }) refl refl l3 in
    let l5 = line_constant 10 (pos 1) Sure refl (lit< tt) x0 refl (line_forget 6 (free_scratch g 6 refl) (line_forget 5 (free_scratch g 5 refl) l4)) in
    let l6 = line_upper 11 (pos 65536) Sure refl (lit< tt) refl l5 in
    let l7 = line_constant 12 (pos 1) Sure refl (lit< tt) x0 refl l6 in
    let l8 = line_constant 17 (pos 64) Sure refl (lit< tt) x0 refl l7 in
    let l9 = line_write 0 (v % 256) One refl (λ q. record { calls = refl; of_file = refl; address = refl; count = refl; within = some }) (cell_has g v) refl l8 in
    line_forget 10 free.0 (line_forget 11 free.1 (line_forget 12 free.2 (line_forget 17 free.3 l9)))

output_less : (g : Stage) (v q : ℕ) → KnowsLess (guard_at (record { around = with_byte_out g v; kept = [] }) q) (at_address (resting (with_output g (v % 256)) One) q)
unfolding view_cell
output_less g v q =
    record {
      pc = refl;
      regs = λ r damage x h. h;
      slots = λ k. cell_slots g.slots g.slots 0 1 k (lit≤ tt) (cell_first g.slots k);
      bytes = λ o. cell_bytes g.bytes g.bytes 0 1 o (Some v) (lit≤ tt) (cell_forgotten g.bytes o);
      size = refl;
      input = refl;
      out = refl;
    }

pub byte_is_output : (words : List ℕ) (g : Stage) (x : Operand) (v : ℕ) → IsGiven g x (Some v) → MayCall g → Runs words (put_words x) (resting g One) (resting (with_output g (v % 256)) One)
byte_is_output words g x v gives may =
    let P : List Form → Type 0 = λ code. Runs words code (resting g One) (resting (with_output g (v % 256)) One) in
    subst P (regrouped x)
    (brings_run 5 6 7 x (Some v) (resting (with_output g (v % 256)) One) (omega arith) keeping_six keeping_seven gives (output_less g v)
    (λ is. record { tag = tt; places = is.places; size = is.size; base = is.base }) (put_line words g v may))
  where
    regrouped : (x : Operand) → bring_three 5 6 7 x ++ put_rest ≡ put_words x
    regrouped x = sym (append_assoc (bring_three 5 6 7 x) (check_words 5 6 7) (cell_address 6 ∷ SB 6 5 (pos 0) ∷ ADDI 10 0 (pos 1) ∷ cell_address 11 ∷ ADDI 12 0 (pos 1) ∷ ADDI 17 0 (pos 64) ∷ ECALL ∷ []))
