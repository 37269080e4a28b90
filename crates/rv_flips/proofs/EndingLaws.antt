-- The words that end a program with a status: `addi x10,x0,N`, `addi x17,x0,93`, `ecall`.
use Rattle.std.proofs.Common.{◌≡◌, ℕ, zero, suc, ◌+◌, ◌%◌, ◌*◌, ◌<◌, ◌^◌, List, [], ◌∷◌, length, refl, sym, ◌∙◌, ap, subst, arith, append-nil, lit<, lit≤, get_or}
use Rattle.std.specs.Prelude.{ℤ, pos, All}
use Rattle.rv_inst.specs.declared.instruction.Form.{Form}
use Rattle.rv_inst.specs.declared.instruction.Form.TheVariants.{ADDI, ECALL}
use Rattle.rv_inst.specs.Window.{IsWindowPoint}
use Rattle.rv_model.specs.Step.{bits64}
use Rattle.rv_model.specs.Text.{text_base, StandsAll, WordsOf}
use Rattle.rv_model.specs.Start.{program_image}
use Rattle.rv_model.proofs.TextLemmas.{stands_from}
use Rattle.rv_flips.specs.Cells.{Has, Sure}
use Rattle.rv_flips.specs.Assertion.{Assertion, with_register, after_write}
use Rattle.rv_flips.specs.Moves.{Finishes}
use Rattle.rv_flips.specs.Ending.{ending_words, ending_points}
use Rattle.rv_flips.specs.Survives.{IsListed, Survives}
use Rattle.rv_flips.proofs.CellLemmas.{with_register-same, with_register-other}
use Rattle.rv_flips.proofs.MoveLemmas.{moves_then, moves_finish}
use Rattle.rv_flips.proofs.WordLaws.{exit_finishes}
use Rattle.rv_flips.proofs.ComputingLaw.{constant_moves}
use Rattle.rv_flips.specs.Known.{Sures}
use Rattle.rv_flips.proofs.KnownRegisters.{covered, sures_sure}
use Rattle.rv_flips.proofs.StartLaws.{start_assertion, start_cells-zero, sures-start_cells, survives}
use Rattle.rv_flips.proofs.Windows.{window_straight}

-- from any assertion that has 0 in x0, and nothing else for sure
pub ending_finishes : (words : List ℕ) (listed : ℕ → ℕ → Type 0) (c : Assertion) (imm : ℤ) → c.regs 0 ≡ Has Sure 0 → Sures c.regs [] → c.pc + 12 < 2 ^ 64 →
    StandsAll words c.pc (ending_words imm) → listed (c.pc + 4) 10 → listed (c.pc + 4 + 4) 10 → listed (c.pc + 4 + 4) 17 → Finishes words listed c 3 c.out (bits64 imm % 256)
ending_finishes words listed c imm x0 sures room stands l1 l2 l3 =
    let d = after_write c 10 (Has Sure (bits64 imm)) (c.pc + 4) in
    let e = after_write (after_write c 10 (Has Sure (bits64 imm)) (c.pc + 4)) 17 (Has Sure 93) (c.pc + 4 + 4) in
    let sures1 = sures_sure c.regs 10 (bits64 imm) [] sures in
    let sures2 = sures_sure (with_register c.regs 10 (Has Sure (bits64 imm))) 17 93 (10 ∷ []) sures1 in
    let zero0 : with_register c.regs 10 (Has Sure (bits64 imm)) 0 ≡ Has Sure 0 = with_register-other c.regs 10 0 (Has Sure (bits64 imm)) (omega arith) ∙ x0 in
    let number : e.regs 17 ≡ Has Sure 93 = with_register-same (with_register c.regs 10 (Has Sure (bits64 imm))) 17 (Has Sure 93) in
    let status : e.regs 10 ≡ Has Sure (bits64 imm) =
    with_register-other (with_register c.regs 10 (Has Sure (bits64 imm))) 17 10 (Has Sure 93) (omega arith) ∙ with_register-same c.regs 10 (Has Sure (bits64 imm)) in
    let one = constant_moves words listed c 10 imm Sure x0 (omega arith) (omega arith) stands.0 (covered listed c [] sures tt) in
    let two = constant_moves words listed d 17 (pos 93) Sure zero0 (omega arith) (omega arith) stands.1.0 (covered listed d (10 ∷ []) sures1 (l1, tt)) in
    let three = exit_finishes words listed e (bits64 imm) number status stands.1.1.0 (covered listed e (17 ∷ 10 ∷ []) sures2 (l3, (l2, tt))) in
    moves_finish words listed c e 2 1 c.out (bits64 imm % 256) (moves_then words listed c d e 1 1 one two) three

length_of : (ws : List ℕ) (is : List Form) → WordsOf ws is → length ws ≡ length is
length_of [] [] h = refl
length_of (w ∷ ws) (i ∷ is) h = ap suc (length_of ws is h.1)
length_of [] (i ∷ is) h = absurd h
length_of (w ∷ ws) [] h = absurd h

-- a program of these words alone survives
pub ending_survives : (words init : List ℕ) (extra : ℕ) (input : List ℕ) (imm : ℤ) → All (λ b. b < 2 ^ 8) init → WordsOf words (ending_words imm) → Survives (program_image words init extra) ending_points input [] (bits64 imm % 256) (2 * (length words + 1))
ending_survives words init extra input imm are_bytes h =
    let stands : StandsAll words text_base (ending_words imm) = stands_from words 0 words [] (ending_words imm) (sym (append-nil words)) h in
    survives words init extra input ending_points 3 (2 * (length words + 1)) [] (bits64 imm % 256) (omega (arith, length_of words (ending_words imm) h)) are_bytes
    (ending_finishes words (IsListed ending_points) (start_assertion init input extra) imm start_cells-zero sures-start_cells (lit< tt) stands (0, (65540, 10), lit< tt, refl, (refl, refl)) (1, (65544, 10), lit< tt, refl, (refl, refl)) (2, (65544, 17), lit< tt, refl, (refl, refl)))

-- each of them is a window point of the text
pub ending_windows : (words : List ℕ) (imm : ℤ) → WordsOf words (ending_words imm) → (p r : ℕ) → IsListed ending_points p r → IsWindowPoint words text_base p r
ending_windows words imm h p r (k, q, small, is, same) = by_index k small is (stands_from words 0 words [] (ending_words imm) (sym (append-nil words)) h)
  where
    at : (p' r' : ℕ) → (p', r') ≡ q → IsWindowPoint words text_base p' r' → IsWindowPoint words text_base p r
    at p' r' e window =
        let P : ℕ × ℕ → Type 0 = λ x. IsWindowPoint words text_base (x.0) (x.1) in
        let pair : (p', r') ≡ (p, r) = e ∙ (λ i. (same.0 i, same.1 i)) in
        subst P pair window

    by_index : (k : ℕ) → k < 3 → get_or ending_points k q ≡ q → StandsAll words text_base (ending_words imm) → IsWindowPoint words text_base p r
    by_index zero small is stands =
        at 65540 10 is (window_straight words text_base 10 (ADDI 10 0 imm) (ADDI 17 0 (pos 93) ∷ []) ECALL 0 stands (refl, (refl, tt)) (lit≤ tt) (lit≤ tt) (refl, tt) refl refl refl refl)
    by_index (suc zero) small is stands =
        at 65544 10 is (window_straight words text_base 10 (ADDI 10 0 imm) (ADDI 17 0 (pos 93) ∷ []) ECALL 1 stands (refl, (refl, tt)) (lit≤ tt) (lit≤ tt) (refl, tt) refl refl refl refl)
    by_index (suc (suc zero)) small is stands =
        at 65544 17 is (window_straight words 65540 17 (ADDI 17 0 (pos 93)) [] ECALL 0 stands.1 (refl, tt) (lit≤ tt) (lit≤ tt) tt refl refl refl refl)
    by_index (suc (suc (suc k))) small is stands = absurd (omega arith)
