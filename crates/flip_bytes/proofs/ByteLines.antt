-- Bytes and calls of the environment in guarded sequences, and the end of a program.
use Rattle.std.proofs.Common.{◌≡◌, ℕ, ◌+◌, ◌*◌, ◌%◌, ◌<◌, true, List, [], ◌∷◌, ◌++◌, take, drop, Option, Some, refl, arith}
use Rattle.rv_inst.specs.declared.instruction.Form.{Form}
use Rattle.rv_inst.specs.declared.instruction.Form.TheVariants.{ECALL}
use Rattle.rv_inst.specs.declared.table.Group.TheVariants.{Loads, Stores}
use Rattle.rv_inst.specs.Forms.{kind_of, operands_of}
use Rattle.rv_inst.specs.Groups.{group_of}
use Rattle.rv_model.specs.Operations.{width, extended}
use Rattle.rv_flips.specs.Cells.{Tag, Sure, Has}
use Rattle.rv_flips.specs.Assertion.{IsByte, AreBytes, Assertion, KnowsLess}
use Rattle.rv_flips.specs.Moves.{Finishes}
use Rattle.rv_flips.proofs.MoveLemmas.{moves_finish}
use Rattle.rv_flips.proofs.WordLaws.{exit_finishes}
use Rattle.flip_words.specs.Placed.{WindowPoints, Excepted, IsPlaced}
use Rattle.flip_words.proofs.CarryLemmas.{carries_less}
use Rattle.flip_words.proofs.LessLemmas.{says_again, knows_same}
use Rattle.flip_frames.specs.Views.{version}
use Rattle.flip_guards.specs.Guards.{over, Guard, guard_at}
use Rattle.flip_guards.specs.Sources.{of_known}
use Rattle.flip_guards.proofs.Lines.{put_in, sures_of, all_in_windows, IsCalm, Line, line_word, guard_written, covered_at, piece_placed}
use Rattle.flip_bytes.specs.Bytes.{known_number, with_bytes, without_slots}
use Rattle.flip_bytes.specs.Accesses.{IsByteAddress}
use Rattle.flip_bytes.specs.Calls.{IsByteCall, after_read}
use Rattle.flip_bytes.proofs.AccessWords.{bytes_are_loaded, bytes_are_stored}
use Rattle.flip_bytes.proofs.CallWords.{byte_is_written, byte_is_read}

-- a load of bytes by a right address
pub line_load_bytes : {words : List ℕ} {code : List Form} {start γ : Guard} {k : ℕ} (form : Form) (o : ℕ) (tag : Tag) → take 1 (drop k code) ≡ form ∷ [] → group_of (kind_of form) ≡ Loads → 0 < (operands_of form).rd →
    ((q : ℕ) → IsByteAddress (guard_at γ q) (operands_of form).rs1 (operands_of form).imm o (width (kind_of form))) → all_in_windows code k (sures_of γ.kept) ≡ true → Line words code start k γ →
    Line words code start (k + 1) (record γ { kept = put_in (operands_of form).rd tag (of_known (extended (kind_of form)) (known_number γ.around.bytes o (width (kind_of form)))) γ.kept })
line_load_bytes {words = words} {γ = γ} form o tag e group nonzero there windows line =
    let value = of_known (extended (kind_of form)) (known_number γ.around.bytes o (width (kind_of form))) in
    line_word form (record γ { kept = put_in (operands_of form).rd tag value γ.kept }) e windows
    (λ q covered. carries_less (knows_same (guard_at γ q)) (bytes_are_loaded words (Excepted WindowPoints words) (guard_at γ q) form o tag group (there q) nonzero covered)
    (guard_written γ (operands_of form).rd tag value (version tag value) q (q + 4) (q + 4) (says_again (version tag value)) refl))
    (λ calm. calm) line

-- what is known all along after bytes were stored
abbrev pub bytes_stored : Assertion → ℕ → ℕ → Option ℕ → Assertion
bytes_stored c o n value = record c { slots = without_slots c.slots o n; bytes = with_bytes c.bytes o n value }

-- a store of bytes by a right address
pub line_store_bytes : {words : List ℕ} {code : List Form} {start γ : Guard} {k : ℕ} (form : Form) (o : ℕ) (value : Option ℕ) → take 1 (drop k code) ≡ form ∷ [] → group_of (kind_of form) ≡ Stores →
    ((q : ℕ) → IsByteAddress (guard_at γ q) (operands_of form).rs1 (operands_of form).imm o (width (kind_of form))) → over γ.kept γ.around.regs (operands_of form).rs2 ≡ version Sure value → all_in_windows code k (sures_of γ.kept) ≡ true →
    Line words code start k γ → Line words code start (k + 1) (record γ { around = bytes_stored γ.around o (width (kind_of form)) value })
line_store_bytes {words = words} {γ = γ} form o value e group there sure windows line =
    line_word form (record γ { around = bytes_stored γ.around o (width (kind_of form)) value }) e windows
    (λ q covered. bytes_are_stored words (Excepted WindowPoints words) (guard_at γ q) form o value group (there q) sure covered)
    (λ calm. calm) line

-- the call that writes a byte
pub line_write : {words : List ℕ} {code : List Form} {start γ : Guard} {k : ℕ} (o b : ℕ) (tag : Tag) → take 1 (drop k code) ≡ ECALL ∷ [] → ((q : ℕ) → IsByteCall (guard_at γ q) 64 1 o) → γ.around.bytes o ≡ IsByte b →
    all_in_windows code k (sures_of γ.kept) ≡ true → Line words code start k γ → Line words code start (k + 1) (record { around = record γ.around { out = γ.around.out ++ b ∷ [] }; kept = put_in 10 tag (Some 1) γ.kept })
line_write {words = words} {γ = γ} o b tag e call known windows line =
    line_word ECALL (record { around = record γ.around { out = γ.around.out ++ b ∷ [] }; kept = put_in 10 tag (Some 1) γ.kept }) e windows
    (λ q covered. carries_less (knows_same (guard_at γ q)) (byte_is_written words (Excepted WindowPoints words) (guard_at γ q) o b tag (call q) known covered)
    (guard_written (record γ { around = record γ.around { out = γ.around.out ++ b ∷ [] } }) 10 tag (Some 1) (Has tag 1) q (q + 4) (q + 4) (says_again (Has tag 1)) refl))
    (λ calm. calm) line

-- what is known all along after the call that reads, and what x10 keeps
abbrev pub read_around : Assertion → List ℕ → ℕ → Assertion
read_around c [] o = c
read_around c (x ∷ xs) o = record (bytes_stored c o 1 (Some x)) { input = xs }

abbrev pub read_count : List ℕ → ℕ
read_count [] = 0
read_count (x ∷ xs) = 1

-- the call that reads a byte
pub line_read : {words : List ℕ} {code : List Form} {start γ : Guard} {k : ℕ} (o : ℕ) (tag : Tag) → take 1 (drop k code) ≡ ECALL ∷ [] → ((q : ℕ) → IsByteCall (guard_at γ q) 63 0 o) → AreBytes γ.around.input →
    all_in_windows code k (sures_of γ.kept) ≡ true → Line words code start k γ → Line words code start (k + 1) (record { around = read_around γ.around γ.around.input o; kept = put_in 10 tag (Some (read_count γ.around.input)) γ.kept })
line_read {words = words} {code = code} {start = start} {γ = γ} {k = k} o tag e call small windows line =
    line_word ECALL (record { around = read_around γ.around γ.around.input o; kept = put_in 10 tag (Some (read_count γ.around.input)) γ.kept }) e windows
    (λ q covered. carries_less (knows_same (guard_at γ q)) (byte_is_read words (Excepted WindowPoints words) (guard_at γ q) o tag (call q) small covered) (less γ.around.input q))
    (λ calm. still γ.around.input calm) line
  where
    still : (input : List ℕ) → IsCalm γ → IsCalm (record { around = read_around γ.around input o; kept = put_in 10 tag (Some (read_count input)) γ.kept })
    still [] calm = calm
    still (x ∷ xs) calm = calm

    less : (input : List ℕ) (q : ℕ) → KnowsLess (after_read (guard_at γ q) input o tag (q + 4)) (guard_at (record { around = read_around γ.around input o; kept = put_in 10 tag (Some (read_count input)) γ.kept }) (q + 4))
    less [] q = guard_written γ 10 tag (Some 0) (Has tag 0) q (q + 4) (q + 4) (says_again (Has tag 0)) refl
    less (x ∷ xs) q = guard_written (record γ { around = read_around γ.around (x ∷ xs) o }) 10 tag (Some 1) (Has tag 1) q (q + 4) (q + 4) (says_again (Has tag 1)) refl

-- the call that ends the program
pub line_ends : {words : List ℕ} {code : List Form} {start γ : Guard} {k : ℕ} (status : ℕ) → IsCalm start → (p : ℕ) → IsPlaced words p code → take 1 (drop k code) ≡ ECALL ∷ [] → over γ.kept γ.around.regs 17 ≡ Has Sure 93 →
    over γ.kept γ.around.regs 10 ≡ Has Sure status → all_in_windows code k (sures_of γ.kept) ≡ true → Line words code start k γ → Finishes words (Excepted WindowPoints words) (guard_at start p) (k + 1) γ.around.out (status % 256)
line_ends {words = words} {code = code} {start = start} {γ = γ} {k = k} status calm p placed e number is windows line =
    let here = piece_placed words p k code (ECALL ∷ []) (omega arith) e placed in
    moves_finish words (Excepted WindowPoints words) (guard_at start p) (guard_at γ (p + 4 * k)) k 1 γ.around.out (status % 256) (line.moves calm p placed)
    (exit_finishes words (Excepted WindowPoints words) (guard_at γ (p + 4 * k)) status number is here.stands.0 (covered_at words p code k γ placed (line.calm calm) windows))
