-- The executable that ends with a status survives every flip outside its points.
use Rattle.std.proofs.Common.{zero, suc, inl, inr, ◌≡◌, ◌<◌, ◌+◌, ◌*◌, ◌%◌, ◌^◌, ℕ, pos, List, [], ◌∷◌, length, Option, Some, refl, sym, subst, arith, All}
use Rattle.std.proofs.lemmas.List.Elements.{All-cons, All-nil, All-contains, All-from_recursion}
use Rattle.std.specs.List.{AllByRecursion}
use Rattle.std.specs.Prelude.{Contains, ◌↔◌}
use Rattle.elf_file.specs.Image.{words_of}
use Rattle.elf_file.specs.Layout.{text_bytes}
use Rattle.elf_file.specs.ReadBack.{written_image}
use Rattle.elf_file.proofs.Backward.{reads_back, text_reads_back}
use Rattle.rv_inst.specs.declared.instruction.Form.TheVariants.{ADDI, ECALL}
use Rattle.rv_inst.specs.Word.{Word}
use Rattle.rv_inst.specs.Window.{IsWindowPoint}
use Rattle.rv_model.specs.Text.{WordsOf, text_base}
use Rattle.rv_flips.specs.Ending.{ending_words}
use Rattle.rv_flips.specs.Survives.{Survives}
use Rattle.rv_flips.proofs.EndingLaws.{ending_survives, ending_windows}
use Rattle.point_list.specs.declared.list.Point.{Point}
use Rattle.point_list.specs.Points.{IsPoint, AreSorted}
use Rattle.point_list.proofs.SortedLists.{sorted_same}
use Rattle.sr_command.specs.Program.{exit_words, executable}
use Rattle.sr_command.specs.Points.{exit_points}
use Rattle.sr_command.specs.Hardened.{IsHardened, pairs}

-- the words are those that end a program with the status
status_word : (status : ℕ) → status < 256 → Word (0x00000513 + 2 ^ 20 * status) (ADDI 10 0 (pos status))
status_word status h = ((omega arith, omega arith, omega arith), omega arith)

number_word : Word 0x05d00893 (ADDI 17 0 (pos 93))
number_word = ((omega arith, omega arith, omega arith), omega arith)

call_word : Word 0x00000073 ECALL
call_word = (tt, omega arith)

are_ending : (status : ℕ) → status < 256 → WordsOf (exit_words status) (ending_words (pos status))
are_ending status h = (status_word status h, (number_word, (call_word, tt)))

exit_survives : (status : ℕ) (input : List ℕ) → status < 256 → Survives (written_image (exit_words status) [] 0) (pairs exit_points) input [] status 8
exit_survives status input h =
    let low : status % 256 ≡ status = omega arith in
    let P : ℕ → Type 0 = λ n. Survives (written_image (exit_words status) [] 0) (pairs exit_points) input [] n 8 in
    subst P low (ending_survives (exit_words status) [] 0 input (pos status) (All-nil (λ b. b < 2 ^ 8)) (are_ending status h))

-- each point of the list is a window point of the words
exit_windows : (status : ℕ) → status < 256 → AllByRecursion (λ (point : Point). IsWindowPoint (exit_words status) text_base point.pc point.reg) exit_points
exit_windows status h =
    let at = ending_windows (exit_words status) (pos status) (are_ending status h) in (
      at 0x10004 10 (0, (0x10004, 10), omega arith, refl, (refl, refl)),
      (
        at 0x10008 10 (1, (0x10008, 10), omega arith, refl, (refl, refl)),
        (at 0x10008 17 (2, (0x10008, 17), omega arith, refl, (refl, refl)), tt),
      ),
    )

words_fit : (status : ℕ) → status < 256 → All (λ w. w < 2 ^ 32) (exit_words status)
words_fit status h =
    let P : ℕ → Type 0 = λ w. w < 2 ^ 32 in
    let first : 0x00000513 + 2 ^ 20 * status < 2 ^ 32 = omega arith in
    let second : 0x05d00893 < 2 ^ 32 = omega arith in
    let third : 0x00000073 < 2 ^ 32 = omega arith in
    All-cons P (0x00000513 + 2 ^ 20 * status) (0x05d00893 ∷ 0x00000073 ∷ []) first
    (All-cons P 0x05d00893 (0x00000073 ∷ []) second (All-cons P 0x00000073 [] third (All-nil P)))

some_is : (xs ys : List ℕ) → ◌≡◌ {A = Option (List ℕ)} (Some xs) (Some ys) → xs ≡ ys
some_is xs ys e = cc

-- the words of the text are read back
words_back : (status : ℕ) → status < 256 → words_of (text_bytes (exit_words status)) ≡ exit_words status
words_back status h = some_is _ _ (text_reads_back (exit_words status) [] 0 (words_fit status h))

within : AllByRecursion IsPoint exit_points
within = (
  record { address = omega arith; register = omega arith },
  (record { address = omega arith; register = omega arith }, (record { address = omega arith; register = omega arith }, tt)),
)

pub exit_is_hardened : (status : ℕ) → status < 256 → IsHardened (executable status) exit_points status
exit_is_hardened status h =
    let words = exit_words status in
    let P : List ℕ → Type 0 = λ ws. (input : List ℕ) → Survives (written_image words [] 0) (pairs exit_points) input [] status (2 * (length ws + 1)) in
    let Q : List ℕ → Type 0 = λ ws. AllByRecursion (λ (point : Point). IsWindowPoint ws text_base point.pc point.reg) exit_points in
    record {
      image = written_image words [] 0;
      text = record { base = 0x10000; size = 4 * length words; flags = 5; init = text_bytes words };
      is_image = reads_back words [] 0 (omega arith) (omega arith);
      is_text = refl;
      survives = subst P (sym (words_back status h)) (λ input. exit_survives status input h);
      windows = subst Q (sym (words_back status h)) (exit_windows status h);
      within = within;
    }

-- the points of the list are sorted, and those of them that are window points are all
exit_sorted : AreSorted exit_points
exit_sorted zero zero d h k = absurd (omega arith)
exit_sorted zero (suc zero) d h k = inl (omega arith)
exit_sorted zero (suc (suc zero)) d h k = inl (omega arith)
exit_sorted zero (suc (suc (suc j))) d h k = absurd (omega arith)
exit_sorted (suc zero) zero d h k = absurd (omega arith)
exit_sorted (suc zero) (suc zero) d h k = absurd (omega arith)
exit_sorted (suc zero) (suc (suc zero)) d h k = inr (refl, omega arith)
exit_sorted (suc zero) (suc (suc (suc j))) d h k = absurd (omega arith)
exit_sorted (suc (suc i)) j d h k = absurd (omega arith)

pub exit_listed : (status : ℕ) (points : List Point) → status < 256 → AreSorted points →
    ((p : Point) → Contains points p ↔ (Contains exit_points p × IsWindowPoint (exit_words status) text_base p.pc p.reg)) → points ≡ exit_points
exit_listed status points h sorted exact =
    let window = λ (p : Point). IsWindowPoint (exit_words status) text_base p.pc p.reg in
    sorted_same points exit_points sorted exit_sorted (λ p c. ((exact p).0 c).0)
    (λ p c. (exact p).1 (c, All-contains window exit_points p (All-from_recursion window exit_points (exit_windows status h)) c))
