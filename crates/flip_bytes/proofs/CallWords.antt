-- The calls of the environment that write a byte and read one.
use Rattle.std.proofs.Common.{◌≡◌, ℕ, zero, suc, ◌+◌, ◌-◌, ◌<◌, ◌≤◌, ◌^◌, List, [], ◌∷◌, ◌++◌, length, take, drop, Option, Some, refl, sym, ◌∙◌, ap, subst, arith, lit<}
use Rattle.std.specs.Prelude.{slice_range, slice_index, min}
use Rattle.std.proofs.Common.{drop-cons}
use borrow.Rule.Slice.PartMut.{put_mid}
use Rattle.rv_inst.specs.declared.instruction.Form.TheVariants.{ECALL}
use Rattle.rv_model.specs.State.{LoadedSegment, MachineState, register, set_register, plus64, next}
use Rattle.rv_model.specs.Memory.{read, bytes_at, stored, kept_in}
use Rattle.rv_model.specs.Step.{Continues, put, called, received, reads_input, sent, writes_output, step}
use Rattle.rv_model.specs.Text.{data_base, layout}
use Rattle.rv_model.proofs.ActLemmas.{act-ECALL}
use Rattle.rv_model.proofs.ByteLemmas.{length-written}
use Rattle.rv_model.proofs.TextLemmas.{bytes_at-data, stored-data}
use Rattle.rv_flips.specs.Cells.{Damage, Tag, Sure, Cell, Has, Holds}
use Rattle.rv_flips.specs.Assertion.{KnownByte, IsByte, HoldsByte, AreBytes, Assertion, Meets, after_write}
use Rattle.rv_flips.specs.Moves.{Covered, Does}
use Rattle.rv_flips.proofs.CellLemmas.{right_kept, holds_sure}
use Rattle.rv_flips.proofs.WordLaws.{meets_put, step_here}
use Rattle.flip_words.specs.Placed.{IsPlaced, Carries}
use Rattle.flip_words.proofs.CarryLemmas.{carries_word}
use Rattle.flip_bytes.specs.Bytes.{value_byte, after_bytes}
use Rattle.flip_bytes.specs.Calls.{IsByteCall, after_read}
use Rattle.flip_bytes.proofs.DataBytes.{small-written, bytes-written, slots-written}

-- what a register that is kept for sure holds
sure_register : (words : List ℕ) (c : Assertion) (damage : Damage) (s : MachineState) (r v : ℕ) → c.regs r ≡ Has Sure v → Meets words c damage s → register s r ≡ v
sure_register words c damage s r v is meets =
    let P : Cell → Type 0 = λ cell. Holds cell damage (register s r) in
    holds_sure v (register s r) damage (subst P is (meets.regs r))

called-writes : (s : MachineState) → register s 17 ≡ 64 → register s 10 ≡ 1 → called s ≡ writes_output s
called-writes s number file = rw (number, file) refl

called-reads : (s : MachineState) → register s 17 ≡ 63 → register s 10 ≡ 0 → called s ≡ reads_input s
called-reads s number file = rw (number, file) refl

written_one : (s : MachineState) → register s 12 ≡ 1 → writes_output s ≡ sent (bytes_at read (register s 11) 1 s.segments) s
written_one s count = rw count refl

-- one byte of a list
one_byte : (place : List ℕ) (o : ℕ) → o < length place → slice_range place o (o + 1) ≡ slice_index place o ∷ []
one_byte place o there =
    let one : o + 1 - o ≡ 1 = omega arith in
    ap (λ n. take n (drop o place)) one ∙ ap (take 1) (drop-cons place o 0 there)

-- a state with more output meets the assertion with more output
meets_out : (words : List ℕ) (c : Assertion) (damage : Damage) (s : MachineState) (b : ℕ) → Meets words c damage s → Meets words (record c { out = c.out ++ b ∷ [] }) damage (record s { out = s.out ++ b ∷ [] })
meets_out words c damage s b meets =
    record {
      data_bytes = meets.data_bytes;
      pc = meets.pc;
      regs = meets.regs;
      wide = meets.wide;
      count = meets.count;
      segments = meets.segments;
      size = meets.size;
      small = meets.small;
      slots = meets.slots;
      bytes = meets.bytes;
      input = meets.input;
      out = ap (λ xs. xs ++ b ∷ []) meets.out;
    }

pub byte_is_written : (words : List ℕ) (listed : ℕ → ℕ → Type 0) (c : Assertion) (o b : ℕ) (tag : Tag) → IsByteCall c 64 1 o → c.bytes o ≡ IsByte b → Covered listed c →
    Carries words listed (ECALL ∷ []) c (record (after_write c 10 (Has tag 1) (c.pc + 4)) { out = c.out ++ b ∷ [] })
byte_is_written words listed c o b tag is known covered = carries_word words listed ECALL c (record (after_write c 10 (Has tag 1) (c.pc + 4)) { out = c.out ++ b ∷ [] }) covered refl does
  where
    does : IsPlaced words c.pc (ECALL ∷ []) → (damage : Damage) (s : MachineState) → Meets words c damage s → Does words damage s (record (after_write c 10 (Has tag 1) (c.pc + 4)) { out = c.out ++ b ∷ [] })
    does placed damage s meets =
        let there : o < length meets.data_bytes = omega (arith, is.within, meets.size) in
        let within : o + 1 ≤ length meets.data_bytes = omega arith in
        let P : KnownByte → Type 0 = λ k. HoldsByte k (slice_index meets.data_bytes o) in
        let byte : slice_index meets.data_bytes o ≡ b = subst P known (meets.bytes o) in
        let bytes : bytes_at read (register s 11) 1 s.segments ≡ Some (b ∷ []) =
        ap (λ q. bytes_at read q 1 s.segments) (sure_register words c damage s 11 (data_base + o) is.address meets) ∙ ap (bytes_at read (data_base + o) 1) meets.segments
        ∙ bytes_at-data words meets.data_bytes o 1 placed.short (lit< tt) within ∙ ap (λ (xs : List ℕ). Some xs) (one_byte meets.data_bytes o there ∙ ap (λ x. x ∷ []) byte) in
        let after : MachineState = record s { out = s.out ++ b ∷ [] } in
        let goes : step s ≡ Continues (next (set_register after 10 1)) =
        step_here words c damage s ECALL meets placed.stands.0 ∙ act-ECALL s
        ∙ called-writes s (sure_register words c damage s 17 64 is.calls meets) (sure_register words c damage s 10 1 is.of_file meets)
        ∙ written_one s (sure_register words c damage s 12 1 is.count meets)
        ∙ ap (λ (o : Option (List ℕ)). sent o s) bytes in
        let at : plus64 c.pc 4 ≡ c.pc + 4 = omega (arith, placed.room) in
        record {
          state = next (set_register after 10 1);
          goes = goes;
          meets = meets_put words (record c { out = c.out ++ b ∷ [] }) damage after 10 1 (c.pc + 4) (Has tag 1) (meets_out words c damage s b meets) (lit< tt) (lit< tt) (lit< tt) (right_kept tag 1 1 damage refl) at;
        }

-- at the end of the input nothing is read
read_none : (s : MachineState) → register s 12 ≡ 1 → s.input ≡ [] → reads_input s ≡ Continues (next (set_register (record s { input = [] }) 10 0))
read_none s count none = rw (count, none) refl

first_taken : (a n x : ℕ) (input xs : List ℕ) (segments : List LoadedSegment) → n ≡ 1 → input ≡ x ∷ xs → kept_in a (take n input) segments ≡ stored a (x ∷ []) segments
first_taken a n x input xs segments one is = rw (one, is) refl

-- else the first byte is
read_first : (s : MachineState) (x : ℕ) (xs : List ℕ) (segments : List LoadedSegment) → register s 12 ≡ 1 → s.input ≡ x ∷ xs → stored (register s 11) (x ∷ []) s.segments ≡ Some segments →
    reads_input s ≡ Continues (next (set_register (record s { segments = segments; input = xs }) 10 1))
read_first s x xs segments count is there =
    let many : length s.input ≡ suc (length xs) = ap length is in
    let one : min (register s 12) (length s.input) ≡ 1 = omega arith in
    let rest : drop (min (register s 12) (length s.input)) s.input ≡ xs = ap (λ n. drop n s.input) one ∙ ap (drop 1) is in
    ap (λ (o : Option (List LoadedSegment)). received o (min (register s 12) (length s.input)) s) (first_taken (register s 11) (register s 12) x s.input xs s.segments count is ∙ there)
    ∙ ap (λ n. put 10 n (record s { segments = segments; input = drop (min (register s 12) (length s.input)) s.input })) one
    ∙ ap (λ (input : List ℕ). put 10 1 (record s { segments = segments; input = input })) rest

-- with less input the same
meets_input : (words : List ℕ) (c : Assertion) (damage : Damage) (s : MachineState) → Meets words c damage s → c.input ≡ [] → Meets words c damage (record s { input = [] })
meets_input words c damage s meets none =
    record {
      data_bytes = meets.data_bytes;
      pc = meets.pc;
      regs = meets.regs;
      wide = meets.wide;
      count = meets.count;
      segments = meets.segments;
      size = meets.size;
      small = meets.small;
      slots = meets.slots;
      bytes = meets.bytes;
      input = sym none;
      out = meets.out;
    }

-- one byte of the input lies in the data
meets_byte : (words : List ℕ) (c : Assertion) (damage : Damage) (s : MachineState) (o x : ℕ) (xs : List ℕ) → (meets : Meets words c damage s) → o < c.size → x < 2 ^ 8 →
    Meets words (record (after_bytes c o 1 (Some x) c.pc) { input = xs }) damage (record s { segments = layout words (put_mid o 1 meets.data_bytes (x ∷ [])); input = xs })
meets_byte words c damage s o x xs meets there small =
    let within : o + 1 ≤ length meets.data_bytes = omega (arith, meets.size) in
    record {
      data_bytes = put_mid o 1 meets.data_bytes (x ∷ []);
      pc = meets.pc;
      regs = meets.regs;
      wide = meets.wide;
      count = meets.count;
      segments = refl;
      size = length-written o meets.data_bytes (x ∷ []) within ∙ meets.size;
      small = small-written o meets.data_bytes (x ∷ []) meets.small (one_small x small);
      slots = slots-written c.slots o 1 damage meets.data_bytes (x ∷ []) within refl meets.slots;
      bytes = bytes-written c.bytes o 1 (Some x) meets.data_bytes (x ∷ []) within refl (only_byte x small) meets.bytes;
      input = refl;
      out = meets.out;
    }
  where
    one_small : (x : ℕ) → x < 2 ^ 8 → AreBytes (x ∷ [])
    one_small x small zero = small
    one_small x small (suc q) = lit< tt

    only_byte : (x : ℕ) → x < 2 ^ 8 → (j : ℕ) → j < 1 → HoldsByte (value_byte (Some x) j) (slice_index (x ∷ []) j)
    only_byte x small zero h = omega arith
    only_byte x small (suc j) h = absurd (omega arith)

pub byte_is_read : (words : List ℕ) (listed : ℕ → ℕ → Type 0) (c : Assertion) (o : ℕ) (tag : Tag) → IsByteCall c 63 0 o → AreBytes c.input → Covered listed c → Carries words listed (ECALL ∷ []) c (after_read c c.input o tag (c.pc + 4))
byte_is_read words listed c o tag is small covered = by_input c.input refl
  where
    calls : (damage : Damage) (s : MachineState) → Meets words c damage s → IsPlaced words c.pc (ECALL ∷ []) → step s ≡ reads_input s
    calls damage s meets placed =
        step_here words c damage s ECALL meets placed.stands.0 ∙ act-ECALL s ∙ called-reads s (sure_register words c damage s 17 63 is.calls meets) (sure_register words c damage s 10 0 is.of_file meets)

    none : c.input ≡ [] → IsPlaced words c.pc (ECALL ∷ []) → (damage : Damage) (s : MachineState) → Meets words c damage s → Does words damage s (after_write c 10 (Has tag 0) (c.pc + 4))
    none e placed damage s meets =
        let at : plus64 c.pc 4 ≡ c.pc + 4 = omega (arith, placed.room) in
        record {
          state = next (set_register (record s { input = [] }) 10 0);
          goes = calls damage s meets placed ∙ read_none s (sure_register words c damage s 12 1 is.count meets) (meets.input ∙ e);
          meets = meets_put words c damage (record s { input = [] }) 10 0 (c.pc + 4) (Has tag 0) (meets_input words c damage s meets e) (lit< tt) (lit< tt) (lit< tt) (right_kept tag 0 0 damage refl) at;
        }

    some : (x : ℕ) (xs : List ℕ) → c.input ≡ x ∷ xs → IsPlaced words c.pc (ECALL ∷ []) → (damage : Damage) (s : MachineState) → Meets words c damage s →
        Does words damage s (record (after_bytes (after_write c 10 (Has tag 1) (c.pc + 4)) o 1 (Some x) (c.pc + 4)) { input = xs })
    some x xs e placed damage s meets =
        let place = put_mid o 1 meets.data_bytes (x ∷ []) in
        let at : plus64 c.pc 4 ≡ c.pc + 4 = omega (arith, placed.room) in
        let within : o + 1 ≤ length meets.data_bytes = omega (arith, is.within, meets.size) in
        let byte : x < 2 ^ 8 = subst (λ (input : List ℕ). slice_index input 0 < 2 ^ 8) e (small 0) in
        let there : stored (register s 11) (x ∷ []) s.segments ≡ Some (layout words place) =
        ap (λ q. stored q (x ∷ []) s.segments) (sure_register words c damage s 11 (data_base + o) is.address meets) ∙ ap (stored (data_base + o) (x ∷ [])) meets.segments
        ∙ stored-data words meets.data_bytes (x ∷ []) o within in
        let after : MachineState = record s { segments = layout words place; input = xs } in
        record {
          state = next (set_register after 10 1);
          goes = calls damage s meets placed ∙ read_first s x xs (layout words place) (sure_register words c damage s 12 1 is.count meets) (meets.input ∙ e) there;
          meets = meets_put words (record (after_bytes c o 1 (Some x) c.pc) { input = xs }) damage after 10 1 (c.pc + 4) (Has tag 1) (meets_byte words c damage s o x xs meets is.within byte) (lit< tt) (lit< tt) (lit< tt) (right_kept tag 1 1 damage refl) at;
        }

    by_input : (input : List ℕ) → c.input ≡ input → Carries words listed (ECALL ∷ []) c (after_read c input o tag (c.pc + 4))
    by_input [] e = carries_word words listed ECALL c (after_write c 10 (Has tag 0) (c.pc + 4)) covered refl (none e)
    by_input (x ∷ xs) e = carries_word words listed ECALL c (record (after_bytes (after_write c 10 (Has tag 1) (c.pc + 4)) o 1 (Some x) (c.pc + 4)) { input = xs }) covered refl (some x xs e)
