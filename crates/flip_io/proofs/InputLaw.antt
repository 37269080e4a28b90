-- A byte is read.
use Rattle.std.proofs.Common.{◌≡◌, ◌≢◌, ℕ, ◌+◌, ◌*◌, ◌/◌, ◌%◌, ◌<◌, ◌≤◌, ◌^◌, ◌==◌, inl, Bool, true, false, cond, List, [], ◌∷◌, ◌++◌, drop, Option, Some, refl, sym, ◌∙◌, ap, subst, arith, lit<, lit≤}
use Rattle.std.specs.Prelude.{pos, negsuc, if◌then◌else◌}
use Rattle.std.proofs.lemmas.Bool.Decides.{nat_tests}
use Rattle.rv_inst.specs.declared.instruction.Form.TheVariants.{ADDI, SB, LHU}
use Rattle.rv_model.specs.State.{plus64}
use Rattle.rv_model.specs.Operations.{bits64}
use Rattle.rv_model.specs.Text.{data_base}
use Rattle.rv_flips.specs.Cells.{Tag, One, Two, Three, Plain, Code, Leaf, Sure, Free}
use Rattle.rv_flips.specs.Assertion.{KnownByte, AnyByte, IsByte, HoldsByte, ByteSaysLess, AreBytes, Assertion, KnowsLess, with_register}
use Rattle.flip_words.specs.Memory.{without_bytes}
use Rattle.flip_frames.specs.Views.{Stage, IsVersion, Runs, version, view_cell, at_address, with_value, no_values}
use Rattle.flip_frames.specs.Fetching.{Triple}
use Rattle.flip_frames.specs.Slots.{any_store}
use Rattle.flip_frames.proofs.ViewLemmas.{view_cell-zero, with_value-same}
use Rattle.flip_frames.proofs.RunLaws.{runs_then, version_uncoded}
use Rattle.flip_versions.specs.Operations.{resting, IsSlot, AreSlots, stored, defined}
use Rattle.flip_versions.proofs.VersionLaws.{store_turns, slot_after}
use Rattle.flip_guards.specs.Guards.{Kept, guard_at, guarded}
use Rattle.flip_guards.specs.Sources.{of_known}
use Rattle.flip_guards.proofs.Lines.{is_sure, Line, line_start, line_forget}
use Rattle.flip_guards.proofs.LineWords.{line_upper, line_constant, line_compute}
use Rattle.flip_guards.proofs.FetchLaws.{free_scratch}
use Rattle.flip_guards.proofs.GuardRuns.{runs_weaker, line_runs, version_view}
use Rattle.flip_bytes.specs.Bytes.{known_number, with_bytes, without_slots}
use Rattle.flip_bytes.proofs.ByteLines.{bytes_stored, read_around, read_count, line_load_bytes, line_store_bytes, line_read}
use Rattle.flip_io.specs.ByteCell.{MayCall}
use Rattle.flip_io.specs.Input.{read_words, taken_words, get_words, read_value, with_input}
use Rattle.flip_io.proofs.CellLaws.{call_free, cell_first, cell_slots, cell_bytes, cell_forgotten, cell_stays, bytes_less}

-- the byte that lies in the cell after the call
abbrev read_cell : List ℕ → ℕ
read_cell [] = 255
read_cell (x ∷ xs) = x % 256

-- the stage once the byte and the count lie in memory
abbrev took_bytes : (ℕ → KnownByte) → List ℕ → ℕ → KnownByte
took_bytes bytes input o = if o == 0 then IsByte (read_cell input) else if o == 1 then IsByte (read_count input) else without_bytes bytes 0 o

abbrev took : Stage → List ℕ → Stage
took g input = record g { slots = with_register g.slots 0 Free; bytes = took_bytes g.bytes input; input = drop 1 input }

-- the input is given apart, so that it may be taken by cases
abbrev before_read : Stage → List ℕ → Stage
before_read g input = record g { input = input }

-- what is known all along after the store of 255
abbrev cell_filled : Stage → List ℕ → Assertion
cell_filled g input = bytes_stored (at_address (resting (before_read g input) One) 0) 0 1 (Some 255)

abbrev cell_read : Stage → List ℕ → Assertion
cell_read g input = read_around (cell_filled g input) input 0

-- up to the call
call_line : (words : List ℕ) (g : Stage) (input : List ℕ) → MayCall g → AreBytes input → Line words read_words (guarded (before_read g input) []) 8 (record { around = cell_read g input; kept = Kept 10 Sure (Some (read_count input)) ∷ Kept 17 Sure (Some 63) ∷ Kept 12 Sure (Some 1) ∷ Kept 11 Sure (Some data_base) ∷ [] })
call_line words g input may small =
    let g0 = before_read g input in
    let x0 = view_cell-zero (before_read g input) One no_values in
    let within : 0 + 1 ≤ g.size = omega (arith, may.cell) in
    let some : 0 < g.size = omega (arith, may.cell) in
    let l1 = line_constant 7 (pos 255) Sure refl (lit< tt) x0 refl (line_start words read_words (guarded (before_read g input) [])) in
    let l2 = line_upper 6 (pos 65536) Sure refl (lit< tt) refl l1 in
    let l3 = line_store_bytes (SB 6 7 (pos 0)) 0 (Some 255) refl refl (λ q. record { base = data_base; right = refl; leads = refl; within = within }) refl refl l2 in
    let l4 = line_constant 10 (pos 0) Sure refl (lit< tt) x0 refl (line_forget 6 (free_scratch g0 6 refl) (line_forget 7 (free_scratch g0 7 refl) l3)) in
    let l5 = line_upper 11 (pos 65536) Sure refl (lit< tt) refl l4 in
    let l6 = line_constant 12 (pos 1) Sure refl (lit< tt) x0 refl l5 in
    let l7 = line_constant 17 (pos 63) Sure refl (lit< tt) x0 refl l6 in
    line_read 0 Sure refl (λ q. record { calls = refl; of_file = refl; address = refl; count = refl; within = some }) small refl l7

-- the count is stored
count_line : (words : List ℕ) (g : Stage) (input : List ℕ) → MayCall g → AreBytes input → Line words read_words (guarded (before_read g input) []) 10 (record { around = bytes_stored (cell_read g input) 1 1 (Some (read_count input)); kept = [] })
count_line words g [] may small =
    let g0 = before_read g [] in
    let free = call_free (before_read g []) (record { file = may.file; address = may.address; count = may.count; number = may.number; cell = may.cell }) in
    let within : 1 + 1 ≤ g.size = omega (arith, may.cell) in
    let l8 = line_forget 11 free.1 (line_forget 12 free.2 (line_forget 17 free.3 (call_line words g [] may small))) in
    let l9 = line_upper 6 (pos 65536) Sure refl (lit< tt) refl l8 in
    let l10 = line_store_bytes (SB 6 10 (pos 1)) 1 (Some 0) refl refl (λ q. record { base = data_base; right = refl; leads = refl; within = within }) refl refl l9 in
    line_forget 10 free.0 (line_forget 6 (free_scratch g0 6 refl) l10)
count_line words g (x ∷ xs) may small =
    let g0 = before_read g (x ∷ xs) in
    let free = call_free (before_read g (x ∷ xs)) (record { file = may.file; address = may.address; count = may.count; number = may.number; cell = may.cell }) in
    let within : 1 + 1 ≤ g.size = omega (arith, may.cell) in
    let l8 = line_forget 11 free.1 (line_forget 12 free.2 (line_forget 17 free.3 (call_line words g (x ∷ xs) may small))) in
    let l9 = line_upper 6 (pos 65536) Sure refl (lit< tt) refl l8 in
    let l10 = line_store_bytes (SB 6 10 (pos 1)) 1 (Some 1) refl refl (λ q. record { base = data_base; right = refl; leads = refl; within = within }) refl refl l9 in
    line_forget 10 free.0 (line_forget 6 (free_scratch g0 6 refl) l10)

-- the cell and the count say nothing of other bytes
cell_less : (bytes : ℕ → KnownByte) (a b o : ℕ) → ByteSaysLess (cond (o == 0) (IsByte a) (cond (o == 1) (IsByte b) (without_bytes bytes 0 o))) (without_bytes bytes 0 o)
unfolding without_bytes
cell_less bytes a b o = by_word (o / 8 == 0) refl
  where
    by_word : (t : Bool) → (o / 8 == 0) ≡ t → ByteSaysLess (cond (o == 0) (IsByte a) (cond (o == 1) (IsByte b) (cond t AnyByte (bytes o)))) (cond t AnyByte (bytes o))
    by_word true e x h = tt
    by_word false e x h =
        let other : (o == 0) ≡ false = grind (arith, nat_tests) in
        let other' : (o == 1) ≡ false = grind (arith, nat_tests) in
        let P : KnownByte → Type 0 = λ k. HoldsByte k x in
        subst P (rw (other, other') refl) h

-- what is known of the cell and of the count, and of the other bytes no more than before
took_say : (bytes f : ℕ → KnownByte) (a b o : ℕ) → f 0 ≡ IsByte a → f 1 ≡ IsByte b → ByteSaysLess (f o) (without_bytes bytes 0 o) → ByteSaysLess (f o) (cond (o == 0) (IsByte a) (cond (o == 1) (IsByte b) (without_bytes bytes 0 o)))
took_say bytes f a b o first second says = by_first (o == 0) refl
  where
    byte_is : (k : ℕ) (known : KnownByte) → k ≡ o → f k ≡ known → ByteSaysLess (f o) known
    byte_is k known e is x h =
        let P : KnownByte → Type 0 = λ b. HoldsByte b x in
        subst P (ap f (sym e) ∙ is) h

    by_second : (t : Bool) → (o == 1) ≡ t → ByteSaysLess (f o) (cond t (IsByte b) (without_bytes bytes 0 o))
    by_second true e = byte_is 1 (IsByte b) (grind (arith, nat_tests)) second
    by_second false e = says

    by_first : (t : Bool) → (o == 0) ≡ t → ByteSaysLess (f o) (cond t (IsByte a) (cond (o == 1) (IsByte b) (without_bytes bytes 0 o)))
    by_first true e = byte_is 0 (IsByte a) (grind (arith, nat_tests)) first
    by_first false e = by_second (o == 1) refl

count_less : (g : Stage) (input : List ℕ) (q : ℕ) → KnowsLess (guard_at (record { around = bytes_stored (cell_read g input) 1 1 (Some (read_count input)); kept = [] }) q) (at_address (resting (took g input) One) q)
unfolding view_cell with_bytes
count_less g [] q =
    let b0 = with_bytes g.bytes 0 1 (Some 255) in
    record {
      pc = refl;
      regs = λ r damage x h. h;
      slots = λ k. cell_slots (without_slots g.slots 0 1) g.slots 1 1 k (lit≤ tt) (cell_slots g.slots g.slots 0 1 k (lit≤ tt) (cell_first g.slots k));
      bytes = λ o. took_say g.bytes (with_bytes (with_bytes g.bytes 0 1 (Some 255)) 1 1 (Some 0)) 255 0 o refl refl
          (cell_bytes (with_bytes g.bytes 0 1 (Some 255)) g.bytes 1 1 o (Some 0) (lit≤ tt) (cell_bytes g.bytes g.bytes 0 1 o (Some 255) (lit≤ tt) (cell_forgotten g.bytes o)));
      size = refl;
      input = refl;
      out = refl;
    }
count_less g (x ∷ xs) q =
    let s0 = without_slots g.slots 0 1 in
    let b0 = with_bytes g.bytes 0 1 (Some 255) in
    let b1 = with_bytes (with_bytes g.bytes 0 1 (Some 255)) 0 1 (Some x) in
    record {
      pc = refl;
      regs = λ r damage x h. h;
      slots = λ k. cell_slots (without_slots s0 0 1) g.slots 1 1 k (lit≤ tt) (cell_slots s0 g.slots 0 1 k (lit≤ tt) (cell_slots g.slots g.slots 0 1 k (lit≤ tt) (cell_first g.slots k)));
      bytes = λ o. took_say g.bytes (with_bytes (with_bytes (with_bytes g.bytes 0 1 (Some 255)) 0 1 (Some x)) 1 1 (Some 1)) (x % 256) 1 o refl refl
          (cell_bytes b1 g.bytes 1 1 o (Some 1) (lit≤ tt) (cell_bytes b0 g.bytes 0 1 o (Some x) (lit≤ tt) (cell_bytes g.bytes g.bytes 0 1 o (Some 255) (lit≤ tt) (cell_forgotten g.bytes o))));
      size = refl;
      input = refl;
      out = refl;
    }

read_runs : (words : List ℕ) (g : Stage) (input : List ℕ) → MayCall g → AreBytes input → Runs words read_words (resting (before_read g input) One) (resting (took g input) One)
read_runs words g input may small =
    line_runs One (resting (took g input) One) (count_less g input) (λ is. record { tag = tt; places = is.places; size = is.size; base = is.base }) (count_line words g input may small)

unsure : (tag : Tag) → IsVersion tag → is_sure tag ≡ false
unsure One is = refl
unsure Two is = refl
unsure Three is = refl
unsure Plain is = refl
unsure Sure is = absurd is
unsure Code is = refl
unsure (Leaf first more) is = refl

-- the number of both bytes, less 256
abbrev taken_number : ℕ → ℕ → ℕ
taken_number cell count = plus64 (cell + 256 * (count + 256 * 0)) (bits64 (negsuc 255))

taken_line : (words : List ℕ) (g : Stage) (tag : Tag) (cell count : ℕ) → IsVersion tag → 8 ≤ g.size → g.bytes 0 ≡ IsByte cell → g.bytes 1 ≡ IsByte count → Line words taken_words (guarded g []) 3 (guarded g (Kept 5 tag (Some (taken_number cell count)) ∷ []))
taken_line words g tag cell count is size first second =
    let n = cell + 256 * (count + 256 * 0) in
    let within : 0 + 2 ≤ g.size = omega arith in
    let known : known_number g.bytes 0 2 ≡ Some (cell + 256 * (count + 256 * 0)) = rw (first, second) refl in
    let l1 = line_upper 28 (pos 65536) Sure refl (lit< tt) refl (line_start words taken_words (guarded g [])) in
    let l2 = line_load_bytes (LHU 5 28 (pos 0)) 0 tag refl refl (lit< tt) (λ q. record { base = data_base; right = refl; leads = refl; within = within }) refl l1 in
    let l3 = line_forget 28 (free_scratch g 28 refl) l2 in
    line_compute (ADDI 5 5 (negsuc 255)) tag n (bits64 (negsuc 255)) refl (inl (ap (λ (o : Option ℕ). version tag (of_known (λ x. x) o)) known), refl) (version_uncoded tag is) (lit< tt) (rw (unsure tag is) refl) l3

taken_runs : (words : List ℕ) (g : Stage) (t t' : Tag) (d cell count : ℕ) → IsVersion t → IsVersion t' → IsSlot g d → 8 ≤ g.size → g.bytes 0 ≡ IsByte cell → g.bytes 1 ≡ IsByte count →
    Runs words (taken_words ++ any_store 5 d) (resting g t) (resting (stored g d t (Some (taken_number cell count))) t')
taken_runs words g t t' d cell count is turn slot size first second =
    let value = Some (taken_number cell count) in
    let file = with_value no_values 5 (Some (taken_number cell count)) in
    store_turns g t t' d file value turn slot (with_value-same no_values 5 value)
    (line_runs t (record { stage = g; tag = t; file = file }) (λ q. version_view g 5 t value q refl) (λ v. record { tag = is; places = v.places; size = v.size; base = v.base }) (taken_line words g t cell count is size first second))

-- the value that is read
taken_is : (input : List ℕ) → AreBytes input → taken_number (read_cell input) (read_count input) ≡ read_value input
taken_is [] small = refl
taken_is (x ∷ xs) small = let byte : x < 2 ^ 8 = small 0 in omega arith

-- the cell and the count stay while slots of a frame above them are stored
still_there : (g : Stage) (n q : ℕ) (t : Tag) (o : Option ℕ) (known : KnownByte) → 0 < g.base → q < 8 → g.bytes q ≡ known → (stored g n t o).bytes q ≡ known
still_there g n q t o known above small e = let apart : g.base + n ≢ 0 = omega arith in cell_stays g.bytes (g.base + n) q apart small ∙ e

all_taken : (words : List ℕ) (g : Stage) (d : Triple) (cell count : ℕ) → AreSlots g d → 8 ≤ g.size → 0 < g.base → g.bytes 0 ≡ IsByte cell → g.bytes 1 ≡ IsByte count →
    Runs words ((taken_words ++ any_store 5 d.one) ++ ((taken_words ++ any_store 5 d.two) ++ (taken_words ++ any_store 5 d.three))) (resting g One) (resting (defined g d (Some (taken_number cell count))) One)
all_taken words g d cell count slots size above first second =
    let o = Some (taken_number cell count) in
    let g1 = stored g d.one One (Some (taken_number cell count)) in
    let g2 = stored g1 d.two Two (Some (taken_number cell count)) in
    let s2 = slot_after g d.two d.one One o slots.two in
    let s3 = slot_after g1 d.three d.two Two o (slot_after g d.three d.one One o slots.three) in
    let first1 = still_there g d.one 0 One o (IsByte cell) above (lit< tt) first in
    let second1 = still_there g d.one 1 One o (IsByte count) above (lit< tt) second in
    let first2 = still_there g1 d.two 0 Two o (IsByte cell) above (lit< tt) first1 in
    let second2 = still_there g1 d.two 1 Two o (IsByte count) above (lit< tt) second1 in
    runs_then (taken_runs words g One Two d.one cell count tt tt slots.one size first second)
    (runs_then (taken_runs words g1 Two Three d.two cell count tt tt s2 size first1 second1) (taken_runs words g2 Three One d.three cell count tt tt s3 size first2 second2))

-- the cell is forgotten
forgotten_less : (g : Stage) (d : Triple) (o : Option ℕ) (q : ℕ) → KnowsLess (at_address (resting (defined (took g g.input) d o) One) q) (at_address (resting (defined (with_input g) d o) One) q)
unfolding view_cell
forgotten_less g d o q =
    let f = took_bytes g.bytes g.input in
    let f' = without_bytes g.bytes 0 in
    record {
      pc = refl;
      regs = λ r damage x h. h;
      slots = λ k damage x h. h;
      bytes = λ k. bytes_less (without_bytes (without_bytes f (g.base + d.one)) (g.base + d.two)) (without_bytes (without_bytes f' (g.base + d.one)) (g.base + d.two)) (g.base + d.three) k
          (bytes_less (without_bytes f (g.base + d.one)) (without_bytes f' (g.base + d.one)) (g.base + d.two) k (bytes_less f f' (g.base + d.one) k (cell_less g.bytes (read_cell g.input) (read_count g.input) k)));
      size = refl;
      input = refl;
      out = refl;
    }

pub byte_is_input : (words : List ℕ) (g : Stage) (d : Triple) → AreSlots g d → MayCall g → 0 < g.base → AreBytes g.input → Runs words (get_words d) (resting g One) (resting (defined (with_input g) d (Some (read_value g.input))) One)
byte_is_input words g d slots may above small =
    let input = g.input in
    let t = took g g.input in
    let there : AreSlots t d = record { one = record { within = slots.one.within; small = slots.one.small }; two = record { within = slots.two.within; small = slots.two.small }; three = record { within = slots.three.within; small = slots.three.small } } in
    let P : ℕ → Type 0 = λ v. Runs words (get_words d) (resting g One) (resting (defined (with_input g) d (Some v)) One) in
    let o = Some (taken_number (read_cell g.input) (read_count g.input)) in
    subst P (taken_is g.input small)
    (runs_weaker (resting (defined (with_input g) d o) One) (forgotten_less g d o) (λ is. record { tag = tt; places = is.places; size = is.size; base = is.base })
    (runs_then (read_runs words g g.input may small) (all_taken words t d (read_cell g.input) (read_count g.input) there may.cell above refl refl)))
