-- The byte cell in guarded sequences.
use Rattle.std.proofs.Common.{◌≡◌, ◌≢◌, ℕ, ◌+◌, ◌-◌, ◌*◌, ◌/◌, ◌<◌, ◌≤◌, ◌==◌, Bool, true, false, cond, Option, refl, ap, subst, arith}
use Rattle.std.specs.Prelude.{nat_le, nat_lt, ◌&&◌, ◌||◌}
use Rattle.std.proofs.lemmas.Bool.Decides.{nat_tests}
use Rattle.rv_flips.specs.Cells.{One, Cell, Free, SaysLess}
use Rattle.rv_flips.specs.Assertion.{KnownByte, AnyByte, HoldsByte, ByteSaysLess, with_register}
use Rattle.rv_flips.proofs.CellLemmas.{with_register-same, says_free}
use Rattle.flip_words.specs.Memory.{without_bytes}
use Rattle.flip_frames.specs.Views.{Stage, view_cell, no_values}
use Rattle.flip_guards.proofs.Lines.{forgets}
use Rattle.flip_bytes.specs.Bytes.{value_byte, with_bytes, without_slots}
use Rattle.flip_io.specs.ByteCell.{MayCall}

-- a register that a call takes is free between sequences
pub call_free : (g : Stage) → MayCall g → (view_cell g One no_values 10 ≡ Free) × (view_cell g One no_values 11 ≡ Free) × (view_cell g One no_values 12 ≡ Free) × (view_cell g One no_values 17 ≡ Free)
unfolding view_cell
call_free g may = (may.file, may.address, may.count, may.number)

-- after stores of bytes in the first word nothing is known of it, and all other words stay
pub cell_slots : (slots less : ℕ → Cell) (o n k : ℕ) → o + n ≤ 8 → SaysLess (slots k) (with_register less 0 Free k) → SaysLess (without_slots slots o n k) (with_register less 0 Free k)
unfolding without_slots
cell_slots slots less o n k fits says = by_place (k == 0) refl
  where
    by_place : (b : Bool) → (k == 0) ≡ b → SaysLess (cond (nat_le (8 * k + 8) o || nat_le (o + n) (8 * k)) (slots k) Free) (with_register less 0 Free k)
    by_place true e =
        let same : 0 ≡ k = grind (arith, nat_tests) in
        let P : ℕ → Type 0 = λ q. SaysLess (cond (nat_le (8 * q + 8) o || nat_le (o + n) (8 * q)) (slots q) Free) (with_register less 0 Free q) in
        subst P same (rw (with_register-same less 0 Free) (says_free (cond (nat_le 8 o || nat_le (o + n) 0) (slots 0) Free)))
    by_place false e =
        let other : k ≢ 0 = grind (arith, nat_tests) in
        let above : nat_le (o + n) (8 * k) ≡ true = grind (arith, nat_tests) in
        let not_below : nat_le (8 * k + 8) o ≡ false = grind (arith, nat_tests) in
        rw (not_below, above) says

pub cell_first : (slots : ℕ → Cell) (k : ℕ) → SaysLess (slots k) (with_register slots 0 Free k)
cell_first slots k = forgets slots 0 k

-- of single bytes likewise
pub cell_bytes : (bytes less : ℕ → KnownByte) (o n q : ℕ) (value : Option ℕ) → o + n ≤ 8 → ByteSaysLess (bytes q) (without_bytes less 0 q) → ByteSaysLess (with_bytes bytes o n value q) (without_bytes less 0 q)
unfolding with_bytes without_bytes
cell_bytes bytes less o n q value fits says = by_place (q / 8 == 0) refl says
  where
    by_place : (b : Bool) → (q / 8 == 0) ≡ b → ByteSaysLess (bytes q) (cond b AnyByte (less q)) → ByteSaysLess (cond (nat_le o q && nat_lt q (o + n)) (value_byte value (q - o)) (bytes q)) (cond b AnyByte (less q))
    by_place true e says x h = tt
    by_place false e says x h =
        let past : 8 ≤ q = grind (arith, nat_tests) in
        let outside : (nat_le o q && nat_lt q (o + n)) ≡ false = grind (arith, nat_tests) in
        let P : Bool → Type 0 = λ b. HoldsByte (cond b (value_byte value (q - o)) (bytes q)) x in
        says x (subst P outside h)

pub cell_forgotten : (bytes : ℕ → KnownByte) (q : ℕ) → ByteSaysLess (bytes q) (without_bytes bytes 0 q)
unfolding without_bytes
cell_forgotten bytes q = by_place (q / 8 == 0)
  where
    by_place : (b : Bool) → ByteSaysLess (bytes q) (cond b AnyByte (bytes q))
    by_place true x h = tt
    by_place false x h = h

-- bytes of the first word stay when another word of eight bytes is stored
pub cell_stays : (bytes : ℕ → KnownByte) (k q : ℕ) → k ≢ 0 → q < 8 → without_bytes bytes k q ≡ bytes q
unfolding without_bytes
cell_stays bytes k q ne small =
    let other : (q / 8 == k) ≡ false = grind (arith, nat_tests) in
    ap (λ b. cond b AnyByte (bytes q)) other

-- bytes that say less say less after the same store
pub bytes_less : (f g : ℕ → KnownByte) (k q : ℕ) → ByteSaysLess (f q) (g q) → ByteSaysLess (without_bytes f k q) (without_bytes g k q)
unfolding without_bytes
bytes_less f g k q says = by_place (q / 8 == k)
  where
    by_place : (b : Bool) → ByteSaysLess (cond b AnyByte (f q)) (cond b AnyByte (g q))
    by_place true x h = tt
    by_place false x h = says x h
