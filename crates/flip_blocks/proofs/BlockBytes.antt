-- What is known of bytes after a store, and of what stays.
use Rattle.std.proofs.Common.{◌≡◌, ℕ, zero, suc, ◌+◌, ◌-◌, ◌*◌, ◌%◌, ◌<◌, ◌^◌, inl, inr, true, false, cond, List, [], get_or, Option, Some, refl, sym, ◌∙◌, ap, arith, append-nil}
use Rattle.std.specs.Prelude.{nat_le, nat_lt, ◌&&◌, ◌||◌, slice_index}
use Rattle.std.proofs.Math.Nat.{div-one}
use Rattle.std.proofs.lemmas.Bool.Decides.{nat_tests}
use Rattle.std.specs.Int.{byte_at}
use Rattle.byteorder.specs.Endian.{little_from, little_bytes}
use Rattle.byteorder.specs.Numbers.{little_from-bytes}
use Rattle.rv_flips.specs.Cells.{Free}
use Rattle.rv_flips.specs.Assertion.{KnownByte, IsByte}
use Rattle.flip_frames.specs.Views.{Stage}
use Rattle.flip_bytes.specs.Bytes.{known_number, value_byte, with_bytes, without_slots}
use Rattle.flip_bytes.proofs.DataBytes.{low_byte}
use Rattle.flip_blocks.specs.Blocks.{with_block, AreApart}

pub stored_byte : (g : Stage) (o n : ℕ) (value : Option ℕ) (j : ℕ) → j < n → (with_block g o n value).bytes (o + j) ≡ value_byte value j
unfolding with_bytes
stored_byte g o n value j small =
    let inside : (nat_le o (o + j) && nat_lt (o + j) (o + n)) ≡ true = grind (arith, nat_tests) in
    let index : o + j - o ≡ j = omega arith in
    ap (λ b. cond b (value_byte value (o + j - o)) (g.bytes (o + j))) inside ∙ ap (value_byte value) index

pub other_byte : (g : Stage) (o n : ℕ) (value : Option ℕ) (q : ℕ) → AreApart o n q 1 → (with_block g o n value).bytes q ≡ g.bytes q
unfolding with_bytes
other_byte g o n value q apart = ap (λ b. cond b (value_byte value (q - o)) (g.bytes q)) (outside apart)
  where
    outside : AreApart o n q 1 → (nat_le o q && nat_lt q (o + n)) ≡ false
    outside (inl h) = grind (arith, nat_tests)
    outside (inr h) = grind (arith, nat_tests)

pub other_slot : (g : Stage) (o n : ℕ) (value : Option ℕ) (k : ℕ) → AreApart o n (8 * k) 8 → (with_block g o n value).slots k ≡ g.slots k
unfolding without_slots
other_slot g o n value k apart = ap (λ b. cond b (g.slots k) Free) (outside apart)
  where
    outside : AreApart o n (8 * k) 8 → (nat_le (8 * k + 8) o || nat_le (o + n) (8 * k)) ≡ true
    outside (inl h) = grind (arith, nat_tests)
    outside (inr h) = grind (arith, nat_tests)

-- bytes that are those of a list have its number
number_of_list : (bytes : ℕ → KnownByte) (xs : List ℕ) (o i n : ℕ) → ((j : ℕ) → j < n → bytes (o + j) ≡ IsByte (slice_index xs (i + j))) → known_number bytes o n ≡ Some (little_from i n xs)
number_of_list bytes xs o i zero are = refl
number_of_list bytes xs o i (suc n) are =
    let here : bytes o ≡ IsByte (slice_index xs i) = ap bytes (omega arith) ∙ are zero (omega arith) ∙ ap (λ k. IsByte (slice_index xs k)) (omega arith) in
    let rest : known_number bytes (suc o) n ≡ Some (little_from (suc i) n xs) =
    number_of_list bytes xs (suc o) (suc i) n (λ j small. ap bytes (omega arith) ∙ are (suc j) (omega arith) ∙ ap (λ k. IsByte (slice_index xs k)) (omega arith)) in
    rw (here, rest) refl

pub stored_number : (g : Stage) (o n v : ℕ) → known_number (with_block g o n (Some v)).bytes o n ≡ Some (v % 256 ^ n)
stored_number g o n v =
    let bytes : known_number (with_block g o n (Some v)).bytes o n ≡ Some (little_from 0 n (little_bytes n v)) =
    number_of_list (with_block g o n (Some v)).bytes (little_bytes n v) o 0 n (λ j small. stored_byte g o n (Some v) j small ∙ ap IsByte (byte_is j small)) in
    let number : little_from 0 n (little_bytes n v) ≡ v % 256 ^ n = ap (little_from 0 n) (sym (append-nil (little_bytes n v))) ∙ little_from-bytes n 0 v [] ∙ ap (λ x. x % 256 ^ n) (div-one v) in
    bytes ∙ ap (λ (x : ℕ). Some x) number
  where
    byte_is : (j : ℕ) → j < n → byte_at j v ≡ slice_index (little_bytes n v) (0 + j)
    byte_is j small =
        let index : 0 + j ≡ j = omega arith in
        sym (ap (λ k. get_or (little_bytes n v) k 0) index ∙ low_byte 0 n v j small ∙ ap (λ k. byte_at k v) index)
