-- Bytes of the data that are read and written.
use Rattle.std.proofs.Common.{◌≡◌, ℕ, zero, suc, ◌+◌, ◌-◌, ◌*◌, ◌<◌, ◌≤◌, ◌^◌, ◌⊎◌, inl, inr, Bool, true, false, cond, List, ◌++◌, length, take, drop, get_or, Option, Some, None, refl, ◌∙◌, ap, subst, arith, length-take}
use Rattle.std.specs.Prelude.{slice_range, slice_index, nat_lt, nat_le, ◌&&◌, ◌||◌}
use Rattle.std.proofs.lemmas.Bool.{and_parts, and_cases, or_cases}
use Rattle.std.proofs.lemmas.Bool.Decides.{nat_tests}
use Rattle.std.proofs.lemmas.List.{get_or_append_left, get_or-append_right, get_or-take, get_or-drop}
use Rattle.std.specs.Int.{byte_at, bytes_low_first}
use Rattle.byteorder.specs.Endian.{little_from, little_number, little_bytes}
use Rattle.byteorder.specs.Numbers.{little_from-lt, little_from-take}
use borrow.Rule.Slice.PartMut.{put_mid}
use Rattle.rv_model.proofs.ByteLemmas.{read-other}
use Rattle.rv_flips.specs.Cells.{Damage, Cell, Free, Holds}
use Rattle.rv_flips.specs.Assertion.{KnownByte, AnyByte, IsByte, HoldsByte, SlotsHold, BytesHold, AreBytes, number_at}
use Rattle.flip_words.proofs.MemoryLemmas.{small-append, small-take, small-drop}
use Rattle.flip_bytes.specs.Bytes.{lowest_first, known_number, value_byte, with_bytes, without_slots}

-- the number in some bytes of a list, read in the whole list
from_drop : (i n o : ℕ) (xs : List ℕ) → little_from i n (drop o xs) ≡ little_from (o + i) n xs
from_drop i zero o xs = refl
from_drop i (suc n) o xs =
    let byte : get_or (drop o xs) i 0 ≡ get_or xs (o + i) 0 = get_or-drop o xs i 0 in
    let next : o + suc i ≡ suc (o + i) = omega arith in
    let rest : little_from (suc i) n (drop o xs) ≡ little_from (suc (o + i)) n xs = from_drop (suc i) n o xs ∙ ap (λ k. little_from k n xs) next in
    ap (λ b. b + 256 * little_from (suc i) n (drop o xs)) byte ∙ ap (λ r. get_or xs (o + i) 0 + 256 * r) rest

pub number_in_range : (o n : ℕ) (xs : List ℕ) → little_number n (slice_range xs o (o + n)) ≡ little_from o n xs
number_in_range o n xs =
    let whole : o + 0 ≡ o = omega arith in
    little_from-take 0 n (o + n - o) (drop o xs) (omega arith) ∙ from_drop 0 n o xs ∙ ap (λ k. little_from k n xs) whole

pub number_small : (o n : ℕ) (xs : List ℕ) → AreBytes xs → little_number n (slice_range xs o (o + n)) < 256 ^ n
number_small o n xs small = little_from-lt 0 n (slice_range xs o (o + n)) (small-take (o + n - o) (drop o xs) (small-drop o xs small))

-- where the bytes are known, so is their number
pub number_known : (bytes : ℕ → KnownByte) (place : List ℕ) (o n x : ℕ) → BytesHold bytes place → known_number bytes o n ≡ Some x → little_from o n place ≡ x
number_known bytes place o zero x holds e = let same : 0 ≡ x = cc in same
number_known bytes place o (suc n) x holds e = by_byte (bytes o) (known_number bytes (suc o) n) refl refl e (λ y k. number_known bytes place (suc o) n y holds k)
  where
    by_byte : (b : KnownByte) (rest : Option ℕ) → bytes o ≡ b → known_number bytes (suc o) n ≡ rest → lowest_first b rest ≡ Some x → ((y : ℕ) → known_number bytes (suc o) n ≡ Some y → little_from (suc o) n place ≡ y) →
        slice_index place o + 256 * little_from (suc o) n place ≡ x
    by_byte AnyByte rest is k h ih = absurd (cc)
    by_byte (IsByte b) None is k h ih = absurd (cc)
    by_byte (IsByte b) (Some y) is k h ih =
        let P : KnownByte → Type 0 = λ known. HoldsByte known (slice_index place o) in
        let byte : slice_index place o ≡ b = subst P is (holds o) in
        let others : little_from (suc o) n place ≡ y = ih y k in
        let sum : b + 256 * y ≡ x = cc in
        ap (λ a. a + 256 * little_from (suc o) n place) byte ∙ ap (λ r. b + 256 * r) others ∙ sum

-- bytes that are written
pub small-written : (o : ℕ) (place xs : List ℕ) → AreBytes place → AreBytes xs → AreBytes (put_mid o (length xs) place xs)
small-written o place xs small new =
    small-append (take o place) (xs ++ drop (length xs) (drop o place)) (small-take o place small)
    (small-append xs (drop (length xs) (drop o place)) new (small-drop (length xs) (drop o place) (small-drop o place small)))

byte-inside : (o q : ℕ) (place xs : List ℕ) → o ≤ length place → o ≤ q → q < o + length xs → slice_index (put_mid o (length xs) place xs) q ≡ slice_index xs (q - o)
byte-inside o q place xs fits from to =
    get_or-append_right (take o place) (xs ++ drop (length xs) (drop o place)) o q 0 (omega (arith, length-take o place)) from
    ∙ get_or_append_left xs (drop (length xs) (drop o place)) 0 (q - o) (omega arith)

byte-outside : (o q : ℕ) (place xs : List ℕ) → o + length xs ≤ length place → (q < o) ⊎ (o + length xs ≤ q) → slice_index (put_mid o (length xs) place xs) q ≡ slice_index place q
byte-outside o q place xs fits (inl below) =
    get_or_append_left (take o place) (xs ++ drop (length xs) (drop o place)) 0 q (omega (arith, length-take o place)) ∙ get_or-take o place q 0 below
byte-outside o q place xs fits (inr above) =
    get_or-append_right (take o place) (xs ++ drop (length xs) (drop o place)) o q 0 (omega (arith, length-take o place)) (omega arith)
    ∙ get_or-append_right xs (drop (length xs) (drop o place)) (length xs) (q - o) 0 refl (omega arith)
    ∙ get_or-drop (length xs) (drop o place) (q - o - length xs) 0
    ∙ get_or-drop o place (length xs + (q - o - length xs)) 0
    ∙ ap (λ i. get_or place i 0) (omega arith)

-- the bytes of a value
pub low_byte : (i n x j : ℕ) → j < n → get_or (bytes_low_first i n x) j 0 ≡ byte_at (i + j) x
low_byte i zero x j h = absurd (omega arith)
low_byte i (suc n) x zero h = let same : i ≡ i + 0 = omega arith in ap (λ k. byte_at k x) same
low_byte i (suc n) x (suc j) h = let same : suc i + j ≡ i + suc j = omega arith in low_byte (suc i) n x j (omega arith) ∙ ap (λ k. byte_at k x) same

pub length-low_first : (i n x : ℕ) → length (bytes_low_first i n x) ≡ n
length-low_first i zero x = refl
length-low_first i (suc n) x = ap suc (length-low_first (suc i) n x)

-- of single bytes
pub bytes-written : (bytes : ℕ → KnownByte) (o n : ℕ) (value : Option ℕ) (place xs : List ℕ) → o + n ≤ length place → length xs ≡ n → ((j : ℕ) → j < n → HoldsByte (value_byte value j) (slice_index xs j)) → BytesHold bytes place →
    BytesHold (with_bytes bytes o n value) (put_mid o (length xs) place xs)
unfolding with_bytes
bytes-written bytes o n value place xs fits size own holds q = by_place (nat_le o q && nat_lt q (o + n)) refl
  where
    by_place : (b : Bool) → (nat_le o q && nat_lt q (o + n)) ≡ b → HoldsByte (cond b (value_byte value (q - o)) (bytes q)) (slice_index (put_mid o (length xs) place xs) q)
    by_place true e =
        let parts = and_parts (nat_le o q) (nat_lt q (o + n)) e in
        let from : o ≤ q = grind (arith, nat_tests, parts.0) in
        let to : q < o + n = grind (arith, nat_tests, parts.1) in
        rw (byte-inside o q place xs (omega arith) from (omega arith)) (own (q - o) (omega arith))
    by_place false e = rw (byte-outside o q place xs (omega arith) (apart (and_cases (nat_le o q) (nat_lt q (o + n)) e))) (holds q)
      where
        apart : (nat_le o q ≡ false) ⊎ (nat_lt q (o + n) ≡ false) → (q < o) ⊎ (o + length xs ≤ q)
        apart (inl h) = inl (grind (arith, nat_tests))
        apart (inr h) = let past : o + n ≤ q = grind (arith, nat_tests) in inr (omega arith)

-- of words of eight bytes
pub slots-written : (slots : ℕ → Cell) (o n : ℕ) (damage : Damage) (place xs : List ℕ) → o + n ≤ length place → length xs ≡ n → SlotsHold slots damage place → SlotsHold (without_slots slots o n) damage (put_mid o (length xs) place xs)
unfolding without_slots
slots-written slots o n damage place xs fits size holds k = by_place (nat_le (8 * k + 8) o || nat_le (o + n) (8 * k)) refl
  where
    by_place : (b : Bool) → (nat_le (8 * k + 8) o || nat_le (o + n) (8 * k)) ≡ b → Holds (cond b (slots k) Free) damage (number_at (8 * k) (put_mid o (length xs) place xs))
    by_place true e = rw (ap (little_number 8) (read-other o (8 * k) 8 place xs (omega arith) (apart (or_cases (nat_le (8 * k + 8) o) (nat_le (o + n) (8 * k)) e)))) (holds k)
      where
        apart : (nat_le (8 * k + 8) o ≡ true) ⊎ (nat_le (o + n) (8 * k) ≡ true) → (8 * k + 8 ≤ o) ⊎ (o + length xs ≤ 8 * k)
        apart (inl h) = inl (grind (arith, nat_tests))
        apart (inr h) = let past : o + n ≤ 8 * k = grind (arith, nat_tests) in inr (omega arith)
    by_place false e = tt

-- the lowest bytes of a value are what is known of them
pub value_bytes : (n v : ℕ) (value : Option ℕ) → ((x : ℕ) → value ≡ Some x → v ≡ x) → (j : ℕ) → j < n → HoldsByte (value_byte value j) (slice_index (little_bytes n v) j)
value_bytes n v None is j h = tt
value_bytes n v (Some x) is j h =
    let whole : 0 + j ≡ j = omega arith in
    low_byte 0 n v j h ∙ ap (λ k. byte_at k v) whole ∙ ap (byte_at j) (is x refl)
