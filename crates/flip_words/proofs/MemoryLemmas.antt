-- Words and bytes of the data, through loads and stores of eight bytes.
use Rattle.std.proofs.Common.{◌≡◌, ◌≢◌, ℕ, zero, suc, ◌+◌, ◌-◌, ◌*◌, ◌/◌, ◌<◌, ◌≤◌, ◌^◌, ◌==◌, ◌⊎◌, inl, inr, Bool, true, false, cond, List, ◌++◌, length, take, drop, get_or, refl, ◌∙◌, ap, subst, arith, length-take}
use Rattle.std.specs.Prelude.{slice_range, slice_index, nat_lt}
use Rattle.std.proofs.lemmas.Bool.Decides.{nat_tests}
use Rattle.std.proofs.lemmas.List.{get_or_past, get_or_append_left, get_or-append_right, get_or-take, get_or-drop}
use Rattle.byteorder.specs.Endian.{little_number, little_bytes}
use Rattle.byteorder.specs.Numbers.{little_from-lt}
use Rattle.std.specs.Int.{byte_at, bytes_low_first}
use borrow.Rule.Slice.PartMut.{put_mid}
use Rattle.rv_model.proofs.ByteLemmas.{read-written, read-other, length-written, little_number-little_bytes}
use Rattle.rv_flips.specs.Cells.{Damage, Cell, Holds}
use Rattle.rv_flips.specs.Assertion.{KnownByte, AnyByte, SlotsHold, BytesHold, HoldsByte, AreBytes, number_at, with_register}
use Rattle.rv_flips.proofs.CellLemmas.{with_register-same, with_register-other}
use Rattle.flip_words.specs.Memory.{without_bytes}

-- lists of bytes
pub small-append : (xs ys : List ℕ) → AreBytes xs → AreBytes ys → AreBytes (xs ++ ys)
small-append xs ys h k o = by_place (nat_lt o (length xs)) refl
  where
    by_place : (b : Bool) → nat_lt o (length xs) ≡ b → slice_index (xs ++ ys) o < 2 ^ 8
    by_place true e =
        let at : get_or (xs ++ ys) o 0 ≡ get_or xs o 0 = get_or_append_left xs ys 0 o (grind (arith, nat_tests)) in
        let small : get_or xs o 0 < 2 ^ 8 = h o in
        omega arith
    by_place false e =
        let at : get_or (xs ++ ys) o 0 ≡ get_or ys (o - length xs) 0 = get_or-append_right xs ys (length xs) o 0 refl (grind (arith, nat_tests)) in
        let small : get_or ys (o - length xs) 0 < 2 ^ 8 = k (o - length xs) in
        omega arith

pub small-take : (n : ℕ) (xs : List ℕ) → AreBytes xs → AreBytes (take n xs)
small-take n xs h o = by_place (nat_lt o n) refl
  where
    by_place : (b : Bool) → nat_lt o n ≡ b → slice_index (take n xs) o < 2 ^ 8
    by_place true e =
        let at : get_or (take n xs) o 0 ≡ get_or xs o 0 = get_or-take n xs o 0 (grind (arith, nat_tests)) in
        let small : get_or xs o 0 < 2 ^ 8 = h o in
        omega arith
    by_place false e =
        let above : n ≤ o = grind (arith, nat_tests) in
        let past : get_or (take n xs) o 0 ≡ 0 = get_or_past (take n xs) o 0 (omega (arith, length-take n xs)) in
        omega arith

pub small-drop : (n : ℕ) (xs : List ℕ) → AreBytes xs → AreBytes (drop n xs)
small-drop n xs h o =
    let at : get_or (drop n xs) o 0 ≡ get_or xs (n + o) 0 = get_or-drop n xs o 0 in
    let small : get_or xs (n + o) 0 < 2 ^ 8 = h (n + o) in
    omega arith

byte_small : (i n : ℕ) → byte_at i n < 2 ^ 8
byte_small zero n = omega arith
byte_small (suc i) n = omega arith

pub small-low_first : (i n x : ℕ) → AreBytes (bytes_low_first i n x)
small-low_first i zero x o = omega arith
small-low_first i (suc n) x zero = byte_small i x
small-low_first i (suc n) x (suc o) = small-low_first (suc i) n x o

-- the number in eight bytes is one of 64 bits
pub number_at-wide : (o : ℕ) (place : List ℕ) → AreBytes place → number_at o place < 2 ^ 64
number_at-wide o place small = little_from-lt 0 8 (slice_range place o (o + 8)) (small-take (o + 8 - o) (drop o place) (small-drop o place small))

-- the data after the eight bytes of v are written at o
abbrev pub stored_at : ℕ → ℕ → List ℕ → List ℕ
stored_at o v place = put_mid o 8 place (little_bytes 8 v)

pub length-stored_at : (o v : ℕ) (place : List ℕ) → o + 8 ≤ length place → length (stored_at o v place) ≡ length place
length-stored_at o v place fits = length-written o place (little_bytes 8 v) fits

pub small-stored_at : (o v : ℕ) (place : List ℕ) → AreBytes place → AreBytes (stored_at o v place)
small-stored_at o v place small =
    small-append (take o place) (little_bytes 8 v ++ drop 8 (drop o place)) (small-take o place small)
    (small-append (little_bytes 8 v) (drop 8 (drop o place)) (small-low_first 0 8 v) (small-drop 8 (drop o place) (small-drop o place small)))

number_at-stored : (o v : ℕ) (place : List ℕ) → o + 8 ≤ length place → v < 2 ^ 64 → number_at o (stored_at o v place) ≡ v
number_at-stored o v place fits wide = ap (little_number 8) (read-written o place (little_bytes 8 v) (omega arith)) ∙ little_number-little_bytes 8 v wide

number_at-other : (o q v : ℕ) (place : List ℕ) → o + 8 ≤ length place → (q + 8 ≤ o) ⊎ (o + 8 ≤ q) → number_at q (stored_at o v place) ≡ number_at q place
number_at-other o q v place fits apart = ap (little_number 8) (read-other o q 8 place (little_bytes 8 v) fits apart)

-- a byte outside of them stays
byte-other : (o v q : ℕ) (place : List ℕ) → o + 8 ≤ length place → (q < o) ⊎ (o + 8 ≤ q) → slice_index (stored_at o v place) q ≡ slice_index place q
byte-other o v q place fits (inl below) =
    get_or_append_left (take o place) (little_bytes 8 v ++ drop 8 (drop o place)) 0 q (omega (arith, length-take o place)) ∙ get_or-take o place q 0 below
byte-other o v q place fits (inr above) =
    get_or-append_right (take o place) (little_bytes 8 v ++ drop 8 (drop o place)) o q 0 (omega (arith, length-take o place)) (omega arith)
    ∙ get_or-append_right (little_bytes 8 v) (drop 8 (drop o place)) 8 (q - o) 0 refl (omega arith)
    ∙ get_or-drop 8 (drop o place) (q - o - 8) 0
    ∙ get_or-drop o place (8 + (q - o - 8)) 0
    ∙ ap (λ i. get_or place i 0) (omega arith)

-- word k is written: it holds what its cell says, and the other words stay
pub slots-stored : (slots : ℕ → Cell) (cell : Cell) (k v : ℕ) (damage : Damage) (place : List ℕ) → 8 * k + 8 ≤ length place → v < 2 ^ 64 → Holds cell damage v → SlotsHold slots damage place →
    SlotsHold (with_register slots k cell) damage (stored_at (8 * k) v place)
slots-stored slots cell k v damage place fits wide holds h q = by_place (q == k) refl
  where
    by_place : (b : Bool) → (q == k) ≡ b → Holds (with_register slots k cell q) damage (number_at (8 * q) (stored_at (8 * k) v place))
    by_place true e =
        let same : k ≡ q = grind (arith, nat_tests) in
        let P : ℕ → Type 0 = λ n. Holds (with_register slots k cell n) damage (number_at (8 * n) (stored_at (8 * k) v place)) in
        subst P same (rw (with_register-same slots k cell, number_at-stored (8 * k) v place fits wide) holds)
    by_place false e =
        let other : q ≢ k = grind (arith, nat_tests) in
        let apart : (8 * q + 8 ≤ 8 * k) ⊎ (8 * k + 8 ≤ 8 * q) = grind arith in
        rw (with_register-other slots k q cell other, number_at-other (8 * k) (8 * q) v place fits apart) (h q)

-- of its single bytes nothing is known, and the others stay
pub bytes-stored : (bytes : ℕ → KnownByte) (k v : ℕ) (place : List ℕ) → 8 * k + 8 ≤ length place → BytesHold bytes place → BytesHold (without_bytes bytes k) (stored_at (8 * k) v place)
unfolding without_bytes
bytes-stored bytes k v place fits h o = by_place (o / 8 == k) refl
  where
    by_place : (b : Bool) → (o / 8 == k) ≡ b → HoldsByte (cond b AnyByte (bytes o)) (slice_index (stored_at (8 * k) v place) o)
    by_place true e = tt
    by_place false e =
        let other : o / 8 ≢ k = grind (arith, nat_tests) in
        let apart : (o < 8 * k) ⊎ (8 * k + 8 ≤ o) = grind arith in
        rw (byte-other (8 * k) v o place fits apart) (h o)
