-- Words that the bytes of slots spell.
use Rattle.std.proofs.Common.{◌≡◌, ◌≤◌, ◌<◌, ◌^◌, ◌-◌, ◌*◌, ℕ, zero, suc, ◌+◌, List, [], ◌∷◌, map, length, get_or, drop, set, ◌≢◌, Some, below_more, get_or-set_same, get_or-set_other, arith, refl, ap, sym, ◌∙◌}
use Rattle.std.proofs.Math.Nat.{pow-suc, pow-le-pow_right}
use Rattle.std.proofs.lemmas.List.{at_drop_more}
use Rattle.std.specs.Option.{option_map}
use Rattle.std.specs.Int.{byte_at, bytes_low_first}
use Rattle.ir_model.specs.Values.{Byte}
use Rattle.ir_model.specs.Memory.{number_in}
use Rattle.ir_model.proofs.Spelled.{spelled}
use Rattle.mem_cells.specs.declared.slots.Slot.{Slot}
use Rattle.mem_cells.specs.Slots.{word_of, slot_in, slots_from}

-- a word of fewer than eight bytes has room for one more
pub room : (n k w : ℕ) → 0 < k → k ≤ n → n ≤ 8 → w < 256 ^ (n - k) → (256 * w + 256 ≤ 256 ^ (n - (k - 1))) × (256 * w + 256 ≤ 2 ^ 64)
room n k w some within eight lt =
    let next : n - (k - 1) ≡ suc (n - k) = omega arith in
    let power : 256 ^ (n - (k - 1)) ≡ 256 ^ (n - k) * 256 = ap (λ (m : ℕ). 256 ^ m) next ∙ pow-suc 256 (n - k) in
    let most : 256 ^ (n - (k - 1)) ≤ 256 ^ 8 = pow-le-pow_right {n = 256} (omega arith) {i = n - (k - 1)} {j = 8} (omega arith) in
    (omega (arith, power, lt), omega (arith, power, lt, most))

-- the word of slots from one on is that of those after it, and its byte
pub word_more : (byte : Slot → ℕ) (slots : List Slot) (k w : ℕ) (d : Slot) → 0 < k → k ≤ length slots → w ≡ word_of byte (drop k slots)
    → 256 * w + byte (get_or slots (k - 1) d) ≡ word_of byte (drop (k - 1) slots)
word_more byte slots k w d some within is =
    let next : k - 1 + 1 ≡ k = omega arith in
    let found : word_of byte (drop (k - 1) slots) ≡ byte (get_or slots (k - 1) d) + 256 * word_of byte (drop (k - 1 + 1) slots) =
    at_drop_more (word_of byte) slots (k - 1) d (omega arith) in
    let rest : word_of byte (drop (k - 1 + 1) slots) ≡ w = ap (λ (m : ℕ). word_of byte (drop m slots)) next ∙ sym is in
    omega (arith, found, rest)

-- the bytes of a number, by their places
pub byte_of : (i n x k : ℕ) → k < n → get_or (bytes_low_first i n x) k 0 ≡ byte_at (i + k) x
byte_of i zero x k lt = absurd (omega arith)
byte_of i (suc n) x zero lt = ap (λ (m : ℕ). byte_at m x) (let e : i ≡ i + 0 = omega arith in e)
byte_of i (suc n) x (suc k) lt = byte_of (suc i) n x k (omega arith) ∙ ap (λ (m : ℕ). byte_at m x) (let e : suc i + k ≡ i + suc k = omega arith in e)

pub byte_at_index : (n x k : ℕ) → k < n → get_or (bytes_low_first 0 n x) k 0 ≡ byte_at k x
byte_at_index n x k lt = byte_of 0 n x k lt ∙ ap (λ (m : ℕ). byte_at m x) (let e : 0 + k ≡ k = omega arith in e)

-- a slot more is as it should be
pub slot_more : (slot : ℕ → Slot) (xs : List Slot) (k : ℕ) (s d : Slot) → k < length xs → s ≡ slot k → ((j : ℕ) → j < k → get_or xs j d ≡ slot j)
    → (j : ℕ) → j < k + 1 → get_or (set xs k s) j d ≡ slot j
slot_more slot xs k s d lt is each =
    below_more (λ (j : ℕ). get_or (set xs k s) j d ≡ slot j) k
    (λ j less. let ne : j ≢ k = omega arith in get_or-set_other xs k j s d ne ∙ each j less)
    (get_or-set_same xs k s d lt ∙ is)

-- slots that are as they should be at each index
pub slots_are : (slot : ℕ → Slot) (k n : ℕ) (xs : List Slot) (d : Slot) → length xs ≡ n → ((j : ℕ) → j < n → get_or xs j d ≡ slot (k + j))
    → xs ≡ slots_from slot k n
slots_are slot k zero [] d long each = refl
slots_are slot k zero (x ∷ xs) d long each = absurd (omega arith)
slots_are slot k (suc n) [] d long each = absurd (omega arith)
slots_are slot k (suc n) (x ∷ xs) d long each =
    let first : x ≡ slot k = each 0 (omega arith) ∙ ap slot (let e : k + 0 ≡ k = omega arith in e) in
    let rest : xs ≡ slots_from slot (suc k) n =
    slots_are slot (suc k) n xs d (omega arith) (λ j lt. each (suc j) (omega arith) ∙ ap slot (let e : k + suc j ≡ suc k + j = omega arith in e)) in
    ap (λ (s : Slot). s ∷ xs) first ∙ ap (λ (ss : List Slot). slot k ∷ ss) rest

-- bytes of a number in slots spell what they spell in memory
low_spelled : (first step low high k n : ℕ)
    → number_in (map Byte (bytes_low_first k n low)) ≡ Some (word_of (λ s. s.low) (slots_from (slot_in first step low high) k n))
low_spelled first step low high k zero = refl
low_spelled first step low high k (suc n) =
    ap (option_map (λ rest. byte_at k low + 256 * rest)) (low_spelled first step low high (suc k) n)

high_spelled : (first step low high k n : ℕ)
    → number_in (map Byte (bytes_low_first k n high)) ≡ Some (word_of (λ s. s.high) (slots_from (slot_in first step low high) k n))
high_spelled first step low high k zero = refl
high_spelled first step low high k (suc n) =
    ap (option_map (λ rest. byte_at k high + 256 * rest)) (high_spelled first step low high (suc k) n)

same_some : (m n : ℕ) → Some m ≡ Some n → m ≡ n
same_some m n is = grind arith

-- so eight slots of a word spell it
pub low_word_kept : (first step low high : ℕ) → low < 2 ^ 64 → word_of (λ s. s.low) (slots_from (slot_in first step low high) 0 8) ≡ low
low_word_kept first step low high lt = same_some _ _ (sym (low_spelled first step low high 0 8) ∙ spelled 8 low lt)

pub high_word_kept : (first step low high : ℕ) → high < 2 ^ 64 → word_of (λ s. s.high) (slots_from (slot_in first step low high) 0 8) ≡ high
high_word_kept first step low high lt = same_some _ _ (sym (high_spelled first step low high 0 8) ∙ spelled 8 high lt)
