-- Bytes that are written are read, and the others stay.
use Rattle.std.proofs.Common.{◌≡◌, ℕ, ◌+◌, ◌-◌, ◌<◌, ◌≤◌, ◌^◌, ◌⊎◌, inl, inr, List, [], length, take, drop, refl, sym, ◌∙◌, ap, arith, length-append, length-take, length-drop, append-nil}
use Rattle.std.specs.Prelude.{slice_range}
use Rattle.std.proofs.lemmas.Slice.{take-put_mid_below, drop-put_mid, between-put_mid, between_is}
use Rattle.byteorder.specs.Endian.{little_number, little_bytes}
use Rattle.byteorder.specs.Numbers.{little_number-reads_back}
use borrow.Rule.Slice.PartMut.{put_mid}

-- the bytes that were written at o are read there
pub read-written : (o : ℕ) (mem bytes : List ℕ) → o ≤ length mem → slice_range (put_mid o (length bytes) mem bytes) o (o + length bytes) ≡ bytes
read-written o mem bytes h = between-put_mid o (length bytes) mem bytes (o + length bytes) h (omega arith)

-- bytes that are apart from them stay
pub read-other : (o q n : ℕ) (mem bytes : List ℕ) → o + length bytes ≤ length mem → (q + n ≤ o) ⊎ (o + length bytes ≤ q) → slice_range (put_mid o (length bytes) mem bytes) q (q + n) ≡ slice_range mem q (q + n)
read-other o q n mem bytes h (inl below) =
    between_is (put_mid o (length bytes) mem bytes) q (q + n)
    ∙ ap (drop q) (take-put_mid_below o (length bytes) mem bytes (q + n) below (omega arith))
    ∙ sym (between_is mem q (q + n))
read-other o q n mem bytes h (inr above) =
    ap (take (q + n - q)) (drop-put_mid o (length bytes) mem bytes q above (omega arith) refl)

-- a write changes no length
pub length-written : (o : ℕ) (mem bytes : List ℕ) → o + length bytes ≤ length mem → length (put_mid o (length bytes) mem bytes) ≡ length mem
length-written o mem bytes h = simp (length-append, length-take, length-drop) (omega arith)

-- the bytes of a number give the number back
pub little_number-little_bytes : (n x : ℕ) → x < 256 ^ n → little_number n (little_bytes n x) ≡ x
little_number-little_bytes n x h =
    ap (little_number n) (sym (append-nil (little_bytes n x))) ∙ little_number-reads_back n x [] h
