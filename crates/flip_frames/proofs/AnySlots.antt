-- Slots near or far, as one law.
use Rattle.std.proofs.Common.{◌≡◌, ◌≢◌, ℕ, ◌+◌, ◌-◌, ◌*◌, ◌/◌, ◌<◌, ◌^◌, ◌==◌, Bool, true, false, cond, List, Option, None, refl, ◌∙◌, ap, subst, arith}
use Rattle.std.specs.Prelude.{ℤ, pos, negsuc, ◌-ℤ◌, nat_lt}
use Rattle.std.proofs.lemmas.Bool.Decides.{nat_tests}
use Rattle.std.proofs.lemmas.Int.{ints}
use Rattle.rv_inst.specs.declared.instruction.Form.{Form}
use Rattle.rv_model.specs.State.{plus64}
use Rattle.rv_model.specs.Operations.{bits64, upper_value}
use Rattle.rv_flips.specs.Cells.{Tag, SaysLess}
use Rattle.rv_flips.proofs.CellLemmas.{says_free}
use Rattle.flip_words.proofs.LessLemmas.{says_again, says_then}
use Rattle.flip_frames.specs.Views.{View, IsVersion, Runs, is_scratch, version, with_value, with_scratch}
use Rattle.flip_frames.specs.Slots.{near_load, near_store, far_load, far_store, far_high, far_low, is_near, any_load, any_store, far_view, IsOffset, IsInData, with_slot}
use Rattle.flip_frames.proofs.ViewLemmas.{with_value-same, with_value-other}
use Rattle.flip_frames.proofs.RunLaws.{runs_less}
use Rattle.flip_frames.proofs.Votes.{near_load_runs, near_store_runs}
use Rattle.flip_frames.proofs.FarSlots.{far_load_runs, far_store_runs}

-- the upper part is a number of 31 bits
upper_is : (h : ℕ) → 2 ^ 12 * h < 2 ^ 31 → upper_value (pos h) ≡ 2 ^ 12 * h
upper_is h small =
    let test : nat_lt (2 ^ 12 * h) (2 ^ 31) ≡ true = grind (arith, nat_tests) in
    ap (λ b. cond b (2 ^ 12 * h) (2 ^ 12 * h + 2 ^ 64 - 2 * 2 ^ 31)) test

-- the bits of a difference that isn't far from 0
bits_of_difference : (a b : ℕ) → a < 2 ^ 31 → b < 2 ^ 31 → (z : ℤ) → z ≡ pos a -ℤ pos b → plus64 b (bits64 z) ≡ a
bits_of_difference a b h k (pos n) e = omega (arith, ints)
bits_of_difference a b h k (negsuc n) e = omega (arith, ints)

pub far_offset : (n : ℕ) → n < 0x800_0000 → IsOffset (far_high n) (far_low n) n
far_offset n small =
    let h = (8 * n + 2048) / 4096 in
    let upper : upper_value (pos ((8 * n + 2048) / 4096)) ≡ 2 ^ 12 * ((8 * n + 2048) / 4096) = upper_is ((8 * n + 2048) / 4096) (omega arith) in
    ap (λ u. plus64 u (bits64 (far_low n))) upper ∙ bits_of_difference (8 * n) (4096 * ((8 * n + 2048) / 4096)) (omega arith) (omega arith) (far_low n) refl

-- the values when x28 and x29 are used up
abbrev used_up : (ℕ → Option ℕ) → ℕ → Option ℕ
used_up f = with_value (with_value f 28 None) 29 None

-- a version says no less where a value is unknown from here
one_used : (t : Tag) (f : ℕ → Option ℕ) (r q : ℕ) → SaysLess (version t (f q)) (version t (with_value f r None q))
one_used t f r q = by_place (q == r) refl
  where
    by_place : (b : Bool) → (q == r) ≡ b → SaysLess (version t (f q)) (version t (with_value f r None q))
    by_place true e =
        let same : r ≡ q = grind (arith, nat_tests) in
        let P : ℕ → Type 0 = λ k. SaysLess (version t (f k)) (version t (with_value f r None k)) in
        subst P same (rw (with_value-same f r None) (says_free (version t (f r))))
    by_place false e = let other : q ≢ r = grind (arith, nat_tests) in rw (with_value-other f r q None other) (says_again (version t (f q)))

both_used : (t : Tag) (f : ℕ → Option ℕ) (q : ℕ) → SaysLess (version t (f q)) (version t (used_up f q))
both_used t f q = says_then (version t (f q)) (version t (with_value f 28 None q)) (version t (used_up f q)) (one_used t f 28 q) (one_used t (with_value f 28 None) 29 q)

used_but : (t : Tag) (f : ℕ → Option ℕ) (r : ℕ) (o : Option ℕ) (q : ℕ) → SaysLess (version t (with_value f r o q)) (version t (with_value (used_up f) r o q))
used_but t f r o q = by_place (q == r) refl
  where
    by_place : (b : Bool) → (q == r) ≡ b → SaysLess (version t (with_value f r o q)) (version t (with_value (used_up f) r o q))
    by_place true e =
        let same : r ≡ q = grind (arith, nat_tests) in
        let P : ℕ → Type 0 = λ k. SaysLess (version t (with_value f r o k)) (version t (with_value (used_up f) r o k)) in
        subst P same (rw (with_value-same f r o, with_value-same (used_up f) r o) (says_again (version t o)))
    by_place false e =
        let other : q ≢ r = grind (arith, nat_tests) in
        rw (with_value-other f r q o other, with_value-other (used_up f) r q o other) (both_used t f q)

-- a tag of a view that is kept is a version's: a law of a sequence may rest on it
with_tag : {words : List ℕ} {code : List Form} {v w : View} → (IsVersion v.tag → Runs words code v w) → Runs words code v w
with_tag law = record { carries = λ is p. (law is.tag).carries is p; kept = λ is. (law is.tag).kept is }

near_loads : (words : List ℕ) (v : View) (r n : ℕ) (o : Option ℕ) → is_scratch r ≡ true → IsInData v n → v.stage.slots (v.stage.base + n) ≡ version v.tag o → Runs words (near_load r n) v (with_scratch (far_view v) r o)
near_loads words v r n o scratch within holds = with_tag (λ tag. runs_less v.tag (with_value (used_up v.file) r o) tag (used_but v.tag v.file r o) (near_load_runs words v r n o scratch within holds))

near_stores : (words : List ℕ) (v : View) (r n : ℕ) → is_scratch r ≡ true → IsInData v n → Runs words (near_store r n) v (with_slot (far_view v) n (v.file r))
near_stores words v r n scratch within = with_tag (λ tag. runs_less v.tag (used_up v.file) tag (both_used v.tag v.file) (near_store_runs words v r n scratch within))

pub any_load_runs : (words : List ℕ) (v : View) (r n : ℕ) (o : Option ℕ) → is_scratch r ≡ true → n < 0x800_0000 → IsInData v n → v.stage.slots (v.stage.base + n) ≡ version v.tag o → Runs words (any_load r n) v (with_scratch (far_view v) r o)
any_load_runs words v r n o scratch small within holds = by_size (is_near n)
  where
    by_size : (b : Bool) → Runs words (cond b (near_load r n) (far_load r (far_high n) (far_low n))) v (with_scratch (far_view v) r o)
    by_size true = near_loads words v r n o scratch within holds
    by_size false = far_load_runs words v r n (far_high n) (far_low n) o scratch within (far_offset n small) holds

pub any_store_runs : (words : List ℕ) (v : View) (r n : ℕ) → is_scratch r ≡ true → r ≢ 28 → r ≢ 29 → n < 0x800_0000 → IsInData v n → Runs words (any_store r n) v (with_slot (far_view v) n (v.file r))
any_store_runs words v r n scratch ne ne' small within = by_size (is_near n)
  where
    by_size : (b : Bool) → Runs words (cond b (near_store r n) (far_store r (far_high n) (far_low n))) v (with_slot (far_view v) n (v.file r))
    by_size true = near_stores words v r n scratch within
    by_size false = far_store_runs words v r n (far_high n) (far_low n) scratch ne ne' within (far_offset n small)
