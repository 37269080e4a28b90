-- A value is stored at an address that is fetched.
use Rattle.std.proofs.Common.{◌≡◌, ℕ, ◌+◌, ◌*◌, ◌<◌, ◌≤◌, ◌^◌, List, [], ◌∷◌, length, Option, Some, refl, arith, length-append}
use Rattle.std.specs.Prelude.{pos}
use Rattle.rv_inst.specs.declared.instruction.Form.TheVariants.{SB, SH, SW, SD}
use Rattle.rv_model.specs.Text.{data_base}
use Rattle.rv_flips.specs.Cells.{One, Sure, Has}
use Rattle.rv_flips.specs.Assertion.{Assertion, KnowsLess}
use Rattle.rv_flips.specs.Moves.{Covered}
use Rattle.flip_words.specs.Placed.{WindowPoints, Excepted, IsPlaced, Carries}
use Rattle.flip_words.proofs.CarryLemmas.{joined, carries_less}
use Rattle.flip_words.proofs.LessLemmas.{knows_same, carries_placed}
use Rattle.flip_frames.specs.Views.{Stage, IsView, Runs, view_cell, at_address, version}
use Rattle.flip_versions.specs.Operations.{resting}
use Rattle.flip_guards.specs.Guards.{Kept}
use Rattle.flip_guards.specs.Fetching.{Operand, IsGiven, fetch_both, fetched_both, UsesBoth}
use Rattle.flip_guards.proofs.FetchLaws.{both_are_fetched, both_are_covered}
use Rattle.flip_guards.proofs.GuardRuns.{scratch_forgotten}
use Rattle.flip_bytes.specs.Bytes.{after_bytes}
use Rattle.flip_bytes.proofs.AccessWords.{bytes_are_stored}
use Rattle.flip_blocks.specs.Sizes.{AccessSize, OneByte, TwoBytes, FourBytes, EightBytes, bytes_of, store_at}
use Rattle.flip_blocks.specs.Blocks.{IsInside, store_words, with_block}

-- a store uses both the address in x28 and the value in x5
store_uses : (size : AccessSize) → UsesBoth (store_at size 28 5)
store_uses OneByte = record { reads_value = refl; uses_value = refl; reads_address = refl; uses_address = refl }
store_uses TwoBytes = record { reads_value = refl; uses_value = refl; reads_address = refl; uses_address = refl }
store_uses FourBytes = record { reads_value = refl; uses_value = refl; reads_address = refl; uses_address = refl }
store_uses EightBytes = record { reads_value = refl; uses_value = refl; reads_address = refl; uses_address = refl }

-- the word of the store, where both are right
store_carries : (words : List ℕ) (c : Assertion) (size : AccessSize) (o : ℕ) (value : Option ℕ) → c.regs 28 ≡ Has Sure (data_base + o) → c.regs 5 ≡ version Sure value → data_base + o < 2 ^ 64 → o + bytes_of size ≤ c.size → Covered (Excepted WindowPoints words) c →
    Carries words (Excepted WindowPoints words) (store_at size 28 5 ∷ []) c (after_bytes c o (bytes_of size) value (c.pc + 4))
store_carries words c OneByte o value address sure small within covered =
    bytes_are_stored words (Excepted WindowPoints words) c (SB 28 5 (pos 0)) o value refl (record { base = data_base + o; right = address; leads = omega arith; within = within }) sure covered
store_carries words c TwoBytes o value address sure small within covered =
    bytes_are_stored words (Excepted WindowPoints words) c (SH 28 5 (pos 0)) o value refl (record { base = data_base + o; right = address; leads = omega arith; within = within }) sure covered
store_carries words c FourBytes o value address sure small within covered =
    bytes_are_stored words (Excepted WindowPoints words) c (SW 28 5 (pos 0)) o value refl (record { base = data_base + o; right = address; leads = omega arith; within = within }) sure covered
store_carries words c EightBytes o value address sure small within covered =
    bytes_are_stored words (Excepted WindowPoints words) c (SD 28 5 (pos 0)) o value refl (record { base = data_base + o; right = address; leads = omega arith; within = within }) sure covered

-- x5 and x28 are forgotten
stored_less : (g : Stage) (value : Option ℕ) (a o n p q : ℕ) → q ≡ p → KnowsLess (after_bytes (fetched_both g value a p) o n value p) (at_address (resting (with_block g o n value) One) q)
unfolding view_cell
stored_less g value a o n p q at =
    let less = scratch_forgotten (with_block g o n value) (Kept 28 Sure (Some a) ∷ Kept 5 Sure value ∷ []) p refl in
    record { pc = at; regs = less.regs; slots = λ k damage x h. h; bytes = λ k x h. h; size = refl; input = refl; out = refl }

pub block_is_stored : (words : List ℕ) (size : AccessSize) (g : Stage) (x y : Operand) (value : Option ℕ) (o : ℕ) → IsGiven g x value → IsGiven g y (Some (data_base + o)) → IsInside g o size →
    Runs words (store_words size x y) (resting g One) (resting (with_block g o (bytes_of size) value) One)
block_is_stored words size g x y value o gives gives' inside =
    record {
      carries = λ is p.
          carries_placed words (Excepted WindowPoints words) (store_words size x y) (at_address (resting g One) p) (at_address (resting (with_block g o (bytes_of size) value) One) (p + 4 * length (store_words size x y))) refl (λ placed. whole is p placed);
      kept = λ is. record { tag = tt; places = is.places; size = is.size; base = is.base };
    }
  where
    whole : IsView (resting g One) → (p : ℕ) → IsPlaced words p (store_words size x y) →
        Carries words (Excepted WindowPoints words) (store_words size x y) (at_address (resting g One) p) (at_address (resting (with_block g o (bytes_of size) value) One) (p + 4 * length (store_words size x y)))
    whole is p placed =
        let a = data_base + o in
        let j = store_at size 28 5 in
        let q = p + 4 * length (fetch_both x y) in
        let c = fetched_both g value (data_base + o) q in
        let there : p + 4 * length (store_words size x y) ≡ p + 4 * length (fetch_both x y) + 4 = omega (arith, length-append (fetch_both x y) (store_at size 28 5 ∷ [])) in
        let small : data_base + o < 2 ^ 64 = omega (arith, is.size) in
        joined (both_are_fetched words g x y value a p j is gives gives' (store_uses size) placed)
        (carries_less (knows_same c) (store_carries words c size o value refl refl small inside (both_are_covered words g x y value a p j is (store_uses size) placed))
        (stored_less g value a o (bytes_of size) (q + 4) (p + 4 * length (store_words size x y)) there))
