-- Powers of two around a width.
use Rattle.std.proofs.Common.{◌≡◌, ◌≤◌, ◌<◌, ℕ, suc, ◌+◌, ◌-◌, ◌*◌, ◌^◌, arith, ap, sym, ◌∙◌, subst}
use Rattle.std.proofs.lemmas.Nat.{pow_pos, pow-add}
use Rattle.std.proofs.Math.Nat.{pow-suc, pow-le-pow_right}

-- a power is twice the one before it
pub twice : (w : ℕ) → 1 ≤ w → 2 ^ w ≡ 2 * 2 ^ (w - 1)
twice w some = ap (λ (m : ℕ). 2 ^ m) (let e : w ≡ suc (w - 1) = omega arith in e) ∙ pow-suc 2 (w - 1) ∙ omega arith

-- the values of a width, so many times, are those of a word
pub parts_of_word : (w : ℕ) → w ≤ 64 → 2 ^ w * 2 ^ (64 - w) ≡ 2 ^ 64
parts_of_word w most = sym (pow-add 2 w (64 - w)) ∙ ap (λ (m : ℕ). 2 ^ m) (let e : w + (64 - w) ≡ 64 = omega arith in e)

pub half_most : (w : ℕ) → w ≤ 64 → 2 ^ (w - 1) ≤ 2 ^ 63
half_most w most = pow-le-pow_right {n = 2} (omega arith) {i = w - 1} {j = 63} (omega arith)

-- what is known of a width: half its numbers, all of them, and what a word has beyond them
pub record Width (w : ℕ) : Type 0 where
  pub some : 1 ≤ w
  pub most : w ≤ 64
  pub whole : 2 ^ w ≡ 2 * 2 ^ (w - 1)
  pub positive : 0 < 2 ^ (w - 1)
  pub half : 2 ^ (w - 1) ≤ 2 ^ 63
  pub word : 2 ^ w * 2 ^ (64 - w) ≡ 2 ^ 64
  pub rest : 0 < 2 ^ (64 - w)

pub width : (w : ℕ) → 1 ≤ w → w ≤ 64 → Width w
width w some most =
    record {
      some = some;
      most = most;
      whole = twice w some;
      positive = pow_pos (w - 1);
      half = half_most w most;
      word = parts_of_word w most;
      rest = pow_pos (64 - w);
    }
