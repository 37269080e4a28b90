-- Operations whose low bits come of those of their operands.
use Rattle.std.proofs.Common.{◌≡◌, ◌≤◌, ◌<◌, ℕ, zero, suc, ◌+◌, ◌-◌, ◌*◌, ◌/◌, ◌%◌, ◌^◌, inl, inr, arith, refl, ap, ap₂, sym, ◌∙◌, subst}
use Rattle.std.proofs.lemmas.Bool.{cases_lt}
use Rattle.std.proofs.lemmas.Nat.{mul-le, mul-mod, mul-mod_first, div-add-mod'}
use Rattle.std.proofs.Math.Nat.{mod-lt, mul-add-mod_self_right}
use Rattle.rv_model.specs.State.{plus64}
use Rattle.rv_model.specs.Operations.{minus64, times64}
use Rattle.op_words.proofs.Powers.{Width}

-- the low bits of the low 64 bits are those of the number
pub within : (w n : ℕ) → Width w → n % 2 ^ 64 % 2 ^ w ≡ n % 2 ^ w
within w n is =
    let q : ℕ = n / 2 ^ 64 in
    let r : ℕ = n % 2 ^ 64 in
    let split : n ≡ q * 2 ^ 64 + r = sym (div-add-mod' n (2 ^ 64)) in
    let parts : n ≡ q * 2 ^ (64 - w) * 2 ^ w + r =
    split ∙ ap (λ (p : ℕ). q * p + r) (sym is.word) ∙ (let e : q * (2 ^ w * 2 ^ (64 - w)) + r ≡ q * 2 ^ (64 - w) * 2 ^ w + r = omega arith in e) in
    sym (ap (λ (x : ℕ). x % 2 ^ w) parts ∙ mul-add-mod_self_right (q * 2 ^ (64 - w)) (2 ^ w) r)

-- the low bits of a sum of parts
parts_low : (W p q a b : ℕ) → (p * W + a + (q * W + b)) % W ≡ (a + b) % W
parts_low W p q a b =
    ap (λ (x : ℕ). x % W) (let e : p * W + a + (q * W + b) ≡ (p + q) * W + (a + b) = omega arith in e) ∙ mul-add-mod_self_right (p + q) W (a + b)

pub sum_low : (w x y a b : ℕ) → Width w → x % 2 ^ w ≡ a → y % 2 ^ w ≡ b → plus64 x y % 2 ^ w ≡ (a + b) % 2 ^ w
sum_low w x y a b is ia ib =
    let W : ℕ = 2 ^ w in
    let px : x ≡ x / W * W + a = sym (div-add-mod' x W) ∙ ap (λ (r : ℕ). x / W * W + r) ia in
    let py : y ≡ y / W * W + b = sym (div-add-mod' y W) ∙ ap (λ (r : ℕ). y / W * W + r) ib in
    within w (x + y) is ∙ ap₂ (λ (u v : ℕ). (u + v) % W) px py ∙ parts_low W (x / W) (y / W) a b

pub difference_low : (w x y a b : ℕ) → Width w → y < 2 ^ 64 → x % 2 ^ w ≡ a → y % 2 ^ w ≡ b → minus64 x y % 2 ^ w ≡ (a + (2 ^ w - b)) % 2 ^ w
difference_low w x y a b is lt ia ib =
    let W : ℕ = 2 ^ w in
    let K : ℕ = 2 ^ (64 - w) in
    let q : ℕ = y / W in
    let px : x ≡ x / W * W + a = sym (div-add-mod' x W) ∙ ap (λ (r : ℕ). x / W * W + r) ia in
    let py : y ≡ q * W + b = sym (div-add-mod' y W) ∙ ap (λ (r : ℕ). q * W + r) ib in
    let small : b < W = subst (λ (r : ℕ). r < W) ib (mod-lt y (let e : 0 < 2 ^ w = omega (arith, is.whole, is.positive) in e)) in
    let rest : 2 ^ 64 - y ≡ (K - suc q) * W + (W - b) = mirrored W K q y b is.word py small lt in
    within w (x + (2 ^ 64 - y)) is ∙ ap₂ (λ (u v : ℕ). (u + v) % W) px rest ∙ parts_low W (x / W) (K - suc q) a (W - b)
  where
    quotient_below : (W K q y b : ℕ) → W * K ≡ 2 ^ 64 → y ≡ q * W + b → y < 2 ^ 64 → q < K
    quotient_below W K q y b whole py lt = elim (cases_lt q K) [
      | inl few ↦ few
      | inr many ↦ absurd (let le : K * W ≤ q * W = mul-le K W q W many (omega arith) in let turned : K * W ≡ 2 ^ 64 = omega arith in omega arith)
    ]

    mirrored : (W K q y b : ℕ) → W * K ≡ 2 ^ 64 → y ≡ q * W + b → b < W → y < 2 ^ 64 → 2 ^ 64 - y ≡ (K - suc q) * W + (W - b)
    mirrored W K q y b whole py small lt =
        let few : q < K = quotient_below W K q y b whole py lt in
        let d : ℕ = K - suc q in
        let split : K ≡ d + suc q = omega arith in
        let parts : W * (d + suc q) ≡ 2 ^ 64 = ap (λ (v : ℕ). W * v) (sym split) ∙ whole in
        omega arith

pub product_low : (w x y a b : ℕ) → Width w → x % 2 ^ w ≡ a → y % 2 ^ w ≡ b → times64 x y % 2 ^ w ≡ a * b % 2 ^ w
product_low w x y a b is ia ib = within w (x * y) is ∙ mul-mod x y (2 ^ w) ∙ ap₂ (λ (u v : ℕ). u * v % 2 ^ w) ia ib

pub shift_low : (w x a k : ℕ) → Width w → x % 2 ^ w ≡ a → x * 2 ^ k % 2 ^ 64 % 2 ^ w ≡ a * 2 ^ k % 2 ^ w
shift_low w x a k is ia = within w (x * 2 ^ k) is ∙ sym (mul-mod_first x (2 ^ k) (2 ^ w)) ∙ ap (λ (u : ℕ). u * 2 ^ k % 2 ^ w) ia
