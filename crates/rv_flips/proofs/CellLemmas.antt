-- Cells with each damage.
use Rattle.std.proofs.Common.{◌≡◌, ◌≢◌, ℕ, ◌+◌, ◌-◌, ◌*◌, ◌%◌, ◌<◌, ◌^◌, ◌==◌, ◌⊎◌, inl, inr, Bool, true, false, cond, refl, ap, ◌∙◌, sym, subst, arith}
use lib.Bits.{xor_add_and}
use Rattle.std.proofs.Common.{◌/◌, bit_xor}
use Rattle.std.specs.Prelude.{nat_le, ◌&&◌}
use Rattle.std.proofs.lemmas.Bool.{le-leb, and_from}
use Rattle.std.proofs.lemmas.Bool.Decides.{nat_tests}
use Rattle.std.proofs.lemmas.Nat.Bits.{and_pow}
use Rattle.std.proofs.Math.Pow.{pow-lt}
use Rattle.rv_flips.specs.Cells.{Damage, Nothing, First, Second, Third, Plains, Codes, Tag, Sure, One, Two, Three, Plain, Code, Leaf, Intact, Near, Cell, Free, Has, IsOff, HoldsAfter, Holds, SaysLess, flip_damage}
use Rattle.rv_flips.specs.Assertion.{with_register}

pub same_test : (k : ℕ) → (k == k) ≡ true
same_test k = grind (arith, nat_tests)

pub other_test : (k key : ℕ) → k ≢ key → (k == key) ≡ false
other_test k key ne = grind (arith, nat_tests)

near_or : (b : Bool) (v x : ℕ) → x ≡ v → HoldsAfter (cond b Near Intact) v x
near_or true v x e = inl e
near_or false v x e = e

-- a right value counts as kept by any tag
pub right_kept : (tag : Tag) (v x : ℕ) (damage : Damage) → x ≡ v → Holds (Has tag v) damage x
right_kept One v x First e = tt
right_kept Two v x Second e = tt
right_kept Three v x Third e = tt
right_kept Plain v x Plains e = tt
right_kept Code v x (Codes leaf) e = inl e
right_kept (Leaf first more) v x (Codes leaf) e = near_or (nat_le first leaf && nat_le leaf (first + more)) v x e
right_kept Sure v x Nothing e = e
right_kept _ v x _ e = e

-- where nothing is damaged each kept value is right
pub undamaged : (tag : Tag) (v x : ℕ) → Holds (Has tag v) Nothing x → x ≡ v
undamaged Sure v x h = h
undamaged _ v x h = h

-- a value that is kept for sure
pub holds_sure : (v x : ℕ) (damage : Damage) → Holds (Has Sure v) damage x → x ≡ v
holds_sure v x Nothing h = h
holds_sure v x _ h = h

-- what holds where nothing is damaged holds with each damage
pub undamaged_holds : (cell : Cell) (x : ℕ) (damage : Damage) → Holds cell Nothing x → Holds cell damage x
undamaged_holds Free x damage h = tt
undamaged_holds (Has tag v) x damage h = right_kept tag v x damage (undamaged tag v x h)

-- a sure value says more than one that is kept otherwise, and any cell says more than none
pub sure_says : (tag : Tag) (v : ℕ) → SaysLess (Has Sure v) (Has tag v)
sure_says tag v damage x h = right_kept tag v x damage (holds_sure v x damage h)

pub says_free : (cell : Cell) → SaysLess cell Free
says_free cell damage x h = tt

pub says_same : (cell other : Cell) → cell ≡ other → SaysLess cell other
says_same cell other e damage x h = rw (← e) h

-- a bit that was clear adds its power of two, and one that was set takes it away
added : (v x y p m : ℕ) → x ≡ v → y + m * p * 2 ≡ x + p → m ≡ 0 → y < 2 ^ 64 → y ≡ (v + p) % 2 ^ 64
added v x y p m e sum clear wide =
    let same : y + 0 * p * 2 ≡ x + p = rw clear at sum in
    omega arith

taken : (v x y p m : ℕ) → x ≡ v → y + m * p * 2 ≡ x + p → m ≡ 1 → x < 2 ^ 64 → p < 2 ^ 64 → y ≡ (v + (2 ^ 64 - p)) % 2 ^ 64
taken v x y p m e sum set wide small =
    let same : y + 1 * p * 2 ≡ x + p = rw set at sum in
    omega arith

zero_or_one : (m : ℕ) → m < 2 → (m ≡ 0) ⊎ (m ≡ 1)
zero_or_one m small = grind (arith)

-- a right value with one bit turned is off by a power of two
pub flip_off : (v x b : ℕ) → x ≡ v → x < 2 ^ 64 → bit_xor x (2 ^ b) < 2 ^ 64 → b < 64 → IsOff v (bit_xor x (2 ^ b))
flip_off v x b e wide wide' small = record { bit = b; small = small; off = by_bit (zero_or_one (x / 2 ^ b % 2) (omega arith)) }
  where
    sum : bit_xor x (2 ^ b) + x / 2 ^ b % 2 * 2 ^ b * 2 ≡ x + 2 ^ b
    sum = rw (← and_pow x b) (xor_add_and x (2 ^ b))

    power : 2 ^ b < 2 ^ 64
    power = pow-lt small

    by_bit : (x / 2 ^ b % 2 ≡ 0) ⊎ (x / 2 ^ b % 2 ≡ 1) → (bit_xor x (2 ^ b) ≡ (v + 2 ^ b) % 2 ^ 64) ⊎ (bit_xor x (2 ^ b) ≡ (v + (2 ^ 64 - 2 ^ b)) % 2 ^ 64)
    by_bit (inl clear) = inl (added v x (bit_xor x (2 ^ b)) (2 ^ b) (x / 2 ^ b % 2) e sum clear wide')
    by_bit (inr set) = inr (taken v x (bit_xor x (2 ^ b)) (2 ^ b) (x / 2 ^ b % 2) e sum set wide power)

near_where : (b : Bool) (v x : ℕ) → b ≡ true → IsOff v x → HoldsAfter (cond b Near Intact) v x
near_where true v x e h = inr h
near_where false v x e h = absurd (cc)

-- the register that a flip strikes, if its value is not kept for sure
pub flip_own : (cell : Cell) (x b : ℕ) → ((v : ℕ) → cell ≡ Has Sure v → ⊥) → x < 2 ^ 64 → bit_xor x (2 ^ b) < 2 ^ 64 → b < 64 → Holds cell Nothing x → Holds cell (flip_damage cell) (bit_xor x (2 ^ b))
flip_own Free x b safe wide wide' small h = tt
flip_own (Has Sure v) x b safe wide wide' small h = absurd (safe v refl)
flip_own (Has One v) x b safe wide wide' small h = tt
flip_own (Has Two v) x b safe wide wide' small h = tt
flip_own (Has Three v) x b safe wide wide' small h = tt
flip_own (Has Plain v) x b safe wide wide' small h = tt
flip_own (Has Code v) x b safe wide wide' small h = inr (flip_off v x b h wide wide' small)
flip_own (Has (Leaf first more) v) x b safe wide wide' small h =
    near_where (nat_le first first && nat_le first (first + more)) v (bit_xor x (2 ^ b))
    (and_from (nat_le first first) (nat_le first (first + more)) (le-leb first first (omega arith)) (le-leb first (first + more) (omega arith)))
    (flip_off v x b h wide wide' small)

pub with_register-same : (regs : ℕ → Cell) (d : ℕ) (cell : Cell) → with_register regs d cell d ≡ cell
unfolding with_register
with_register-same regs d cell = ap (λ b. cond b cell (regs d)) (same_test d)

pub with_register-other : (regs : ℕ → Cell) (d q : ℕ) (cell : Cell) → q ≢ d → with_register regs d cell q ≡ regs q
unfolding with_register
with_register-other regs d q cell ne = ap (λ b. cond b cell (regs q)) (other_test q d ne)

-- of a place that is written twice, the second cell is known
pub with_register-twice : (regs : ℕ → Cell) (d q : ℕ) (one two : Cell) → with_register (with_register regs d one) d two q ≡ with_register regs d two q
with_register-twice regs d q one two = by_place (q == d) refl
  where
    by_place : (b : Bool) → (q == d) ≡ b → with_register (with_register regs d one) d two q ≡ with_register regs d two q
    by_place true e =
        let same : d ≡ q = grind (arith, nat_tests) in
        let P : ℕ → Type 0 = λ k. with_register (with_register regs d one) d two k ≡ with_register regs d two k in
        subst P same (with_register-same (with_register regs d one) d two ∙ sym (with_register-same regs d two))
    by_place false e =
        let other : q ≢ d = grind (arith, nat_tests) in
        with_register-other (with_register regs d one) d q two other ∙ with_register-other regs d q one other ∙ sym (with_register-other regs d q two other)
