-- Marks after a register is marked, and the points of marks.
use Rattle.std.proofs.Common.{◌≡◌, ◌≢◌, ◌<◌, ◌≤◌, ◌-◌, ◌⊎◌, inl, inr, Option, Some, None, ◌+◌, ◌*◌, ◌%◌, ◌/◌, ◌^◌, ℕ, zero, suc, Bool, true, false, List, [], ◌∷◌, ◌++◌, length, refl, ap, sym, ◌∙◌, arith, add-one, append_assoc, get_or-set_other, get_or-set_same, bit_and, bit_or, w32, take, drop, replicate}
use Rattle.std.specs.Prelude.{◌==◌, ◌&&◌, ◌||◌, nat_lt, nat_le, if◌then◌else◌, slice_index, slice_set}
use Rattle.std.specs.Int.{bit_at}
use Rattle.std.proofs.Math.ListN.{get_or-eq_default}
use Rattle.std.proofs.lemmas.Bool.Decides.{nat_tests}
use Rattle.std.proofs.lemmas.List.{append-nil}
use Rattle.std.proofs.lemmas.Nat.Bits.{bit_at_set_same, bit_at_set_other, shr_and_one, bit_at-zero, bit_at_above}
use Rattle.std.proofs.lemmas.Bool.{cases_lt}
use Rattle.point_list.specs.Walk.{index_of, begun_before}
use Rattle.std.proofs.lemmas.Grind.{common_steps}
use Rattle.rv_inst.specs.declared.instruction.Form.{Form}
use Rattle.point_list.specs.Marks.{is_marked, is_at, points_at, points_of}
use Rattle.point_list.specs.declared.list.Point.{Point}

or_false : (a : Bool) → (a || false) ≡ a
or_false true = refl
or_false false = refl

or_true : (a : Bool) → (a || true) ≡ true
or_true true = refl
or_true false = refl

and_false : (a : Bool) → (a && false) ≡ false
and_false true = refl
and_false false = refl

set_bit : (n r q : ℕ) → r < 32 → (bit_at (bit_or n (1 * 2 ^ r % 4294967296)) q == 1) ≡ (bit_at n q == 1 || q == r)
set_bit n r q small = by (q == r) refl
  where
    by : (b : Bool) → (q == r) ≡ b → (bit_at (bit_or n (1 * 2 ^ r % 4294967296)) q == 1) ≡ (bit_at n q == 1 || q == r)
    by true e = let same : q ≡ r = grind (arith, nat_tests) in rw (e, same, bit_at_set_same w32 n r small) (sym (or_true (bit_at n r == 1)))
    by false e = let other : q ≢ r = grind (arith, nat_tests) in rw (e, bit_at_set_other w32 n r small q other) (sym (or_false (bit_at n q == 1)))

pub set_marked : (marks : List ℕ) (k r i q : ℕ) → k < length marks → r < 32 →
    is_marked (slice_set marks k (bit_or (slice_index marks k) (1 * 2 ^ r % 4294967296))) i q ≡ (is_marked marks i q || (i == k && q == r))
set_marked marks k r i q within small = by (i == k) refl
  where
    by : (b : Bool) → (i == k) ≡ b → is_marked (slice_set marks k (bit_or (slice_index marks k) (1 * 2 ^ r % 4294967296))) i q ≡ (is_marked marks i q || (i == k && q == r))
    by true e = let same : i ≡ k = grind (arith, nat_tests) in rw (e, same, get_or-set_same) (set_bit (slice_index marks k) r q small)
    by false e = let other : i ≢ k = grind (arith, nat_tests) in rw (e, get_or-set_other) (sym (or_false (is_marked marks i q)))

pub points_at_none : (pc mark : ℕ) (old : List Point) → old ≡ old ++ points_at pc mark 0
unfolding points_at
points_at_none pc mark old = sym (append-nil old)

-- one more register
points_at_suc : (pc mark n : ℕ) (old now : List Point) → now ≡ old ++ points_at pc mark n →
    now ++ (if bit_at mark n == 1 then record { pc = pc; reg = n } ∷ [] else []) ≡ old ++ points_at pc mark (suc n)
unfolding points_at
points_at_suc pc mark n old now e =
    ap (λ (ps : List Point). ps ++ (if bit_at mark n == 1 then record { pc = pc; reg = n } ∷ [] else [])) e
    ∙ append_assoc old (points_at pc mark n) (if bit_at mark n == 1 then record { pc = pc; reg = n } ∷ [] else [])

pub points_at_marked : (pc mark n : ℕ) (old now after : List Point) → now ≡ old ++ points_at pc mark n → bit_and (mark / 2 ^ n) 1 ≡ 1 →
    after ≡ now ++ record { pc = pc; reg = n } ∷ [] → after ≡ old ++ points_at pc mark (n + 1)
points_at_marked pc mark n old now after e bit is =
    let set : (bit_at mark n == 1) ≡ true = ap (λ b. b == 1) (sym (shr_and_one mark n) ∙ bit) in
    is ∙ rw set at (points_at_suc pc mark n old now e) ∙ ap (λ m. old ++ points_at pc mark m) (sym (add-one n))

pub points_at_unmarked : (pc mark n : ℕ) (old now after : List Point) → now ≡ old ++ points_at pc mark n → bit_and (mark / 2 ^ n) 1 ≢ 1 →
    after ≡ now → after ≡ old ++ points_at pc mark (n + 1)
points_at_unmarked pc mark n old now after e bit is =
    let clear : bit_at mark n ≢ 1 = λ h. bit (shr_and_one mark n ∙ h) in
    let unset : (bit_at mark n == 1) ≡ false = grind (arith, nat_tests) in
    is ∙ sym (append-nil now) ∙ rw unset at (points_at_suc pc mark n old now e) ∙ ap (λ m. old ++ points_at pc mark m) (sym (add-one n))

pub points_of_none : (base : ℕ) (marks : List ℕ) → points_of base marks 0 ≡ []
unfolding points_of
points_of_none base marks = refl

points_of_suc : (base : ℕ) (marks : List ℕ) (n : ℕ) → points_of base marks (suc n) ≡ points_of base marks n ++ points_at (base + 4 * n) (slice_index marks n) 32
unfolding points_of
points_of_suc base marks n = refl

-- one more word
pub points_of_more : (base : ℕ) (marks : List ℕ) (n : ℕ) → points_of base marks (n + 1) ≡ points_of base marks n ++ points_at (base + 4 * n) (slice_index marks n) 32
points_of_more base marks n = ap (points_of base marks) (add-one n) ∙ points_of_suc base marks n

-- an index of the text from its address, and back
pub index_of_at : (base count k : ℕ) → k < count → index_of base count (base + 4 * k) ≡ Some k
index_of_at base count k h =
    let away : base + 4 * k - base ≡ 4 * k = omega arith in
    let whole : 4 * k % 4 ≡ 0 = omega arith in
    let part : 4 * k / 4 ≡ k = omega arith in
    let low : nat_le base (base + 4 * k) ≡ true = grind (arith, nat_tests) in
    let within : nat_lt k count ≡ true = grind (arith, nat_tests) in
    rw (away, whole, part, low, within)

pub index_of_some : (base count address k : ℕ) → index_of base count address ≡ Some k → (address ≡ base + 4 * k) × (k < count)
index_of_some base count address k e = by (nat_le base address) ((address - base) % 4 == 0) (nat_lt ((address - base) / 4) count) refl refl refl e
  where
    by : (a b c : Bool) → nat_le base address ≡ a → ((address - base) % 4 == 0) ≡ b → nat_lt ((address - base) / 4) count ≡ c →
        (if a && (b && c) then Some ((address - base) / 4) else None) ≡ Some k → (address ≡ base + 4 * k) × (k < count)
    by true true true p q r e =
        let is : (address - base) / 4 ≡ k = cc in
        let low : base ≤ address = grind (arith, nat_tests) in
        let whole : (address - base) % 4 ≡ 0 = grind (arith, nat_tests) in
        let within : (address - base) / 4 < count = grind (arith, nat_tests) in
        (omega arith, omega arith)
    by true true false p q r e = absurd (cc)
    by true false c p q r e = absurd (cc)
    by false b c p q r e = absurd (cc)

-- registers and words that there are not are not marked
past_words : (marks : List ℕ) (k r : ℕ) → length marks ≤ k → is_marked marks k r ≡ false
past_words marks k r past = let zero : slice_index marks k ≡ 0 = get_or-eq_default marks 0 past in rw (zero, bit_at-zero)

pub past_registers : (marks : List ℕ) (k r : ℕ) → slice_index marks k < 2 ^ 32 → 32 ≤ r → is_marked marks k r ≡ false
past_registers marks k r wide past = rw (bit_at_above (slice_index marks k) 32 r wide past)

-- a point that isn't marked in the window adds nothing
pub not_asked : (window : List ℕ) (base : ℕ) (point : Point) → ((k : ℕ) → slice_index window k < 2 ^ 32) →
    ((k : ℕ) → index_of base (length window) point.pc ≡ Some k → point.reg < 32 → is_marked window k point.reg ≡ false) →
    (k r : ℕ) (old : Bool) → old ≡ (old || is_marked window k r && is_at base k r point)
not_asked window base point wide unmarked k r old = by (point.pc == base + 4 * k) (point.reg == r) refl refl
  where
    nothing : is_marked window k r ≡ false → (b : Bool) → old ≡ (old || is_marked window k r && b)
    nothing e b = rw e (sym (or_false old))

    here : point.pc ≡ base + 4 * k → point.reg ≡ r → (k < length window) ⊎ (length window ≤ k) → (r < 32) ⊎ (32 ≤ r) → is_marked window k r ≡ false
    here at same (inl within) (inl small) =
        rw same at (unmarked k (ap (index_of base (length window)) at ∙ index_of_at base (length window) k within) (omega arith))
    here at same (inl within) (inr past) = past_registers window k r (wide k) past
    here at same (inr past) _ = past_words window k r past

    by : (a b : Bool) → (point.pc == base + 4 * k) ≡ a → (point.reg == r) ≡ b → old ≡ (old || is_marked window k r && is_at base k r point)
    by true true p q =
        let at : point.pc ≡ base + 4 * k = grind (arith, nat_tests) in
        let same : point.reg ≡ r = grind (arith, nat_tests) in
        nothing (here at same (cases_lt k (length window)) (cases_lt r 32)) (is_at base k r point)
    by true false p q = rw (p, q, and_false) (sym (or_false old))
    by false b p q = rw (p, and_false) (sym (or_false old))

pub same_some : (i k : ℕ) → Some i ≡ Some k → i ≡ k
same_some i k e = cc

-- marks that are written back to a vector of as many
pub written_back : (len : ℕ) (xs ys : List ℕ) → len ≡ length ys → length xs ≡ length ys → take len (xs ++ drop (length xs) ys) ≡ xs
written_back len xs ys e f = grind (arith, common_steps)

-- marks that are all 0 mark nothing
none_marked : (n k r : ℕ) → is_marked (replicate n 0) k r ≡ false
none_marked zero k r = rw bit_at-zero
none_marked (suc n) zero r = rw bit_at-zero
none_marked (suc n) (suc k) r = none_marked n k r

pub only_windows : (text : List (Option Form)) (base k r n : ℕ) (old new : List ℕ) → old ≡ replicate n 0 →
    is_marked new k r ≡ (is_marked old k r || begun_before text base (length text) k r) → is_marked new k r ≡ begun_before text base (length text) k r
only_windows text base k r n old new zeros e = e ∙ ap (λ b. b || begun_before text base (length text) k r) (ap (λ marks. is_marked marks k r) zeros ∙ none_marked n k r)
