-- What is reached from a word, and what lies on the way, by what is from the next.
use Rattle.std.proofs.Common.{◌≡◌, ◌<◌, ◌-◌, ◌+◌, ℕ, zero, suc, Bool, true, false, List, Option, None, length, refl, ap, sym, ◌∙◌, arith, get_or, add-one}
use Rattle.std.specs.Prelude.{◌==◌, ◌&&◌, ◌||◌}
use Rattle.std.proofs.lemmas.List.{get_or_default}
use Rattle.rv_inst.specs.declared.instruction.Form.{Form}
use Rattle.point_list.specs.Walk.{instruction_at, uses, holds_later, reaches, on_way, begun_at, begun_before}
use Rattle.point_list.specs.declared.walk.Value.{Value}

pub reaches_none : (text : List (Option Form)) (base : ℕ) (value : Value) (j : ℕ) → reaches text base value 0 j ≡ false
unfolding reaches
reaches_none text base value j = refl

pub on_way_none : (text : List (Option Form)) (base : ℕ) (value : Value) (j k : ℕ) → on_way text base value 0 j k ≡ false
unfolding on_way
on_way_none text base value j k = refl

pub reaches_suc : (text : List (Option Form)) (base : ℕ) (value : Value) (n j : ℕ) →
    reaches text base value (suc n) j ≡ (uses value.reg value.first (instruction_at text j) || holds_later text base value j (reaches text base value n))
unfolding reaches
reaches_suc text base value n j = refl

pub on_way_suc : (text : List (Option Form)) (base : ℕ) (value : Value) (n j k : ℕ) →
    on_way text base value (suc n) j k ≡ (k == j && reaches text base value (suc n) j || holds_later text base value j (λ m. on_way text base value n m k))
unfolding on_way
on_way_suc text base value n j k = refl

pub reaches_more : (text : List (Option Form)) (base : ℕ) (value : Value) (n j : ℕ) → 0 < n →
    reaches text base value n j ≡ (uses value.reg value.first (instruction_at text j) || holds_later text base value j (reaches text base value (n - 1)))
reaches_more text base value zero j h = absurd (omega arith)
reaches_more text base value (suc n) j h = let less : suc n - 1 ≡ n = omega arith in rw less (reaches_suc text base value n j)

pub on_way_more : (text : List (Option Form)) (base : ℕ) (value : Value) (n j k : ℕ) → 0 < n →
    on_way text base value n j k ≡ (k == j && reaches text base value n j || holds_later text base value j (λ m. on_way text base value (n - 1) m k))
on_way_more text base value zero j k h = absurd (omega arith)
on_way_more text base value (suc n) j k h = let less : suc n - 1 ≡ n = omega arith in rw less (on_way_suc text base value n j k)

-- a read of a word of the text
pub read_instruction : (text : List (Option Form)) (j : ℕ) (i : Option Form) → j < length text → i ≡ get_or text j i → i ≡ instruction_at text j
read_instruction text j i within is = is ∙ get_or_default text j i None within

pub no_words : (n : ℕ) → n ≡ 0 → (text : List (Option Form)) (base : ℕ) (value : Value) (j : ℕ) → false ≡ reaches text base value n j
no_words n e text base value j = rw e (sym (reaches_none text base value j))

pub no_marks : (a b : Bool) (n : ℕ) → n ≡ 0 → (text : List (Option Form)) (base : ℕ) (value : Value) (j k : ℕ) → a ≡ (a || b && on_way text base value n j k)
no_marks a b n e text base value j k = rw (e, on_way_none text base value j k) (nothing a b)
  where
    nothing : (a b : Bool) → a ≡ (a || b && false)
    nothing true b = refl
    nothing false true = refl
    nothing false false = refl

pub reached_is : (text : List (Option Form)) (base : ℕ) (value : Value) (n j : ℕ) (i : Option Form) (used later : Bool) → (n ≡ 0 → ⊥) → j < length text → i ≡ get_or text j i →
    used ≡ uses value.reg value.first i → later ≡ holds_later text base value j (reaches text base value (n - 1)) → (used || later) ≡ reaches text base value n j
reached_is text base value n j i used later some within is u l =
    let here : uses value.reg value.first i ≡ uses value.reg value.first (instruction_at text j) = ap (uses value.reg value.first) (read_instruction text j i within is) in
    rw (u, here, l) (sym (reaches_more text base value n j (omega arith)))

marked_true : (a b c l : Bool) → (a || b && l || c && b) ≡ (a || b && (c && true || l))
marked_true true b c l = refl
marked_true false true true true = refl
marked_true false true true false = refl
marked_true false true false true = refl
marked_true false true false false = refl
marked_true false false true l = refl
marked_true false false false l = refl

marked_false : (a b c l : Bool) → (a || b && l) ≡ (a || b && (c && false || l))
marked_false a b true l = refl
marked_false a b false l = refl

pub marks_reached : (text : List (Option Form)) (base : ℕ) (value : Value) (n j k r : ℕ) (old mid new : Bool) → (n ≡ 0 → ⊥) → reaches text base value n j ≡ true →
    mid ≡ (old || r == value.reg && holds_later text base value j (λ m. on_way text base value (n - 1) m k)) → new ≡ (mid || k == j && r == value.reg) →
    new ≡ (old || r == value.reg && on_way text base value n j k)
marks_reached text base value n j k r old mid new some reached m e =
    rw (e, m, on_way_more text base value n j k (omega arith), reached) (marked_true old (r == value.reg) (k == j) (holds_later text base value j (λ m. on_way text base value (n - 1) m k)))

pub marks_unreached : (text : List (Option Form)) (base : ℕ) (value : Value) (n j k r : ℕ) (old mid : Bool) → (n ≡ 0 → ⊥) → reaches text base value n j ≡ false →
    mid ≡ (old || r == value.reg && holds_later text base value j (λ m. on_way text base value (n - 1) m k)) →
    mid ≡ (old || r == value.reg && on_way text base value n j k)
marks_unreached text base value n j k r old mid some reached m =
    rw (m, on_way_more text base value n j k (omega arith), reached) (marked_false old (r == value.reg) (k == j) (holds_later text base value j (λ m. on_way text base value (n - 1) m k)))

-- no word yet, and one word more
pub begun_none : (text : List (Option Form)) (base k r : ℕ) (old : Bool) → old ≡ (old || begun_before text base 0 k r)
unfolding begun_before
begun_none text base k r true = refl
begun_none text base k r false = refl

pub begun_zero : (text : List (Option Form)) (base k r : ℕ) → begun_before text base 0 k r ≡ false
unfolding begun_before
begun_zero text base k r = refl

pub begun_suc : (text : List (Option Form)) (base n k r : ℕ) → begun_before text base (suc n) k r ≡ (begun_before text base n k r || begun_at text base n k r)
unfolding begun_before
begun_suc text base n k r = refl

or_assoc : (a b c : Bool) → (a || b || c) ≡ (a || (b || c))
or_assoc true b c = refl
or_assoc false b c = refl

pub begun_more : (text : List (Option Form)) (base n k r : ℕ) (old mid new : Bool) → mid ≡ (old || begun_before text base n k r) → new ≡ (mid || begun_at text base n k r) →
    new ≡ (old || begun_before text base (n + 1) k r)
begun_more text base n k r old mid new m e =
    e ∙ ap (λ b. b || begun_at text base n k r) m ∙ or_assoc old (begun_before text base n k r) (begun_at text base n k r)
    ∙ ap (λ b. old || b) (sym (begun_suc text base n k r)) ∙ ap (λ i. old || begun_before text base i k r) (sym (add-one n))
