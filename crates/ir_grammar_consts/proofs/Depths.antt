-- The first bracket that is the 65th open one: it is found by counting, and there is one at most.
use Rattle.std.proofs.Common.{◌≡◌, ℕ, suc, ◌+◌, ◌-◌, ◌==◌, ◌≤◌, ◌<◌, Bool, true, false, List, [], ◌∷◌, ◌++◌, length, take, Option, None, Some, refl, sym, ap, subst, arith, if◌then◌else◌, eqb-true, eq-eqb}
use Rattle.std.specs.Option.{option_map}
use Rattle.ir_lex.specs.Symbols.{Symbol, MarkSymbol}
use Rattle.ir_grammar_consts.specs.Depth.{is_opening, is_closing, open_after, open_from, IsTooDeep}
use Rattle.ir_grammar_consts.specs.Counting.{deep_len}
use Rattle.ir_grammar_consts.proofs.Sides.{is_false}

deep_one : {n : ℕ} {t : Symbol} → n ≤ 64 → open_after n t ≡ 65 → IsTooDeep n (t ∷ [])
unfolding open_from
deep_one {n = n} {t = t} low e = record { before = []; bracket = t; cut = refl; count = e; first = deep_one_first n low }
  where
    deep_one_first : (n : ℕ) → n ≤ 64 → (p q : List Symbol) → [] ≡ p ++ q → open_from n p ≤ 64
    deep_one_first n low [] q e = low
    deep_one_first n low (x ∷ p) q e = cc

more_first : (n : ℕ) (t : Symbol) (front : List Symbol) → n ≤ 64 → (g : IsTooDeep (open_after n t) front)
    → (p q : List Symbol) → t ∷ g.before ≡ p ++ q → open_from n p ≤ 64
unfolding open_from
more_first n t front low g [] q e = low
more_first n t front low g (x ∷ p) q e =
    let same : x ≡ t = cc in
    let rest : g.before ≡ p ++ q = cc in
    subst (λ z. open_from (open_after n z) p ≤ 64) (sym same) (g.first p q rest)

deep_more : {n : ℕ} {t : Symbol} {front : List Symbol} → n ≤ 64 → IsTooDeep (open_after n t) front → IsTooDeep n (t ∷ front)
unfolding open_from
deep_more {n = n} {t = t} {front = front} low g = record {
  before = t ∷ g.before;
  bracket = g.bracket;
  cut = ap (λ z. t ∷ z) g.cut;
  count = g.count;
  first = more_first n t front low g;
}

opened_low : (n b : ℕ) (o c : Bool) → n ≤ 64 → ((if o then n + 1 else (if c then n - 1 else n)) == 65) ≡ false → (if o then n + 1 else (if c then n - 1 else n)) ≤ 64
opened_low n b true c low e = let no : n + 1 ≡ 65 → ⊥ = λ h. let yes : (n + 1 == 65) ≡ true = eq-eqb (n + 1) 65 h in cc in omega (arith, no)
opened_low n b false true low e = omega arith
opened_low n b false false low e = low

-- a symbol after which not 65 brackets are open leaves at most 64 open
pub after_low : (n : ℕ) (t : Symbol) → n ≤ 64 → (open_after n t == 65) ≡ false → open_after n t ≤ 64
after_low n (MarkSymbol b) low e = opened_low n b (is_opening b) (is_closing b) low e
after_low n _ low e = low

abbrev Found : ℕ → List Symbol → ℕ → Type 0
Found n ts k = IsTooDeep n (take k ts) × (k ≤ length ts) × (0 < k)

found_later : (n : ℕ) (t : Symbol) (ts : List Symbol) (k : ℕ) → n ≤ 64 → ((j : ℕ) → deep_len (open_after n t) ts ≡ Some j → Found (open_after n t) ts j)
    → (o : Option ℕ) → deep_len (open_after n t) ts ≡ o → option_map suc o ≡ Some k → Found n (t ∷ ts) k
found_later n t ts k low inner None d h = cc
found_later n t ts k low inner (Some j) d h =
    let same : suc j ≡ k = cc in
    let g = inner j d in
    subst (Found n (t ∷ ts)) same (deep_more low g.0, omega (arith, g.1), omega arith)

found_here : (n : ℕ) (t : Symbol) (ts : List Symbol) (k : ℕ) → n ≤ 64
    → ((j : ℕ) → open_after n t ≤ 64 → deep_len (open_after n t) ts ≡ Some j → Found (open_after n t) ts j)
    → (b : Bool) → (open_after n t == 65) ≡ b → (if b then Some 1 else option_map suc (deep_len (open_after n t) ts)) ≡ Some k → Found n (t ∷ ts) k
found_here n t ts k low inner true b h =
    let same : 1 ≡ k = cc in
    subst (Found n (t ∷ ts)) same (deep_one low (eqb-true (open_after n t) 65 b), omega arith, omega arith)
found_here n t ts k low inner false b h =
    found_later n t ts k low (λ j d. inner j (after_low n t low b) d) (deep_len (open_after n t) ts) refl h

-- what is counted is the number of symbols up to and with that bracket
pub deep_found : (n : ℕ) (ts : List Symbol) (k : ℕ) → n ≤ 64 → deep_len n ts ≡ Some k → Found n ts k
unfolding deep_len
deep_found n [] k low e = cc
deep_found n (t ∷ ts) k low e =
    found_here n t ts k low (λ j small d. deep_found (open_after n t) ts j small d) (open_after n t == 65) refl e

counted_at : (n : ℕ) (before : List Symbol) (bracket : Symbol) (rest : List Symbol) → ((p q : List Symbol) → before ≡ p ++ q → open_from n p ≤ 64)
    → open_from n (before ++ bracket ∷ []) ≡ 65 → deep_len n ((before ++ bracket ∷ []) ++ rest) ≡ Some (length (before ++ bracket ∷ []))
unfolding deep_len open_from
counted_at n [] bracket rest first count = rw (eq-eqb (open_after n bracket) 65 count) refl
counted_at n (t ∷ before) bracket rest first count =
    let small : open_after n t ≤ 64 = first (t ∷ []) before refl in
    let apart : (open_after n t == 65) ≡ false = is_false (open_after n t == 65) (λ h. absurd (omega (arith, eqb-true (open_after n t) 65 h, small))) in
    let inner = counted_at (open_after n t) before bracket rest (λ p q e. first (t ∷ p) q (ap (λ z. t ∷ z) e)) count in
    rw (apart, inner) refl

-- such a bracket is found
pub deep_counted : (n : ℕ) (front rest : List Symbol) → IsTooDeep n front → deep_len n (front ++ rest) ≡ Some (length front)
deep_counted n front rest g =
    subst (λ z. deep_len n (z ++ rest) ≡ Some (length z)) (sym g.cut)
    (counted_at n g.before g.bracket rest g.first (subst (λ z. open_from n z ≡ 65) g.cut g.count))

opened_closed : (n b : ℕ) (o c : Bool) → n ≤ 64 → (if o then n + 1 else (if c then n - 1 else n)) ≡ 65 → o ≡ true
opened_closed n b true c low e = refl
opened_closed n b false true low e = absurd (omega arith)
opened_closed n b false false low e = absurd (omega arith)

-- what opens a bracket
abbrev pub opens_bracket : Symbol → Bool
opens_bracket (MarkSymbol b) = is_opening b
opens_bracket _ = false

after_opens : (n : ℕ) (t : Symbol) → n ≤ 64 → open_after n t ≡ 65 → opens_bracket t ≡ true
after_opens n (MarkSymbol b) low e = opened_closed n b (is_opening b) (is_closing b) low e
after_opens n _ low e = absurd (omega arith)

last_opens_at : (n : ℕ) (before : List Symbol) (bracket : Symbol) → ((p q : List Symbol) → before ≡ p ++ q → open_from n p ≤ 64)
    → open_from n (before ++ bracket ∷ []) ≡ 65 → opens_bracket bracket ≡ true
unfolding open_from
last_opens_at n [] bracket first count = after_opens n bracket (first [] [] refl) count
last_opens_at n (t ∷ before) bracket first count =
    last_opens_at (open_after n t) before bracket (λ p q e. first (t ∷ p) q (ap (λ z. t ∷ z) e)) count

-- the last symbol opens a bracket
pub last_opens : (n : ℕ) (front : List Symbol) → (g : IsTooDeep n front) → opens_bracket g.bracket ≡ true
last_opens n front g = last_opens_at n g.before g.bracket g.first (subst (λ z. open_from n z ≡ 65) g.cut g.count)
