-- Floats: what the lengths find is what the rule says.
use Rattle.std.proofs.Common.{◌≡◌, ◌⊎◌, inl, inr, ℕ, ◌+◌, ◌≤◌, ◌==◌, Bool, true, false, cond, List, [], ◌∷◌, ◌++◌, length, drop, Option, Some, None, refl, sym, ap, ◌∙◌, arith, append_assoc, unwrap_or}
use Rattle.std.specs.Option.{option_map}
use Rattle.std.specs.List.{prefix_len}
use Rattle.std.proofs.lemmas.Bool.{eqb-true}
use Rattle.std.proofs.lemmas.Bool.Decides.{nat_tests}
use Rattle.std.proofs.lemmas.List.{length-append, drop_at}
use Rattle.std.proofs.Math.Seq.{drop-append_seam}
use Rattle.ir_lex.specs.Bytes.{is_name_byte, is_digit, is_sign, is_exponent_mark}
use Rattle.ir_lex.specs.Spelling.{Passes, IsRun, Follows, IsSigned, IsExponent, IsFraction}
use Rattle.ir_lex.specs.Lengths.{one_more, after_byte, run_len, signed_digits_len, exponent_len, decimals_len, fraction_len, float_len}
use Rattle.ir_lex.proofs.Pieces.{Cuts, Finds, Greedy, run_of, prefix_len-Passes, prefix_len-stopped, IsRun-Passes, IsRun-long, IsRun-from, above_zero, not_zero, if_some, unless_some, map_some, some_is, BeginsUnsigned, greedy-run, greedy-after_byte, greedy-after_sign, greedy-longer}

digit_no_sign : (x : ℕ) → is_digit x ≡ true → is_sign x ≡ false
unfolding is_digit is_sign
digit_no_sign x h = grind (arith, nat_tests)

mark_no_digit : (x : ℕ) → is_exponent_mark x ≡ true → is_digit x ≡ false
unfolding is_exponent_mark is_digit
mark_no_digit x h = grind (arith, nat_tests)

point_no_digit : is_digit 46 ≡ false
unfolding is_digit
point_no_digit = refl

run_unsigned : BeginsUnsigned (IsRun is_digit)
run_unsigned [] h = absurd h
run_unsigned (x ∷ v) h = (x, v, refl, digit_no_sign x h.0)

signed_digits : Greedy (IsSigned (IsRun is_digit)) signed_digits_len
signed_digits = greedy-after_sign (IsRun is_digit) (run_len is_digit) (greedy-run is_digit) run_unsigned

-- the exponent that a text begins with, maybe none
pub record CutsTail (L : List ℕ → Type 0) (text : List ℕ) (n : ℕ) : Type 0 where
  pub front : List ℕ
  pub rest : List ℕ
  pub cut : text ≡ front ++ rest
  pub long : length front ≡ n
  pub spelled : L front

no_exponent : (text : List ℕ) → Cuts IsExponent text 0
no_exponent text = record { front = []; rest = text; cut = refl; long = refl; spelled = tt }

exponent_by : (b : ℕ) (bs : List ℕ) (t : Bool) (o : Option ℕ) → is_exponent_mark b ≡ t → signed_digits_len bs ≡ o → Cuts IsExponent (b ∷ bs) (cond t (unwrap_or (one_more o) 0) 0)
exponent_by b bs false o m e = no_exponent (b ∷ bs)
exponent_by b bs true None m e = no_exponent (b ∷ bs)
exponent_by b bs true (Some n) m e =
    let cuts = signed_digits.fits bs n e in
    record { front = b ∷ cuts.front; rest = cuts.rest; cut = ap (λ t. b ∷ t) cuts.cut; long = omega (arith, cuts.long); spelled = (m, cuts.spelled) }

exponent_cut : (text : List ℕ) → Cuts IsExponent text (exponent_len text)
exponent_cut [] = no_exponent []
exponent_cut (b ∷ bs) = exponent_by b bs _ _ refl refl

exponent-finds : (v r : List ℕ) → IsExponent v → length v ≤ exponent_len (v ++ r)
exponent-finds [] r h = omega arith
exponent-finds (b ∷ v) r h =
    let found = signed_digits.finds v r h.1 in
    rw (h.0, found.is) (omega (arith, found.enough))

exponent_stops : (v r : List ℕ) → IsExponent v → (prefix_len is_digit (v ++ r) ≡ 0) ⊎ (v ≡ [])
exponent_stops [] r h = inr refl
exponent_stops (b ∷ v) r h = inl (rw (mark_no_digit b h.0) refl)

-- what follows the point
abbrev pub IsDecimals : List ℕ → Type 0
IsDecimals w = (part : List ℕ) × (exponent : List ℕ) × (w ≡ part ++ exponent) × Passes is_digit part × IsExponent exponent

decimals_cut : (text : List ℕ) → Cuts IsDecimals text (decimals_len text)
decimals_cut text =
    let run = run_of is_digit text in
    let behind : drop (prefix_len is_digit text) text ≡ run.rest = ap (drop (prefix_len is_digit text)) run.cut ∙ drop_at run.front run.rest _ run.long in
    let power = exponent_cut run.rest in
    record {
      front = run.front ++ power.front;
      rest = power.rest;
      cut = run.cut ∙ ap (λ t. run.front ++ t) power.cut ∙ sym (append_assoc run.front power.front power.rest);
      long = length-append run.front power.front ∙ ap (λ n. n + length power.front) run.long ∙ ap (λ n. prefix_len is_digit text + n) (power.long ∙ ap exponent_len (sym behind));
      spelled = (run.front, power.front, refl, run.passes, power.spelled);
    }

decimals-finds : (part exponent r : List ℕ) → Passes is_digit part → IsExponent exponent → length part + length exponent ≤ decimals_len (part ++ (exponent ++ r))
decimals-finds part exponent r p h =
    elim (exponent_stops exponent r h) [
      | inl stop ↦
          let count : prefix_len is_digit (part ++ (exponent ++ r)) ≡ length part = prefix_len-Passes is_digit part (exponent ++ r) p ∙ (rw stop (omega arith)) in
          rw (count, drop-append_seam) (omega (arith, exponent-finds exponent r h))
      | inr none ↦ rw none (omega (arith, prefix_len-Passes is_digit part r p))
    ]

fraction-cut : (text : List ℕ) (n : ℕ) → fraction_len text ≡ Some n → Cuts IsFraction text n
fraction-cut text n e =
    let run = run_of is_digit text in
    let count : ℕ = prefix_len is_digit text in
    let some : ((count == 0) ≡ false) × (option_map (λ m. count + m) (after_byte 46 (λ rest. Some (decimals_len rest)) (drop count text)) ≡ Some n) = unless_some (count == 0) _ n e in
    let inner : (m : ℕ) × (after_byte 46 (λ rest. Some (decimals_len rest)) (drop count text) ≡ Some m) × (count + m ≡ n) = map_some (λ m. count + m) _ n some.1 in
    let behind : drop count text ≡ run.rest = ap (drop count) run.cut ∙ drop_at run.front run.rest count run.long in
    fraction_at text run.front run.rest inner.0 n run.cut (IsRun-from is_digit run.front run.passes (omega (arith, run.long, not_zero count some.0))) (ap (after_byte 46 (λ rest. Some (decimals_len rest))) (sym behind) ∙ inner.1) (omega (arith, run.long, inner.2))
  where
    fraction_at : (text front rest : List ℕ) (m n : ℕ) → text ≡ front ++ rest → IsRun is_digit front → after_byte 46 (λ rest. Some (decimals_len rest)) rest ≡ Some m → length front + m ≡ n → Cuts IsFraction text n
    fraction_at text front [] m n c d e l = absurd (cc)
    fraction_at text front (x ∷ xs) m n c d e l =
        let here : ((x == 46) ≡ true) × (one_more (Some (decimals_len xs)) ≡ Some m) = if_some (x == 46) (one_more (Some (decimals_len xs))) m e in
        let tail = decimals_cut xs in
        let point : x ≡ 46 = eqb-true x 46 here.0 in
        let known : decimals_len xs + 1 ≡ m = some_is _ _ here.1 in
        record {
          front = front ++ (x ∷ tail.front);
          rest = tail.rest;
          cut = c ∙ ap (λ t. front ++ (x ∷ t)) tail.cut ∙ sym (append_assoc front (x ∷ tail.front) tail.rest);
          long = length-append front (x ∷ tail.front) ∙ (omega (arith, l, known, tail.long));
          spelled = record {
            whole = front;
            part = tail.spelled.0;
            exponent = tail.spelled.1;
            spelled = ap (λ t. front ++ (x ∷ t)) tail.spelled.2 ∙ ap (λ b. front ++ (b ∷ (tail.spelled.0 ++ tail.spelled.1))) point;
            digits = d;
            decimals = tail.spelled.3;
            power = tail.spelled.4;
          };
        }

fraction-finds : (v r : List ℕ) → IsFraction v → Finds (fraction_len (v ++ r)) (length v)
fraction-finds v r h =
    let tail : List ℕ = h.part ++ (h.exponent ++ r) in
    let whole : v ++ r ≡ h.whole ++ (46 ∷ tail) = rw h.spelled (append_assoc h.whole (46 ∷ (h.part ++ h.exponent)) r ∙ ap (λ t. h.whole ++ (46 ∷ t)) (append_assoc h.part h.exponent r)) in
    let count : prefix_len is_digit (h.whole ++ (46 ∷ tail)) ≡ length h.whole = prefix_len-stopped is_digit h.whole (46 ∷ tail) (IsRun-Passes _ h.whole h.digits) point_no_digit in
    let some : (length h.whole == 0) ≡ false = above_zero _ (IsRun-long _ h.whole h.digits) in
    let found : fraction_len (h.whole ++ (46 ∷ tail)) ≡ Some (length h.whole + (decimals_len tail + 1)) = rw (count, some, drop-append_seam) refl in
    let long : length v ≡ length h.whole + (length h.part + length h.exponent + 1) = ap length h.spelled ∙ (simp length-append (omega arith)) in
    record { count = length h.whole + (decimals_len tail + 1); is = rw whole found; enough = omega (arith, long, decimals-finds h.part h.exponent r h.decimals h.power) }

greedy-fraction : Greedy IsFraction fraction_len
greedy-fraction = record { fits = fraction-cut; finds = fraction-finds }

fraction_unsigned : BeginsUnsigned IsFraction
fraction_unsigned v h = first v h.whole _ h.digits h.spelled
  where
    first : (v whole tail : List ℕ) → IsRun is_digit whole → v ≡ whole ++ tail → (b : ℕ) × (more : List ℕ) × (v ≡ b ∷ more) × (is_sign b ≡ false)
    first v [] tail d e = absurd d
    first v (b ∷ bs) tail d e = (b, bs ++ tail, e, digit_no_sign b d.0)

abbrev pub IsFloat : List ℕ → Type 0
IsFloat w = Follows 48 (Follows 120 (IsRun is_name_byte)) w ⊎ IsSigned IsFraction w

pub greedy-float : Greedy IsFloat float_len
greedy-float =
    greedy-longer _ _ _ _
    (greedy-after_byte 48 _ _ (greedy-after_byte 120 _ _ (greedy-run is_name_byte)))
    (greedy-after_sign IsFraction fraction_len greedy-fraction fraction_unsigned)
