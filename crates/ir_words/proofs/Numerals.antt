-- Digits, and the number that they spell.
use Rattle.std.proofs.Common.{◌≡◌, ℕ, zero, suc, ◌+◌, ◌-◌, ◌*◌, ◌<◌, ◌≤◌, min, Bool, true, List, [], ◌∷◌, ◌++◌, length, take, get_or, sym, ap, ◌∙◌, subst, arith, add-one}
use Rattle.std.specs.Char.{digit_value}
use Rattle.std.specs.List.{prefix_len}
use Rattle.std.specs.Str.Parse.{digits_value}
use Rattle.std.proofs.Math.Seq.{take-suc}
use Rattle.std.proofs.lemmas.Bool.Decides.{nat_tests}
use Rattle.std.proofs.lemmas.Int.Digits.{digits_value_push}
use Rattle.std.proofs.lemmas.List.{take_at, take_all}
use Rattle.ir_words.specs.Digits.{is_digit, is_number}
use Rattle.ir_words.specs.Digits.{Passes}
use Rattle.ir_words.proofs.Runs.{run_of}

pub digit_low : (b : ℕ) → is_digit b ≡ true → 48 ≤ b
unfolding is_digit
digit_low b h = grind (arith, nat_tests)

digit_is : (b : ℕ) → is_digit b ≡ true → digit_value b ≡ b - 48
unfolding is_digit
digit_is b h = grind (arith, nat_tests)

pub passes_at : (p : ℕ → Bool) (xs : List ℕ) (i : ℕ) → Passes p xs → i < length xs → p (get_or xs i 0) ≡ true
passes_at p [] i h l = absurd (omega arith)
passes_at p (x ∷ xs) zero h l = h.0
passes_at p (x ∷ xs) (suc i) h l = passes_at p xs i h.1 (omega arith)

pub Passes-take : (p : ℕ → Bool) (text : List ℕ) → Passes p (take (prefix_len p text) text)
Passes-take p text =
    let run = run_of p text in
    let front : take (prefix_len p text) text ≡ run.front = ap (take (prefix_len p text)) run.cut ∙ take_at run.front run.rest _ run.long in
    subst (Passes p) (sym front) run.passes

capped : (v w d m : ℕ) → v ≡ min w m → min (min (v * 10) m + d) m ≡ min (w * 10 + d) m
capped v w d m e = omega arith

-- one more digit
pub value_step : (xs : List ℕ) (i v m : ℕ) → Passes is_digit xs → i < length xs → v ≡ min (digits_value 10 (take i xs)) m
    → min (min (v * 10) m + (get_or xs i 0 - 48)) m ≡ min (digits_value 10 (take (i + 1) xs)) m
value_step xs i v m h l e =
    let digit : digit_value (get_or xs i 0) ≡ get_or xs i 0 - 48 = digit_is _ (passes_at is_digit xs i h l) in
    let more : take (i + 1) xs ≡ take i xs ++ (get_or xs i 0 ∷ []) = rw add-one (take-suc xs i 0 l) in
    let pushed : digits_value 10 (take (i + 1) xs) ≡ digits_value 10 (take i xs) * 10 + (get_or xs i 0 - 48) = rw (more, ← digit) (digits_value_push 10 (take i xs) (get_or xs i 0)) in
    rw pushed (capped v (digits_value 10 (take i xs)) (get_or xs i 0 - 48) m e)

all_digits : (w : List ℕ) → is_number w ≡ true → prefix_len is_digit w ≡ length w
all_digits w h = grind (arith, nat_tests)

-- what is a number is digits
pub number_passes : (w : List ℕ) → is_number w ≡ true → Passes is_digit w
number_passes w h =
    let all : take (prefix_len is_digit w) w ≡ w = take_all _ w (omega (arith, all_digits w h)) in
    subst (Passes is_digit) all (Passes-take is_digit w)
