-- The bytes of a text up to the first one that doesn't pass a test.
use Rattle.std.proofs.Common.{◌≡◌, ℕ, Bool, true, false, List, [], ◌∷◌, ◌++◌, length, refl, ap, arith}
use Rattle.std.specs.List.{prefix_len}
use Rattle.ir_words.specs.Digits.{Passes, Stops}

pub record CutsRun (p : ℕ → Bool) (text : List ℕ) : Type 0 where
  pub front : List ℕ
  pub rest : List ℕ
  pub cut : text ≡ front ++ rest
  pub long : length front ≡ prefix_len p text
  pub passes : Passes p front
  pub stops : Stops p rest

run_of-step : (p : ℕ → Bool) (b : ℕ) (text : List ℕ) (t : Bool) → p b ≡ t → CutsRun p text → CutsRun p (b ∷ text)
run_of-step p b text true e more =
    record { front = b ∷ more.front; rest = more.rest; cut = ap (λ t. b ∷ t) more.cut; long = rw e (omega (arith, more.long)); passes = (e, more.passes); stops = more.stops }
run_of-step p b text false e more = record { front = []; rest = b ∷ text; cut = refl; long = rw e refl; passes = tt; stops = e }

pub run_of : (p : ℕ → Bool) (text : List ℕ) → CutsRun p text
run_of p [] = record { front = []; rest = []; cut = refl; long = refl; passes = tt; stops = tt }
run_of p (b ∷ text) = run_of-step p b text (p b) refl (run_of p text)
