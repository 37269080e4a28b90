-- What two puts in a row have taken.
use Rattle.std.proofs.Common.{◌≡◌, ℕ, ◌+◌, List, ◌++◌, take, drop, Option, Some, None, refl, ap, ◌∙◌, append_assoc}
use Rattle.std.proofs.Math.Seq.{take-add}
use Rattle.std.specs.Option.{option_map}
use Rattle.sr_base.specs.Bytes.{Takes}

-- two pieces after one another are one piece
option_map-append : (o : Option (List ℕ)) (a b : List ℕ) → option_map (λ t. t ++ b) (option_map (λ t. t ++ a) o) ≡ option_map (λ t. t ++ (a ++ b)) o
option_map-append None a b = refl
option_map-append (Some t) a b = ap Some (append_assoc t a b)

Takes-append : (o₀ o₁ o₂ : Option (List ℕ)) (a b : List ℕ) → Takes o₀ o₁ a → Takes o₁ o₂ b → Takes o₀ o₂ (a ++ b)
Takes-append o₀ o₁ o₂ a b first second = second ∙ ap (option_map (λ t. t ++ b)) first ∙ option_map-append o₀ a b

-- the first n bytes taken, and then m of the rest
pub Takes-take : (o₀ o₁ o₂ : Option (List ℕ)) (n m : ℕ) (bytes : List ℕ) → Takes o₀ o₁ (take n bytes) → Takes o₁ o₂ (take m (drop n bytes)) → Takes o₀ o₂ (take (n + m) bytes)
Takes-take o₀ o₁ o₂ n m bytes first second = rw take-add (Takes-append o₀ o₁ o₂ _ _ first second)
