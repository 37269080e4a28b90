-- Tests of two facts at once: the first test, and the second where the first passes.
use Rattle.std.proofs.Common.{◌≡◌, Bool, true, false}
use Rattle.std.specs.Prelude.{◌↔◌, IsTrue}

-- a test that fails says that its fact doesn't hold
pub fails : (P : Type 0) (b : Bool) → b ≡ false → IsTrue b ↔ P → P → ⊥
fails P b is tells p = let yes : b ≡ true = tells.1 p in cc

-- a fact that can't hold is told by false
pub never : (P : Type 0) (b : Bool) → b ≡ false → (P → ⊥) → IsTrue b ↔ P
never P b is none = (λ yes. cc, λ p. absurd (none p))

-- the first test passes
pub both_then : (P Q : Type 0) (b c : Bool) → b ≡ true → IsTrue b ↔ P → IsTrue c ↔ Q → IsTrue c ↔ (P × Q)
both_then P Q b c is first second = (λ yes. (first.0 is, second.0 yes), λ both. second.1 both.1)

-- the first test fails
pub both_else : (P Q : Type 0) (b : Bool) → b ≡ false → IsTrue b ↔ P → IsTrue b ↔ (P × Q)
both_else P Q b is first = never (P × Q) b is (λ both. fails P b is first both.0)
