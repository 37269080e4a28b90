-- Tests of facts together: two and three of them, each made where those before it pass, and one that is made where another passes.
use Rattle.std.proofs.Common.{◌≡◌, ℕ, ◌==◌, Bool, true, false, List, [], ◌∷◌, length, map, get_or, not, refl, sym, ◌∙◌, ap, arith}
use Rattle.std.proofs.lemmas.Bool.{ne_eqb}
use Rattle.std.specs.Prelude.{◌↔◌, IsTrue}

pub two_then : (P Q : Type 0) (a b v : Bool) → a ≡ true → v ≡ b → IsTrue a ↔ P → IsTrue b ↔ Q → IsTrue v ↔ (P × Q)
two_then P Q a b v first is p q = (
  λ yes. let second : b ≡ true = cc in (p.0 first, q.0 second),
  λ both. let second : b ≡ true = q.1 both.1 in cc,
)

pub two_else : (P Q : Type 0) (a v : Bool) → a ≡ false → v ≡ a → IsTrue a ↔ P → IsTrue v ↔ (P × Q)
two_else P Q a v fails is p = (λ yes. cc, λ both. let first : a ≡ true = p.1 both.0 in cc)

pub three_then : (P Q R : Type 0) (a b : Bool) → a ≡ true → IsTrue a ↔ (P × Q) → IsTrue b ↔ R → IsTrue b ↔ (P × Q × R)
three_then P Q R a b first p r = (λ yes. ((p.0 first).0, (p.0 first).1, r.0 yes), λ all. r.1 all.2)

pub three_else : (P Q R : Type 0) (a : Bool) → a ≡ false → IsTrue a ↔ (P × Q) → IsTrue a ↔ (P × Q × R)
three_else P Q R a fails p = (λ yes. cc, λ all. let first : a ≡ true = p.1 (all.0, all.1) in cc)

pub where_not : (N P : Type 0) (named v : Bool) → named ≡ false → v ≡ not named → IsTrue named ↔ N → IsTrue v ↔ (N → P)
where_not N P named v fails is n = (λ yes name. let wrong : named ≡ true = n.1 name in cc, λ all. is ∙ ap not fails)

pub where_so : (N P : Type 0) (named b v : Bool) → named ≡ true → v ≡ b → IsTrue named ↔ N → IsTrue b ↔ P → IsTrue v ↔ (N → P)
where_so N P named b v passes is n p = (
  λ yes name. let told : b ≡ true = cc in p.0 told,
  λ all. let told : b ≡ true = p.1 (all (n.0 passes)) in cc,
)

-- ---- the tests of short lists
pub none_tells : {X S : Type 0} (f : X → S) (xs : List X) (n : ℕ) (test : Bool) → n ≡ length xs → test ≡ (n == 0) → IsTrue test ↔ (map f xs ≡ [])
none_tells f [] n test long is = (λ yes. refl, λ none. is ∙ ap (λ k. k == 0) long)
none_tells f (x ∷ xs) n test long is =
    let some : (n == 0) ≡ false = ne_eqb n 0 (λ e. omega arith) in
    (λ yes. cc, λ none. cc)

pub one_tells : {X S : Type 0} (f : X → S) (xs : List X) (x : X) (s : S) (test : Bool) → length xs ≡ 1 → x ≡ get_or xs 0 x → IsTrue test ↔ (f x ≡ s)
    → IsTrue test ↔ (map f xs ≡ s ∷ [])
one_tells f [] x s test long is tells = absurd (omega arith)
one_tells f (y ∷ []) x s test long is tells = (
  λ yes. ap (λ z. z ∷ []) (ap f (sym is) ∙ tells.0 yes),
  λ e. let head : f y ≡ s = cc in tells.1 (ap f is ∙ head),
)
one_tells f (y ∷ z ∷ more) x s test long is tells = absurd (omega arith)
