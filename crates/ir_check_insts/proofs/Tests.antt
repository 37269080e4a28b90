-- Tests of several facts at once, each of which is made where those before it pass.
use Rattle.std.proofs.Common.{◌≡◌, Bool, true, false, sym, subst}
use Rattle.std.specs.Prelude.{◌↔◌, IsTrue}
use Rattle.ir_tree.specs.Shape.{TyShape, TyValShape}
use Rattle.ir_rules.specs.Instructions.{Around as AroundShape, HasTy, Fits, FitsAs}

pub two_then : (P Q : Type 0) (a b v : Bool) → a ≡ true → v ≡ b → IsTrue a ↔ P → IsTrue b ↔ Q → IsTrue v ↔ (P × Q)
two_then P Q a b v first is p q = (
  λ yes. let second : b ≡ true = cc in (p.0 first, q.0 second),
  λ both. let second : b ≡ true = q.1 both.1 in cc,
)

pub two_else : (P Q : Type 0) (a v : Bool) → a ≡ false → v ≡ a → IsTrue a ↔ P → IsTrue v ↔ (P × Q)
two_else P Q a v fails is p = (λ yes. cc, λ both. let first : a ≡ true = p.1 both.0 in cc)

pub three_then : (P Q R : Type 0) (a b v : Bool) → a ≡ true → v ≡ b → IsTrue a ↔ (P × Q) → IsTrue b ↔ R → IsTrue v ↔ (P × Q × R)
three_then P Q R a b v first is p r = (
  λ yes. let last : b ≡ true = cc in ((p.0 first).0, (p.0 first).1, r.0 last),
  λ all. let last : b ≡ true = r.1 all.2 in cc,
)

pub three_else : (P Q R : Type 0) (a v : Bool) → a ≡ false → v ≡ a → IsTrue a ↔ (P × Q) → IsTrue v ↔ (P × Q × R)
three_else P Q R a v fails is p = (λ yes. cc, λ all. let first : a ≡ true = p.1 (all.0, all.1) in cc)

pub four_then : (P Q R S : Type 0) (a b v : Bool) → a ≡ true → v ≡ b → IsTrue a ↔ (P × Q × R) → IsTrue b ↔ S → IsTrue v ↔ (P × Q × R × S)
four_then P Q R S a b v first is p s = (
  λ yes. let last : b ≡ true = cc in ((p.0 first).0, (p.0 first).1, (p.0 first).2, s.0 last),
  λ all. let last : b ≡ true = s.1 all.3 in cc,
)

pub four_else : (P Q R S : Type 0) (a v : Bool) → a ≡ false → v ≡ a → IsTrue a ↔ (P × Q × R) → IsTrue v ↔ (P × Q × R × S)
four_else P Q R S a v fails is p = (λ yes. cc, λ all. let first : a ≡ true = p.1 (all.0, all.1, all.2) in cc)

-- an operand that has its stated type, which is this one
pub stated_then : (a : AroundShape) (x : TyValShape) (t : TyShape) (b c : Bool) → b ≡ true → IsTrue b ↔ (x.ty ≡ t) → IsTrue c ↔ Fits a x
    → IsTrue c ↔ FitsAs a x t
stated_then a x t b c first is fits =
    let stated = is.0 first in (
      λ yes. (stated, subst (λ (u : TyShape). HasTy a x.val u) stated (fits.0 yes)),
      λ both. fits.1 (subst (λ (u : TyShape). HasTy a x.val u) (sym stated) both.1),
    )

pub stated_else : (a : AroundShape) (x : TyValShape) (t : TyShape) (b : Bool) → b ≡ false → IsTrue b ↔ (x.ty ≡ t) → IsTrue b ↔ FitsAs a x t
stated_else a x t b fails is = (λ yes. cc, λ both. let first : b ≡ true = is.1 both.0 in cc)
