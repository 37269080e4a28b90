-- The work that is left of a layout, as names nest less deep and types are smaller.
use Rattle.std.proofs.Common.{◌≡◌, ℕ, zero, suc, ◌+◌, ◌-◌, ◌*◌, ◌<◌, ◌≤◌, max, inl, inr, List, [], ◌∷◌, Some, refl, ap, suc-mul, arith}
use Rattle.std.proofs.lemmas.Bool.Decides.{eqb_tells}
use Rattle.ir_tree.specs.declared.types.Ty.{Ty, size-Ty}
use Rattle.ir_tree.specs.declared.module.NamedTy.{NamedTy}
use Rattle.ir_layout.specs.Tables.{type_of_number}

-- the greatest size of a named type
abbrev pub greatest : List NamedTy → ℕ
greatest [] = 0
greatest (t ∷ ts) = max (size-Ty t.ty) (greatest ts)

some_ty : (t u : Ty) → Some t ≡ Some u → t ≡ u
some_ty t u e = cc

pub below_greatest : (ts : List NamedTy) (id : ℕ) (t : Ty) → type_of_number ts id ≡ Some t → size-Ty t ≤ greatest ts
below_greatest [] id t e = cc
below_greatest (x ∷ ts) id t e =
    elim (eqb_tells x.name.0 id) [
      | inl h ↦
          let here : x.ty ≡ t = some_ty x.ty t (rw h.0 at e) in
          let size : size-Ty x.ty ≡ size-Ty t = ap size-Ty here in
          omega (arith, size)
      | inr h ↦ omega (arith, below_greatest ts id t (rw h.0 at e))
    ]

-- what is left at a name, where names may nest so deep
abbrev pub work_of_name : List NamedTy → ℕ → ℕ
work_of_name ts depth = depth * (2 * greatest ts + 2)

-- what is left at a type of this size
abbrev pub work : List NamedTy → ℕ → ℕ → ℕ
work ts depth size = work_of_name ts depth + 2 * size + 1

-- the type of a name leaves less than the name
pub inside_less : (ts : List NamedTy) (depth id : ℕ) (t : Ty) → (depth ≡ 0 → ⊥) → type_of_number ts id ≡ Some t
    → work ts (depth - 1) (size-Ty t) < work_of_name ts depth
inside_less ts zero id t h e = absurd (h refl)
inside_less ts (suc depth) id t h e =
    let less : suc depth - 1 ≡ depth = omega arith in
    rw less (omega (arith, below_greatest ts id t e, suc-mul depth (2 * greatest ts + 2)))
