-- A round over the names: either it enters nothing and nothing can be entered, or fewer names have nothing.
use Rattle.std.proofs.Common.{◌≡◌, ℕ, ◌+◌, ◌<◌, inl, inr, Bool, true, false, List, length, Option, Some, None, refl, sym, ◌∙◌, ap, subst, arith}
use Rattle.std.specs.Prelude.{is_some, if◌then◌else◌}
use Rattle.std.proofs.lemmas.Bool.Decides.{eqb_tells}
use Rattle.ir_tree.specs.declared.module.Module.{Module}
use Rattle.ir_tree.specs.declared.module.NamedTy.{NamedTy}
use Rattle.ir_openings.specs.Openings.{AreSoundOpenings, new_opening, with_opening, count_empty, AreStuck}
use Rattle.ir_openings.proofs.Entries.{entered_fewer, entered_sound}

-- what a round has done up to a name
abbrev pub HasTried : Bool → List NamedTy → List (Option ℕ) → List (Option ℕ) → ℕ → Type 0
HasTried true ts old now id = count_empty now < count_empty old
HasTried false ts old now id = (now ≡ old) × AreStuck ts now id

stuck_more : (ts : List NamedTy) (openings : List (Option ℕ)) (id : ℕ) → AreStuck ts openings id → new_opening ts openings id ≡ None
    → AreStuck ts openings (id + 1)
stuck_more ts openings id stuck here k below =
    elim (eqb_tells id k) [
      | inl h ↦ subst (λ (n : ℕ). new_opening ts openings n ≡ None) h.1 here
      | inr h ↦ stuck k (omega (arith, h.1, below))
    ]

new_with : (entered : Bool) (ts : List NamedTy) (old now : List (Option ℕ)) (id : ℕ) (o : Option ℕ) → new_opening ts now id ≡ o → id < length now
    → HasTried entered ts old now id → is_some o ≡ true → count_empty (with_opening now id o) < count_empty old
new_with entered ts old now id None e within tried is = cc
new_with true ts old now id (Some at) e within tried is = omega (arith, entered_fewer ts now id at within e, tried)
new_with false ts old now id (Some at) e within tried is = omega (arith, entered_fewer ts now id at within e, ap count_empty tried.0)

none_with : (entered : Bool) (ts : List NamedTy) (old now : List (Option ℕ)) (id : ℕ) (o : Option ℕ) → new_opening ts now id ≡ o
    → HasTried entered ts old now id → is_some o ≡ false → HasTried entered ts old (with_opening now id o) (id + 1)
none_with entered ts old now id (Some at) e tried is = cc
none_with true ts old now id None e tried is = tried
none_with false ts old now id None e tried is = (tried.0, stuck_more ts now id tried.1 e)

-- a name that gets something
pub tried_new : (entered : Bool) (ts : List NamedTy) (old now : List (Option ℕ)) (id : ℕ) → id < length now → HasTried entered ts old now id
    → is_some (new_opening ts now id) ≡ true → HasTried true ts old (with_opening now id (new_opening ts now id)) (id + 1)
tried_new entered ts old now id within tried is = new_with entered ts old now id (new_opening ts now id) refl within tried is

-- a name that gets nothing
pub tried_none : (entered : Bool) (ts : List NamedTy) (old now : List (Option ℕ)) (id : ℕ) → HasTried entered ts old now id
    → is_some (new_opening ts now id) ≡ false → HasTried entered ts old (with_opening now id (new_opening ts now id)) (id + 1)
tried_none entered ts old now id tried is = none_with entered ts old now id (new_opening ts now id) refl tried is

-- the table after a name was tried
pub next_sound : (m : Module) (ts : List NamedTy) (now next : List (Option ℕ)) (id : ℕ) → ts ≡ m.types.items
    → next ≡ with_opening now id (new_opening ts now id) → id < length now → AreSoundOpenings m now → AreSoundOpenings m next
next_sound m ts now next id same is within s =
    subst (λ (z : List (Option ℕ)). AreSoundOpenings m z)
    (sym (is ∙ ap (λ (z : List NamedTy). with_opening now id (new_opening z now id)) same)) (entered_sound m now s id within)

pub next_long : (m : Module) (now next : List (Option ℕ)) (n : ℕ) → AreSoundOpenings m now → AreSoundOpenings m next → length now ≡ n → length next ≡ n
next_long m now next n s t long = t.long ∙ sym s.long ∙ long

-- what the round has done then
pub next_tried : (entered new : Bool) (ts same : List NamedTy) (old now next : List (Option ℕ)) (id : ℕ) → same ≡ ts
    → next ≡ with_opening now id (new_opening same now id) → new ≡ is_some (new_opening same now id) → id < length now
    → HasTried entered ts old now id → HasTried (if new then true else entered) ts old next (id + 1)
next_tried entered true ts same old now next id types is tells within tried =
    let next_is = is ∙ ap (λ (z : List NamedTy). with_opening now id (new_opening z now id)) types in
    let some = sym (tells ∙ ap (λ (z : List NamedTy). is_some (new_opening z now id)) types) in
    subst (λ (z : List (Option ℕ)). HasTried true ts old z (id + 1)) (sym next_is) (tried_new entered ts old now id within tried some)
next_tried entered false ts same old now next id types is tells within tried =
    let next_is = is ∙ ap (λ (z : List NamedTy). with_opening now id (new_opening z now id)) types in
    let none = sym (tells ∙ ap (λ (z : List NamedTy). is_some (new_opening z now id)) types) in
    subst (λ (z : List (Option ℕ)). HasTried entered ts old z (id + 1)) (sym next_is) (tried_none entered ts old now id tried none)
