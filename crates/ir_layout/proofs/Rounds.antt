-- A round over the names: either it enters nothing and nothing can be entered, or fewer names are without a layout.
use Rattle.std.proofs.Common.{◌≡◌, ℕ, ◌+◌, ◌<◌, inl, inr, Bool, true, false, List, length, Option, Some, None, refl, sym, ◌∙◌, ap, subst, arith}
use Rattle.std.specs.Prelude.{is_some, if◌then◌else◌}
use Rattle.std.proofs.lemmas.Bool.Decides.{eqb_tells}
use Rattle.ir_tree.specs.Known.{module_known}
use Rattle.ir_tree.specs.declared.module.Module.{Module}
use Rattle.ir_tree.specs.declared.module.NamedTy.{NamedTy}
use Rattle.ir_layout.specs.declared.sizes.Layout.{Layout}
use Rattle.ir_layout.specs.Tables.{new_layout, with_layout, count_empty, AreStuck, IsSoundTable}
use Rattle.ir_layout.proofs.Entries.{entered_fewer, entered_sound}

-- what a round has done up to a name
abbrev pub HasTried : Bool → List NamedTy → List (Option Layout) → List (Option Layout) → ℕ → Type 0
HasTried true ts old now id = count_empty now < count_empty old
HasTried false ts old now id = (now ≡ old) × AreStuck ts now id

stuck_more : (ts : List NamedTy) (layouts : List (Option Layout)) (id : ℕ) → AreStuck ts layouts id → new_layout ts layouts id ≡ None
    → AreStuck ts layouts (id + 1)
stuck_more ts layouts id stuck here k below =
    elim (eqb_tells id k) [
      | inl h ↦ subst (λ (n : ℕ). new_layout ts layouts n ≡ None) h.1 here
      | inr h ↦ stuck k (omega (arith, h.1, below))
    ]

new_with : (entered : Bool) (ts : List NamedTy) (old now : List (Option Layout)) (id : ℕ) (o : Option Layout) → new_layout ts now id ≡ o → id < length now
    → HasTried entered ts old now id → is_some o ≡ true → count_empty (with_layout now id o) < count_empty old
new_with entered ts old now id None e within tried is = cc
new_with true ts old now id (Some l) e within tried is = omega (arith, entered_fewer ts now id l within e, tried)
new_with false ts old now id (Some l) e within tried is = omega (arith, entered_fewer ts now id l within e, ap count_empty tried.0)

none_with : (entered : Bool) (ts : List NamedTy) (old now : List (Option Layout)) (id : ℕ) (o : Option Layout) → new_layout ts now id ≡ o
    → HasTried entered ts old now id → is_some o ≡ false → HasTried entered ts old (with_layout now id o) (id + 1)
none_with entered ts old now id (Some l) e tried is = cc
none_with true ts old now id None e tried is = tried
none_with false ts old now id None e tried is = (tried.0, stuck_more ts now id tried.1 e)

-- a name that gets a layout
pub tried_new : (entered : Bool) (ts : List NamedTy) (old now : List (Option Layout)) (id : ℕ) → id < length now → HasTried entered ts old now id
    → is_some (new_layout ts now id) ≡ true → HasTried true ts old (with_layout now id (new_layout ts now id)) (id + 1)
tried_new entered ts old now id within tried is = new_with entered ts old now id (new_layout ts now id) refl within tried is

-- a name that gets none
pub tried_none : (entered : Bool) (ts : List NamedTy) (old now : List (Option Layout)) (id : ℕ) → HasTried entered ts old now id
    → is_some (new_layout ts now id) ≡ false → HasTried entered ts old (with_layout now id (new_layout ts now id)) (id + 1)
tried_none entered ts old now id tried is = none_with entered ts old now id (new_layout ts now id) refl tried is

-- the table after a name was tried
pub next_sound : (m : Module) → module_known m ≡ true → (ts : List NamedTy) (now next : List (Option Layout)) (id : ℕ) → ts ≡ m.types.items
    → next ≡ with_layout now id (new_layout ts now id) → id < length now → IsSoundTable m now → IsSoundTable m next
next_sound m known ts now next id same is within s =
    subst (λ (z : List (Option Layout)). IsSoundTable m z)
    (sym (is ∙ ap (λ (z : List NamedTy). with_layout now id (new_layout z now id)) same)) (entered_sound m known now s id within)

pub next_long : (m : Module) (now next : List (Option Layout)) (n : ℕ) → IsSoundTable m now → IsSoundTable m next → length now ≡ n → length next ≡ n
next_long m now next n s t long = t.long ∙ sym s.long ∙ long

-- what the round has done then
pub next_tried : (entered new : Bool) (ts same : List NamedTy) (old now next : List (Option Layout)) (id : ℕ) → same ≡ ts
    → next ≡ with_layout now id (new_layout same now id) → new ≡ is_some (new_layout same now id) → id < length now
    → HasTried entered ts old now id → HasTried (if new then true else entered) ts old next (id + 1)
next_tried entered true ts same old now next id types is tells within tried =
    let next_is = is ∙ ap (λ (z : List NamedTy). with_layout now id (new_layout z now id)) types in
    let some = sym (tells ∙ ap (λ (z : List NamedTy). is_some (new_layout z now id)) types) in
    subst (λ (z : List (Option Layout)). HasTried true ts old z (id + 1)) (sym next_is) (tried_new entered ts old now id within tried some)
next_tried entered false ts same old now next id types is tells within tried =
    let next_is = is ∙ ap (λ (z : List NamedTy). with_layout now id (new_layout z now id)) types in
    let none = sym (tells ∙ ap (λ (z : List NamedTy). is_some (new_layout z now id)) types) in
    subst (λ (z : List (Option Layout)). HasTried entered ts old z (id + 1)) (sym next_is) (tried_none entered ts old now id tried none)
