use Rattle.std.proofs.Common.{◌≡◌, ℕ, length, arith, List, Option, Some, inl, inr, sym, ◌∙◌, ap, refl}
use Rattle.ir_tree.specs.declared.module.NamedTy.{NamedTy}
use Rattle.ir_openings.specs.Openings.{opening_in}
use Rattle.ir_openings.proofs.Found.{array_itself, structure_itself, found_within, found_opens, found_known}
use Rattle.ir_openings.proofs.table.Openings.opened.Goals as goal

-- what was looked up in the table of the value
here : (table openings : List (Option ℕ)) (id : ℕ) (r o : Option ℕ) → r ≡ opening_in table id → table ≡ openings → r ≡ o → opening_in openings id ≡ o
here table openings id r o is same found = ap (λ (z : List (Option ℕ)). opening_in z id) (sym same) ∙ sym is ∙ found

pub bounds-types-at : goal.bounds-types-at
bounds-types-at c =
    let at = here c.deref.result.now c.args.self.now c.in-Named.id.0 c.named_opening.result (Some c.in-Some.at) c.named_opening.ensures
    (cc (c.deref.ensures.value, c.self.view_is)) c.in-Some.is in
    omega (arith, found_within c.args.m.now c.args.self.now c.requires.openings c.in-Named.id.0 c.in-Some.at at, ap (λ (z : List NamedTy). length z) c.as_slice-types.ensures.value)

pub offset_bounds-types-at : goal.offset_bounds-types-at
offset_bounds-types-at c =
    let inside = bounds-types-at c in
    grind (arith, inside)

pub returns-in-Some-clause-opens : goal.returns-in-Some-clause-opens
returns-in-Some-clause-opens c =
    let at = here c.deref.result.now c.args.self.now c.in-Named.id.0 c.named_opening.result (Some c.in-Some.at) c.named_opening.ensures
    (cc (c.deref.ensures.value, c.self.view_is)) c.in-Some.is in
    found_opens c.args.m.now c.args.self.now c.requires.openings c.in-Named.id.0 c.in-Some.at at c.args.ty.now c.in-Named.id c.as_slice-types.result.now c.index-types-at.result
    c.in-Named.is refl c.as_slice-types.ensures.value

pub returns-in-Some-clause-known : goal.returns-in-Some-clause-known
returns-in-Some-clause-known c =
    let at = here c.deref.result.now c.args.self.now c.in-Named.id.0 c.named_opening.result (Some c.in-Some.at) c.named_opening.ensures
    (cc (c.deref.ensures.value, c.self.view_is)) c.in-Some.is in
    found_known c.args.m.now c.args.self.now c.requires.openings c.in-Named.id.0 c.in-Some.at at c.as_slice-types.result.now c.index-types-at.result c.as_slice-types.ensures.value

pub returns-in-Array-clause-opens : goal.returns-in-Array-clause-opens
returns-in-Array-clause-opens c =
    elim c.in-Array.is [
      | inl e ↦ array_itself c.args.m.now c.args.ty.now e.0 e.1 e.2
      | inr e ↦ structure_itself c.args.m.now c.args.ty.now e.0 e.1 e.2
    ]
