use Rattle.std.proofs.Common.{◌≡◌, ℕ, ◌<◌, List, get_or, length, Option, Some, None, slice_get, arith, sym, ◌∙◌, ap}
use Rattle.std.proofs.lemmas.Option.{slice_get_within, slice_get-get_or, get_or_from_slice_get}
use Rattle.ir_tree.specs.declared.types.Ty.{Ty}
use Rattle.ir_tree.specs.declared.module.NamedTy.{NamedTy}
use Rattle.ir_layout.proofs.Numbered.{place_found, no_place}
use Rattle.ir_layout.proofs.order.type_of.Goals as goal

abbrev some_ty : Ty → Option Ty
some_ty t = Some t

read : (first : List (Option ℕ)) (id : ℕ) (o : Option ℕ) → id < length first → get_or first id None ≡ o → slice_get first id ≡ Some o
read first id o within is = slice_get-get_or first id None within ∙ ap (λ (z : Option ℕ). Some z) is

pub bounds-types-at : goal.bounds-types-at
bounds-types-at c =
    let here = read c.args.first.now c.args.id (Some c.in-Some.at) c.requires.within c.in-Some.is in
    let found = place_found c.args.types.now c.args.first.now c.requires.first c.args.id c.in-Some.at here in
    slice_get_within c.args.types.now c.in-Some.at found.0 found.1

pub offset_bounds-types-at : goal.offset_bounds-types-at
offset_bounds-types-at c =
    let inside = bounds-types-at c in
    grind (arith, inside)

pub returns-in-Some : goal.returns-in-Some
returns-in-Some c =
    let here = read c.args.first.now c.args.id (Some c.in-Some.at) c.requires.within c.in-Some.is in
    let found = place_found c.args.types.now c.args.first.now c.requires.first c.args.id c.in-Some.at here in
    ap (λ (t : NamedTy). some_ty t.ty) (get_or_from_slice_get c.args.types.now c.in-Some.at found.0 c.index-types-at.result found.1) ∙ sym found.2

pub returns-in-None : goal.returns-in-None
returns-in-None c =
    sym (no_place c.args.types.now c.args.first.now c.requires.first c.args.id
    (read c.args.first.now c.args.id None c.requires.within c.in-None.is))
