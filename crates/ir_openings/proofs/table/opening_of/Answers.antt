use Rattle.std.proofs.Common.{arith, sym, ◌∙◌, ap, None}
use Rattle.std.specs.Option.{option_and_then}
use Rattle.ir_openings.specs.Openings.{item_opening}
use Rattle.ir_openings.proofs.Layers.{first_at, first_within, opening_at}
use Rattle.ir_openings.proofs.table.opening_of.Goals as goal

pub bounds-types-at : goal.bounds-types-at
bounds-types-at c = first_within c.args.types.now c.args.first.now c.args.id c.in-Some.at c.requires.first c.requires.within c.in-Some.is

pub offset_bounds-types-at : goal.offset_bounds-types-at
offset_bounds-types-at c =
    let inside = bounds-types-at c in
    grind (arith, inside)

pub returns-in-Some : goal.returns-in-Some
returns-in-Some c =
    c.item_opening.ensures
    ∙ sym (opening_at c.args.types.now c.args.first.now c.args.openings.now c.args.id c.in-Some.at c.index-types-at.result c.requires.first c.requires.within c.in-Some.is)

pub returns-in-None : goal.returns-in-None
returns-in-None c =
    sym (ap (option_and_then (item_opening c.args.types.now c.args.openings.now))
    (first_at c.args.types.now c.args.first.now c.args.id None c.requires.first c.requires.within c.in-None.is))
