use Rattle.std.proofs.Common.{inl, inr, sym, ◌∙◌}
use Rattle.ir_openings.proofs.Layers.{array_opening, structure_opening, name_layer_opening, other_opening}
use Rattle.ir_openings.proofs.table.item_opening.Goals as goal

pub returns-in-Array : goal.returns-in-Array
returns-in-Array c =
    elim c.in-Array.is [
      | inl e ↦ rw e.2 (sym (array_opening c.args.openings.now c.args.at e.0 e.1))
      | inr e ↦ rw e.2 (sym (structure_opening c.args.openings.now c.args.at e.0 e.1))
    ]

pub returns-in-Named : goal.returns-in-Named
returns-in-Named c = rw c.in-Named.is (c.named_opening.ensures ∙ sym (name_layer_opening c.args.openings.now c.args.at c.in-Named.next))

pub returns-in_default : goal.returns-in_default
returns-in_default c =
    sym (other_opening c.args.openings.now c.args.at c.args.ty.now
    (record { no_array = c.in_default.not-Array; no_structure = c.in_default.not-Struct; no_name = c.in_default.not-Named }))
