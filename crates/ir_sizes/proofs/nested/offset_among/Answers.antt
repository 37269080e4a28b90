use Rattle.std.proofs.Common.{sym, ◌∙◌, ap, length}
use Rattle.ir_layout.specs.Computed.{ty_layout}
use Rattle.ir_layout.proofs.Places.{offset_step}
use Rattle.ir_sizes.specs.Nested.{layouts_within}
use Rattle.ir_sizes.proofs.nested.offset_among.Goals as goal

pub loop-field-preserved : goal.loop-field-preserved
loop-field-preserved c =
    let layouts = layouts_within c.args.m.now.types.items (length c.args.m.now.names) c.args.depth in (
      c.if-at.false,
      offset_step layouts c.args.packed c.loop-field.at c.field_end-at.result c.args.fields.now c.loop-field.field-index c.field-item.result
          c.in_ok-field.field c.loop-field.left c.loop-field-test.true (ap (ty_layout layouts) (sym c.field-item.is) ∙ sym c.in_ok-field.ensures) c.field_end-at.ensures c.if-at.false c.if-left-eq0.false
          ∙ c.loop-field.invariant.1,
    )
