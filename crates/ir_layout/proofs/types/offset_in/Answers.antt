use Rattle.std.proofs.Common.{sym, ◌∙◌, ap}
use Rattle.ir_layout.specs.Computed.{ty_layout}
use Rattle.ir_layout.proofs.Places.{offset_step}
use Rattle.ir_layout.proofs.types.offset_in.Goals as goal

pub loop-field-preserved : goal.loop-field-preserved
loop-field-preserved c = (
  c.if-at.false,
  offset_step c.args.layouts.now c.args.packed c.loop-field.at c.field_end-at.result c.args.fields.now c.loop-field.field-index c.field-item.result
      c.in_ok-field.field c.loop-field.left c.loop-field-test.true (ap (ty_layout c.args.layouts.now) (sym c.field-item.is) ∙ sym c.in_ok-field.ensures) c.field_end-at.ensures c.if-at.false c.if-left-eq0.false
      ∙ c.loop-field.invariant.1,
)
