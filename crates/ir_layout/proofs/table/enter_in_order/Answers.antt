use Rattle.std.proofs.Common.{◌≡◌, List, Option, length, get_or, sym, ◌∙◌, subst}
use Rattle.ir_layout.specs.declared.sizes.Layout.{Layout}
use Rattle.ir_layout.specs.Tables.{IsSoundTable}
use Rattle.ir_layout.proofs.Rounds.{next_sound, next_long}
use Rattle.ir_layout.proofs.table.enter_in_order.Goals as goal
use Rattle.ir_layout.proofs.table.enter_in_order.Goals.{then-id-layouts, else-id-layouts}

pub loop-id-preserved : goal.loop-id-preserved
loop-id-preserved c =
    elim c.if-id-layouts.branch [
      | then-id-layouts w ↦
          let sound = next_sound c.args.m.now c.requires.known w.deref.result.now c.loop-id.layouts c.if-id-layouts.layouts (get_or c.args.order.now c.loop-id.id-index 0)
          w.deref.ensures.value (w.layouts-is ∙ w.enter.ensures.layouts) w.if-id-layouts.true c.loop-id.invariant.1 in
          (next_long c.args.m.now c.loop-id.layouts c.if-id-layouts.layouts (length c.args.first.now) c.loop-id.invariant.1 sound c.loop-id.invariant.0, sound)
      | else-id-layouts w ↦
          subst (λ (z : List (Option Layout)). (length z ≡ length c.args.first.now) × IsSoundTable c.args.m.now z) (sym w.layouts-is) c.loop-id.invariant
    ]
