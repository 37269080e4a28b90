use Rattle.std.proofs.Common.{◌∙◌, ap}
use Rattle.point_list.proofs.MarkLemmas.{points_at_none, points_at_marked, points_at_unmarked}
use Rattle.point_list.proofs.marks.push_points.Goals as goal
use Rattle.point_list.proofs.marks.push_points.Goals.{then-mark-reg-eq1+in_ok-push, else-mark-reg-eq1}

pub loop-reg-init : goal.loop-reg-init
loop-reg-init c = points_at_none c.args.pc c.args.mark c.args.points.now.items

pub loop-reg-preserved : goal.loop-reg-preserved
loop-reg-preserved c =
    elim c.if-mark-reg-eq1.branch [
      | then-mark-reg-eq1+in_ok-push w ↦
          points_at_marked c.args.pc c.args.mark c.loop-reg.reg c.args.points.now.items c.loop-reg.points.items c.if-mark-reg-eq1.points.items c.loop-reg.invariant w.if-mark-reg-eq1.true
          (ap (λ v. v.items) w.points-is ∙ w.in_ok-push.ensures.items)
      | else-mark-reg-eq1 w ↦
          points_at_unmarked c.args.pc c.args.mark c.loop-reg.reg c.args.points.now.items c.loop-reg.points.items c.if-mark-reg-eq1.points.items c.loop-reg.invariant w.if-mark-reg-eq1.false
          (ap (λ v. v.items) w.points-is)
    ]
