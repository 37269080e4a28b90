use Rattle.std.proofs.Common.{◌∙◌, ◌++◌, ◌+◌, ◌*◌, sym, ap, arith}
use Rattle.std.specs.Prelude.{slice_index}
use Rattle.point_list.specs.Marks.{points_at}
use Rattle.point_list.proofs.MarkLemmas.{points_of_none, points_of_more}
use Rattle.point_list.proofs.PointsLaws.{list_sorted, list_marked}
use Rattle.point_list.proofs.marks.marked_points.Goals as goal

pub loop-k-init : goal.loop-k-init
loop-k-init c = c.new-points.ensures.items ∙ sym (points_of_none c.args.base c.args.marks.now)

pub loop-k-preserved : goal.loop-k-preserved
loop-k-preserved c =
    c.in_ok-push_points.ensures
    ∙ ap (λ ps. ps ++ points_at (c.args.base + 4 * c.loop-k.k) (slice_index c.args.marks.now c.loop-k.k) 32) c.loop-k.invariant
    ∙ sym (points_of_more c.args.base c.args.marks.now c.loop-k.k)

pub returns-clause-sorted : goal.returns-clause-sorted
returns-clause-sorted c = list_sorted c.args.base c.args.marks.now c.loop-k.k c.loop-k.points.items c.loop-k.invariant

pub returns-clause-marked : goal.returns-clause-marked
returns-clause-marked c =
    list_marked c.args.base c.args.marks.now c.loop-k.k c.loop-k.points.items (λ k. omega (arith, c.type_inv.marks k)) c.loop-k.invariant (omega (arith, c.loop-k-test.false))
