use Rattle.point_list.specs.Marks.{is_marked}
use Rattle.point_list.proofs.WalkLemmas.{begun_none, begun_more}
use Rattle.point_list.proofs.walk.mark_windows.Goals as goal

pub loop-k-init : goal.loop-k-init
loop-k-init c i r = begun_none c.args.text.now c.args.base i r (is_marked c.args.marks.now i r)

pub loop-k-preserved : goal.loop-k-preserved
loop-k-preserved c i r =
    begun_more c.args.text.now c.args.base c.loop-k.k i r (is_marked c.args.marks.now i r) (is_marked c.loop-k.marks i r) (is_marked c.mark_from.new.marks i r)
    (c.loop-k.invariant i r) (c.mark_from.ensures i r)
