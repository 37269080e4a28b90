use Rattle.point_list.proofs.PointSearch.{search_outside}
use Rattle.point_list.proofs.list.outside.Goals as goal

pub returns : goal.returns
returns c =
    rw c.is_err.ensures.value
    (search_outside c.args.points.now (record { pc = c.args.pc; reg = c.args.reg }) c.binary_search.result c.requires c.binary_search.ensures.bound c.binary_search.ensures.position)
