use Rattle.point_list.proofs.Padding.{padded_to_eight}
use Rattle.point_list.proofs.list.push_line.Goals as goal

-- src/points.rt:15:1
pub returns : goal.returns
returns c = rw (c.laid_out.ensures, c.in_radix.ensures, padded_to_eight) at c.writeln.ensures.bytes
