use Rattle.point_list.proofs.PointsText.{text_determines}
use Rattle.point_list.proofs.list.text_determines_points.Goals as goal

pub returns : goal.returns
returns c = text_determines
