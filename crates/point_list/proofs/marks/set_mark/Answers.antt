use Rattle.point_list.proofs.MarkLemmas.{set_marked}
use Rattle.point_list.proofs.marks.set_mark.Goals as goal

pub returns : goal.returns
returns c i r = set_marked c.args.marks.now c.args.k c.args.reg i r c.requires.within c.requires.register
