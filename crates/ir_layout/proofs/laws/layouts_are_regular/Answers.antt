use Rattle.ir_layout.proofs.Places.{layout_regular}
use Rattle.ir_layout.proofs.laws.layouts_are_regular.Goals as goal

pub returns : goal.returns
returns c ts t l has = layout_regular ts t l has
