use Rattle.flip_jumps.proofs.JumpWords.{link_moves}
use Rattle.flip_words.specs.Placed.{Excepted}
use Rattle.flip_jumps.proofs.jumps_link.Goals as goal

pub returns : goal.returns
returns c points words = link_moves words (Excepted points words)
