use Rattle.flip_jumps.proofs.JumpWords.{jump_moves}
use Rattle.flip_words.specs.Placed.{Excepted}
use Rattle.flip_jumps.proofs.jumps_go.Goals as goal

pub returns : goal.returns
returns c points words = jump_moves words (Excepted points words)
