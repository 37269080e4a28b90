use Rattle.flip_jumps.proofs.JumpWords.{register_jump_moves}
use Rattle.flip_words.specs.Placed.{Excepted}
use Rattle.flip_jumps.proofs.register_jumps_go.Goals as goal

pub returns : goal.returns
returns c points words = register_jump_moves words (Excepted points words)
