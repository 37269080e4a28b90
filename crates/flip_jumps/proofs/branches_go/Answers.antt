use Rattle.flip_jumps.proofs.JumpWords.{branch_moves}
use Rattle.flip_words.specs.Placed.{Excepted}
use Rattle.flip_jumps.proofs.branches_go.Goals as goal

pub returns : goal.returns
returns c points words = branch_moves words (Excepted points words)
