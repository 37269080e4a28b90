use Rattle.flip_words.specs.Placed.{Excepted}
use Rattle.flip_select.proofs.MaskLaw.{zero_masks}
use Rattle.flip_select.proofs.zeros_mask.Goals as goal

pub returns : goal.returns
returns c = λ points words. zero_masks words (Excepted points words)
