use Rattle.flip_words.specs.Placed.{Excepted}
use Rattle.flip_bytes.proofs.AccessWords.{bytes_are_stored}
use Rattle.flip_bytes.proofs.bytes_are_stored.Goals as goal

pub returns : goal.returns
returns c = λ points words. bytes_are_stored words (Excepted points words)
