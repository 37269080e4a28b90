use Rattle.flip_words.specs.Placed.{Excepted}
use Rattle.flip_bytes.proofs.AccessWords.{bytes_are_loaded}
use Rattle.flip_bytes.proofs.bytes_are_loaded.Goals as goal

pub returns : goal.returns
returns c = λ points words. bytes_are_loaded words (Excepted points words)
