use Rattle.flip_words.specs.Placed.{Excepted}
use Rattle.flip_bytes.proofs.CallWords.{byte_is_read}
use Rattle.flip_bytes.proofs.bytes_are_read.Goals as goal

pub returns : goal.returns
returns c = λ points words. byte_is_read words (Excepted points words)
