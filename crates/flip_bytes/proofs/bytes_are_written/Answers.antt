use Rattle.flip_words.specs.Placed.{Excepted}
use Rattle.flip_bytes.proofs.CallWords.{byte_is_written}
use Rattle.flip_bytes.proofs.bytes_are_written.Goals as goal

pub returns : goal.returns
returns c = λ points words. byte_is_written words (Excepted points words)
