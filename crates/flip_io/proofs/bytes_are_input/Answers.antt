use Rattle.flip_io.proofs.InputLaw.{byte_is_input}
use Rattle.flip_io.proofs.bytes_are_input.Goals as goal

pub returns : goal.returns
returns c = byte_is_input
