use Rattle.flip_io.proofs.OutputLaw.{byte_is_output}
use Rattle.flip_io.proofs.bytes_are_output.Goals as goal

pub returns : goal.returns
returns c = byte_is_output
