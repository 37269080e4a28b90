use Rattle.done_io.proofs.Bytes as bytes
use Rattle.done_io.proofs.ends_are_done.Goals as goal

pub returns : goal.returns
returns c = bytes.ends
