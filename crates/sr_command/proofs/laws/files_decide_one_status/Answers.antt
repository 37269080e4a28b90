use Rattle.sr_command.specs.Forms.{promise_of}
use Rattle.sr_command.proofs.Sound.{decides_one}
use Rattle.sr_command.proofs.Complete.{sound_of}
use Rattle.sr_command.proofs.laws.files_decide_one_status.Goals as goal

pub returns : goal.returns
returns c form files a b told x y = decides_one (promise_of form) (sound_of form) files told a b x y
