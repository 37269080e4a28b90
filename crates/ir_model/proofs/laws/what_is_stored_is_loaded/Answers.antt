use Rattle.ir_model.proofs.Stored.{stored_loaded}
use Rattle.ir_model.proofs.laws.what_is_stored_is_loaded.Goals as goal

pub returns : goal.returns
returns c = stored_loaded
