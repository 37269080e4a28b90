use Rattle.std.proofs.Common.{arith, refl}
use Rattle.std.proofs.lemmas.Grind.{common_steps}
use Rattle.sr_base.proofs.Names.{get-files_of}
use Rattle.sr_base.proofs.mem_store.MemStore.file.Goals as goal

pub returns-in-Some : goal.returns-in-Some
returns-in-Some c = rw (← c.self.view_is, get-files_of, ← c.in-Some.ensures.value) (grind (arith, common_steps))

pub returns-in-None : goal.returns-in-None
returns-in-None c = rw (← c.self.view_is, get-files_of, ← c.in-None.ensures.value) refl
