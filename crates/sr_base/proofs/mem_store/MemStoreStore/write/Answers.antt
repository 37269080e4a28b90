use Rattle.std.proofs.Common.{◌≡◌, Some, ap, ◌∙◌}
use Rattle.sr_base.specs.Memory.{files_of}
use Rattle.sr_base.proofs.Names.{get-insert_same, get-insert_other}
use Rattle.sr_base.proofs.mem_store.MemStoreStore.write.Goals as goal

pub returns-in-Ok-clause-written : goal.returns-in-Ok-clause-written
returns-in-Ok-clause-written c = rw c.in-Ok.ensures.ok (ap Some (get-insert_same _ _ _))

pub returns-in-Ok-clause-others : goal.returns-in-Ok-clause-others
returns-in-Ok-clause-others c = λ other apart.
    let same : files_of c.self.inside.files ≡ c.args.self.now.files = ap (λ s. s.files) (c.self.view_is ∙ c.is_next_failing.ensures.counted) in
    rw (c.in-Ok.ensures.ok, same) (ap Some (get-insert_other _ _ _ other apart))
