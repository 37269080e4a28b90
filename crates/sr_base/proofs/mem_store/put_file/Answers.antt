use Rattle.sr_base.proofs.Names.{files_of-put}
use Rattle.sr_base.proofs.mem_store.put_file.Goals as goal

pub returns-clause-ok : goal.returns-clause-ok
returns-clause-ok c = files_of-put c.args.files.now c.insert.new.self c.in_ok-key.key c.in_ok-content.content _ _ c.in_ok-key.ensures.ok c.in_ok-content.ensures.items c.in_ok-insert.ensures.updates
