use Rattle.std.proofs.Common.{◌≡◌, Some, arith, refl, ap, ◌∙◌}
use Rattle.std.proofs.lemmas.Grind.{common_steps}
use Rattle.std.specs.FinMap.{get}
use Rattle.sr_base.specs.Memory.{files_of}
use Rattle.sr_base.proofs.Names.{get-files_of}
use Rattle.sr_base.proofs.mem_store.MemStoreStore.read.Goals as goal
use Rattle.sr_base.proofs.mem_store.MemStoreStore.read.Goals.{in-Ok, in-Err}

pub returns-in_default-clause-refused : goal.returns-in_default-clause-refused
returns-in_default-clause-refused c =
    let same : files_of c.self.inside.files ≡ c.args.self.now.files = ap (λ s. s.files) (c.self.view_is ∙ c.is_next_failing.ensures.counted) in
    rw (← same, get-files_of, ← c.in_default.ensures.value) refl

pub returns-then-len-max-clause-refused : goal.returns-then-len-max-clause-refused
returns-then-len-max-clause-refused c =
    let same : files_of c.self.inside.files ≡ c.args.self.now.files = ap (λ s. s.files) (c.self.view_is ∙ c.is_next_failing.ensures.counted) in
    (c.in-Some.bytes.now.items, rw (← same, get-files_of, ← c.in-Some.ensures.value) refl, grind (arith, common_steps))

pub returns-clause-content : goal.returns-clause-content
returns-clause-content c =
    let same : files_of c.self.inside.files ≡ c.args.self.now.files = ap (λ s. s.files) (c.self.view_is ∙ c.is_next_failing.ensures.counted) in
    let found : get c.args.self.now.files c.args.name.now ≡ Some c.in-Some.bytes.now.items = rw (← same, get-files_of, ← c.in-Some.ensures.value) refl in
    elim c.match-from_slice.branch [
      | in-Ok w ↦ grind (arith, common_steps)
      | in-Err w ↦ grind (arith, common_steps)
    ]
