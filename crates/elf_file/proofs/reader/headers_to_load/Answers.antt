use Rattle.std.proofs.Common.{◌++◌, ◌∷◌, [], ap, ◌∙◌, arith, length-drop}
use Rattle.std.proofs.lemmas.List.{take_all}
use Rattle.elf_file.specs.Reading.{program_header}
use Rattle.elf_file.proofs.Tables.{kept_more, kept_same, load_seen, skip_seen}
use Rattle.elf_file.proofs.reader.headers_to_load.Goals as goal
use Rattle.elf_file.proofs.reader.headers_to_load.Goals.{then-header-eq-PT_LOAD+in_ok-push, else-header-eq-PT_LOAD}

pub loop-preserved : goal.loop-preserved
loop-preserved c =
    elim c.if-header-eq-PT_LOAD.branch [
      | then-header-eq-PT_LOAD+in_ok-push w ↦
          kept_more c.args.count c.loop.counter c.args.table.now c.loop.rest.now _ c.loop.headers.items _ c.loop-test.true
          (load_seen c.read-header.result (program_header c.loop.rest.now) c.read-header.ensures w.if-header-eq-PT_LOAD.true)
          c.loop.invariant (take_all _ _ (omega (arith, length-drop 56 c.loop.rest.now)))
          (ap (λ v. v.items) w.headers-is ∙ w.in_ok-push.ensures.items ∙ ap (λ h. c.loop.headers.items ++ h ∷ []) c.read-header.ensures)
      | else-header-eq-PT_LOAD w ↦
          kept_same c.args.count c.loop.counter c.args.table.now c.loop.rest.now _ c.loop.headers.items _ c.loop-test.true
          (skip_seen c.read-header.result (program_header c.loop.rest.now) c.read-header.ensures w.if-header-eq-PT_LOAD.false)
          c.loop.invariant (take_all _ _ (omega (arith, length-drop 56 c.loop.rest.now)))
          (ap (λ v. v.items) w.headers-is)
    ]
