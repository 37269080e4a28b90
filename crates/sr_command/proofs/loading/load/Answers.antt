use Rattle.std.proofs.Common.{ℕ, List, subst, Err}
use Rattle.elf_file.specs.Image.{ProgramImage}
use Rattle.elf_file.specs.Reading.{reading_of, IsAnswer}
use Rattle.sr_command.specs.Commands.{word_bytes}
use Rattle.sr_command.proofs.LoadLaws.{load_stops}
use Rattle.sr_command.proofs.loading.load.Goals as goal

pub returns-clause-loaded : goal.returns-clause-loaded
returns-clause-loaded g c =
    let bytes = rw c.in-Some.is at c.in_ok-bytes.ensures.ok in
    let content = rw (c.in-Some-2.is, c.in_ok-bytes.ensures.read.files) at c.in_ok-content.ensures.ok in
    let fails = subst (λ (b : List ℕ). IsAnswer {X = ProgramImage} (Err c.in-Err.error) (reading_of b)) c.deref.ensures.value c.in-Err.ensures in
    load_stops c.no_executable.result (g.S.Store.meaning c.args.store.now) (g.S.Store.meaning c.read_input.new.store) c.args.program.now (word_bytes c.args.input)
    (c.no_executable.ensures.ok (g.S.Store.meaning c.args.store.now).files c.args.program.now (word_bytes c.args.input)
    (c.in-Some.bytes.items, c.in-Some-2.content.items, (bytes, content), fails)) c.no_executable.ensures.err
