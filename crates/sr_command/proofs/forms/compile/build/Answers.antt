use Rattle.std.proofs.Common.{refl}
use Rattle.sr_command.proofs.CompileLaws.{gives_executable, returned_kept}
use Rattle.sr_command.proofs.forms.compile.build.Goals as goal

pub returns-clause-ok : goal.returns-clause-ok
returns-clause-ok c =
    let returns = c.in-Some.ensures.found in
    let bytes = rw (c.exit_status.ensures, returned_kept c.args.text.now c.in-Some.number returns) at c.in_ok-bytes.ensures.file in
    (refl, gives_executable c.args.text.now c.in-Some.number c.in_ok-bytes.bytes.items c.in_ok-bytes.text.items c.new-line.result.items c.requires returns bytes c.in_ok-bytes.ensures.points c.new-line.ensures.items)
