use Rattle.sr_command.specs.Commands.{meant}
use Rattle.sr_command.specs.Answers.{world}
use Rattle.sr_command.specs.Forms.{promise_of}
use Rattle.sr_command.specs.Jobs.{IsMade}
use Rattle.sr_command.proofs.Complete.{completes}
use Rattle.sr_command.proofs.top.run_command.Goals as goal

pub returns : goal.returns
returns g c =
    let form = meant c.args.command in
    let p = promise_of form in
    let s = g.S.Store.meaning c.args.store.now in
    let before = world s (g.O.Sink.meaning c.args.out.now) (g.N.Sink.meaning c.args.note.now) in
    let after = world (g.S.Store.meaning c.finish.new.store) (g.O.Sink.meaning c.finish.new.out) (g.N.Sink.meaning c.finish.new.note) in
    let made : IsMade p s (g.S.Store.meaning c.make_job-made.new.store) c.make_job-made.result =
    record { read = c.make_job-made.ensures.read; job = c.make_job-made.ensures.job } in
    let cause = c.finish.ensures.cause form s made in
    record {
      answer = record {
        cause = cause;
        files = c.finish.ensures.files form s made;
        out = c.finish.ensures.out form s made;
        delivers = c.finish.ensures.delivers form s made;
        note = c.finish.ensures.note form s made;
        complete = completes form c.finish.result before after cause;
      };
    }
