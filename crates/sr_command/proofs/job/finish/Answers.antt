use Rattle.sr_command.specs.Forms.{promise_of}
use Rattle.sr_command.proofs.Delivered.{delivers_still}
use Rattle.sr_command.proofs.job.finish.Goals as goal

pub returns-in-Err-hand_out-clause-delivers : goal.returns-in-Err-hand_out-clause-delivers
returns-in-Err-hand_out-clause-delivers g c = λ form s made.
    let job = rw (c.in-Ok-Whole.is, c.in-Ok-Whole.field-0-is) at made.job in
    delivers_still (promise_of form) c.in-Err-hand_out.status c.in-Ok-Whole.output c.in-Ok-Whole.text c.in-Ok-Whole.line s (g.S.Store.meaning c.args.store.now)
    (g.S.Store.meaning c.hand_out.new.store) (g.O.Sink.meaning c.args.out.now) (g.O.Sink.meaning c.hand_out.new.out)
    (g.N.Sink.meaning c.args.note.now) (g.N.Sink.meaning c.tell-in-Err-hand_out.new.sink) made.read job
    (rw c.deref-in-Ok-Whole.ensures.value at c.in-Err-hand_out.ensures.err)
