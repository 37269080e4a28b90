use Rattle.ir_model.specs.States.{begun}
use Rattle.ir_program.specs.ProgramOf.{program_of}
use Rattle.ir_meaning.proofs.laws.modules_that_end_are_evaluated.Goals as goal

pub returns : goal.returns
returns c = λ m input steps allowed out status ends enough.
    c.an_ended_run_is_a_run.ensures (program_of m) steps allowed (begun (program_of m) input) out status ends.ends enough
