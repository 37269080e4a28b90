-- Where only the put failed, the output holds what the form gives.
use Rattle.std.proofs.Common.{ℕ, inl, inr, ap, subst, arith, Option, Vec, List}
use Rattle.std.specs.declared.alloc.Global.{Global}
use Rattle.sr_base.specs.Counts.{Rose}
use Rattle.sr_base.specs.Meanings.{StoreMeaning, SinkMeaning}
use Rattle.sr_command.specs.Promise.{Promise}
use Rattle.sr_command.specs.Answers.{world, IsWritten, Delivers, DeliversOf}
use Rattle.sr_command.specs.Jobs.{IsJobOf, IsOnlyRead, FailsInPut, FailsInHandOut}
use Rattle.sr_command.specs.Outputs.{output_bytes}
use Rattle.sr_command.specs.declared.status.Status.{Status}
use Rattle.sr_command.specs.declared.status.Status.TheVariants.{WriteFault, NoMemory}
use Rattle.sr_command.specs.declared.job.Output.{Output}
use Rattle.sr_command.specs.declared.job.Job.TheVariants.{Whole}

delivers : (p : Promise) (output : Option Output) (text line : Vec ℕ Global) (s s' : StoreMeaning) (o o' n n' : SinkMeaning) → IsJobOf p s.files (Whole output text line) → FailsInPut output text.items s' o o' → Delivers p (world s o n) (world s' o' n')
delivers p output text line s s' o o' n n' job fails =
    let named = subst (λ (name : Option (List ℕ)). IsWritten name s'.files (output_bytes output)) job.0 fails.0 in
    (record { image = output_bytes output; text = text.items; line = line.items }, job.1, named, fails.1)

pub delivers_still : (p : Promise) (status : Status) (output : Option Output) (text line : Vec ℕ Global) (s s₁ s' : StoreMeaning) (o o' n n' : SinkMeaning) → IsOnlyRead s s₁ → IsJobOf p s.files (Whole output text line) → FailsInHandOut output text.items s₁ s' o o' status → DeliversOf p status (world s o n) (world s' o' n')
delivers_still p WriteFault output text line s s₁ s' o o' n n' read job (inl failed) = λ none. absurd (none (subst (λ (n : ℕ). Rose n s'.write_faults) read.write_faults failed.1))
delivers_still p WriteFault output text line s s₁ s' o o' n n' read job (inr fails) = λ none. delivers p output text line s s' o o' n n' job fails.0
delivers_still p NoMemory output text line s s₁ s' o o' n n' read job (inl failed) = λ more. absurd (omega (arith, ap (λ (m : SinkMeaning). m.wants) failed.0, more))
delivers_still p NoMemory output text line s s₁ s' o o' n n' read job (inr fails) = λ more. delivers p output text line s s' o o' n n' job fails.0
delivers_still p status output text line s s₁ s' o o' n n' read job h = absurd h
