-- What can be done is done, where no fault comes and memory suffices: each other status has a cause against it.
use Rattle.std.proofs.Common.{◌≡◌, ◌⊎◌, inl, inr, refl, Some, IsSome}
use Rattle.sr_command.specs.Words.{Form, compile, execute, evaluate, disasm, print}
use Rattle.sr_command.specs.Promise.{Promise}
use Rattle.sr_command.specs.Yield.{Yield}
use Rattle.sr_command.specs.Forms.{promise_of}
use Rattle.sr_command.specs.Answers.{World, IsCausedBy, IsFaultless, IsComplete}
use Rattle.sr_command.specs.declared.status.Status.{Status}
use Rattle.sr_command.specs.declared.status.Status.TheVariants.{Done, Usage, Refused, Stopped, StepsOver, ReadFault, WriteFault, NoMemory, Absent}
use Rattle.sr_command.proofs.Sound.{IsSound, decides_one}
use Rattle.sr_command.proofs.CompileLaws.{compile_sound}
use Rattle.sr_command.proofs.DisasmLaws.{disasm_sound}
use Rattle.sr_command.proofs.EvaluateLaws.{evaluate_sound}
use Rattle.sr_command.proofs.ExecuteLaws.{execute_sound}
use Rattle.sr_command.proofs.PrintLaws.{print_sound}

-- each form's promise keeps this
pub sound_of : (form : Form) → IsSound (promise_of form)
sound_of (compile input output) = compile_sound input output
sound_of (execute program input steps flip) = execute_sound program input steps flip
sound_of (evaluate text input steps) = evaluate_sound text input steps
sound_of (disasm program) = disasm_sound program
sound_of (print input) = print_sound input

-- where the files decide that all is done, they decide nothing else
ends_well : (p : Promise) → IsSound p → (status : Status) (w w' : World) → IsCausedBy p status w w' → IsSome w.store.files → (given : Yield) → p.gives w.store.files given
    → IsFaultless p w w' → (status ≡ Done) ⊎ (status ≡ NoMemory)
ends_well p sound Done w w' cause told given gives faultless = inl refl
ends_well p sound Usage w w' cause told given gives faultless = absurd cause
ends_well p sound Refused w w' cause told given gives faultless = inl (decides_one p sound w.store.files told Refused Done cause (given, gives))
ends_well p sound Stopped w w' cause told given gives faultless = inl (decides_one p sound w.store.files told Stopped Done cause (given, gives))
ends_well p sound StepsOver w w' cause told given gives faultless = inl (decides_one p sound w.store.files told StepsOver Done cause (given, gives))
ends_well p sound ReadFault w w' cause told given gives faultless = absurd (faultless.0 cause)
ends_well p sound WriteFault w w' (other, also, fault) told given gives faultless = absurd (faultless.1 other also fault)
ends_well p sound NoMemory w w' cause told given gives faultless = inr refl
ends_well p sound Absent w w' cause told given gives faultless = inl (decides_one p sound w.store.files told Absent Done cause (given, gives))

pub completes : (form : Form) (status : Status) (w w' : World) → IsCausedBy (promise_of form) status w w' → IsComplete (Some form) status w w'
completes form status w w' cause = λ can faultless.
    let done = (sound_of form).can w.store.files can in
    ends_well (promise_of form) (sound_of form) status w w' cause done.0 done.1.0 done.1.1 faultless
