-- A run of which some instructions have been executed.
use Rattle.std.proofs.Common.{◌≡◌, ℕ, suc, ◌+◌, ◌-◌, ◌<◌, Option, Some, None, ◌==◌, refl, ap, sym, subst, ◌∙◌, arith}
use Rattle.std.proofs.lemmas.Bool.{cond_both}
use Rattle.std.specs.Option.{ForSome}
use Rattle.rv_model.specs.declared.Cause.{Cause}
use Rattle.rv_model.specs.declared.Flip.{Flip}
use Rattle.rv_model.specs.State.{MachineState}
use Rattle.rv_model.specs.Step.{Continues, Ends, Traps, step}
use Rattle.rv_model.specs.Run.{FlipFits, GoesOn, HasEnded, HasTrapped, flipped, later, more, run, struck}
use Rattle.rv_model.proofs.RegisterLemmas.{out-set_register}
use Rattle.rv_model.proofs.RunLemmas.{more-more, more-zero, run-continues, run-ends, run-traps, run-zero}

-- the run is that many instructions, and then the run from here with the flip that is left
pub record Progress (steps : ℕ) (start : MachineState) (flip : Option Flip) (done : ℕ) (now : MachineState) (pending : Option Flip) : Type 0 where
  pub run_is : run steps start flip ≡ more done (run (steps - done) now pending)
  pub fits : ForSome pending FlipFits

later-fits : (f : Option Flip) → ForSome f FlipFits → ForSome (later f) FlipFits
later-fits None h = λ x e. absurd (cc)
later-fits (Some f) h =
    let P : Option Flip → Type 0 = λ o. ForSome o FlipFits in
    let Fitting : Flip → Type 0 = FlipFits in
    cond_both (f.at == 0) None (Some (record f { at = f.at - 1 })) P
    (λ _. λ x e. absurd (cc))
    (λ _. λ x e.
    let same : record f { at = f.at - 1 } ≡ x = cc in
    subst Fitting same (h f refl))

pub progress-start : (steps : ℕ) (start : MachineState) (flip : Option Flip) → ForSome flip FlipFits → Progress steps start flip 0 start flip
progress-start steps start flip fits = record {
  run_is = sym (more-zero (run steps start flip)) ∙ ap (λ n. more 0 (run n start flip)) (omega arith);
  fits = fits;
}

-- one instruction more
pub progress-more : (steps : ℕ) (start : MachineState) (flip : Option Flip) (done : ℕ) (now next : MachineState) (pending rest : Option Flip)
    → done < steps → Progress steps start flip done now pending → step (struck pending now) ≡ Continues next → rest ≡ later pending
    → Progress steps start flip (done + 1) next rest
progress-more steps start flip done now next pending rest lt before went left =
    let one_more : steps - done ≡ suc (steps - (done + 1)) = omega arith in
    let at : Progress steps start flip (done + 1) next (later pending) = record {
      run_is = before.run_is ∙ ap (λ n. more done (run n now pending)) one_more
          ∙ ap (more done) (run-continues (steps - (done + 1)) now next pending went)
          ∙ more-more done 1 (run (steps - (done + 1)) next (later pending));
      fits = later-fits pending before.fits;
    } in
    rw left at

-- the instruction that ends the program
pub progress-ends : (steps : ℕ) (start : MachineState) (flip : Option Flip) (done : ℕ) (now : MachineState) (pending : Option Flip) (status : ℕ)
    → done < steps → Progress steps start flip done now pending → step (struck pending now) ≡ Ends status
    → run steps start flip ≡ HasEnded now.out status (done + 1)
progress-ends steps start flip done now pending status lt before ends =
    let one_more : steps - done ≡ suc (steps - (done + 1)) = omega arith in
    before.run_is ∙ ap (λ n. more done (run n now pending)) one_more
    ∙ ap (more done) (run-ends (steps - (done + 1)) now pending status ends)

-- an instruction that traps
pub progress-traps : (steps : ℕ) (start : MachineState) (flip : Option Flip) (done : ℕ) (now : MachineState) (pending : Option Flip) (pc : ℕ) (cause : Cause)
    → done < steps → Progress steps start flip done now pending → step (struck pending now) ≡ Traps pc cause
    → run steps start flip ≡ HasTrapped pc cause now.out
progress-traps steps start flip done now pending pc cause lt before traps =
    let one_more : steps - done ≡ suc (steps - (done + 1)) = omega arith in
    before.run_is ∙ ap (λ n. more done (run n now pending)) one_more
    ∙ ap (more done) (run-traps (steps - (done + 1)) now pending pc cause traps)

-- no instruction is left
pub progress-over : (steps : ℕ) (start : MachineState) (flip : Option Flip) (done : ℕ) (now : MachineState) (pending : Option Flip)
    → done ≡ steps → Progress steps start flip done now pending → run steps start flip ≡ GoesOn now
progress-over steps start flip done now pending is before =
    let none : steps - done ≡ 0 = omega arith in
    before.run_is ∙ ap (λ n. more done (run n now pending)) none ∙ ap (more done) (run-zero now pending)

-- a flip leaves the output
pub out-struck : (pending : Option Flip) (s : MachineState) → (struck pending s).out ≡ s.out
out-struck None s = refl
out-struck (Some f) s =
    let P : MachineState → Type 0 = λ t. t.out ≡ s.out in
    cond_both (f.at == 0) (flipped f.reg f.bit s) s P (λ _. out-set_register s f.reg _) (λ _. refl)
