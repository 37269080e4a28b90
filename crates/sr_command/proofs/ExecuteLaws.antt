-- A program that is told is run to one status, or is refused, or isn't there.
use Rattle.std.proofs.Common.{◌≡◌, ℕ, List, sym, ◌∙◌, ap, Option, IsSome}
use Rattle.sr_base.specs.Files.{Files}
use Rattle.sr_command.specs.Yield.{Yield}
use Rattle.sr_command.specs.declared.refusal.Refusal.{Refusal}
use Rattle.sr_command.proofs.Sound.{IsSound}
use Rattle.rv_model.specs.declared.Flip.{Flip}
use Rattle.rv_model.specs.Run.{run}
use Rattle.rv_model.specs.Start.{started}
use Rattle.sr_command.specs.Loads.{RefusesLoad, LacksLoad}
use Rattle.sr_command.specs.Forms.Execute.{Runs, run_status, executing}
use Rattle.sr_command.proofs.LoadLaws.{one_load, load_not_refused, load_there, refused_there}
use Rattle.sr_command.specs.declared.status.Status.{Status}
use Rattle.sr_command.specs.declared.status.Status.TheVariants.{Done}

-- a program that is told is run to one status
one_status : (files : Option Files) (program : List ℕ) (input : Option (List ℕ)) (steps : ℕ) (flip : Option Flip) (a b : Status) (given other : Yield) → IsSome files → Runs files program input steps flip a given → Runs files program input steps flip b other → a ≡ b
one_status files program input steps flip a b given other told (image, content, loaded, answered) (image', content', loaded', answered') =
    let same = one_load files program input image image' content content' told loaded loaded' in
    answered.0
    ∙ ap (λ i. run_status (run steps (started i content) flip)) same.0
    ∙ ap (λ c. run_status (run steps (started image' c) flip)) same.1
    ∙ sym answered'.0

-- a program that is run isn't refused, and is there
run_not_refused : (files : Option Files) (program : List ℕ) (why : Refusal) (input : Option (List ℕ)) (steps : ℕ) (flip : Option Flip) (status : Status) (given : Yield) → IsSome files → Runs files program input steps flip status given → RefusesLoad files program input why → ⊥
run_not_refused files program why input steps flip status given told (image, content, loaded, answered) = load_not_refused files program why input image content told loaded

run_there : (files : Option Files) (program : List ℕ) (input : Option (List ℕ)) (steps : ℕ) (flip : Option Flip) (status : Status) (given : Yield) → IsSome files → Runs files program input steps flip status given → LacksLoad files program input → ⊥
run_there files program input steps flip status given told (image, content, loaded, answered) = load_there files program input image content told loaded

-- files that are told decide one status of the form
pub execute_sound : (program : List ℕ) (input : Option (List ℕ)) (steps : ℕ) (flip : Option Flip) → IsSound (executing program input steps flip)
execute_sound program input steps flip = record {
  can = λ files can. can;
  given_refused = λ files given why told gives refuses. run_not_refused files program why input steps flip Done given told gives refuses;
  given_lacking = λ files given told gives lacks. run_there files program input steps flip Done given told gives lacks;
  given_halted = λ files status given other told gives halts. one_status files program input steps flip Done status given other told gives halts;
  halted_once = λ files a b given other told halts also. one_status files program input steps flip a b given other told halts also;
  halted_refused = λ files status given why told halts refuses. run_not_refused files program why input steps flip status given told halts refuses;
  halted_lacking = λ files status given told halts lacks. run_there files program input steps flip status given told halts lacks;
  refused_lacking = λ files why told refuses lacks. refused_there files program why input told refuses lacks;
}
