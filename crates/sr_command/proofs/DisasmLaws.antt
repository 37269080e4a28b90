-- An executable that is told is listed, or is refused, or isn't there.
use Rattle.std.proofs.Common.{ℕ, List, [], Option, None, IsSome}
use Rattle.sr_base.specs.Files.{Files}
use Rattle.sr_command.specs.Yield.{Yield}
use Rattle.sr_command.specs.declared.refusal.Refusal.{Refusal}
use Rattle.sr_command.proofs.Sound.{IsSound}
use Rattle.sr_command.specs.Loads.{RefusesLoad, LacksLoad}
use Rattle.sr_command.specs.Forms.Disasm.{Disassembles, listing}
use Rattle.sr_command.proofs.LoadLaws.{load_not_refused, load_there, refused_there}

-- an executable whose words are listed isn't refused, and is there
listed_not_refused : (files : Option Files) (program : List ℕ) (why : Refusal) (given : Yield) → IsSome files → Disassembles files program given → RefusesLoad files program None why → ⊥
listed_not_refused files program why given told (image, loaded, is_given) = load_not_refused files program why None image [] told loaded

listed_there : (files : Option Files) (program : List ℕ) (given : Yield) → IsSome files → Disassembles files program given → LacksLoad files program None → ⊥
listed_there files program given told (image, loaded, is_given) = load_there files program None image [] told loaded

-- files that are told decide one status of the form
pub disasm_sound : (program : List ℕ) → IsSound (listing program)
disasm_sound program = record {
  can = λ files can. can;
  given_refused = λ files given why told gives refuses. listed_not_refused files program why given told gives refuses;
  given_lacking = λ files given told gives lacks. listed_there files program given told gives lacks;
  given_halted = λ files status given other told gives halts. absurd halts;
  halted_once = λ files a b given other told halts also. absurd halts;
  halted_refused = λ files status given why told halts refuses. halts;
  halted_lacking = λ files status given told halts lacks. halts;
  refused_lacking = λ files why told refuses lacks. refused_there files program why None told refuses lacks;
}
