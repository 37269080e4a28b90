-- From what was made of a text to the job of the form.
use Rattle.std.proofs.Common.{◌≡◌, refl, ◌≤◌, ◌<◌, arith, subst, w32, to_z, of_z, ℕ, ℤ, pos, negsuc, List, [], length, ap, sym, ◌∙◌, Some, Result, Ok, Err, IfOk, IfErr, MatchResult}
use Rattle.sr_base.specs.Meanings.{StoreMeaning}
use Rattle.sr_command.specs.FirstForm.{Returns, exit_status}
use Rattle.sr_command.specs.Program.{executable}
use Rattle.point_list.specs.Points.{points_text}
use Rattle.sr_command.specs.Points.{exit_points}
use Rattle.sr_command.specs.Hardened.{IsHardened}
use Rattle.sr_command.proofs.Literals.{nine_digits_fit}
use Rattle.sr_command.proofs.ExitSurvives.{exit_is_hardened}
use Rattle.std.proofs.lemmas.Int.{to_z-of_z}
use Rattle.sr_command.specs.Loads.{most_text, HasFile}
use Rattle.sr_command.specs.Forms.Compile.{IsAccepted, GivesExecutable, RefusesText, compiling}
use Rattle.sr_command.specs.Jobs.{IsJobOf, StopsEarly}
use Rattle.sr_command.specs.Forms.Compile.{IsBuilt}
use Rattle.sr_command.specs.declared.status.Status.{Status}
use Rattle.sr_command.specs.declared.status.Status.TheVariants.{NoMemory}
use Rattle.sr_command.proofs.Sound.{IsSound, told_of, holds_of, one_file, not_absent}
use Rattle.sr_command.specs.declared.refusal.Refusal.{Refusal}
use Rattle.sr_command.specs.declared.refusal.Refusal.TheVariants.{TooLong, NotBuilt}
use Rattle.sr_command.specs.declared.job.Job.{Job}
use Rattle.sr_command.specs.declared.job.Job.TheVariants.{Whole, Refuse}

status_small : (z : ℤ) → exit_status z < 256
status_small (pos n) = omega arith
status_small (negsuc n) = omega arith

-- the executable, the text of its points and no line are what compiling the text gives
pub gives_executable : (text : List ℕ) (number : ℤ) (bytes points line : List ℕ) → length text ≤ most_text → Returns text number → bytes ≡ executable (exit_status number) → points ≡ points_text exit_points → line ≡ [] → GivesExecutable text (record { image = Some bytes; text = points; line = line })
gives_executable text number bytes points line short returns is_executable are_points none =
    let P : List ℕ → Type 0 = λ b. IsHardened b exit_points (exit_status number) in (
      number,
      bytes,
      exit_points,
      (short, returns),
      subst P (sym is_executable) (exit_is_hardened (exit_status number) (status_small number)),
      ap (λ (t : List ℕ). record { image = Some bytes; text = t; line = line }) are_points ∙ ap (λ (l : List ℕ). record { image = Some bytes; text = points_text exit_points; line = l }) none,
    )

-- a number that a text returns passes unchanged as 32 bits
pub returned_kept : (text : List ℕ) (number : ℤ) → Returns text number → to_z w32 (of_z w32 number) ≡ number
returned_kept text number returns = to_z-of_z w32 number (nine_digits_fit number returns.1.0)

-- the job of a text that was read is that of the form
pub compile_job : (r : Result Job Status) (s s' : StoreMeaning) (input output text : List ℕ) → HasFile s.files input most_text text → IfOk r (IsBuilt text output) → IfErr r (λ status. status ≡ NoMemory) → MatchResult r (IsJobOf (compiling input output) s.files) (StopsEarly (compiling input output) s s')
compile_job (Ok (Whole whole out line)) s s' input output text has h e = (h.0, (text, has.0, h.1))
compile_job (Ok (Refuse why)) s s' input output text has refuses e = (text, has.0, refuses)
compile_job (Ok other) s s' input output text has h e = absurd h
compile_job (Err status) s s' input output text has h e = rw e tt

-- a text that is accepted isn't refused
not_refused : (text : List ℕ) (why : Refusal) (number : ℤ) → IsAccepted text number → RefusesText text why → ⊥
not_refused text (TooLong most) number accepted h = omega (arith, accepted.0, h.1)
not_refused text NotBuilt number accepted h = h.1 number accepted.1
not_refused text other number accepted h = absurd h

-- files that are told decide one status of the form
pub compile_sound : (input output : List ℕ) → IsSound (compiling input output)
compile_sound input output = record {
  can = λ files (text, number, there, accepted). (
    told_of files input text there,
    (
      record { image = Some (executable (exit_status number)); text = points_text exit_points; line = [] },
      (text, holds_of files input text there, gives_executable text number (executable (exit_status number)) (points_text exit_points) [] accepted.0 accepted.1 refl refl refl),
    ),
  );
  given_refused = λ files given why told (text, holds, (number, bytes, points, accepted, hardened, is)) (other, found, refuses).
      not_refused other why number (subst (λ (t : List ℕ). IsAccepted t number) (one_file files input text other told holds found) accepted) refuses;
  given_lacking = λ files given told (text, holds, gives) lacks. not_absent files input text told holds lacks;
  given_halted = λ files status given other told gives halts. absurd halts;
  halted_once = λ files a b given other told halts also. absurd halts;
  halted_refused = λ files status given why told halts refuses. halts;
  halted_lacking = λ files status given told halts lacks. halts;
  refused_lacking = λ files why told (text, holds, refuses) lacks. not_absent files input text told holds lacks;
}
