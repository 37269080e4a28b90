-- From the module of a text to the job of the form, and that such a text isn't refused.
use Rattle.std.proofs.Common.{◌≡◌, ℕ, ◌≤◌, List, [], length, refl, ap, ◌∙◌, subst, arith, None, Result, Ok, Err, IfOk, IfErr, MatchResult}
use Rattle.sr_base.specs.Meanings.{StoreMeaning}
use Rattle.ir_print.specs.Printed.{module_text}
use Rattle.ir_tree.specs.Shape.{ModuleShape}
use Rattle.ir_source.specs.Texts.{IsModuleOf}
use Rattle.ir_source.specs.declared.error.SourceError.TheVariants as source
use Rattle.ir_source.proofs.OneWay.{not_refused}
use Rattle.sr_command.specs.Loads.{most_text, HasFile}
use Rattle.sr_command.specs.Forms.Print.{RefusesPrint, HasModule, GivesPrinted, printing}
use Rattle.sr_command.specs.Refusals.{HasNoModule}
use Rattle.sr_command.specs.Jobs.{IsJobOf, StopsEarly}
use Rattle.sr_command.specs.Forms.Print.{IsPrinted}
use Rattle.sr_command.specs.declared.refusal.Refusal.{Refusal}
use Rattle.sr_command.specs.declared.refusal.Refusal.TheVariants.{TooLong, Bad, Outside, Deep, Syntax}
use Rattle.sr_command.specs.declared.status.Status.{Status}
use Rattle.sr_command.specs.declared.status.Status.TheVariants.{NoMemory}
use Rattle.sr_command.proofs.Sound.{IsSound, told_of, holds_of, one_file, not_absent}
use Rattle.sr_command.specs.declared.job.Job.{Job}
use Rattle.sr_command.specs.declared.job.Job.TheVariants.{Whole, Refuse}

-- the printed form of the module and no line are what printing the text gives
pub gives_printed : (text out line : List ℕ) (m : ModuleShape) → length text ≤ most_text → IsModuleOf text m → out ≡ module_text m → line ≡ [] → GivesPrinted text (record { image = None; text = out; line = line })
gives_printed text out line m short is printed none = (
  m,
  (short, is),
  ap (λ (t : List ℕ). record { image = None; text = t; line = line }) printed ∙ ap (λ (l : List ℕ). record { image = None; text = module_text m; line = l }) none,
)

-- a text that is short enough is refused as it is
refused_short : (text : List ℕ) (why : Refusal) → length text ≤ most_text → HasNoModule text why → RefusesPrint text why
refused_short text (TooLong most) short h = absurd h
refused_short text (Bad at) short h = (short, h)
refused_short text (Outside at word) short h = (short, h)
refused_short text (Deep at) short h = (short, h)
refused_short text (Syntax at) short h = (short, h)
refused_short text other short h = absurd h

-- the job of a text that was read is that of the form
pub print_job : (r : Result Job Status) (s s' : StoreMeaning) (input text : List ℕ) → HasFile s.files input most_text text → IfOk r (IsPrinted text) → IfErr r (λ status. status ≡ NoMemory) → MatchResult r (IsJobOf (printing input) s.files) (StopsEarly (printing input) s s')
print_job (Ok (Whole output out line)) s s' input text has h e = (h.0, (text, has.0, h.1))
print_job (Ok (Refuse why)) s s' input text has refuses e = (text, has.0, refused_short text why has.1 refuses)
print_job (Ok other) s s' input text has h e = absurd h
print_job (Err status) s s' input text has h e = rw e tt

-- a text that has a module has one
pub has_module : (text : List ℕ) (why : Refusal) (m : ModuleShape) → IsModuleOf text m → HasNoModule text why → ⊥
has_module text (Bad at) m is h = not_refused text m (source.Bad at) is h
has_module text (Outside at word) m is (len, refused, taken) = not_refused text m (source.Outside at len) is refused
has_module text (Deep at) m is h = not_refused text m (source.Deep at) is h
has_module text (Syntax at) m is h = not_refused text m (source.Syntax at) is h
has_module text other m is h = absurd h

-- and isn't refused
printed_not_refused : (text : List ℕ) (why : Refusal) (m : ModuleShape) → HasModule text m → RefusesPrint text why → ⊥
printed_not_refused text (TooLong most) m printable h = omega (arith, printable.0, h.1)
printed_not_refused text why m printable h = has_module text why m printable.1 h.1

-- files that are told decide one status of the form
pub print_sound : (input : List ℕ) → IsSound (printing input)
print_sound input = record {
  can = λ files (text, m, there, printable). (
    told_of files input text there,
    (record { image = None; text = module_text m; line = [] }, (text, holds_of files input text there, (m, printable, refl))),
  );
  given_refused = λ files given why told (text, holds, (m, printable, is)) (other, found, refuses).
      printed_not_refused other why m (subst (λ (t : List ℕ). HasModule t m) (one_file files input text other told holds found) printable) refuses;
  given_lacking = λ files given told (text, holds, gives) lacks. not_absent files input text told holds lacks;
  given_halted = λ files status given other told gives halts. absurd halts;
  halted_once = λ files a b given other told halts also. absurd halts;
  halted_refused = λ files status given why told halts refuses. halts;
  halted_lacking = λ files status given told halts lacks. halts;
  refused_lacking = λ files why told (text, holds, refuses) lacks. not_absent files input text told holds lacks;
}
