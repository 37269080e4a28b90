-- From what was made of a text and an input to the job of the form, and that files that are told decide one status of it.
use Rattle.std.proofs.Common.{◌≡◌, ◌⊎◌, inl, inr, ℕ, List, sym, ap, ◌∙◌, subst, Option, IsSome, Result, Ok, Err, IfOk, IfErr, MatchResult}
use Rattle.sr_base.specs.Files.{Files}
use Rattle.sr_base.specs.Meanings.{StoreMeaning}
use Rattle.ir_tree.specs.Shape.{ModuleShape}
use Rattle.ir_source.specs.Texts.{IsModuleOf}
use Rattle.ir_source.specs.declared.error.SourceError.TheVariants as source
use Rattle.ir_source.proofs.OneWay.{one_module}
use Rattle.ir_check.specs.declared.error.CheckError.{CheckError}
use Rattle.ir_check.specs.declared.error.CheckError.TheVariants as check
use Rattle.ir_accept.specs.Checks.{IsRefusedWith}
use Rattle.ir_accept.specs.declared.texts.Refusal.{Refusal as CheckedRefusal}
use Rattle.ir_accept.specs.declared.texts.Refusal.TheVariants.{Text, Module}
use Rattle.ir_accept.proofs.Accepted.{accepted}
use Rattle.ir_meaning.specs.Meaning.{module_run}
use Rattle.sr_command.specs.Loads.{most_text, HasPair, LacksPair}
use Rattle.sr_command.specs.Refusals.{IsNotAccepted}
use Rattle.sr_command.specs.Forms.Evaluate.{meaning_status, HasProperModule, Evaluates, RefusesEvaluation, IsEvaluation, evaluating}
use Rattle.sr_command.specs.Jobs.{IsJobOf, StopsEarly}
use Rattle.sr_command.specs.Yield.{Yield}
use Rattle.sr_command.specs.declared.job.Job.{Job}
use Rattle.sr_command.specs.declared.job.Job.TheVariants.{Whole, Refuse, Halt, Unended}
use Rattle.sr_command.specs.declared.refusal.Refusal.{Refusal}
use Rattle.sr_command.specs.declared.refusal.Refusal.TheVariants.{TooLong, Name, Typing, Flow, NoMain, Limit}
use Rattle.sr_command.specs.declared.status.Status.{Status}
use Rattle.sr_command.specs.declared.status.Status.TheVariants.{Done, NoMemory}
use Rattle.sr_command.proofs.Sound.{IsSound, one_file}
use Rattle.sr_command.proofs.LoadLaws.{one_input, pair_not_longer, pair_there, too_long_there}
use Rattle.sr_command.proofs.PrintLaws.{has_module}

-- files whose text isn't accepted are refused as it is
refused_as : (files : Option Files) (name : List ℕ) (input : Option (List ℕ)) (text content : List ℕ) (why : Refusal) → HasPair files name most_text input text content → IsNotAccepted text why → RefusesEvaluation files name input why
refused_as files name input text content (TooLong most) has h = absurd h
refused_as files name input text content why has h = (text, content, has, h)

-- the job of a text and an input that were read is that of the form
pub evaluate_job : (r : Result Job Status) (s s' : StoreMeaning) (name : List ℕ) (input : Option (List ℕ)) (steps : ℕ) (text content : List ℕ) → HasPair s.files name most_text input text content → IfOk r (IsEvaluation text content steps) → IfErr r (λ status. status ≡ NoMemory) → MatchResult r (IsJobOf (evaluating name input steps) s.files) (StopsEarly (evaluating name input steps) s s')
evaluate_job (Ok (Whole output out line)) s s' name input steps text content has (m, proper, tells) e = (tells.0, (text, content, has, (m, proper, tells.1)))
evaluate_job (Ok (Refuse why)) s s' name input steps text content has h e = refused_as s.files name input text content why has h
evaluate_job (Ok (Halt out line)) s s' name input steps text content has h e = (text, content, has, h)
evaluate_job (Ok (Unended out)) s s' name input steps text content has h e = (text, content, has, h)
evaluate_job (Err status) s s' name input steps text content has h e = rw e tt

memory_alone : (error : CheckError) → (◌≡◌ {A = CheckedRefusal} (Module error) (Text source.OutOfMemory)) ⊎ (◌≡◌ {A = CheckedRefusal} (Module error) (Module check.OutOfMemory)) → error ≡ check.OutOfMemory
memory_alone error (inl e) = absurd (cc (e))
memory_alone error (inr e) = cc (e)

-- a text whose module is proper and within the limits is refused for want of memory alone
module_accepted : (text : List ℕ) (m : ModuleShape) (error : CheckError) → HasProperModule text m → IsRefusedWith text error → error ≡ check.OutOfMemory
module_accepted text m error (is, proper, within) refused = memory_alone error (accepted text m (Module error) is proper within refused)

-- so it is accepted
text_accepted : (text : List ℕ) (why : Refusal) (m : ModuleShape) → HasProperModule text m → IsNotAccepted text why → ⊥
text_accepted text (Name at) m has h = let e = module_accepted text m (check.Name at) has h in cc (e)
text_accepted text (Typing at) m has h = let e = module_accepted text m (check.Typing at) has h in cc (e)
text_accepted text (Flow at) m has h = let e = module_accepted text m (check.Flow at) has h in cc (e)
text_accepted text NoMain m has h = let e = module_accepted text m check.NoMain has h in cc (e)
text_accepted text (Limit which found most) m has h = let e = module_accepted text m (check.Limit which found most) has h in cc (e)
text_accepted text why m has h = has_module text why m has.0 h

not_accepted : (files : Option Files) (name : List ℕ) (input : Option (List ℕ)) (text content : List ℕ) (m : ModuleShape) (why : Refusal) → IsSome files → HasPair files name most_text input text content → HasProperModule text m → (other : List ℕ) (also : List ℕ) → HasPair files name most_text input other also → IsNotAccepted other why → ⊥
not_accepted files name input text content m why told has proper other also found refuses =
    text_accepted other why m (subst (λ (t : List ℕ). HasProperModule t m) (one_file files name text other told has.0.0 found.0.0) proper) refuses

-- a text that is evaluated isn't refused
not_refused : (files : Option Files) (name : List ℕ) (why : Refusal) (input : Option (List ℕ)) (steps : ℕ) (status : Status) (given : Yield) → IsSome files → Evaluates files name input steps status given → RefusesEvaluation files name input why → ⊥
not_refused files name (TooLong most) input steps status given told (text, content, has, is) h = pair_not_longer files name most_text input text content most told has h
not_refused files name why input steps status given told (text, content, has, (m, proper, is)) (other, also, found, refuses) = not_accepted files name input text content m why told has proper other also found refuses

-- what is refused is there
refused_there : (files : Option Files) (name : List ℕ) (why : Refusal) (input : Option (List ℕ)) → IsSome files → RefusesEvaluation files name input why → LacksPair files name most_text input → ⊥
refused_there files name (TooLong most) input told h lacks = too_long_there files name most_text input most told h lacks
refused_there files name why input told (text, content, has, refuses) lacks = pair_there files name most_text input text content told has lacks

-- a text and an input that are told are evaluated to one status
one_status : (files : Option Files) (name : List ℕ) (input : Option (List ℕ)) (steps : ℕ) (a b : Status) (given other : Yield) → IsSome files → Evaluates files name input steps a given → Evaluates files name input steps b other → a ≡ b
one_status files name input steps a b given other told (text, content, has, (m, proper, is)) (text', content', has', (m', proper', is')) =
    let texts = one_file files name text text' told has.0.0 has'.0.0 in
    let inputs = one_input files input content content' told has.1 has'.1 in
    let modules = one_module text m m' proper.0 (subst (λ (t : List ℕ). IsModuleOf t m') (sym texts) proper'.0) in
    is.0
    ∙ ap (λ (n : ModuleShape). meaning_status (module_run n content steps)) modules
    ∙ ap (λ (c : List ℕ). meaning_status (module_run m' c steps)) inputs
    ∙ sym is'.0

evaluated_there : (files : Option Files) (name : List ℕ) (input : Option (List ℕ)) (steps : ℕ) (status : Status) (given : Yield) → IsSome files → Evaluates files name input steps status given → LacksPair files name most_text input → ⊥
evaluated_there files name input steps status given told (text, content, has, is) lacks = pair_there files name most_text input text content told has lacks

-- files that are told decide one status of the form
pub evaluate_sound : (name : List ℕ) (input : Option (List ℕ)) (steps : ℕ) → IsSound (evaluating name input steps)
evaluate_sound name input steps = record {
  can = λ files can. can;
  given_refused = λ files given why told gives refuses. not_refused files name why input steps Done given told gives refuses;
  given_lacking = λ files given told gives lacks. evaluated_there files name input steps Done given told gives lacks;
  given_halted = λ files status given other told gives halts. one_status files name input steps Done status given other told gives halts;
  halted_once = λ files a b given other told halts also. one_status files name input steps a b given other told halts also;
  halted_refused = λ files status given why told halts refuses. not_refused files name why input steps status given told halts refuses;
  halted_lacking = λ files status given told halts lacks. evaluated_there files name input steps status given told halts lacks;
  refused_lacking = λ files why told refuses lacks. refused_there files name why input told refuses lacks;
}
