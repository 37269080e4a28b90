-- From what code gives, a reader's answer, to what its public contract says.
use Rattle.std.proofs.Common.{ℕ, ◌≤◌, List, length, drop, Result, Ok, Err, subst}
use Rattle.grammar.specs.Language.{Lang}
use Rattle.grammar.specs.Reader.{Out, Reader}
use Rattle.grammar.specs.FirstWrong.{Reads}
use Rattle.grammar.specs.Code.{Gives, Answers}
use Rattle.grammar.specs.declared.Stop.{Stop}
use Rattle.grammar.specs.declared.Stop.TheVariants.{WrongSymbol, OutOfMemory}
use Rattle.grammar.proofs.Good.{never, Good}
use Rattle.grammar.proofs.Reading.{reads}

answers_at : {S V A : Type 0} (L : Lang S V) (view : A → V) (ss : List S) (from : ℕ) (o : Out S V) → Reads L (drop from ss) o
    → (result : Result (A × ℕ) Stop) → Gives view ss result o → Answers L view ss from result
answers_at L view ss from o g (Ok x) given = (subst (Reads L (drop from ss)) given.0 g, given.1)
answers_at L view ss from o g (Err (WrongSymbol k)) given = (subst (Reads L (drop from ss)) given.0 g, given.1)
answers_at L view ss from o g (Err OutOfMemory) given = tt

-- code that gives the answer of a closed rule's reader meets the public contract
pub answers : {S V A : Type 0} {n : ℕ} {L : Lang S V} {r : Reader S V} → Good n L r never → (view : A → V) (ss : List S) (from : ℕ)
    → length (drop from ss) ≤ n → (result : Result (A × ℕ) Stop) → Gives view ss result (r (drop from ss)) → Answers L view ss from result
answers {L = L} {r = r} g view ss from short result given =
    answers_at L view ss from (r (drop from ss)) (reads g (drop from ss) short) result given
