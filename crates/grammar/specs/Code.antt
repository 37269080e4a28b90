-- Contracts of readers in code: they go over a list of symbols by the number of the next one.
use Rattle.std.specs.Prelude.{◌≡◌, ℕ, ◌≤◌, false, List, length, drop, Option, None, Some, Result, Ok, Err}
use Rattle.grammar.specs.Language.{Lang, Mark, mark}
use Rattle.grammar.specs.Reader.{Out, Got, Wrong, heads, opens, run_one}
use Rattle.grammar.specs.FirstWrong.{Reads}
use Rattle.grammar.specs.declared.Stop.{Stop}
use Rattle.grammar.specs.declared.Stop.TheVariants.{WrongSymbol, OutOfMemory}

-- the reader stopped as o says, at the symbol of that number; want of memory may come at any time
abbrev pub Stops : {S V : Type 0} → List S → Stop → Out S V → Type 0
Stops ss (WrongSymbol k) o = (o ≡ Wrong (drop k ss)) × (k ≤ length ss)
Stops ss OutOfMemory o = Unit {0}

-- the code answers as o says: the value, seen by view, and the number of the next symbol
abbrev pub Gives : {S V A : Type 0} → (A → V) → List S → Result (A × ℕ) Stop → Out S V → Type 0
Gives view ss (Ok x) o = (o ≡ Got (view x.0) (drop x.1 ss)) × (x.1 ≤ length ss)
Gives view ss (Err e) o = Stops ss e o

-- the same for a symbol that says no more than that it is there
abbrev pub Steps : {S : Type 0} → List S → Result ℕ Stop → Out S Mark → Type 0
Steps ss (Ok n) o = (o ≡ Got mark (drop n ss)) × (n ≤ length ss)
Steps ss (Err e) o = Stops ss e o

-- the number of the symbol after the one that f knows, at ts, or none where f doesn't know the first one
abbrev pub Tries : {S : Type 0} → (S → Option Mark) → List S → Option ℕ → List S → Type 0
Tries f ss (Some n) ts = (run_one f ts ≡ Got mark (drop n ss)) × (n ≤ length ss)
Tries f ss None ts = opens (heads f) ts ≡ false

-- what a public reader answers at the symbol numbered from: the value that the symbols from there on spell and the number
-- of the next one, or the number of the first wrong symbol, which is the length where none is wrong
abbrev pub Answers : {S V A : Type 0} → Lang S V → (A → V) → List S → ℕ → Result (A × ℕ) Stop → Type 0
Answers L view ss from (Ok x) = Reads L (drop from ss) (Got (view x.0) (drop x.1 ss)) × (x.1 ≤ length ss)
Answers L view ss from (Err (WrongSymbol k)) = Reads L (drop from ss) (Wrong (drop k ss)) × (k ≤ length ss)
Answers L view ss from (Err OutOfMemory) = Unit {0}
