-- What it means that the reader of an open rule is right: some symbols go on with what was read, as a comma
-- with the operands of an instruction, so a front of a list counts only where none of those stands after it.
use Rattle.std.specs.Prelude.{◌≡◌, Bool, false, List, ◌++◌}
use Rattle.grammar.specs.Language.{Lang}
use Rattle.grammar.specs.Reader.{Out, Got, Wrong, opens}
use Rattle.grammar.specs.FirstWrong.{FirstWrong}

-- ts is p and then rest, p spells v, and no symbol in s comes next
abbrev pub IsReading : {S V : Type 0} → Lang S V → (S → Bool) → List S → List S → List S → V → Type 0
IsReading L s ts p rest v = (ts ≡ p ++ rest) × L p v × (opens s rest ≡ false)

-- what a reader answers at ts, where symbols in s go on with what was read, and the first wrong symbol: what the symbols before it
-- spell, if they spell something, so that each reading of ts is this one; and nothing only where ts has no reading
abbrev pub ReadsOpen : {S V : Type 0} → Lang S V → (S → Bool) → List S → Out S V → Type 0
ReadsOpen {S} {V} L s ts (Got v rest) =
    (g : FirstWrong L ts rest) × L g.before v × ((q more : List S) (w : V) → IsReading L s ts q more w → (q ≡ g.before) × (w ≡ v))
ReadsOpen {S} {V} L s ts (Wrong rest) = FirstWrong L ts rest × ((q more : List S) (w : V) → IsReading L s ts q more w → ⊥)
