-- Where the words of an instruction take its operands from.
use Rattle.std.specs.Prelude.{◌≡◌, ◌<◌, ⊤, ℕ, List, length, Some, None}
use Rattle.ir_model.specs.Values.{Value}
use Rattle.ir_model.specs.Programs.{Operand, Local, Fixed}
use Rattle.flip_guards.specs.Sources.{Part, made}
use Rattle.flip_guards.specs.Fetching.{in_slots, constant}
use Rattle.flip_guards.specs.Fetching as fetching
use Rattle.kept_states.specs.Layouts.{FrameLayout}
use Rattle.kept_states.specs.Kept.{word_of}

-- words for each constant that make its word, by the addresses of the blocks of globals; those of poison may make anything
abbrev pub MakeWords : (ℕ → ℕ) → (Value → List Part) → Type 0
MakeWords address parts = (v : Value) (w : ℕ) → word_of address v ≡ Some w → made (parts v) None ≡ Some w

-- the source of an operand: the slots of a value, or words that make a constant
abbrev pub source_of : FrameLayout → (Value → List Part) → Operand → fetching.Operand
source_of l parts (Local id) = in_slots (l.places id)
source_of l parts (Fixed v) = constant (parts v)

-- an operand names one of so many values, if it names one
abbrev pub IsWithin : ℕ → Operand → Type 0
IsWithin values (Local id) = id < values
IsWithin values (Fixed v) = ⊤
