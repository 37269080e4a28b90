-- How the points of a text are found: from each word that begins a window, along its quiet path, up to the last use.
use Rattle.std.specs.Prelude.{ℕ, zero, suc, ◌+◌, ◌-◌, ◌*◌, ◌/◌, ◌%◌, Bool, false, nat_le, nat_lt, ◌==◌, ◌&&◌, ◌||◌, if◌then◌else◌, List, Option, Some, None, length, slice_index_or}
use Rattle.rv_inst.specs.declared.instruction.Form.{Form}
use Rattle.rv_inst.specs.Registers.{reads}
use Rattle.rv_inst.specs.Window.{quiet_next, begins, may_use, passes, has_window}
use Rattle.point_list.specs.declared.walk.Value.{Value}

-- the index of the word at an address, in a text of so many words that begins at the base
abbrev pub index_of : ℕ → ℕ → ℕ → Option ℕ
index_of base count address =
    if nat_le base address && ((address - base) % 4 == 0 && nat_lt ((address - base) / 4) count) then Some ((address - base) / 4) else None

-- what the word with this index says
abbrev pub instruction_at : List (Option Form) → ℕ → Option Form
instruction_at text k = slice_index_or text k None

-- the index of the word that the quiet path goes on to
abbrev pub next_index : List (Option Form) → ℕ → ℕ → Option ℕ
next_index text base k = index_of base (length text) (quiet_next (record { address = base + 4 * k; instruction = instruction_at text k }))

-- the test holds of the index, where there is one
abbrev pub holds_there : (ℕ → Bool) → Option ℕ → Bool
holds_there test None = false
holds_there test (Some k) = test k

-- the word uses what r holds, so that it ends a window
abbrev pub uses : ℕ → Form → Option Form → Bool
uses r first None = false
uses r first (Some i) = reads i r && may_use r first i && has_window r first i

-- word j lets the value pass, and the test holds of the word that the quiet path goes on to
abbrev pub holds_later : List (Option Form) → ℕ → Value → ℕ → (ℕ → Bool) → Bool
holds_later text base value j test = passes value.reg value.first (instruction_at text j) && holds_there test (next_index text base j)

-- the value comes from word j to a use, by at most n words with the use
unfoldable pub reaches : List (Option Form) → ℕ → Value → ℕ → ℕ → Bool
reaches text base value zero j = false
reaches text base value (suc n) j = uses value.reg value.first (instruction_at text j) || holds_later text base value j (reaches text base value n)

-- word k is on the way from word j to such a use
unfoldable pub on_way : List (Option Form) → ℕ → Value → ℕ → ℕ → ℕ → Bool
on_way text base value zero j k = false
on_way text base value (suc n) j k = k == j && reaches text base value (suc n) j || holds_later text base value j (λ m. on_way text base value n m k)

-- word k is on the way of the value that word i brings into r or checks there, over at most 31 words after i
abbrev pub begun_by : ℕ → ℕ → Option Form → List (Option Form) → ℕ → ℕ → Bool
begun_by i r None text base k = false
begun_by i r (Some first) text base k =
    begins r first && holds_there (λ j. on_way text base (record { reg = r; first = first }) 31 j k) (next_index text base i)

-- the same of word i, whatever it says
abbrev pub begun_at : List (Option Form) → ℕ → ℕ → ℕ → ℕ → Bool
begun_at text base i k r = begun_by i r (instruction_at text i) text base k

-- one of the first n words begins a window of r in which word k lies
unfoldable pub begun_before : List (Option Form) → ℕ → ℕ → ℕ → ℕ → Bool
begun_before text base zero k r = false
begun_before text base (suc n) k r = begun_before text base n k r || begun_at text base n k r
