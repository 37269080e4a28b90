-- Blocks of memory: loads into three versions, and stores, by an address that is fetched. A byte of a block is known whatever is
-- damaged, or nothing is known of it.
use Rattle.std.specs.Prelude.{◌≡◌, ◌⊎◌, ℕ, ◌+◌, ◌*◌, ◌%◌, ◌^◌, ◌<◌, ◌≤◌, List, [], ◌∷◌, ◌++◌, Option, Some}
use Rattle.rv_inst.specs.declared.instruction.Form.{Form}
use Rattle.rv_model.specs.Text.{data_base}
use Rattle.rv_flips.specs.Cells.{One}
use Rattle.flip_frames.specs.Views.{Stage, Runs}
use Rattle.flip_frames.specs.Fetching.{Triple}
use Rattle.flip_frames.specs.Slots.{any_store}
use Rattle.flip_versions.specs.Operations.{resting, AreSlots, defined}
use Rattle.flip_guards.specs.Fetching.{Operand, IsGiven, fetch_operand, fetch_both}
use Rattle.flip_guards.specs.Sources.{of_known}
use Rattle.flip_bytes.specs.Bytes.{known_number, value_byte, with_bytes, without_slots}
use Rattle.flip_blocks.specs.Sizes.{AccessSize, bytes_of, load_at, store_at, loaded_value}

-- the bytes of an access at the offset o lie in the data
abbrev pub IsInside : Stage → ℕ → AccessSize → Type 0
IsInside g o size = o + bytes_of size ≤ g.size

-- the address is fetched into x5, each version is loaded by a word of its own, and each goes to its slot
abbrev pub load_words : AccessSize → Operand → Triple → List Form
load_words size y d =
    fetch_operand y ++ (load_at size 6 5 ∷ load_at size 7 5 ∷ load_at size 30 5 ∷ []) ++ (any_store 6 d.one ++ (any_store 7 d.two ++ any_store 30 d.three))

-- what a load gives: the number of the bytes, extended by its sign, where they are known
abbrev pub value_at : Stage → AccessSize → ℕ → Option ℕ
value_at g size o = of_known (loaded_value size) (known_number g.bytes o (bytes_of size))

-- then the slots of d hold three versions of it
abbrev pub BlocksAreLoaded : Type 0
BlocksAreLoaded = (words : List ℕ) (size : AccessSize) (g : Stage) (y : Operand) (d : Triple) (o : ℕ) → IsGiven g y (Some (data_base + o))
    → IsInside g o size → AreSlots g d
    → Runs words (load_words size y d) (resting g One) (resting (defined g d (value_at g size o)) One)

-- the value and the address are fetched, the address last, and the value is stored
abbrev pub store_words : AccessSize → Operand → Operand → List Form
store_words size x y = fetch_both x y ++ store_at size 28 5 ∷ []

-- the stage after the lowest n bytes of a value were stored at the offset o
abbrev pub with_block : Stage → ℕ → ℕ → Option ℕ → Stage
with_block g o n value = record g { slots = without_slots g.slots o n; bytes = with_bytes g.bytes o n value }

-- the bytes are those of the value, or where it isn't known, as poison, nothing is known of them
abbrev pub BlocksAreStored : Type 0
BlocksAreStored = (words : List ℕ) (size : AccessSize) (g : Stage) (x y : Operand) (value : Option ℕ) (o : ℕ) → IsGiven g x value
    → IsGiven g y (Some (data_base + o)) → IsInside g o size
    → Runs words (store_words size x y) (resting g One) (resting (with_block g o (bytes_of size) value) One)

-- n bytes from the offset o are apart from m bytes from the offset q
abbrev pub AreApart : ℕ → ℕ → ℕ → ℕ → Type 0
AreApart o n q m = (o + n ≤ q) ⊎ (q + m ≤ o)

-- of the bytes that were stored that is known
abbrev pub StoredBytesAreKnown : Type 0
StoredBytesAreKnown = (g : Stage) (o n : ℕ) (value : Option ℕ) (j : ℕ) → j < n → (with_block g o n value).bytes (o + j) ≡ value_byte value j

-- other bytes stay
abbrev pub OtherBytesStay : Type 0
OtherBytesStay = (g : Stage) (o n : ℕ) (value : Option ℕ) (q : ℕ) → AreApart o n q 1 → (with_block g o n value).bytes q ≡ g.bytes q

-- and so do slots of which no byte was stored
abbrev pub OtherSlotsStay : Type 0
OtherSlotsStay = (g : Stage) (o n : ℕ) (value : Option ℕ) (k : ℕ) → AreApart o n (8 * k) 8 → (with_block g o n value).slots k ≡ g.slots k

-- the number of the bytes that were stored is that of the lowest bytes of the value
abbrev pub StoredNumbersAreKnown : Type 0
StoredNumbersAreKnown = (g : Stage) (o n v : ℕ) → known_number (with_block g o n (Some v)).bytes o n ≡ Some (v % 256 ^ n)
