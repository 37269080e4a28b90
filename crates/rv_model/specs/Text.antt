-- Memory of two segments, as an executable has it, and where instructions stand in its text.
use Rattle.std.specs.Prelude.{◌≡◌, ℕ, ◌+◌, ◌*◌, List, [], ◌∷◌, Some, slice_get}
use Rattle.std.specs.List.{flat_map}
use Rattle.byteorder.specs.Endian.{little_bytes}
use Rattle.rv_inst.specs.declared.instruction.Form.{Form}
use Rattle.rv_inst.specs.Word.{Word}
use Rattle.rv_model.specs.State.{LoadedSegment}

-- where the text begins
abbrev pub text_base : ℕ
text_base = 0x10000

-- where the data begin
abbrev pub data_base : ℕ
data_base = 0x1000_0000

-- the bytes of words, four each, the lowest first
abbrev pub bytes_of_words : List ℕ → List ℕ
bytes_of_words words = flat_map (little_bytes 4) words

-- the words in a segment that is read and executed, and the data in one that is read and written
abbrev pub layout : List ℕ → List ℕ → List LoadedSegment
layout words place =
    record { base = text_base; flags = 5; bytes = bytes_of_words words } ∷
    record { base = data_base; flags = 6; bytes = place } ∷ []

-- the instruction i stands at the address p: the word there is its word
pub record Stands (words : List ℕ) (p : ℕ) (i : Form) : Type 0 where
  pub index : ℕ
  pub word : ℕ
  pub place : p ≡ text_base + 4 * index
  pub found : slice_get words index ≡ Some word
  pub is_word : Word word i

-- the instructions stand one after another from the address p on
abbrev pub StandsAll : List ℕ → ℕ → List Form → Type 0
StandsAll words p [] = Unit {0}
StandsAll words p (i ∷ is) = Stands words p i × StandsAll words (p + 4) is

-- the words are those of the instructions, one by one
abbrev pub WordsOf : List ℕ → List Form → Type 0
WordsOf [] [] = Unit {0}
WordsOf (w ∷ ws) (i ∷ is) = Word w i × WordsOf ws is
WordsOf [] (i ∷ is) = ⊥
WordsOf (w ∷ ws) [] = ⊥
