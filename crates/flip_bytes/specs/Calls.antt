-- The calls of the environment that write a byte and read one, each a single word. The byte lies at an offset of the data.
use Rattle.std.specs.Prelude.{◌≡◌, ◌+◌, ◌<◌, ℕ, List, [], ◌∷◌, ◌++◌, Some}
use Rattle.rv_inst.specs.declared.instruction.Form.TheVariants.{ECALL}
use Rattle.rv_model.specs.Text.{data_base}
use Rattle.rv_flips.specs.Cells.{Tag, Sure, Has}
use Rattle.rv_flips.specs.Assertion.{IsByte, AreBytes, Assertion, after_write}
use Rattle.rv_flips.specs.Moves.{Covered}
use Rattle.flip_words.specs.Placed.{Points, Excepted, Carries}
use Rattle.flip_bytes.specs.Bytes.{after_bytes}

-- the words of a call with this number for the byte at the offset o: x10 has the file, x11 the address, x12 the count 1
pub record IsByteCall (c : Assertion) (number file o : ℕ) : Type 0 where
  pub calls : c.regs 17 ≡ Has Sure number
  pub of_file : c.regs 10 ≡ Has Sure file
  pub address : c.regs 11 ≡ Has Sure (data_base + o)
  pub count : c.regs 12 ≡ Has Sure 1
  pub within : o < c.size

-- the call that writes: the byte is put out, and x10 keeps the count with any tag
abbrev pub BytesAreWritten : Type 0
BytesAreWritten = (points : Points) (words : List ℕ) (c : Assertion) (o b : ℕ) (tag : Tag) → IsByteCall c 64 1 o → c.bytes o ≡ IsByte b
    → Covered (Excepted points words) c
    → Carries words (Excepted points words) (ECALL ∷ []) c (record (after_write c 10 (Has tag 1) (c.pc + 4)) { out = c.out ++ b ∷ [] })

-- what is known after the call that reads: at the end of the input nothing was read, else the first byte of it lies at the offset
abbrev pub after_read : Assertion → List ℕ → ℕ → Tag → ℕ → Assertion
after_read c [] o tag p = after_write c 10 (Has tag 0) p
after_read c (x ∷ xs) o tag p = record (after_bytes (after_write c 10 (Has tag 1) p) o 1 (Some x) p) { input = xs }

-- the call that reads
abbrev pub BytesAreRead : Type 0
BytesAreRead = (points : Points) (words : List ℕ) (c : Assertion) (o : ℕ) (tag : Tag) → IsByteCall c 63 0 o → AreBytes c.input
    → Covered (Excepted points words) c → Carries words (Excepted points words) (ECALL ∷ []) c (after_read c c.input o tag (c.pc + 4))
