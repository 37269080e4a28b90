-- What is written reads back.
use Rattle.std.specs.Prelude.{◌≡◌, ℕ, ◌+◌, ◌*◌, ◌^◌, ◌<◌, ◌≤◌, List, [], ◌∷◌, length, All, Some, Ok}
use Rattle.elf_file.specs.Image.{ProgramImage, text_of}
use Rattle.elf_file.specs.Layout.{file_bytes, text_bytes}
use Rattle.elf_file.specs.Reading.{reading_of}

-- the image of an executable with these words, and with `init` and then `extra` zeros as its data
abbrev pub written_image : List ℕ → List ℕ → ℕ → ProgramImage
written_image words init extra = record {
  begin = 0x10000;
  segments =
      record { base = 0x10000; size = 4 * length words; flags = 5; init = text_bytes words }
      ∷ record { base = 0x1000_0000; size = length init + extra; flags = 6; init = init }
      ∷ [];
}

-- the file of any words and data within the limits of `write` reads as that image
abbrev pub ReadsBack : Type 0
ReadsBack =
    (words init : List ℕ) (extra : ℕ) → length words ≤ 2 ^ 24 → length init + extra ≤ 134217728
    → reading_of (file_bytes words init extra) ≡ Ok (written_image words init extra)

-- and the words of its text segment are those words
abbrev pub TextReadsBack : Type 0
TextReadsBack =
    (words init : List ℕ) (extra : ℕ) → All (λ w. w < 2 ^ 32) words
    → text_of (written_image words init extra) ≡ Some words
