-- The files that a form reads: a text, or a text or an executable and then an input.
use Rattle.std.specs.Prelude.{◌≡◌, ◌⊎◌, ◌<◌, ◌≤◌, ℕ, List, [], length, Option, Some, None, Ok, Err}
use Rattle.sr_base.specs.Files.{Files, Holds}
use Rattle.elf_file.specs.Image.{ProgramImage}
use Rattle.elf_file.specs.Reading.{reading_of}
use Rattle.elf_file.specs.declared.error.ElfError.{ElfError}
use Rattle.elf_file.specs.declared.error.ElfError.TheVariants as elf
use Rattle.sr_command.specs.declared.refusal.Refusal.{Refusal}
use Rattle.sr_command.specs.declared.refusal.Refusal.TheVariants.{TooLong, NotElf, WrongKind, BadSegment, Overlap, TooLarge}

-- the most bytes that a text may have
abbrev pub most_text : ℕ
most_text = 4194304

-- the most bytes that an executable may have
abbrev pub most_program : ℕ
most_program = 268435456

-- the most bytes that an input may have
abbrev pub most_input : ℕ
most_input = 16777216

-- a file is there, of at most so many bytes
abbrev pub HasFile : Option Files → List ℕ → ℕ → List ℕ → Type 0
HasFile files name most content = Holds files name (Some content) × (length content ≤ most)

-- a file is there, of more than so many bytes
abbrev pub HasLonger : Option Files → List ℕ → ℕ → Type 0
HasLonger files name most = (content : List ℕ) × Holds files name (Some content) × (most < length content)

-- the input: that of a file, or without a name the empty one
abbrev pub HasInput : Option Files → Option (List ℕ) → List ℕ → Type 0
HasInput files None content = content ≡ []
HasInput files (Some name) content = HasFile files name most_input content

-- its file is too long
abbrev pub HasLongerInput : Option Files → Option (List ℕ) → Type 0
HasLongerInput files None = ⊥
HasLongerInput files (Some name) = HasLonger files name most_input

-- its file isn't there
abbrev pub LacksInput : Option Files → Option (List ℕ) → Type 0
LacksInput files None = ⊥
LacksInput files (Some name) = Holds files name None

-- a file is there, and within its limit
abbrev pub IsWithin : Option Files → List ℕ → ℕ → Type 0
IsWithin files name most = (content : List ℕ) × HasFile files name most content

-- a file of at most so many bytes and an input are there and within their limits
abbrev pub HasPair : Option Files → List ℕ → ℕ → Option (List ℕ) → List ℕ → List ℕ → Type 0
HasPair files name most input bytes content = HasFile files name most bytes × HasInput files input content

-- one of them is too long, whose limit this is: the file; or the file isn't, and the input is
abbrev pub HasTooLong : Option Files → List ℕ → ℕ → Option (List ℕ) → ℕ → Type 0
HasTooLong files name most input limit =
    ((limit ≡ most) × HasLonger files name most) ⊎ ((limit ≡ most_input) × IsWithin files name most × HasLongerInput files input)

-- one of them isn't there: the file; or the file is there and within its limit, and the input isn't there
abbrev pub LacksPair : Option Files → List ℕ → ℕ → Option (List ℕ) → Type 0
LacksPair files name most input = Holds files name None ⊎ (IsWithin files name most × LacksInput files input)

-- the files are there and within their limits: the program's with these bytes, and the input
abbrev pub HasBoth : Option Files → List ℕ → Option (List ℕ) → List ℕ → List ℕ → Type 0
HasBoth files program input bytes content = HasPair files program most_program input bytes content

-- the files are there and within their limits, and the program's is the executable of the image
pub record IsLoaded (files : Option Files) (program : List ℕ) (input : Option (List ℕ)) (image : ProgramImage) (content : List ℕ) : Type 0 where
  pub bytes : List ℕ
  pub read : HasBoth files program input bytes content
  pub is_image : reading_of bytes ≡ Ok image

-- the files are there and within their limits, and the program's is no executable, for this reason
abbrev pub IsNoExecutable : Option Files → List ℕ → Option (List ℕ) → ElfError → Type 0
IsNoExecutable files program input error = (bytes content : List ℕ) × HasBoth files program input bytes content × (Err error ≡ reading_of bytes)

-- why they are refused: the program's file is too long; or it is not, and the input's is; or neither is, and the program's is no executable
abbrev pub RefusesLoad : Option Files → List ℕ → Option (List ℕ) → Refusal → Type 0
RefusesLoad files program input (TooLong most) = HasTooLong files program most_program input most
RefusesLoad files program input NotElf = IsNoExecutable files program input elf.NotElf
RefusesLoad files program input WrongKind = IsNoExecutable files program input elf.WrongKind
RefusesLoad files program input BadSegment = IsNoExecutable files program input elf.BadSegment
RefusesLoad files program input Overlap = IsNoExecutable files program input elf.Overlap
RefusesLoad files program input TooLarge = IsNoExecutable files program input elf.TooLarge
RefusesLoad files program input other = ⊥

-- a file isn't there: the program's; or the program's is there and within its limit, and the input's isn't there
abbrev pub LacksLoad : Option Files → List ℕ → Option (List ℕ) → Type 0
LacksLoad files program input = LacksPair files program most_program input
