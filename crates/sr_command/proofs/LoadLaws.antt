-- A file and an input that are told to be there are those that are read.
use Rattle.std.proofs.Common.{◌≡◌, ◌<◌, ℕ, List, inl, inr, sym, ◌∙◌, ap, arith, Option, Some, None, Result, Ok, Err, IsSome, IfOk, IfErr, MatchResult, length}
use Rattle.sr_base.specs.Files.{Files, Holds}
use Rattle.elf_file.specs.Image.{ProgramImage}
use Rattle.elf_file.specs.Reading.{reading_of}
use Rattle.elf_file.specs.declared.error.ElfError.{ElfError}
use Rattle.elf_file.specs.declared.error.ElfError.TheVariants as elf
use Rattle.sr_base.specs.Meanings.{StoreMeaning}
use Rattle.sr_command.specs.Jobs.{IsLoadedAs, StopsLoading}
use Rattle.sr_command.specs.declared.loading.Loaded.{Loaded}
use Rattle.sr_command.specs.declared.status.Status.{Status}
use Rattle.sr_command.specs.declared.status.Status.TheVariants.{NoMemory}
use Rattle.sr_command.specs.declared.refusal.Refusal.{Refusal}
use Rattle.sr_command.specs.declared.refusal.Refusal.TheVariants.{TooLong, NotElf, WrongKind, BadSegment, Overlap, TooLarge}
use Rattle.sr_command.proofs.Sound.{one_file, not_absent}
use Rattle.sr_command.specs.Loads.{HasFile, HasInput, HasLongerInput, LacksInput, HasPair, HasTooLong, LacksPair, IsLoaded, IsNoExecutable, RefusesLoad, LacksLoad, most_program}

-- two inputs that are told are the same
pub one_input : (files : Option Files) (input : Option (List ℕ)) (a b : List ℕ) → IsSome files → HasInput files input a → HasInput files input b → a ≡ b
one_input files None a b told p q = p ∙ sym q
one_input files (Some name) a b told p q = one_file files name a b told p.0 q.0

not_longer : (files : Option Files) (name a b : List ℕ) (most : ℕ) → IsSome files → HasFile files name most a → Holds files name (Some b) → most < length b → ⊥
not_longer files name a b most told has holds longer = omega (arith, has.1, longer, ap length (one_file files name a b told has.0 holds))

input_not_longer : (files : Option Files) (input : Option (List ℕ)) (a : List ℕ) → IsSome files → HasInput files input a → HasLongerInput files input → ⊥
input_not_longer files None a told has longer = longer
input_not_longer files (Some name) a told has longer = not_longer files name a longer.0 _ told has longer.1 longer.2

input_there : (files : Option Files) (input : Option (List ℕ)) (a : List ℕ) → IsSome files → HasInput files input a → LacksInput files input → ⊥
input_there files None a told has lacks = lacks
input_there files (Some name) a told has lacks = not_absent files name a told has.0 lacks

longer_there : (files : Option Files) (input : Option (List ℕ)) → IsSome files → HasLongerInput files input → LacksInput files input → ⊥
longer_there files None told longer lacks = longer
longer_there files (Some name) told longer lacks = not_absent files name longer.0 told longer.1 lacks

-- a file and an input that are there and within their limits aren't too long
pub pair_not_longer : (files : Option Files) (name : List ℕ) (most : ℕ) (input : Option (List ℕ)) (bytes content : List ℕ) (limit : ℕ) → IsSome files → HasPair files name most input bytes content → HasTooLong files name most input limit → ⊥
pair_not_longer files name most input bytes content limit told has (inl (is_limit, (other, holds, longer))) = not_longer files name bytes other most told has.0 holds longer
pair_not_longer files name most input bytes content limit told has (inr (is_limit, within, longer)) = input_not_longer files input content told has.1 longer

-- and are there
pub pair_there : (files : Option Files) (name : List ℕ) (most : ℕ) (input : Option (List ℕ)) (bytes content : List ℕ) → IsSome files → HasPair files name most input bytes content → LacksPair files name most input → ⊥
pair_there files name most input bytes content told has (inl lacks) = not_absent files name bytes told has.0.0 lacks
pair_there files name most input bytes content told has (inr (within, lacks)) = input_there files input content told has.1 lacks

-- so is what is too long
pub too_long_there : (files : Option Files) (name : List ℕ) (most : ℕ) (input : Option (List ℕ)) (limit : ℕ) → IsSome files → HasTooLong files name most input limit → LacksPair files name most input → ⊥
too_long_there files name most input limit told (inl (is_limit, (content, holds, longer))) (inl lacks) = not_absent files name content told holds lacks
too_long_there files name most input limit told (inl (is_limit, (content, holds, longer))) (inr ((bytes, has), lacks)) = not_longer files name bytes content most told has holds longer
too_long_there files name most input limit told (inr (is_limit, (bytes, has), longer)) (inl lacks) = not_absent files name bytes told has.0 lacks
too_long_there files name most input limit told (inr (is_limit, within, longer)) (inr (also, lacks)) = longer_there files input told longer lacks

ok_is : (x y : ProgramImage) → ◌≡◌ {A = Result ProgramImage ElfError} (Ok x) (Ok y) → x ≡ y
ok_is x y e = cc

-- what is loaded is determined
pub one_load : (files : Option Files) (program : List ℕ) (input : Option (List ℕ)) (image image' : ProgramImage) (content content' : List ℕ) → IsSome files → IsLoaded files program input image content → IsLoaded files program input image' content' → (image ≡ image') × (content ≡ content')
one_load files program input image image' content content' told l l' =
    let same = one_file files program l.bytes l'.bytes told l.read.0.0 l'.read.0.0 in (
      ok_is image image' (sym l.is_image ∙ ap reading_of same ∙ l'.is_image),
      one_input files input content content' told l.read.1 l'.read.1,
    )

-- what is loaded is an executable
load_not_broken : (files : Option Files) (program : List ℕ) (input : Option (List ℕ)) (image : ProgramImage) (content : List ℕ) (error : ElfError) → IsSome files → IsLoaded files program input image content → IsNoExecutable files program input error → ⊥
load_not_broken files program input image content error told l (bytes, other, read, fails) =
    let same = one_file files program l.bytes bytes told l.read.0.0 read.0.0 in
    let both : ◌≡◌ {A = Result ProgramImage ElfError} (Ok image) (Err error) = sym l.is_image ∙ ap reading_of same ∙ sym fails in
    cc (both)

-- it isn't refused, and is there
pub load_not_refused : (files : Option Files) (program : List ℕ) (why : Refusal) (input : Option (List ℕ)) (image : ProgramImage) (content : List ℕ) → IsSome files → IsLoaded files program input image content → RefusesLoad files program input why → ⊥
load_not_refused files program (TooLong most) input image content told l h = pair_not_longer files program most_program input l.bytes content most told l.read h
load_not_refused files program NotElf input image content told l h = load_not_broken files program input image content elf.NotElf told l h
load_not_refused files program WrongKind input image content told l h = load_not_broken files program input image content elf.WrongKind told l h
load_not_refused files program BadSegment input image content told l h = load_not_broken files program input image content elf.BadSegment told l h
load_not_refused files program Overlap input image content told l h = load_not_broken files program input image content elf.Overlap told l h
load_not_refused files program TooLarge input image content told l h = load_not_broken files program input image content elf.TooLarge told l h
load_not_refused files program other input image content told l h = absurd h

pub load_there : (files : Option Files) (program : List ℕ) (input : Option (List ℕ)) (image : ProgramImage) (content : List ℕ) → IsSome files → IsLoaded files program input image content → LacksLoad files program input → ⊥
load_there files program input image content told l lacks = pair_there files program most_program input l.bytes content told l.read lacks

-- what is refused is there
broken_there : (files : Option Files) (program : List ℕ) (input : Option (List ℕ)) (error : ElfError) → IsSome files → IsNoExecutable files program input error → LacksLoad files program input → ⊥
broken_there files program input error told (bytes, content, read, fails) lacks = pair_there files program most_program input bytes content told read lacks

pub refused_there : (files : Option Files) (program : List ℕ) (why : Refusal) (input : Option (List ℕ)) → IsSome files → RefusesLoad files program input why → LacksLoad files program input → ⊥
refused_there files program (TooLong most) input told h lacks = too_long_there files program most_program input most told h lacks
refused_there files program NotElf input told h lacks = broken_there files program input elf.NotElf told h lacks
refused_there files program WrongKind input told h lacks = broken_there files program input elf.WrongKind told h lacks
refused_there files program BadSegment input told h lacks = broken_there files program input elf.BadSegment told h lacks
refused_there files program Overlap input told h lacks = broken_there files program input elf.Overlap told h lacks
refused_there files program TooLarge input told h lacks = broken_there files program input elf.TooLarge told h lacks
refused_there files program other input told h lacks = absurd h

-- what is no executable is refused, or memory ran out
pub load_stops : (r : Result Loaded Status) (s s' : StoreMeaning) (program : List ℕ) (input : Option (List ℕ)) → IfOk r (IsLoadedAs s.files program input) → IfErr r (λ status. status ≡ NoMemory) → MatchResult r (IsLoadedAs s.files program input) (StopsLoading s s' program input)
load_stops (Ok loaded) s s' program input h e = h
load_stops (Err status) s s' program input h e = rw e tt
