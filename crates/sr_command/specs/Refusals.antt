-- Why a text has no module or isn't accepted, and the text of a refusal.
use Rattle.std.specs.Prelude.{◌≡◌, ℕ, List, [], ◌∷◌, ◌++◌, take, drop, codes, decimal}
use Rattle.ir_source.specs.Texts.{IsRefused}
use Rattle.ir_source.specs.declared.error.SourceError.TheVariants as source
use Rattle.ir_proper.specs.declared.Which.{Which}
use Rattle.ir_proper.specs.declared.Which.TheVariants.{Functions, Params, Results, Cases, Frame, Globals, Weight}
use Rattle.ir_check.specs.declared.error.CheckError.TheVariants as check
use Rattle.ir_accept.specs.Checks.{IsRefusedWith}
use Rattle.sr_command.specs.declared.refusal.Refusal.{Refusal}
use Rattle.sr_command.specs.declared.refusal.Refusal.TheVariants.{TooLong, Bad, Outside, Deep, Syntax, Name, Typing, Flow, NoMain, Limit, NotBuilt, NotElf, WrongKind, BadSegment, Overlap, TooLarge}

-- the text has no module, for this reason
abbrev pub HasNoModule : List ℕ → Refusal → Type 0
HasNoModule text (Bad at) = IsRefused text (source.Bad at)
HasNoModule text (Outside at word) = (len : ℕ) × IsRefused text (source.Outside at len) × (word.items ≡ take len (drop at text))
HasNoModule text (Deep at) = IsRefused text (source.Deep at)
HasNoModule text (Syntax at) = IsRefused text (source.Syntax at)
HasNoModule text other = ⊥

-- the text has no module that is proper and within the limits, for this reason: it has none, or its module is refused
abbrev pub IsNotAccepted : List ℕ → Refusal → Type 0
IsNotAccepted text (Name at) = IsRefusedWith text (check.Name at)
IsNotAccepted text (Typing at) = IsRefusedWith text (check.Typing at)
IsNotAccepted text (Flow at) = IsRefusedWith text (check.Flow at)
IsNotAccepted text NoMain = IsRefusedWith text check.NoMain
IsNotAccepted text (Limit which found most) = IsRefusedWith text (check.Limit which found most)
IsNotAccepted text other = HasNoModule text other

-- the word for a limit
abbrev pub limit_word : Which → List ℕ
limit_word Functions = codes "functions"
limit_word Params = codes "params"
limit_word Results = codes "results"
limit_word Cases = codes "cases"
limit_word Frame = codes "frame"
limit_word Globals = codes "globals"
limit_word Weight = codes "weight"

-- the kind of a refusal, with its number, place and word
abbrev pub kind_of : Refusal → List ℕ
kind_of (TooLong most) = codes "TooLong most=" ++ decimal most
kind_of (Bad at) = codes "Bad at=" ++ decimal at
kind_of (Outside at word) = codes "Outside at=" ++ (decimal at ++ (codes " word=" ++ word.items))
kind_of (Deep at) = codes "Deep at=" ++ decimal at
kind_of (Syntax at) = codes "Syntax at=" ++ decimal at
kind_of (Name at) = codes "Name at=" ++ decimal at
kind_of (Typing at) = codes "Typing at=" ++ decimal at
kind_of (Flow at) = codes "Flow at=" ++ decimal at
kind_of NoMain = codes "NoMain"
kind_of (Limit which found most) =
    codes "Limit " ++ (limit_word which ++ (codes " found=" ++ (decimal found ++ (codes " most=" ++ decimal most))))
kind_of NotBuilt = codes "NotBuilt"
kind_of NotElf = codes "NotElf"
kind_of WrongKind = codes "WrongKind"
kind_of BadSegment = codes "BadSegment"
kind_of Overlap = codes "Overlap"
kind_of TooLarge = codes "TooLarge"

-- the line of a refusal
abbrev pub refused_line : Refusal → List ℕ
refused_line refusal = codes "refused " ++ (kind_of refusal ++ 10 ∷ [])
