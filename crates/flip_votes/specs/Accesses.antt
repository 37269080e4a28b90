-- One version by one vote: any number of loads, then words that compute, then any number of stores.
use Rattle.std.specs.Prelude.{◌≡◌, ℕ, ◌+◌, ◌<◌, ◌≤◌, IsTrue, List, [], ◌∷◌, ◌++◌, length, Option}
use Rattle.std.specs.List.{list_all}
use Rattle.rv_inst.specs.declared.instruction.Form.{Form}
use Rattle.rv_flips.specs.Cells.{Tag, One}
use Rattle.flip_frames.specs.Views.{Stage, View, Runs, is_scratch, version, with_value}
use Rattle.flip_frames.specs.Computing.{effect_of, is_pure}
use Rattle.flip_frames.specs.Slots.{vote_words, IsInData, with_slot}
use Rattle.flip_versions.specs.Operations.{resting}
use Rattle.flip_votes.specs.Votes.{voted_load, voted_store}

-- a register, and the slot that it is loaded from or stored to
pub record Access : Type 0 where
  pub reg : ℕ
  pub slot : ℕ

-- the loads one after another
abbrev pub load_words : List Access → List Form
load_words [] = []
load_words (a ∷ rest) = voted_load a.reg a.slot ++ load_words rest

-- and the stores
abbrev pub store_words : List Access → List Form
store_words [] = []
store_words (a ∷ rest) = voted_store a.reg a.slot ++ store_words rest

-- the words of a version
abbrev pub access_words : List Access → List Form → List Access → List Form
access_words xs code ys = vote_words ++ (load_words xs ++ (code ++ store_words ys))

-- the register is scratch, and the slot lies in the data
pub record IsAccess (g : Stage) (a : Access) : Type 0 where
  pub scratch : IsTrue (is_scratch a.reg)
  pub within : IsInData (resting g One) a.slot

-- each slot can be reached and holds a version of its value
abbrev pub CanLoad : Stage → Tag → (ℕ → Option ℕ) → List Access → Type 0
CanLoad g tag values [] = Unit {0}
CanLoad g tag values (a ∷ rest) = IsAccess g a × (g.slots (g.base + a.slot) ≡ version tag (values a.slot)) × CanLoad g tag values rest

-- each slot can be reached
abbrev pub CanStore : Stage → List Access → Type 0
CanStore g [] = Unit {0}
CanStore g (a ∷ rest) = IsAccess g a × CanStore g rest

-- the values in registers after the loads
abbrev pub loaded : (ℕ → Option ℕ) → List Access → (ℕ → Option ℕ) → ℕ → Option ℕ
loaded values [] file = file
loaded values (a ∷ rest) file = loaded values rest (with_value file a.reg (values a.slot))

-- the view after the stores
abbrev pub put_away : List Access → View → View
put_away [] v = v
put_away (a ∷ rest) v = put_away rest (with_slot v a.slot (v.file a.reg))

-- so one version is made, where it has a store and at most 31 words after the vote
abbrev pub VersionsAreVoted : Type 0
VersionsAreVoted = (words : List ℕ) (xs ys : List Access) (code : List Form) (v : View) (values : ℕ → Option ℕ) → IsTrue (list_all is_pure code)
    → CanLoad v.stage v.tag values xs → CanStore v.stage ys → 0 < length ys → length xs + length code + length ys ≤ 31
    → Runs words (access_words xs code ys) v (put_away ys (record v { file = effect_of code (loaded values xs v.file) }))
