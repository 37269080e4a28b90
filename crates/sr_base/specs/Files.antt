use Rattle.std.specs.Prelude.{◌≡◌, ◌≢◌, ◌⊎◌, ℕ, ◌<◌, ◌≤◌, List, length, take, Option, Some, None}
use Rattle.std.specs.Option.{option_map}
use Rattle.std.specs.Ordering.{nat_cmp}
use Rattle.std.specs.Cmp.Lexicographic.{slice_cmp}
use Rattle.std.specs.FinMap.{FinMap, get}
use Rattle.sr_base.specs.declared.outside.StoreError.{StoreError}
use Rattle.sr_base.specs.declared.outside.StoreError.TheVariants.{Failed, Absent, TooLong, OutOfMemory}

-- the files of a store: from each name that stands there to its bytes
abbrev pub Files : Type 0
Files = FinMap (slice_cmp nat_cmp) (List ℕ)

-- what stands under a name, where the store tells its files
abbrev pub held : Option Files → List ℕ → Option (Option (List ℕ))
held files name = option_map (λ told. get told name) files

-- as far as the store tells, this file, or no file, stands under the name
abbrev pub Holds : Option Files → List ℕ → Option (List ℕ) → Type 0
Holds files name content = held files name ≡ option_map (λ _. content) files

-- as far as the store tells, every file but the named one is as before
abbrev pub SameBut : List ℕ → Option Files → Option Files → Type 0
SameBut name old new = (other : List ℕ) → other ≢ name → held new other ≡ held old other

-- what each refusal of a read of at most `most` bytes says of the files
abbrev pub RefusesRead : Option Files → List ℕ → ℕ → StoreError → Type 0
RefusesRead files name most Failed = Unit {0}
RefusesRead files name most Absent = Holds files name None
RefusesRead files name most TooLong = (content : List ℕ) × Holds files name (Some content) × (most < length content)
RefusesRead files name most OutOfMemory = Unit {0}

-- after a write that didn't end, the name holds what it held, nothing, or a prefix of the bytes
abbrev pub LeavesPart : List ℕ → List ℕ → Option Files → Option Files → Type 0
LeavesPart name bytes old new =
    (held new name ≡ held old name) ⊎ Holds new name None ⊎ ((n : ℕ) × (n ≤ length bytes) × Holds new name (Some (take n bytes)))
