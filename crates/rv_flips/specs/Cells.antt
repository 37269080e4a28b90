-- What a register or eight bytes of memory are known to hold, whatever one flip has damaged.
use Rattle.std.specs.Prelude.{◌≡◌, ℕ, ◌+◌, ◌-◌, ◌%◌, ◌<◌, ◌^◌, ◌⊎◌, ◌&&◌, nat_le, if◌then◌else◌}

-- what is damaged: nothing; first copies, second copies or third copies; plain versions of pairs; or code words of pairs, and of those
-- that are made of checked leaves only the ones that are made of the leaf with this number
pub data Damage : Type 0 where
  Nothing : Damage
  First : Damage
  Second : Damage
  Third : Damage
  Plains : Damage
  Codes : (leaf : ℕ) → Damage

-- how a value is kept: for sure, so right whatever is damaged; as one of three copies; as the plain version of a pair; as a code word of
-- which no more is known; or as a code word that is made of the checked leaves numbered first to first + more
pub data Tag : Type 0 where
  Sure : Tag
  One : Tag
  Two : Tag
  Three : Tag
  Plain : Tag
  Code : Tag
  Leaf : (first more : ℕ) → Tag

-- what becomes of a kept value: it is as it was, it is lost, or it is right or off by a power of two
pub data Effect : Type 0 where
  Intact : Effect
  Lost : Effect
  Near : Effect

-- what a damage does to a value with this tag
abbrev pub effect : Tag → Damage → Effect
effect One First = Lost
effect Two Second = Lost
effect Three Third = Lost
effect Plain Plains = Lost
effect Code (Codes leaf) = Near
effect (Leaf first more) (Codes leaf) = if nat_le first leaf && nat_le leaf (first + more) then Near else Intact
effect _ _ = Intact

-- what is known of a register or of eight bytes: nothing, or that they keep a value
pub data Cell : Type 0 where
  Free : Cell
  Has : (tag : Tag) (value : ℕ) → Cell

-- x is v with one power of two added or taken away, modulo 2^64
pub record IsOff (v x : ℕ) : Type 0 where
  pub bit : ℕ
  pub small : bit < 64
  pub off : (x ≡ (v + 2 ^ bit) % 2 ^ 64) ⊎ (x ≡ (v + (2 ^ 64 - 2 ^ bit)) % 2 ^ 64)

-- x is right, or off by a power of two
abbrev pub IsNear : ℕ → ℕ → Type 0
IsNear v x = (x ≡ v) ⊎ IsOff v x

-- x is what this effect leaves of the value v
abbrev pub HoldsAfter : Effect → ℕ → ℕ → Type 0
HoldsAfter Intact v x = x ≡ v
HoldsAfter Lost v x = Unit {0}
HoldsAfter Near v x = IsNear v x

-- where the cell is known, x may be held with this damage
abbrev pub Holds : Cell → Damage → ℕ → Type 0
Holds Free damage x = Unit {0}
Holds (Has tag v) damage x = HoldsAfter (effect tag damage) v x

-- the damage by a flip of a register whose value has this tag, where nothing was damaged before
abbrev pub tag_damage : Tag → Damage
tag_damage Sure = Nothing
tag_damage One = First
tag_damage Two = Second
tag_damage Three = Third
tag_damage Plain = Plains
tag_damage Code = Codes 0
tag_damage (Leaf first more) = Codes first

-- the damage by a flip of a register with this cell
abbrev pub flip_damage : Cell → Damage
flip_damage Free = Nothing
flip_damage (Has tag v) = tag_damage tag

-- a second cell says no more than a first one: whatever the first one lets stand, it lets stand
abbrev pub SaysLess : Cell → Cell → Type 0
SaysLess more less = (damage : Damage) (x : ℕ) → Holds more damage x → Holds less damage x
