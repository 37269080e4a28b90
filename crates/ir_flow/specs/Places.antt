-- Where numbers stand in a list, by a map.
use Rattle.std.specs.Prelude.{◌≡◌, ℕ, List, Some, slice_get, Contains}
use Rattle.std.specs.Ordering.{nat_cmp}
use Rattle.std.specs.BTreeMap.{BTreeMap, get}

-- a map has a number as a key
abbrev pub HasPlace : BTreeMap ℕ ℕ → ℕ → Type 0
HasPlace places number = (k : ℕ) × (get nat_cmp places number ≡ Some k)

-- a map has for each number of a list a place at which it stands, and no other keys
pub record ArePlaces (numbers : List ℕ) (places : BTreeMap ℕ ℕ) : Type 0 where
  pub found : (number k : ℕ) → get nat_cmp places number ≡ Some k → slice_get numbers k ≡ Some number
  pub all : (number : ℕ) → Contains numbers number → HasPlace places number
