-- Names by number: a table is the list of distinct names, in the order in which they were first given.
use Rattle.std.specs.Prelude.{◌≡◌, ℕ, List, [], ◌∷◌, ◌++◌, slice_get, unwrap_or, length, nat_lt, true, if◌then◌else◌}
use Rattle.std.specs.List.{list_any, position_or_len}
use Rattle.std.specs.Str.{bytes_eq}

-- the place of the name in the table, or the table's length where it isn't there
abbrev pub number_of : List (List ℕ) → List ℕ → ℕ
number_of names name = position_or_len (bytes_eq name) names

-- the table with the name, which goes last where it isn't there
abbrev pub with_name : List (List ℕ) → List ℕ → List (List ℕ)
with_name names name = if list_any (bytes_eq name) names then names else names ++ name ∷ []

-- the name of a number; a number that isn't in the table has the empty one
abbrev pub text_of : List (List ℕ) → ℕ → List ℕ
text_of names id = unwrap_or (slice_get names id) []

-- the number is that of a name of the table
abbrev pub IsKnown : List (List ℕ) → ℕ → Type 0
IsKnown names id = nat_lt id (length names) ≡ true

-- the new table has the names of the old one first, in order, under the same numbers
pub record Grows (old new : List (List ℕ)) : Type 0 where
  pub more : List (List ℕ)
  pub kept : new ≡ old ++ more
