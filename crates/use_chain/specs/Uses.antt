-- What is kept of the uses of values: a list for each value, and room for more.
use Rattle.std.specs.Prelude.{◌<◌, ℕ, not, ◌==◌, List, [], ◌∷◌, ◌++◌, map, length, slice_index_or, slice_set}
use Rattle.std.specs.List.{filter, Contains}
use Rattle.use_chain.specs.declared.uses.UseAt.{UseAt}

-- a use, and the number of its site
pub record Use : Type 0 where
  pub site : ℕ
  pub at : UseAt

-- the list of the uses of each value, by the value's number, and how many uses can be added before more is reserved
pub record Chain : Type 0 where
  pub lists : List (List Use)
  pub spare : ℕ

-- the list of a value
abbrev pub uses_of : Chain → ℕ → List Use
uses_of chain v = slice_index_or chain.lists v []

-- the use is in the list of a value
abbrev pub HasUse : Chain → ℕ → ℕ → UseAt → Type 0
HasUse chain v site at = Contains (uses_of chain v) (record { site = site; at = at })

-- the site is that of a use
pub record IsLive (chain : Chain) (site : ℕ) : Type 0 where
  pub value : ℕ
  pub at : UseAt
  pub below : value < length chain.lists
  pub there : HasUse chain value site at

-- a list without the use of a site, the others in their order
abbrev pub without : ℕ → List Use → List Use
without site uses = filter (λ u. not (u.site == site)) uses

-- the lists without the use of a site
abbrev pub all_without : ℕ → List (List Use) → List (List Use)
all_without site lists = map (without site) lists

-- the lists where a use is last in the list of a value
abbrev pub with_use : List (List Use) → ℕ → ℕ → UseAt → List (List Use)
with_use lists v site at = slice_set lists v (slice_index_or lists v [] ++ record { site = site; at = at } ∷ [])
