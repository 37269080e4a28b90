-- How lists of uses are kept in links. The first links are the heads of the lists, and each list is a ring: from its head over its uses
-- back to the head.
use Rattle.std.specs.Prelude.{◌≡◌, ◌≢◌, ◌<◌, ◌≤◌, ⊤, ℕ, zero, suc, List, [], ◌∷◌, ◌++◌, not, ◌==◌, if◌then◌else◌, length, slice_index}
use Rattle.std.specs.List.{AllByRecursion, filter}
use Rattle.use_chain.specs.Links.{link_at}
use Rattle.use_chain.specs.declared.link.Link.{Link}

-- two links know each other
abbrev pub Leads : List Link → ℕ → ℕ → Type 0
Leads links a b = ((link_at links a).next ≡ b) × ((link_at links b).prev ≡ a)

-- from one link over others to a last one, each knows the next and is known by it
abbrev pub IsChain : List Link → ℕ → List ℕ → ℕ → Type 0
IsChain links a [] z = Leads links a z
IsChain links a (k ∷ ks) z = Leads links a k × IsChain links k ks z

-- so many links in a row, from one on
abbrev pub links_from : List Link → ℕ → ℕ → List ℕ
links_from links zero k = []
links_from links (suc n) k = k ∷ links_from links n (link_at links k).next

-- the links of a list, after its head
abbrev pub members : List Link → List ℕ → ℕ → List ℕ
members links counts v = links_from links (slice_index counts v) (link_at links v).next

-- the numbers without one
abbrev pub others : ℕ → List ℕ → List ℕ
others k ks = filter (λ j. not (j == k)) ks

-- the links of a list of a number, where one came last in a list
abbrev pub joined : ℕ → ℕ → ℕ → List ℕ → List ℕ
joined k list v ks = if v == list then ks ++ k ∷ [] else ks

-- no two numbers are equal
abbrev pub AreApart : List ℕ → Type 0
AreApart [] = ⊤
AreApart (k ∷ ks) = AllByRecursion (λ j. j ≢ k) ks × AreApart ks

-- a link is no head, is one of the first so many, and knows its list
pub record IsUse (links : List Link) (heads last v k : ℕ) : Type 0 where
  pub above : heads ≤ k
  pub below : k < last
  pub home : (link_at links k).list ≡ v

-- links are those of a list, which has a count
pub record IsListOf (links : List Link) (count heads last v : ℕ) (ks : List ℕ) : Type 0 where
  pub ring : IsChain links v ks v
  pub uses : AllByRecursion (IsUse links heads last v) ks
  pub apart : AreApart ks
  pub counted : length ks ≡ count

-- the first so many links hold lists, one for each count
pub record AreLists (links : List Link) (counts : List ℕ) (last : ℕ) : Type 0 where
  pub lists : (v : ℕ) → v < length counts → IsListOf links (slice_index counts v) (length counts) last v (members links counts v)
  pub heads : (v : ℕ) → v < length counts → (link_at links v).list ≡ v
  pub room : length counts ≤ last
  pub within : last ≤ length links
