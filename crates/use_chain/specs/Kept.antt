-- How a chain is kept: links, the first of which are the heads of the lists of values and of the list of links that are free.
use Rattle.std.specs.Prelude.{◌≡◌, ◌≢◌, ℕ, ◌+◌, ◌-◌, ◌^◌, ◌<◌, List, map, length, slice_index}
use Rattle.std.specs.List.{range_with_len, sum_by}
use Rattle.use_chain.specs.Links.{no_link, link_at}
use Rattle.use_chain.specs.Lists.{members, others, joined, AreLists}
use Rattle.use_chain.specs.Uses.{Use, Chain}
use Rattle.use_chain.specs.declared.link.Link.{Link}
use Rattle.use_chain.specs.declared.uses.UseAt.{UseAt}

-- the use that a link is for; sites are numbered from 0, after the heads
abbrev pub use_at_link : List Link → ℕ → ℕ → Use
use_at_link links heads k = record { site = k - heads; at = (link_at links k).at }

-- the uses of a list
abbrev pub list_uses : List Link → List ℕ → ℕ → List Use
list_uses links counts v = map (use_at_link links (length counts)) (members links counts v)

-- the lists of values, and how many links are free
abbrev pub chain_of : List Link → List ℕ → Chain
chain_of links counts = record {
  lists = map (list_uses links counts) (range_with_len 0 (length counts - 1));
  spare = slice_index counts (length counts - 1);
}

-- the head of an empty list
abbrev pub lone_head : ℕ → Link
lone_head v = record { prev = v; next = v; list = v; at = no_link.at }

-- how many links are in lists
abbrev pub total : List ℕ → ℕ
total counts = sum_by (λ n. n) counts

-- links and counts are those of a chain
pub record IsKept (links : List Link) (counts : List ℕ) : Type 0 where
  pub lists : AreLists links counts (length links)
  pub all : length links ≡ length counts + total counts
  pub some : 0 < length counts
  pub few : total counts < 2 ^ 32

-- a link went to the end of a list, for a use; the links of each list are else the same, and so are their uses
pub record Moved (links : List Link) (counts : List ℕ) (new : List Link) (now : List ℕ) (k to : ℕ) (at : UseAt) : Type 0 where
  pub heads : length now ≡ length counts
  pub lists : (v : ℕ) → v < length counts → members new now v ≡ joined k to v (others k (members links counts v))
  pub here : (link_at new k).at ≡ at
  pub elsewhere : (j : ℕ) → j ≢ k → (link_at new j).at ≡ (link_at links j).at
