use Rattle.std.proofs.Common.{◌≡◌, ℕ, ◌+◌, ◌-◌, ◌<◌, length, get_or}
use Rattle.use_chain.specs.Links.{link_at}
use Rattle.use_chain.specs.Lists.{AreLists, members}
use Rattle.use_chain.specs.Kept.{total}
use Rattle.use_chain.proofs.chain.free_links.Given as goal

abbrev pub invariant-loop-k : goal.invariant-loop-k
invariant-loop-k l = AreLists l.links l.counts l.k
    × (l.k ≡ length l.counts + total l.counts)
    × ((v : ℕ) → v + 1 < length l.fn.counts → members l.links l.counts v ≡ members l.fn.links l.fn.counts v)
    × ((j : ℕ) → j < l.fn.start → (link_at l.links j).at ≡ (link_at l.fn.links j).at)
    × (get_or l.counts (length l.fn.counts - 1) 0 + l.fn.start ≡ get_or l.fn.counts (length l.fn.counts - 1) 0 + l.k)
