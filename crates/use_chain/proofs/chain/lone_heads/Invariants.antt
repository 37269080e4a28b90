use Rattle.std.proofs.Common.{◌≡◌, map}
use Rattle.std.specs.List.{range_with_len}
use Rattle.use_chain.specs.Kept.{lone_head}
use Rattle.use_chain.proofs.chain.lone_heads.Given as goal

abbrev pub invariant-loop-v : goal.invariant-loop-v
invariant-loop-v l = l.links.items ≡ map lone_head (range_with_len 0 l.v)
