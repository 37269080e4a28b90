use Rattle.std.proofs.Common.{◌≡◌, map, take, Some}
use Rattle.ir_names.proofs.function.block_ids.Given as goal

abbrev pub invariant-loop-block : goal.invariant-loop-block
invariant-loop-block l = l.ids.items ≡ map (λ b. Some b.name) (take l.block-index l.blocks)
