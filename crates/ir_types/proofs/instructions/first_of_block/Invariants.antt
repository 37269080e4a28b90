use Rattle.std.proofs.Common.{◌≡◌}
use Rattle.ir_rules.specs.Places.{inst_at_place}
use Rattle.ir_types.specs.Looks.{HasLooked}
use Rattle.ir_types.proofs.Looking.{Below}
use Rattle.ir_types.proofs.instructions.first_of_block.Given as goal

abbrev pub invariant-loop-at : goal.invariant-loop-at
invariant-loop-at l = HasLooked l.p (Below (λ i place. place ≡ inst_at_place l.function l.block i) l.at) l.found
