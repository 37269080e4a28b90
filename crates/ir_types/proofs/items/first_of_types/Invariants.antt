use Rattle.std.proofs.Common.{◌≡◌}
use Rattle.ir_rules.specs.Places.{type_at}
use Rattle.ir_types.specs.Looks.{HasLooked}
use Rattle.ir_types.proofs.Looking.{Below}
use Rattle.ir_types.proofs.items.first_of_types.Given as goal

abbrev pub invariant-loop-at : goal.invariant-loop-at
invariant-loop-at l = HasLooked l.p (Below (λ k place. place ≡ type_at k) l.at) l.found
