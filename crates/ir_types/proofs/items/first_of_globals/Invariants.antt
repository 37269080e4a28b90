use Rattle.std.proofs.Common.{◌≡◌}
use Rattle.ir_rules.specs.Places.{global_at}
use Rattle.ir_types.specs.Looks.{HasLooked}
use Rattle.ir_types.proofs.Looking.{Below}
use Rattle.ir_types.proofs.items.first_of_globals.Given as goal

abbrev pub invariant-loop-at : goal.invariant-loop-at
invariant-loop-at l = HasLooked l.p (Below (λ k place. place ≡ global_at k) l.at) l.found
