use Rattle.ir_sizes.proofs.sizes.+offset_within.Given as goal

abbrev pub decreases-offset_within : goal.decreases-offset_within
decreases-offset_within l = l.depth
