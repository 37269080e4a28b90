use Rattle.program_consts.proofs.Lengths.{FarLeft}
use Rattle.program_consts.proofs.walks.whole_length.Given as goal

abbrev pub invariant-loop-k : goal.invariant-loop-k
invariant-loop-k l = FarLeft l.strides l.indices l.k l.far
