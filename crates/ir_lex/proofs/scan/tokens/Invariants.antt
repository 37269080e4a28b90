use Rattle.std.proofs.Common.{◌-◌, ◌≤◌, true, length, drop}
use Rattle.ir_lex.specs.Tokens.{Path}
use Rattle.ir_lex.specs.Lengths.{NoLabels}
use Rattle.ir_lex.proofs.scan.tokens.Given as goal

abbrev pub invariant-loop-at : goal.invariant-loop-at
invariant-loop-at l = record {
  within : l.at ≤ length l.text;
  path : Path 0 true l.text l.toks.items l.at l.first (drop l.at l.text);
  known : NoLabels l.unlabelled (drop l.at l.text);
}

abbrev pub decreases-loop-at : goal.decreases-loop-at
decreases-loop-at l = length l.initial.text - l.at
