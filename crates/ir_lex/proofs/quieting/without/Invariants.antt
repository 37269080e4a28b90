use Rattle.std.proofs.Common.{◌≡◌, ◌-◌, ◌≤◌, ◌++◌, length, drop}
use Rattle.ir_lex.specs.Quiet.{phrase_len, left_after}
use Rattle.ir_lex.proofs.quieting.without.Given as goal

abbrev pub invariant-loop-at : goal.invariant-loop-at
invariant-loop-at l = record {
  within : l.at ≤ length l.toks;
  left : left_after (phrase_len l.text l.rule) 0 l.toks ≡ l.kept.items ++ left_after (phrase_len l.text l.rule) 0 (drop l.at l.toks);
}

abbrev pub decreases-loop-at : goal.decreases-loop-at
decreases-loop-at l = length l.initial.toks - l.at
