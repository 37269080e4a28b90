use Rattle.std.proofs.Common.{◌≡◌, ◌-◌, ◌≤◌, ◌++◌, length, drop}
use Rattle.ir_lex.specs.Meaning.{unescaped}
use Rattle.ir_lex.proofs.meaning.unescaped.Given as goal

abbrev pub invariant-loop-at : goal.invariant-loop-at
invariant-loop-at l = record {
  within : l.at ≤ length l.body;
  same : unescaped l.body ≡ l.bytes.items ++ unescaped (drop l.at l.body);
}

abbrev pub decreases-loop-at : goal.decreases-loop-at
decreases-loop-at l = length l.initial.body - l.at
