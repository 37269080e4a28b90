use Rattle.std.proofs.Common.{◌≡◌, ◌≤◌, length, drop}
use Rattle.ir_lex.specs.Meaning.{unescaped}
use Rattle.ir_lex.specs.Names.{begins_as}
use Rattle.ir_lex.proofs.meaning.begins_as.Given as goal

abbrev pub invariant-loop-b : goal.invariant-loop-b
invariant-loop-b l = record {
  within : l.at ≤ length l.body;
  same : begins_as l.whole (unescaped l.body) l.start ≡ begins_as l.whole (unescaped (drop l.at l.body)) (drop l.b-index l.start);
}
