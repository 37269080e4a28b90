use Rattle.std.proofs.Common.{◌≡◌, ◌≤◌, ◌+◌, drop}
use Rattle.ir_lex.specs.Quiet.{closing_len}
use Rattle.ir_lex.proofs.phrases.closing.Given as goal

abbrev pub invariant-loop-i : goal.invariant-loop-i
invariant-loop-i l = record {
  deep : l.depth ≤ l.i;
  count : closing_len l.text 0 l.toks ≡ l.i + closing_len l.text l.depth (drop l.i l.toks);
}
