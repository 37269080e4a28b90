use Rattle.std.proofs.Common.{◌≡◌, drop}
use Rattle.ir_lex.specs.Quiet.{first_outside}
use Rattle.ir_lex.proofs.quieting.first_outside.Given as goal

abbrev pub invariant-loop-token : goal.invariant-loop-token
invariant-loop-token l = first_outside l.text l.toks ≡ first_outside l.text (drop l.token-index l.toks)
