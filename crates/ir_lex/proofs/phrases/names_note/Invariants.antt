use Rattle.std.proofs.Common.{◌≡◌, drop}
use Rattle.ir_lex.specs.Quiet.{names_note}
use Rattle.ir_lex.proofs.phrases.names_note.Given as goal

abbrev pub invariant-loop-token : goal.invariant-loop-token
invariant-loop-token l = names_note l.text l.line ≡ names_note l.text (drop l.token-index l.line)
