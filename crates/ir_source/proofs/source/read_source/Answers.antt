use Rattle.std.proofs.Common.{List, subst, Err}
use Rattle.ir_lex.specs.declared.token.Token.{Token}
use Rattle.ir_parse.specs.Answers.{Parses}
use Rattle.ir_source.proofs.Reading.{none_parsed}
use Rattle.ir_source.proofs.source.read_source.Goals as goal

pub returns-in-Err-parse-clause-reads : goal.returns-in-Err-parse-clause-reads
returns-in-Err-parse-clause-reads c =
    let read = subst (λ (toks : List Token). Parses c.args.text.now toks (Err c.in-Err-parse.error)) c.deref.ensures.value c.in-Err-parse.ensures.reads in
    rw c.of_parse.ensures (none_parsed c.args.text.now c.in-Ok.kept.items c.in-Err-parse.error c.in-Ok.ensures.kept read)
