use Rattle.std.proofs.Common.{◌≡◌, ◌+◌, ◌-◌, take, subst, arith}
use Rattle.ir_lex.specs.Symbols.{symbols_of}
use Rattle.ir_grammar_consts.specs.Depth.{IsTooDeep}
use Rattle.ir_parse.proofs.Wholes.{shallow_parses, deep_at, shallow_at}
use Rattle.ir_parse.proofs.parse.Goals as goal

pub returns-in-Some-clause-reads : goal.returns-in-Some-clause-reads
returns-in-Some-clause-reads c =
    let last : c.in-Some.end ≡ c.in-Some.end - 1 + 1 = omega (arith, c.in-Some.ensures.after) in (
      c.in-Some.end - 1,
      omega (arith, c.in-Some.ensures.after, c.in-Some.ensures.within),
      c.place_of.ensures,
      subst (λ z. IsTooDeep 0 (take z (symbols_of c.args.text.now c.args.toks.now))) last (deep_at (symbols_of c.args.text.now c.args.toks.now) c.in-Some.end c.in-Some.ensures.deep),
    )

pub returns-clause-reads : goal.returns-clause-reads
returns-clause-reads c = shallow_parses c.args.text.now c.args.toks.now c.module_of.result c.module_of.ensures.reads (shallow_at (symbols_of c.args.text.now c.args.toks.now) c.in_default.ensures.deep)
