use Rattle.std.proofs.Common.{◌≡◌, ◌+◌, ◌-◌, suc, drop, sym, ◌∙◌, ap, arith}
use Rattle.ir_lex.specs.Symbols.{symbols_of}
use Rattle.ir_read_insts.proofs.WrapFlags.{flags_after, wrap_flags_more, wrap_flags_last, wrap_flags_out}
use Rattle.ir_read_insts.proofs.inst_heads.wrap_flags_at.Goals as goal

pub returns-in_default-clause-reads : goal.returns-in_default-clause-reads
returns-in_default-clause-reads c = c.loop.invariant.0 ∙ wrap_flags_last c.loop.flags _ _ c.in_default.ensures

pub loop-preserved : goal.loop-preserved
loop-preserved c =
    let left : c.args.budget - c.loop.counter ≡ suc (c.args.budget - (c.loop.counter + 1)) = omega arith in (
      c.loop.invariant.0 ∙ ap (λ z. flags_after c.loop.flags z (drop c.loop.next (symbols_of c.args.text.now c.args.toks.now))) left
          ∙ wrap_flags_more c.loop.flags c.in-Some.nuw (c.args.budget - (c.loop.counter + 1)) _ _ c.in-Some.ensures.0 c.in-Some.ensures.1
          ∙ ap (λ z. flags_after z (c.args.budget - (c.loop.counter + 1)) (drop (c.loop.next + 1) (symbols_of c.args.text.now c.args.toks.now))) (sym c.flags_with-flags.ensures),
      c.in-Some.ensures.2,
      omega (arith, c.loop.invariant.2),
    )

pub returns-clause-reads : goal.returns-clause-reads
returns-clause-reads c =
    let none : c.args.budget - c.loop.counter ≡ 0 = omega arith in
    c.loop.invariant.0 ∙ ap (λ z. flags_after c.loop.flags z (drop c.loop.next (symbols_of c.args.text.now c.args.toks.now))) none
    ∙ wrap_flags_out c.loop.flags _
