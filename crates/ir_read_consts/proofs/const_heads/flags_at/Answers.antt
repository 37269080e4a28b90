use Rattle.std.proofs.Common.{◌≡◌, ◌+◌, ◌-◌, ◌||◌, suc, drop, sym, ◌∙◌, ap, arith}
use Rattle.ir_lex.specs.Symbols.{symbols_of}
use Rattle.ir_read_consts.proofs.Flags.{flags_with, flags_more, flags_last, flags_out}
use Rattle.ir_read_consts.proofs.const_heads.flags_at.Goals as goal
use Rattle.ir_read_consts.proofs.const_heads.flags_at.Goals.{then-inbounds, else-inbounds}

pub returns-in_default-clause-reads : goal.returns-in_default-clause-reads
returns-in_default-clause-reads c = c.loop.invariant.0 ∙ flags_last c.loop.inbounds _ _ c.in_default.ensures

pub loop-preserved : goal.loop-preserved
loop-preserved c =
    let left : c.args.budget - c.loop.counter ≡ suc (c.args.budget - (c.loop.counter + 1)) = omega arith in
    let step : (c.loop.inbounds || c.in-Some.flag) ≡ c.if-inbounds.inbounds = elim c.if-inbounds.branch [
      | then-inbounds w ↦ rw (w.if-inbounds.true) (sym (w.inbounds-is ∙ w.if-inbounds.true))
      | else-inbounds w ↦ rw (w.if-inbounds.false) (sym w.inbounds-is)
    ] in (
      c.loop.invariant.0 ∙ ap (λ z. flags_with c.loop.inbounds z (drop c.loop.next (symbols_of c.args.text.now c.args.toks.now))) left
          ∙ flags_more c.loop.inbounds c.in-Some.flag (c.args.budget - (c.loop.counter + 1)) _ _ c.in-Some.ensures.0 c.in-Some.ensures.1
          ∙ ap (λ z. flags_with z (c.args.budget - (c.loop.counter + 1)) (drop (c.loop.next + 1) (symbols_of c.args.text.now c.args.toks.now))) step,
      c.in-Some.ensures.2,
      omega (arith, c.loop.invariant.2),
    )

pub returns-clause-reads : goal.returns-clause-reads
returns-clause-reads c =
    let none : c.args.budget - c.loop.counter ≡ 0 = omega arith in
    c.loop.invariant.0 ∙ ap (λ z. flags_with c.loop.inbounds z (drop c.loop.next (symbols_of c.args.text.now c.args.toks.now))) none
    ∙ flags_out c.loop.inbounds _
