use Rattle.std.proofs.Common.{◌≡◌, ℕ, suc, ◌+◌, Bool, true, false, ap, sym, ◌∙◌, arith}
use Rattle.ir_const.specs.Answers.{symbols_from}
use Rattle.ir_const.specs.Reach.{reach, one_more}
use Rattle.ir_const.proofs.ReachCount.{reach_too_deep, reach_shut, reach_on, reach_out}
use Rattle.ir_const.proofs.DeepCount.{count_low}
use Rattle.ir_const.proofs.reach.reach_of.Goals as goal
use Rattle.ir_const.proofs.reach.reach_of.Goals.{else-depth-eq0-via-then-depth-eq0+else-not-is_address_word, else-depth-eq0-via-else-depth-eq0}

pub returns-then-depth-eq65-clause-end : goal.returns-then-depth-eq65-clause-end
returns-then-depth-eq65-clause-end c =
    sym
    (c.loop-at.invariant.0
    ∙ ap (λ z. c.loop-at.at + z.0)
    (reach_too_deep c.args.text.now c.args.toks.now c.loop-at.at c.loop-at.depth _ c.loop-at-test.true c.open_after-depth.result c.open_after-depth.ensures c.if-depth-eq65.true))

pub returns-then-depth-eq65-clause-deep : goal.returns-then-depth-eq65-clause-deep
returns-then-depth-eq65-clause-deep c =
    sym
    (c.loop-at.invariant.1
    ∙ ap (λ z. z.1)
    (reach_too_deep c.args.text.now c.args.toks.now c.loop-at.at c.loop-at.depth _ c.loop-at-test.true c.open_after-depth.result c.open_after-depth.ensures c.if-depth-eq65.true))

pub returns-then-not-is_address_word-clause-end : goal.returns-then-not-is_address_word-clause-end
returns-then-not-is_address_word-clause-end c =
    sym
    (c.loop-at.invariant.0
    ∙ ap (λ z. c.loop-at.at + z.0)
    (reach_shut c.args.text.now c.args.toks.now c.loop-at.at c.loop-at.depth _ c.loop-at-test.true c.open_after-depth.result c.open_after-depth.ensures c.if-depth-eq65.false
    c.if-depth-eq0.true (sym c.is_address_word.ensures ∙ c.if-not-is_address_word.true)))

pub returns-then-not-is_address_word-clause-deep : goal.returns-then-not-is_address_word-clause-deep
returns-then-not-is_address_word-clause-deep c =
    sym
    (c.loop-at.invariant.1
    ∙ ap (λ z. z.1)
    (reach_shut c.args.text.now c.args.toks.now c.loop-at.at c.loop-at.depth _ c.loop-at-test.true c.open_after-depth.result c.open_after-depth.ensures c.if-depth-eq65.false
    c.if-depth-eq0.true (sym c.is_address_word.ensures ∙ c.if-not-is_address_word.true)))

one_further : (at m n : ℕ) → m ≡ suc n → at + m ≡ at + 1 + n
one_further at m n e = omega arith

no_both : (b : Bool) → b ≡ true → b ≡ false → ⊥
no_both b holds fails = let both : true ≡ false = sym holds ∙ fails in cc

pub loop-at-preserved : goal.loop-at-preserved
loop-at-preserved c =
    let more : reach c.loop-at.depth (symbols_from c.args.text.now c.args.toks.now c.loop-at.at) ≡ one_more (reach c.open_after-depth.result (symbols_from c.args.text.now c.args.toks.now (c.loop-at.at + 1))) =
    reach_on c.args.text.now c.args.toks.now c.loop-at.at c.loop-at.depth _ c.loop-at-test.true c.open_after-depth.result c.open_after-depth.ensures c.if-depth-eq65.false
    (λ none other. elim c.else-depth-eq0.branch [
      | else-depth-eq0-via-then-depth-eq0+else-not-is_address_word w ↦ no_both _ (sym w.is_address_word.ensures ∙ w.if-not-is_address_word.false) other
      | else-depth-eq0-via-else-depth-eq0 w ↦ w.if-depth-eq0.false none
    ]) in (
      c.loop-at.invariant.0 ∙ one_further c.loop-at.at _ _ (ap (λ z. z.0) more),
      c.loop-at.invariant.1 ∙ ap (λ z. z.1) more,
      count_low c.args.text.now c.args.toks.now c.loop-at.at c.loop-at.depth _ c.loop-at.invariant.2 c.open_after-depth.result c.open_after-depth.ensures c.if-depth-eq65.false,
    )

pub returns-clause-end : goal.returns-clause-end
returns-clause-end c =
    let out = reach_out c.args.text.now c.args.toks.now c.loop-at.at c.loop-at.depth (omega arith) in omega (arith, c.loop-at.invariant.0, ap (λ z. z.0) out)

pub returns-clause-deep : goal.returns-clause-deep
returns-clause-deep c =
    sym (c.loop-at.invariant.1 ∙ ap (λ z. z.1) (reach_out c.args.text.now c.args.toks.now c.loop-at.at c.loop-at.depth (omega arith)))
