use Rattle.std.proofs.Common.{◌≡◌, ◌-◌, ◌≤◌, ◌++◌, length, take, drop, Some, None, sym, ap, ◌∙◌, arith}
use Rattle.std.proofs.lemmas.List.{take_rest, length-drop}
use Rattle.ir_lex.specs.Quiet.{phrase_len}
use Rattle.ir_lex.proofs.Dropped.{left-drops, left-keeps, left-end, pushed}
use Rattle.ir_lex.proofs.quieting.without.Goals as goal

pub loop-at-preserved-in-Some : goal.loop-at-preserved-in-Some
loop-at-preserved-in-Some c =
    let toks = c.args.toks.now in
    let at = c.loop-at.at in
    let count = c.in-Some.count in
    let phrase = phrase_len c.args.text.now c.args.rule in
    let rest : take (length toks - at) (drop at toks) ≡ drop at toks = take_rest toks at in
    let found : phrase_len c.args.text.now c.args.rule (drop at toks) ≡ Some count = ap (phrase_len c.args.text.now c.args.rule) (sym rest) ∙ sym c.in-Some.ensures.value in
    let within : count ≤ length (drop at toks) = rw rest at c.in-Some.ensures.within in
    let short : length (drop at toks) ≡ length toks - at = simp length-drop in
    record {
      within = omega (arith, c.loop-at-test.true);
      left = c.loop-at.invariant.left ∙ ap (λ more. c.loop-at.kept.items ++ more) (left-drops phrase toks at count c.loop-at-test.true found c.in-Some.ensures.some);
    }

pub loop-at-preserved : goal.loop-at-preserved
loop-at-preserved c =
    let toks = c.args.toks.now in
    let at = c.loop-at.at in
    let phrase = phrase_len c.args.text.now c.args.rule in
    let rest : take (length toks - at) (drop at toks) ≡ drop at toks = take_rest toks at in
    let none : phrase_len c.args.text.now c.args.rule (drop at toks) ≡ None = ap (phrase_len c.args.text.now c.args.rule) (sym rest) ∙ sym c.in-None.ensures.value in
    record {
      within = omega (arith, c.loop-at-test.true);
      left = c.loop-at.invariant.left ∙ pushed _ _ _ _ _ c.in_ok-push-in-None.ensures.items (left-keeps phrase toks at _ c.loop-at-test.true none);
    }

pub returns : goal.returns
returns c = sym (c.loop-at.invariant.left ∙ left-end (phrase_len c.args.text.now c.args.rule) c.args.toks.now c.loop-at.kept.items c.loop-at.at c.loop-at-test.false)
