use Rattle.std.proofs.Common.{◌≡◌, ◌+◌, ◌-◌, ◌<◌, ◌≤◌, ◌==◌, ◌||◌, true, length, take, drop, Some, is_ok, sym, ap, ◌∙◌, subst, arith}
use Rattle.std.proofs.lemmas.List.{take_rest, length-drop, drop-drop}
use Rattle.ir_lex.specs.Lengths.{begins_by, gap_len, first_token, NoLabels}
use Rattle.ir_lex.proofs.Labels.{NoLabels-drop}
use Rattle.ir_lex.proofs.Paths.{step_gap, step_token, stop_bad, first_token-positive}
use Rattle.ir_lex.specs.Tokens.{here}
use Rattle.ir_lex.proofs.scan.tokens.Goals as goal
use Rattle.ir_lex.proofs.scan.tokens.Goals.{then-first, else-first}

pub loop-at-init : goal.loop-at-init
loop-at-init c = record { within = omega arith; path = rw c.new-toks.ensures.items here; known = λ k h. absurd (omega arith) }

pub loop-at-preserved-in-Some : goal.loop-at-preserved-in-Some
loop-at-preserved-in-Some c =
    let text = c.args.text.now in
    let at = c.loop-at.at in
    let rest : take (length text - at) (drop at text) ≡ drop at text = take_rest text at in
    let gap : gap_len (drop at text) ≡ Some c.in-Some.len = ap gap_len (sym rest) ∙ sym c.in-Some.ensures.value in
    let within : c.in-Some.len ≤ length (drop at text) = rw rest at c.in-Some.ensures.within in
    let short : length (drop at text) ≡ length text - at = simp length-drop in
    let fresh : c.if-first.first ≡ (c.loop-at.first || begins_by (λ b. b == 10) (drop at text)) =
    elim c.if-first.branch [
      | then-first w ↦ rw w.if-first.true (w.first-is ∙ w.if-first.true)
      | else-first w ↦ rw w.if-first.false (w.first-is ∙ w.begins_with-first.ensures ∙ ap (begins_by (λ b. b == 10)) rest)
    ] in
    record {
      within = omega arith;
      path = rw fresh (step_gap text c.loop-at.toks.items at c.in-Some.len c.loop-at.first c.loop-at.invariant.path gap);
      known = λ k h. absurd (omega arith);
    }

pub returns-in_default-first_token-clause-refused : goal.returns-in_default-first_token-clause-refused
returns-in_default-first_token-clause-refused c =
    let text = c.args.text.now in
    let at = c.loop-at.at in
    let rest : take (length text - at) (drop at text) ≡ drop at text = take_rest text at in
    stop_bad text c.loop-at.toks.items at c.loop-at.first c.loop-at.invariant.path c.loop-at-test.true
    (ap gap_len (sym rest) ∙ sym c.in_default.ensures.value)
    (ap first_token (sym rest) ∙ sym c.in_default-first_token.ensures.value)

pub loop-at-smaller : goal.loop-at-smaller
loop-at-smaller c =
    let text = c.args.text.now in
    let at = c.loop-at.at in
    let rest : take (length text - at) (drop at text) ≡ drop at text = take_rest text at in
    let some : 0 < c.in-Some-first_token.len = first_token-positive _ _ _ (ap first_token (sym rest) ∙ sym c.in-Some-first_token.ensures.value) in
    omega (arith, c.loop-at-test.true)

pub loop-at-preserved : goal.loop-at-preserved
loop-at-preserved c =
    let text = c.args.text.now in
    let at = c.loop-at.at in
    let len = c.in-Some-first_token.len in
    let known = c.unlabelled_count-known.result in
    let rest : take (length text - at) (drop at text) ≡ drop at text = take_rest text at in
    let within : len ≤ length (drop at text) = rw rest at c.in-Some-first_token.ensures.within in
    let short : length (drop at text) ≡ length text - at = simp length-drop in
    let stored : is_ok c.push.result ≡ true = c.if-is_err.ensures.negation in
    let items = rw stored at c.push.ensures.items in
    let no_labels : NoLabels known (drop at text) = subst (λ t. NoLabels known t) rest c.unlabelled_count-known.ensures in
    let later : NoLabels (known - len) (drop (at + len) text) = subst (λ t. NoLabels (known - len) t) (drop-drop len at text) (NoLabels-drop known len (drop at text) no_labels) in
    record {
      within = omega arith;
      path = rw items (step_token text c.loop-at.toks.items at len c.loop-at.first c.in-Some-first_token.kind c.loop-at.invariant.path
          (ap gap_len (sym rest) ∙ sym c.in_default.ensures.value)
          (ap first_token (sym rest) ∙ sym c.in-Some-first_token.ensures.value));
      known = subst (λ n. NoLabels n (drop (at + len) text)) (sym c.saturating_sub-unlabelled.ensures) later;
    }
