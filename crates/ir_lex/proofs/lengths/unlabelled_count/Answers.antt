use Rattle.std.proofs.Common.{◌≡◌, ◌==◌, false, drop, sym, ap, subst, ◌∙◌}
use Rattle.std.proofs.lemmas.List.{take_rest}
use Rattle.ir_lex.specs.Lengths.{begins_by, NoLabels}
use Rattle.ir_lex.proofs.Labels.{no_labels}
use Rattle.ir_lex.proofs.lengths.unlabelled_count.Goals as goal

pub returns-else-begins_with : goal.returns-else-begins_with
returns-else-begins_with c =
    let count = c.name_byte_count-count.result in
    let text = c.args.text.now in
    let colon : begins_by (λ b. b == 58) (drop count text) ≡ false = ap (begins_by (λ b. b == 58)) (sym (take_rest text count)) ∙ sym c.if-begins_with.ensures in
    subst (λ n. NoLabels n text) (sym c.name_byte_count-count.ensures.count)
    (no_labels text (subst (λ n. begins_by (λ b. b == 58) (drop n text) ≡ false) c.name_byte_count-count.ensures.count colon))
