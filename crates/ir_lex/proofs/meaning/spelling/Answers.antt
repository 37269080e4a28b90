use Rattle.std.proofs.Common.{◌≡◌, ℕ, ◌-◌, min, List, length, take, drop, ap, ◌∙◌}
use Rattle.std.proofs.lemmas.List.{take_rest, take_min, drop_min}
use Rattle.ir_lex.specs.Meaning.{spelling}
use Rattle.ir_lex.proofs.meaning.spelling.Goals as goal

-- a part of a text, with its ends kept within the text
clamped : (text : List ℕ) (start «end» m d k : ℕ) → m ≡ min start (length text) → d ≡ «end» - start → k ≡ min d (length (take (length text - m) (drop m text)))
    → take k (take (length text - m) (drop m text)) ≡ take («end» - start) (drop start text)
clamped text start «end» m d k p q r =
    let rest : take (length text - m) (drop m text) ≡ drop start text = take_rest text m ∙ ap (λ x. drop x text) p ∙ drop_min start text in
    let short : k ≡ min («end» - start) (length (drop start text)) = r ∙ ap (λ t. min d (length t)) rest ∙ ap (λ x. min x (length (drop start text))) q in
    ap (take k) rest ∙ ap (λ x. take x (drop start text)) short ∙ take_min («end» - start) (drop start text)

pub returns : goal.returns
unfolding spelling
returns c = clamped c.args.text.now c.args.token.now.start c.args.token.now.end c.min.result c.saturating_sub.result c.min-2.result c.min.ensures c.saturating_sub.ensures c.min-2.ensures
