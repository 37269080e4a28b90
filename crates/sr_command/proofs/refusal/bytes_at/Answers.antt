use Rattle.std.proofs.Common.{◌≡◌, ℕ, ◌-◌, min, List, length, take, drop, ap, ◌∙◌}
use Rattle.std.proofs.lemmas.List.{take_rest, take_min, drop_min}
use Rattle.sr_command.proofs.refusal.bytes_at.Goals as goal

-- a part of a text, with its ends kept within the text
clamped : (text : List ℕ) (at len m k : ℕ) → m ≡ min at (length text) → k ≡ min len (length (take (length text - m) (drop m text)))
    → take k (take (length text - m) (drop m text)) ≡ take len (drop at text)
clamped text at len m k p r =
    let rest : take (length text - m) (drop m text) ≡ drop at text = take_rest text m ∙ ap (λ x. drop x text) p ∙ drop_min at text in
    let short : k ≡ min len (length (drop at text)) = r ∙ ap (λ t. min len (length t)) rest in
    ap (take k) rest ∙ ap (λ x. take x (drop at text)) short ∙ take_min len (drop at text)

pub returns : goal.returns
returns c = clamped c.args.text.now c.args.at c.args.len c.min.result c.min-2.result c.min.ensures c.min-2.ensures
