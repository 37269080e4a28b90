use Rattle.std.proofs.Common.{ap, ◌∙◌, append_assoc}
use Rattle.sr_command.proofs.refusal.outside_line.Goals as goal

pub returns : goal.returns
returns c =
    let place = ap (λ v. v.items) c.into_bytes-line.ensures.value ∙ c.in_ok-place.ensures.ok in
    let named = rw place at c.in_ok-extend_from_slice.ensures.items in
    let whole = rw named at c.in_ok-push.ensures.items in
    whole ∙ simp append_assoc
