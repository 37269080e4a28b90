use Rattle.std.proofs.Common.{◌++◌, ap, ◌∙◌, append_assoc}
use Rattle.ir_tree.specs.ShapeOf.{const_shape}
use Rattle.ir_print.specs.Texts.{constant_text, is_name, callee_gap}
use Rattle.ir_print.proofs.instructions.push_callee.Goals as goal

pub returns-in_ok-push_gap-in-Fixed : goal.returns-in_ok-push_gap-in-Fixed
returns-in_ok-push_gap-in-Fixed c =
    let shape = const_shape c.args.names.now c.in-Fixed.constant in
    let gap = callee_gap (is_name shape) in
    rw c.in-Fixed.is
    (c.in_ok-push_gap-in-Fixed.ensures
    ∙ ap (λ z. c.push_constant.new.to.items ++ callee_gap z) (c.is_name.ensures c.args.names.now)
    ∙ ap (λ z. z ++ gap) c.in_ok-push_constant-in-Fixed.ensures
    ∙ append_assoc c.args.to.now.items (constant_text shape) gap)
