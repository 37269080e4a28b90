use Rattle.std.proofs.Common.{◌++◌, ap, sym, ◌∙◌}
use Rattle.ir_tree.specs.ShapeOf.{module_shape}
use Rattle.ir_print.specs.Texts.{items_text}
use Rattle.ir_print.proofs.Modules.{module_is}
use Rattle.ir_print.proofs.print.Goals as goal

pub returns : goal.returns
returns c =
    let shape = module_shape c.args.module.now in
    c.in_ok-push_items.ensures
    ∙ ap (λ z. z ++ items_text shape) c.new-text.ensures.items
    ∙ sym (module_is shape)
