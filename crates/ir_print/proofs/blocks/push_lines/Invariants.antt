use Rattle.std.proofs.Common.{◌≡◌, ◌++◌, drop, map}
use Rattle.std.specs.List.{flat_map}
use Rattle.ir_tree.specs.ShapeOf.{inst_shape}
use Rattle.ir_print.specs.Texts.{line_text}
use Rattle.ir_print.proofs.blocks.push_lines.Given as goal

abbrev pub invariant-loop-inst : goal.invariant-loop-inst
invariant-loop-inst l =
    l.to.items ++ flat_map line_text (map (inst_shape l.names) (drop l.inst-index l.insts))
    ≡ l.initial.to.items ++ flat_map line_text (map (inst_shape l.names) l.insts)
