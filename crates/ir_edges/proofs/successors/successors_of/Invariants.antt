use Rattle.std.proofs.Common.{◌≡◌, ℕ, List, map, filter_map, take, true, length}
use Rattle.ir_tree.specs.Known.{function_known}
use Rattle.ir_tree.specs.ShapeOf.{block_shape, function_shape}
use Rattle.ir_rules.specs.Values.{block_of}
use Rattle.ir_names.specs.Tables.{AreNamesIn}
use Rattle.ir_proper.specs.Edges.{all_targets, last_inst}
use Rattle.ir_edges.proofs.successors.successors_of.Given as goal

abbrev pub invariant-loop-block : goal.invariant-loop-block
invariant-loop-block l =
    (all : List (List ℕ)) → AreNamesIn all l.f l.names → function_known (length all) l.f ≡ true
    → map (λ row. row.items) l.rows.items
    ≡ map (λ b. filter_map (block_of (function_shape all l.f)) (all_targets (last_inst b))) (map (block_shape all) (take l.block-index l.f.blocks.items))
