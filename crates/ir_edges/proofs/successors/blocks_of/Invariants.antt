use Rattle.std.proofs.Common.{◌≡◌, ℕ, List, map, filter_map, take, true, length}
use Rattle.std.specs.List.{list_all}
use Rattle.ir_tree.specs.Known.{name_known}
use Rattle.ir_tree.specs.ShapeOf.{name_shape, function_shape}
use Rattle.ir_tree.specs.declared.module.Function.{Function}
use Rattle.ir_rules.specs.Values.{block_of}
use Rattle.ir_names.specs.Tables.{AreNamesIn}
use Rattle.ir_edges.proofs.successors.blocks_of.Given as goal

abbrev pub invariant-loop-label : goal.invariant-loop-label
invariant-loop-label l =
    (all : List (List ℕ)) (f : Function) → AreNamesIn all f l.names → list_all (name_known (length all)) l.labels ≡ true
    → l.to.items ≡ filter_map (block_of (function_shape all f)) (map (name_shape all) (take l.label-index l.labels))
