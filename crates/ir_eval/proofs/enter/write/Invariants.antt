use Rattle.std.proofs.Common.{◌≡◌, ◌≤◌, ℕ, List, map, take, length, vec_len}
use Rattle.mem_cells.specs.Shapes.{value_shape}
use Rattle.program_tables.specs.declared.program.Phi.{Phi}
use Rattle.ir_eval.specs.Shapes.{activation_shape, values_of, with_values}
use Rattle.ir_eval.specs.Written.{written}
use Rattle.ir_eval.proofs.enter.write.Given as goal

abbrev pub decreases-loop-value : goal.decreases-loop-value
decreases-loop-value l = vec_len l.scratch

abbrev pub invariant-loop-value : goal.invariant-loop-value
invariant-loop-value l =
    let ids : List ℕ = map (λ (x : Phi). x.result) l.phis in
    (length l.scratch.items ≤ length l.phis)
    × (with_values l.a (written (values_of l.a) (take (length l.scratch.items) ids) (map value_shape l.scratch.items))
    ≡ with_values l.fn.a (written (values_of l.fn.a) ids (map value_shape l.fn.scratch.items)))
