use Rattle.std.proofs.Common.{List, map, sym, subst}
use Rattle.mem_cells.specs.Shown.{block_count}
use Rattle.program_tables.specs.declared.operations.Stride.{Stride}
use Rattle.program_tables.specs.declared.operations.Operation.{Operation}
use Rattle.program_tables.specs.Shapes.{stride_shape, operation_shape}
use Rattle.ir_compute.specs.Operands.{operand_values}
use Rattle.ir_compute.specs.Fitting.{FitsOperands, FitsWalk}
use Rattle.ir_compute.proofs.Walks.{walk_fits}
use Rattle.ir_compute.proofs.operations.compute.Goals as goal

pub walk-requires : goal.walk-requires
walk-requires c =
    let vs = operand_values c.args.values.now c.args.operands.now in
    let blocks = block_count c.args.mem.now in
    let fits = subst (λ (o : Operation). FitsOperands blocks (operation_shape o) vs) c.in-Walk.is c.requires in
    subst (λ (strides : List Stride). FitsWalk blocks (map stride_shape strides) vs) (sym c.as_slice.ensures.value)
    (walk_fits blocks (map stride_shape c.in-Walk.strides.items) fits.taken vs fits.kinds.0 fits.widths.1 fits.operands)
