use Rattle.std.proofs.Common.{◌∷◌, map, take}
use Rattle.ir_model.specs.Values.{null_block, live_block}
use Rattle.mem_cells.specs.Shown.{Shows}
use Rattle.program_tables.specs.declared.program.GlobalBytes.{GlobalBytes}
use Rattle.program_tables.specs.Shapes.{pieces_cells}
use Rattle.ir_eval.proofs.start.first_memory.Given as goal

abbrev pub invariant-loop-global : goal.invariant-loop-global
invariant-loop-global l =
    Shows (null_block ∷ map (λ (g : GlobalBytes). live_block (pieces_cells g.pieces.items)) (take l.global-index l.globals)) l.mem
