use Rattle.std.proofs.Common.{◌∷◌, List, map, ap, sym, subst, ◌∙◌}
use Rattle.std.proofs.lemmas.Simd.{map-map}
use Rattle.ir_model.specs.Values.{MemoryBlock, null_block, live_block}
use Rattle.mem_cells.specs.Shown.{Shows}
use Rattle.program_tables.specs.declared.program.GlobalBytes.{GlobalBytes}
use Rattle.program_tables.specs.Shapes.{pieces_cells}
use Rattle.ir_eval.proofs.start.begun.Goals as goal

pub returns-clause-memory : goal.returns-clause-memory
returns-clause-memory c =
    let Block : GlobalBytes → MemoryBlock = λ g. live_block (pieces_cells g.pieces.items) in
    subst (λ (blocks : List MemoryBlock). Shows (null_block ∷ blocks) c.in_ok-first_memory.field-0)
    (ap (map Block) c.as_slice.ensures.value
    ∙ sym (map-map live_block (λ (g : GlobalBytes). pieces_cells g.pieces.items) c.args.p.now.globals.items))
    c.in_ok-first_memory.ensures
