use Rattle.std.proofs.Common.{◌≡◌, ◌+◌, ◌++◌, ◌∷◌, [], List, map, take, ap, sym, subst, ◌∙◌}
use Rattle.std.proofs.lemmas.List.{take_more, map-append}
use Rattle.ir_model.specs.Values.{MemoryBlock, null_block, live_block}
use Rattle.mem_cells.specs.Shown.{Shows, HasCells}
use Rattle.program_tables.specs.declared.program.GlobalBytes.{GlobalBytes}
use Rattle.program_tables.specs.declared.program.Piece.{Piece}
use Rattle.program_tables.specs.Shapes.{pieces_cells}
use Rattle.ir_eval.proofs.start.first_memory.Goals as goal

pub loop-global-preserved : goal.loop-global-preserved
loop-global-preserved c =
    let globals : List GlobalBytes = c.args.globals.now in
    let i = c.loop-global.global-index in
    let g = c.global-item.result in
    let Block : GlobalBytes → MemoryBlock = λ g. live_block (pieces_cells g.pieces.items) in
    let before : List MemoryBlock = null_block ∷ map Block (take i globals) in
    let bytes = subst (λ (pieces : List Piece). HasCells (pieces_cells pieces) c.in_ok-cells.cells) c.as_slice.ensures.value c.in_ok-cells.ensures in
    let front : map Block (take (i + 1) globals) ≡ map Block (take i globals) ++ Block g ∷ [] =
    ap (map Block) (take_more globals i g c.loop-global-test.true ∙ ap (λ (h : GlobalBytes). take i globals ++ h ∷ []) (sym c.global-item.is))
    ∙ map-append Block (take i globals) (g ∷ []) in
    subst (λ (blocks : List MemoryBlock). Shows (null_block ∷ blocks) c.add.new.self) (sym front)
    (c.in_ok-add.ensures.blocks before (pieces_cells g.pieces.items) c.loop-global.invariant bytes)
