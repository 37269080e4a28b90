use Rattle.std.proofs.Common.{ℕ, List, length, refl, sym, ◌∙◌, subst, arith}
use Rattle.std.proofs.lemmas.Option.{slice_get_read}
use Rattle.ir_flow.specs.Around.{names_of}
use Rattle.ir_flow.specs.Places.{ArePlaces}
use Rattle.ir_flow.proofs.Tables.{as_many_predecessors}
use Rattle.ir_flow.proofs.Tests.{row_read}
use Rattle.ir_flow.proofs.Looked.{block_looked}
use Rattle.ir_flow.proofs.faults.look_at_block.Goals as goal

pub look_at-requires-clause-there : goal.look_at-requires-clause-there
look_at-requires-clause-there c =
    let blocks = c.args.around.now.function.now.blocks.items in
    let x = c.index-2.result.now in
    (x, slice_get_read blocks (length blocks) c.args.block x refl c.requires.block c.index-2.ensures, omega (arith, c.len-index-end.ensures))

pub look_at-requires-clause-keys : goal.look_at-requires-clause-keys
look_at-requires-clause-keys c =
    let a = c.args.around.now in
    let rows = a.edges.now.predecessors.items in
    let many = as_many_predecessors (names_of a) a.function.now a.edges.now c.requires.around.edges in
    let row = row_read rows c.args.block c.index.result.now (omega (arith, many, c.requires.block)) c.index.ensures in
    subst (λ (z : List ℕ). ArePlaces z c.in_ok-predecessors.predecessors) (c.deref.ensures.value ∙ sym row) c.in_ok-predecessors.ensures

pub returns : goal.returns
returns c =
    let f = c.args.around.now.function.now in
    let x = c.index-2.result.now in
    block_looked c.args.p.now c.args.function c.args.block c.loop-index.index f x c.loop-index.found c.requires.here.function
    (slice_get_read f.blocks.items (length f.blocks.items) c.args.block x refl c.requires.block c.index-2.ensures) (omega (arith, c.len-index-end.ensures))
    c.loop-index.invariant
