use Rattle.std.proofs.Common.{◌++◌, ◌∷◌, [], arith, refl, sym, subst}
use Rattle.ir_model.specs.Values.{live_block}
use Rattle.mem_cells.specs.Shown.{KeepBlocks}
use Rattle.mem_cells.proofs.Kept.{same_length}
use Rattle.mem_cells.proofs.BlocksKept.{as_many_blocks, added_kept}
use Rattle.mem_cells.proofs.memory.Mem.add.Goals as goal

pub returns-clause-number : goal.returns-clause-number
returns-clause-number c = λ memory shows.
    let many = as_many_blocks c.args.self.now.blocks.items memory shows in
    omega (arith, c.len-number.ensures, many, c.args.self.now.blocks.ok.0)

pub returns-clause-blocks : goal.returns-clause-blocks
returns-clause-blocks c = λ memory bytes shows keep.
    let many = same_length c.args.cells.slots.items bytes keep.each in
    subst (λ blocks. KeepBlocks blocks (memory ++ live_block bytes ∷ [])) (sym c.in_ok-push.ensures.items)
    (added_kept c.args.self.now.blocks.items memory _ _ shows
    (record { live = refl; size = omega (arith, c.len.ensures, many, c.args.cells.slots.ok.0); cells = λ live. keep }))
