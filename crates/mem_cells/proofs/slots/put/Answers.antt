use Rattle.std.proofs.Common.{◌≡◌, ◌+◌, ◌-◌, length, arith, ap₂, sym, ◌∙◌}
use Rattle.std.proofs.lemmas.Simd.{put_chunk_is}
use borrow.Rule.Slice.PartMut.{put_mid}
use Rattle.mem_cells.proofs.slots.put.Goals as goal

pub returns : goal.returns
returns c =
    let many : c.args.at + length c.args.kept.now - c.args.at ≡ length c.args.kept.now = omega arith in
    ap₂ (λ n ys. put_mid c.args.at n c.args.slots.now ys) many c.copy_from_slice.ensures.after
    ∙ sym (put_chunk_is c.args.at c.args.slots.now c.args.kept.now c.requires)
