use Rattle.std.proofs.Common.{◌≡◌, ◌+◌, ◌-◌, arith}
use Rattle.std.proofs.lemmas.List.{get_or_default}
use Rattle.elf_file.specs.declared.extents.Extent.{Extent}
use Rattle.elf_file.proofs.extents.neighbours_share.Goals as goal

pub returns-then-after-before : goal.returns-then-after-before
returns-then-after-before c =
    let none : Extent = record { base = 0; size = 0 } in
    let next : c.loop-next.next - 1 + 1 ≡ c.loop-next.next = omega arith in
    let up = c.requires (c.loop-next.next - 1) c.loop-next.next none (omega arith) (omega arith) in
    let reach = c.if-after-before.true in (
      c.loop-next.next - 1,
      omega arith,
      λ d.
          let here = get_or_default c.args.extents.now (c.loop-next.next - 1) d none (omega arith) in
          let there = get_or_default c.args.extents.now c.loop-next.next d none (omega arith) in
          rw (next, here, there) (omega (arith, up, reach)),
    )
