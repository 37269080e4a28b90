use Rattle.elf_file.specs.declared.extents.Extent.{Extent}
use Rattle.elf_file.proofs.Covers.{arranged_answer}
use Rattle.elf_file.proofs.extents.share_address.Goals as goal

pub returns : goal.returns
returns c =
    arranged_answer (λ (x : Extent). x.base) (λ (x : Extent). x.size) c.args.extents.items c.arrange.new.extents.items (record { base = 0; size = 0 })
    c.neighbours_share.result c.arrange.ensures.moved c.arrange.ensures.sorted c.arrange.ensures.filled
    (rw c.as_slice.ensures.value at c.neighbours_share.ensures)
