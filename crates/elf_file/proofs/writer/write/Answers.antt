use Rattle.std.proofs.Common.{◌*◌, ◌++◌, length, refl, ap, ◌∙◌}
use Rattle.elf_file.specs.Layout.{file_header_bytes, program_header_bytes}
use Rattle.elf_file.proofs.Written.{written}
use Rattle.elf_file.proofs.writer.write.Goals as goal

pub returns : goal.returns
returns c =
    written c.args.words.now c.args.init.now c.args.extra (4 * length c.args.words.now) c.next_multiple_of-data_offset.result
    c.put.new.file.items c.put-2.new.file.items c.put-3.new.file.items c.resize.new.self.items
    c.put_words.new.file.items c.resize-2.new.self.items c.extend_from_slice.new.self.items
    c.put-3.new.file.len c.put_words.new.file.len
    refl c.next_multiple_of-data_offset.ensures.value
    (c.in_ok-put.ensures ∙ ap (λ front. front ++ file_header_bytes c.file_header.result) c.in_ok-file.ensures.items
    ∙ ap file_header_bytes c.file_header.ensures)
    (c.in_ok-put-2.ensures ∙ ap (λ h. c.put.new.file.items ++ program_header_bytes h) c.text_header.ensures)
    (c.in_ok-put-3.ensures ∙ ap (λ h. c.put-2.new.file.items ++ program_header_bytes h) c.data_header.ensures)
    c.put-3.new.file.ok.0 c.in_ok-resize.ensures.items c.in_ok-put_words.ensures
    c.put_words.new.file.ok.0 c.in_ok-resize-2.ensures.items c.in_ok-extend_from_slice.ensures.items
