use Rattle.std.proofs.Common.{◌≡◌, ap, sym, ◌∙◌, drop, filter, Err, map}
use Rattle.elf_file.specs.Extents.{extent_of}
use Rattle.elf_file.specs.Reading.{file_header, is_load, load_headers, program_headers, reading_of, segment_of}
use Rattle.elf_file.proofs.Images.{answer_from, image-refused, image_found, ranges_found, reading-bad_segment, reading-image, reading-not_elf, reading-wrong_kind}
use Rattle.elf_file.proofs.reader.read.Goals as goal

pub returns-then-not-is_elf_file : goal.returns-then-not-is_elf_file
returns-then-not-is_elf_file c = sym (reading-not_elf c.args.bytes.now (sym c.if-not-is_elf_file.ensures))

pub returns-then-not-has_right_kind : goal.returns-then-not-has_right_kind
returns-then-not-has_right_kind c =
    sym (reading-wrong_kind c.args.bytes.now (sym c.if-not-is_elf_file.ensures) (sym c.if-not-has_right_kind.ensures))

pub returns-then-not-headers_are_good : goal.returns-then-not-headers_are_good
returns-then-not-headers_are_good c =
    sym (reading-bad_segment c.args.bytes.now (sym c.if-not-is_elf_file.ensures) (sym c.if-not-has_right_kind.ensures)
    (sym c.if-not-headers_are_good.ensures))

pub returns-in-Some : goal.returns-in-Some
returns-in-Some c =
    let all : c.in_ok-headers.headers.items ≡ load_headers c.args.bytes.now =
    c.in_ok-headers.ensures ∙ ap (filter is_load) c.header_table.ensures.same
    ∙ ap (λ h. filter is_load (program_headers h.e_phnum (drop h.e_phoff c.args.bytes.now))) c.read-header.ensures in
    let same = ranges_found c.args.bytes.now c.in_ok-headers.headers.items c.in_ok-extents_of.field-0.items all
    (c.in_ok-extents_of.ensures ∙ ap (map extent_of) c.as_slice.ensures.value) in
    answer_from (Err c.in-Some.error) (reading_of c.args.bytes.now)
    (sym (reading-image c.args.bytes.now (sym c.if-not-is_elf_file.ensures) (sym c.if-not-has_right_kind.ensures)
    (sym c.if-not-headers_are_good.ensures)
    ∙ image-refused (file_header c.args.bytes.now).e_entry (map (segment_of c.args.bytes.now) (load_headers c.args.bytes.now))
    c.in_ok-extents_of.field-0.items c.in-Some.error same c.in-Some.ensures))

pub invariant_of-result : goal.invariant_of-result
invariant_of-result c =
    let all : c.in_ok-headers.headers.items ≡ load_headers c.args.bytes.now =
    c.in_ok-headers.ensures ∙ ap (filter is_load) c.header_table.ensures.same
    ∙ ap (λ h. filter is_load (program_headers h.e_phnum (drop h.e_phoff c.args.bytes.now))) c.read-header.ensures in
    let same = ranges_found c.args.bytes.now c.in_ok-headers.headers.items c.in_ok-extents_of.field-0.items all
    (c.in_ok-extents_of.ensures ∙ ap (map extent_of) c.as_slice.ensures.value) in
    (image_found c.args.bytes.now c.read-header.result.e_entry c.in_ok-segments.segments c.in_ok-extents_of.field-0.items
    (ap (λ h. h.e_entry) c.read-header.ensures)
    (c.in_ok-segments.ensures ∙ ap (map (segment_of c.args.bytes.now)) (c.as_slice-2.ensures.value ∙ all)) same c.in_default.ensures).0

pub returns : goal.returns
returns c =
    let all : c.in_ok-headers.headers.items ≡ load_headers c.args.bytes.now =
    c.in_ok-headers.ensures ∙ ap (filter is_load) c.header_table.ensures.same
    ∙ ap (λ h. filter is_load (program_headers h.e_phnum (drop h.e_phoff c.args.bytes.now))) c.read-header.ensures in
    let same = ranges_found c.args.bytes.now c.in_ok-headers.headers.items c.in_ok-extents_of.field-0.items all
    (c.in_ok-extents_of.ensures ∙ ap (map extent_of) c.as_slice.ensures.value) in
    sym (reading-image c.args.bytes.now (sym c.if-not-is_elf_file.ensures) (sym c.if-not-has_right_kind.ensures)
    (sym c.if-not-headers_are_good.ensures)
    ∙ (image_found c.args.bytes.now c.read-header.result.e_entry c.in_ok-segments.segments c.in_ok-extents_of.field-0.items
    (ap (λ h. h.e_entry) c.read-header.ensures)
    (c.in_ok-segments.ensures ∙ ap (map (segment_of c.args.bytes.now)) (c.as_slice-2.ensures.value ∙ all)) same c.in_default.ensures).1)
