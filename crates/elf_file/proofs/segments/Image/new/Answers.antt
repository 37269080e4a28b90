use Rattle.std.proofs.Common.{ap, sym, ◌∙◌, map, Err, ◌≡◌}
use Rattle.elf_file.specs.Extents.{range_of}
use Rattle.elf_file.specs.Reading.{image_of}
use Rattle.elf_file.proofs.Images.{SameRanges, answer_from, image-made, image-refused, ranges_of_segments}
use Rattle.elf_file.proofs.segments.Image.new.Goals as goal

pub returns-in-Some : goal.returns-in-Some
returns-in-Some c =
    let are : c.in_ok-extents_of.field-0.items ≡ map range_of c.args.segments = c.in_ok-extents_of.ensures ∙ ap (map range_of) c.as_slice.ensures in
    let same : SameRanges c.in_ok-extents_of.field-0.items c.args.segments = rw are (ranges_of_segments c.args.segments) in
    answer_from (Err c.in-Some.error) (image_of c.args.begin c.args.segments)
    (sym (image-refused c.args.begin c.args.segments c.in_ok-extents_of.field-0.items c.in-Some.error same c.in-Some.ensures))

pub invariant_of-result : goal.invariant_of-result
invariant_of-result c =
    let are : c.in_ok-extents_of.field-0.items ≡ map range_of c.args.segments = c.in_ok-extents_of.ensures ∙ ap (map range_of) c.as_slice.ensures in
    let same : SameRanges c.in_ok-extents_of.field-0.items c.args.segments = rw are (ranges_of_segments c.args.segments) in
    (image-made c.args.begin c.args.segments c.in_ok-extents_of.field-0.items same c.in_default.ensures).0

pub returns : goal.returns
returns c =
    let are : c.in_ok-extents_of.field-0.items ≡ map range_of c.args.segments = c.in_ok-extents_of.ensures ∙ ap (map range_of) c.as_slice.ensures in
    let same : SameRanges c.in_ok-extents_of.field-0.items c.args.segments = rw are (ranges_of_segments c.args.segments) in
    sym (image-made c.args.begin c.args.segments c.in_ok-extents_of.field-0.items same c.in_default.ensures).1
