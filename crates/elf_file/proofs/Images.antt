-- From what the reader's steps found to the image of the file.
use Rattle.std.proofs.Common.{◌≡◌, ℕ, ◌+◌, Bool, true, false, cond, nat_lt, ◌||◌, List, [], ◌∷◌, map, refl, ap, sym, ◌∙◌, sum_by, Some, None, Result, Ok, Err}
use Rattle.std.proofs.lemmas.Bool.{ltb-false}
use Rattle.std.proofs.lemmas.List.Sums.{sum_by-cons}
use Rattle.std.specs.List.{list_any}
use Rattle.elf_file.specs.declared.error.ElfError.{ElfError}
use Rattle.elf_file.specs.declared.error.ElfError.TheVariants.{NotElf, WrongKind, BadSegment, Overlap, TooLarge, OutOfMemory}
use Rattle.elf_file.specs.declared.extents.Extent.{Extent}
use Rattle.elf_file.specs.declared.header.ProgramHeader.{ProgramHeader}
use Rattle.elf_file.specs.Extents.{any_extents_shared, extents_size, refusal_of, extent_of, range_of}
use Rattle.elf_file.specs.Image.{ImageSegment, ProgramImage, IsImage, any_pair, any_shared, memory_size, most_memory}
use Rattle.elf_file.specs.Reading.{IsAnswer, file_header, has_good_headers, image_of, is_elf, is_right_kind, load_headers, reading_of, segment_of}

pub reading-not_elf : (bytes : List ℕ) → is_elf bytes ≡ false → reading_of bytes ≡ Err NotElf
unfolding reading_of
reading-not_elf bytes elf = rw elf refl

pub reading-wrong_kind : (bytes : List ℕ) → is_elf bytes ≡ true → is_right_kind bytes ≡ false → reading_of bytes ≡ Err WrongKind
unfolding reading_of
reading-wrong_kind bytes elf kind = rw (elf, kind) refl

pub reading-bad_segment : (bytes : List ℕ) → is_elf bytes ≡ true → is_right_kind bytes ≡ true → has_good_headers bytes ≡ false
    → reading_of bytes ≡ Err BadSegment
unfolding reading_of
reading-bad_segment bytes elf kind good = rw (elf, kind, good) refl

pub reading-image : (bytes : List ℕ) → is_elf bytes ≡ true → is_right_kind bytes ≡ true → has_good_headers bytes ≡ true
    → reading_of bytes ≡ image_of (file_header bytes).e_entry (map (segment_of bytes) (load_headers bytes))
unfolding reading_of
reading-image bytes elf kind good = rw (elf, kind, good) refl

-- ranges and segments with the same addresses
pub record SameRanges (extents : List Extent) (segments : List ImageSegment) : Type 0 where
  pub shared : any_extents_shared extents ≡ any_shared segments
  pub size : extents_size extents ≡ memory_size segments

list_any-map : {X Y : Type 0} (p : Y → Bool) (f : X → Y) (xs : List X) → list_any p (map f xs) ≡ list_any (λ x. p (f x)) xs
list_any-map p f [] = refl
list_any-map p f (x ∷ xs) = ap (λ b. p (f x) || b) (list_any-map p f xs)

any_pair-map : {X Y : Type 0} (r : Y → Y → Bool) (f : X → Y) (xs : List X) → any_pair r (map f xs) ≡ any_pair (λ x y. r (f x) (f y)) xs
any_pair-map r f [] = refl
any_pair-map r f (x ∷ xs) =
    ap (λ b. b || any_pair r (map f xs)) (list_any-map (r (f x)) f xs)
    ∙ ap (λ b. list_any (λ y. r (f x) (f y)) xs || b) (any_pair-map r f xs)

sum_by-map : {X Y : Type 0} (n : Y → ℕ) (f : X → Y) (xs : List X) → sum_by n (map f xs) ≡ sum_by (λ x. n (f x)) xs
sum_by-map n f [] = refl
sum_by-map n f (x ∷ xs) =
    sum_by-cons n (f x) (map f xs) ∙ ap (λ m. n (f x) + m) (sum_by-map n f xs) ∙ sym (sum_by-cons (λ x. n (f x)) x xs)

pub ranges_of_headers : (bytes : List ℕ) (headers : List ProgramHeader) → SameRanges (map extent_of headers) (map (segment_of bytes) headers)
ranges_of_headers bytes headers = record {
  shared = any_pair-map _ extent_of headers ∙ sym (any_pair-map _ (segment_of bytes) headers);
  size = sum_by-map _ extent_of headers ∙ sym (sum_by-map _ (segment_of bytes) headers);
}

pub ranges_of_segments : (segments : List ImageSegment) → SameRanges (map range_of segments) segments
ranges_of_segments segments = record { shared = any_pair-map _ range_of segments; size = sum_by-map _ range_of segments }

-- the first of two refusals
refused : (b t : Bool) (image : ProgramImage) (error : ElfError) → Some error ≡ cond b (Some Overlap) (cond t (Some TooLarge) None)
    → cond b (Err Overlap) (cond t (Err TooLarge) (Ok image)) ≡ Err error
refused true t image error is = cc
refused false true image error is = cc
refused false false image error is = cc

not_refused : (b t : Bool) → None ≡ cond b (Some Overlap) (cond t (Some TooLarge) None) → (b ≡ false) × (t ≡ false)
not_refused true t is = cc
not_refused false true is = cc
not_refused false false is = (refl, refl)

-- the refusal of the ranges is that of the segments
refusal_same : (extents : List Extent) (segments : List ImageSegment) → SameRanges extents segments
    → refusal_of extents ≡ cond (any_shared segments) (Some Overlap) (cond (nat_lt most_memory (memory_size segments)) (Some TooLarge) None)
refusal_same extents segments same =
    ap (λ b. cond b (Some Overlap) (cond (nat_lt most_memory (extents_size extents)) (Some TooLarge) None)) same.shared
    ∙ ap (λ n. cond (any_shared segments) (Some Overlap) (cond (nat_lt most_memory n) (Some TooLarge) None)) same.size

-- what refuses the ranges refuses the image
pub image-refused : (begin : ℕ) (segments : List ImageSegment) (extents : List Extent) (error : ElfError)
    → SameRanges extents segments → Some error ≡ refusal_of extents → image_of begin segments ≡ Err error
image-refused begin segments extents error same is =
    refused (any_shared segments) (nat_lt most_memory (memory_size segments)) (record { begin = begin; segments = segments }) error
    (is ∙ refusal_same extents segments same)

-- and where nothing does, there is an image
pub image-made : (begin : ℕ) (segments : List ImageSegment) (extents : List Extent)
    → SameRanges extents segments → None ≡ refusal_of extents
    → IsImage (record { begin = begin; segments = segments })
    × (image_of begin segments ≡ Ok (record { begin = begin; segments = segments }))
image-made begin segments extents same is =
    let clear = not_refused (any_shared segments) (nat_lt most_memory (memory_size segments)) (is ∙ refusal_same extents segments same) in (
      record { apart = clear.0; size = ltb-false most_memory (memory_size segments) clear.1 },
      ap (λ b. cond b (Err Overlap) (cond (nat_lt most_memory (memory_size segments)) (Err TooLarge) (Ok (record { begin = begin; segments = segments })))) clear.0
          ∙ ap (λ b. cond b (Err TooLarge) (Ok (record { begin = begin; segments = segments }))) clear.1,
    )

-- the ranges that the reader made are those of the file's segments
pub ranges_found : (bytes : List ℕ) (headers : List ProgramHeader) (extents : List Extent) → headers ≡ load_headers bytes
    → extents ≡ map extent_of headers → SameRanges extents (map (segment_of bytes) (load_headers bytes))
ranges_found bytes headers extents all made = rw (made, all) (ranges_of_headers bytes (load_headers bytes))

-- the image that the reader made is that of the file
pub image_found : (bytes : List ℕ) (begin : ℕ) (segments : List ImageSegment) (extents : List Extent)
    → begin ≡ (file_header bytes).e_entry → segments ≡ map (segment_of bytes) (load_headers bytes)
    → SameRanges extents (map (segment_of bytes) (load_headers bytes)) → None ≡ refusal_of extents
    → IsImage (record { begin = begin; segments = segments })
    × (image_of (file_header bytes).e_entry (map (segment_of bytes) (load_headers bytes)) ≡ Ok (record { begin = begin; segments = segments }))
image_found bytes begin segments extents at are same is =
    rw (at, are) (image-made (file_header bytes).e_entry (map (segment_of bytes) (load_headers bytes)) extents same is)

-- an answer that is the wanted one is right
pub answer_from : {X : Type 0} (answer wanted : Result X ElfError) → answer ≡ wanted → IsAnswer answer wanted
answer_from (Err OutOfMemory) wanted same = tt
answer_from answer wanted same = same
