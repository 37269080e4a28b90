-- What is written reads back.
use Rattle.std.proofs.Common.{◌≡◌, ℕ, ◌+◌, ◌-◌, ◌*◌, ◌^◌, ◌%◌, ◌<◌, ◌≤◌, true, false, min, max, nat_lt, ◌==◌, List, [], ◌∷◌, ◌++◌, length, take, drop, map, filter, replicate, refl, ap, sym, ◌∙◌, All, Some, Ok, arith, append_assoc, length-append}
use Rattle.std.proofs.lemmas.Bool.{and_from, or_right, le-leb, le-ltb, eq-eqb}
use Rattle.std.proofs.lemmas.List.{append-nil, length-replicate}
use Rattle.std.proofs.lemmas.List.Elements.{All-head, All-tail}
use Rattle.std.proofs.Math.Seq.{drop-append_seam, take-append_seam}
use Rattle.std.specs.List.{list_all}
use Rattle.byteorder.specs.Endian.{little_bytes, little_number}
use Rattle.byteorder.specs.Numbers.{little_number-reads_back}
use Rattle.elf_file.specs.declared.header.ProgramHeader.{ProgramHeader}
use Rattle.elf_file.specs.Image.{ImageSegment, most_memory, overlap, words_of}
use Rattle.elf_file.specs.Layout.{file_bytes, file_header_bytes, header_of_data, header_of_executable, header_of_text, page_end, program_header_bytes, text_bytes}
use Rattle.elf_file.specs.ReadBack.{ReadsBack, TextReadsBack}
use Rattle.elf_file.specs.Reading.{file_header, has_good_headers, image_of, is_elf, is_good_header, is_load, is_right_kind, lie_in_file, load_headers, number_at, program_header, program_headers, reading_of, segment_of}
use Rattle.elf_file.proofs.Headers.{same_program_header}
use Rattle.elf_file.proofs.Images.{reading-image}
use Rattle.elf_file.proofs.Written.{length-text_bytes}

-- the fields of a header that fit their bytes
pub record Fits (h : ProgramHeader) : Type 0 where
  pub type : h.p_type < 2 ^ 32
  pub flags : h.p_flags < 2 ^ 32
  pub offset : h.p_offset < 2 ^ 64
  pub vaddr : h.p_vaddr < 2 ^ 64
  pub paddr : h.p_paddr < 2 ^ 64
  pub filesz : h.p_filesz < 2 ^ 64
  pub memsz : h.p_memsz < 2 ^ 64
  pub align : h.p_align < 2 ^ 64

-- a program header reads back, whatever follows it
program_header-bytes : (h : ProgramHeader) (rest : List ℕ) → Fits h → program_header (program_header_bytes h ++ rest) ≡ h
unfolding number_at
program_header-bytes h rest f =
    let t8 = little_bytes 8 h.p_align ++ rest in
    let t7 = little_bytes 8 h.p_memsz ++ t8 in
    let t6 = little_bytes 8 h.p_filesz ++ t7 in
    let t5 = little_bytes 8 h.p_paddr ++ t6 in
    let t4 = little_bytes 8 h.p_vaddr ++ t5 in
    let t3 = little_bytes 8 h.p_offset ++ t4 in
    let t2 = little_bytes 4 h.p_flags ++ t3 in
    same_program_header _ _ _ _ _ _ _ _ _ _ _ _ _ _ _ _
    (little_number-reads_back 4 h.p_type t2 f.type)
    (little_number-reads_back 4 h.p_flags t3 f.flags)
    (little_number-reads_back 8 h.p_offset t4 f.offset)
    (little_number-reads_back 8 h.p_vaddr t5 f.vaddr)
    (little_number-reads_back 8 h.p_paddr t6 f.paddr)
    (little_number-reads_back 8 h.p_filesz t7 f.filesz)
    (little_number-reads_back 8 h.p_memsz t8 f.memsz)
    (little_number-reads_back 8 h.p_align rest f.align)

-- the file header reads back, whatever follows it
file_header-bytes : (rest : List ℕ) → file_header (file_header_bytes header_of_executable ++ rest) ≡ header_of_executable
unfolding number_at
file_header-bytes rest = refl

-- the three headers and what follows them
abbrev headed : ℕ → ℕ → ℕ → ℕ → List ℕ → List ℕ
headed n o k e rest =
    file_header_bytes header_of_executable ++ (program_header_bytes (header_of_text n) ++ (program_header_bytes (header_of_data o k e) ++ rest))

length-headed : (n o k e : ℕ) (rest : List ℕ) → length (headed n o k e rest) ≡ 176 + length rest
length-headed n o k e rest =
    omega (
      arith,
      length-append (file_header_bytes header_of_executable)
          (program_header_bytes (header_of_text n) ++ (program_header_bytes (header_of_data o k e) ++ rest)),
      length-append (program_header_bytes (header_of_text n)) (program_header_bytes (header_of_data o k e) ++ rest),
      length-append (program_header_bytes (header_of_data o k e)) rest,
    )

headed-elf : (n o k e : ℕ) (rest : List ℕ) → is_elf (headed n o k e rest) ≡ true
headed-elf n o k e rest =
    and_from _ _ (le-leb 64 (length (headed n o k e rest)) (omega (arith, length-headed n o k e rest))) refl

headed-kind : (n o k e : ℕ) (rest : List ℕ) → is_right_kind (headed n o k e rest) ≡ true
unfolding number_at
headed-kind n o k e rest = refl

fits_text : (n : ℕ) → n ≤ 2 ^ 26 → Fits (header_of_text n)
fits_text n small = record {
  type = omega arith;
  flags = omega arith;
  offset = omega arith;
  vaddr = omega arith;
  paddr = omega arith;
  filesz = omega arith;
  memsz = omega arith;
  align = omega arith;
}

fits_data : (o k e : ℕ) → o ≤ 2 ^ 27 → k + e ≤ 2 ^ 27 → Fits (header_of_data o k e)
fits_data o k e near small = record {
  type = omega arith;
  flags = omega arith;
  offset = omega arith;
  vaddr = omega arith;
  paddr = omega arith;
  filesz = omega arith;
  memsz = omega arith;
  align = omega arith;
}

headed-loads : (n o k e : ℕ) (rest : List ℕ) → n ≤ 2 ^ 26 → o ≤ 2 ^ 27 → k + e ≤ 2 ^ 27
    → load_headers (headed n o k e rest) ≡ header_of_text n ∷ header_of_data o k e ∷ []
headed-loads n o k e rest small near few =
    let after = program_header_bytes (header_of_data o k e) ++ rest in
    let table : load_headers (headed n o k e rest) ≡ filter is_load (program_header (program_header_bytes (header_of_text n) ++ after) ∷ program_header after ∷ []) =
    ap (λ h. filter is_load (program_headers h.e_phnum (drop h.e_phoff (headed n o k e rest))))
    (file_header-bytes (program_header_bytes (header_of_text n) ++ after)) in
    table
    ∙ ap (λ h. filter is_load (h ∷ program_header after ∷ [])) (program_header-bytes (header_of_text n) after (fits_text n small))
    ∙ ap (λ h. filter is_load (header_of_text n ∷ h ∷ [])) (program_header-bytes (header_of_data o k e) rest (fits_data o k e near few))

lies_from : (size offset n : ℕ) → offset + n ≤ size → lie_in_file size offset n ≡ true
lies_from size offset n h = or_right (n == 0) _ (le-leb (offset + n) size h)

good_from : (size : ℕ) (h : ProgramHeader) → h.p_offset + h.p_filesz ≤ size → h.p_filesz ≤ h.p_memsz → h.p_vaddr + h.p_memsz ≤ 2 ^ 64
    → is_good_header size h ≡ true
good_from size h lies fits ends =
    and_from _ _ (and_from _ _ (lies_from size h.p_offset h.p_filesz lies) (le-leb h.p_filesz h.p_memsz fits)) (le-leb (h.p_vaddr + h.p_memsz) (2 ^ 64) ends)

headed-good : (n o k e : ℕ) (rest : List ℕ) → n ≤ 2 ^ 26 → o ≤ 2 ^ 27 → k + e ≤ 2 ^ 27
    → 4096 + n ≤ 176 + length rest → o + k ≤ 176 + length rest
    → has_good_headers (headed n o k e rest) ≡ true
headed-good n o k e rest small near few text_lies data_lies =
    let long = length-headed n o k e rest in
    let f = headed n o k e rest in
    and_from _ _
    (ap (λ h. lie_in_file (length f) h.e_phoff (56 * h.e_phnum))
    (file_header-bytes (program_header_bytes (header_of_text n) ++ (program_header_bytes (header_of_data o k e) ++ rest)))
    ∙ lies_from (length f) 64 112 (omega (arith, long)))
    (ap (list_all (is_good_header (length f))) (headed-loads n o k e rest small near few)
    ∙ and_from _ _ (good_from (length f) (header_of_text n) (omega (arith, long, text_lies)) (omega arith) (omega arith))
    (and_from _ _ (good_from (length f) (header_of_data o k e) (omega (arith, long, data_lies)) (omega arith) (omega arith)) refl))

-- a part of a list that stands after a front of a known length
part : (front xs back : List ℕ) (offset n : ℕ) → length front ≡ offset → length xs ≡ n
    → take n (drop offset (front ++ (xs ++ back))) ≡ xs
part front xs back offset n here long =
    rw (sym here, sym long, drop-append_seam, take-append_seam) refl

regroup : (a b c z t y l : List ℕ) → a ++ b ++ c ++ z ++ t ++ y ++ l ≡ a ++ (b ++ (c ++ (z ++ (t ++ (y ++ l)))))
regroup a b c z t y l = simp append_assoc

regroup_text : (a b c z t y l : List ℕ) → a ++ (b ++ (c ++ (z ++ (t ++ (y ++ l))))) ≡ (a ++ b ++ c ++ z) ++ (t ++ (y ++ l))
regroup_text a b c z t y l = simp append_assoc

regroup_data : (a b c z t y l : List ℕ) → a ++ (b ++ (c ++ (z ++ (t ++ (y ++ l))))) ≡ (a ++ b ++ c ++ z ++ t ++ y) ++ (l ++ [])
regroup_data a b c z t y l = simp (append_assoc, append-nil)

-- what follows the headers
abbrev following : List ℕ → List ℕ → ℕ → List ℕ
following words init gap = replicate 3920 0 ++ (text_bytes words ++ (replicate gap 0 ++ init))

length-following : (words init : List ℕ) (gap : ℕ) → length (following words init gap) ≡ 3920 + (4 * length words + (gap + length init))
length-following words init gap =
    omega (
      arith,
      length-append (replicate 3920 0) (text_bytes words ++ (replicate gap 0 ++ init)),
      length-replicate {A = ℕ} 3920 0,
      length-append (text_bytes words) (replicate gap 0 ++ init),
      length-text_bytes words,
      length-append (replicate gap 0) init,
      length-replicate {A = ℕ} gap 0,
    )

text_part : (n o k e : ℕ) (words init : List ℕ) (gap : ℕ) → n ≡ 4 * length words
    → take n (drop 4096 (headed n o k e (following words init gap))) ≡ text_bytes words
text_part n o k e words init gap size =
    let a = file_header_bytes header_of_executable in
    let b = program_header_bytes (header_of_text n) in
    let c = program_header_bytes (header_of_data o k e) in
    let z : List ℕ = replicate 3920 0 in
    let front_size : length (a ++ b ++ c ++ z) ≡ 4096 =
    omega (arith, length-append (a ++ b ++ c) z, length-append (a ++ b) c, length-append a b, length-replicate {A = ℕ} 3920 0) in
    ap (λ f. take n (drop 4096 f)) (regroup_text a b c z (text_bytes words) (replicate gap 0) init)
    ∙ part (a ++ b ++ c ++ z) (text_bytes words) (replicate gap 0 ++ init) 4096 n front_size (omega (arith, length-text_bytes words))

data_part : (n o k e : ℕ) (words init : List ℕ) (gap : ℕ) → n ≡ 4 * length words → o ≡ 4096 + n + gap → k ≡ length init
    → take k (drop o (headed n o k e (following words init gap))) ≡ init
data_part n o k e words init gap size place count =
    let a = file_header_bytes header_of_executable in
    let b = program_header_bytes (header_of_text n) in
    let c = program_header_bytes (header_of_data o k e) in
    let z : List ℕ = replicate 3920 0 in
    let t = text_bytes words in
    let y : List ℕ = replicate gap 0 in
    let front_size : length (a ++ b ++ c ++ z ++ t ++ y) ≡ o =
    omega (
      arith,
      length-append (a ++ b ++ c ++ z ++ t) y,
      length-append (a ++ b ++ c ++ z) t,
      length-append (a ++ b ++ c) z,
      length-append (a ++ b) c,
      length-append a b,
      length-replicate {A = ℕ} 3920 0,
      length-replicate {A = ℕ} gap 0,
      length-text_bytes words,
    ) in
    ap (λ f. take k (drop o f)) (regroup_data a b c z t y init)
    ∙ part (a ++ b ++ c ++ z ++ t ++ y) init [] o k front_size (sym count)

-- two segments that lie apart and are small make an image
two_segments : (begin : ℕ) (s t : ImageSegment) → s.base + s.size ≤ t.base → s.size + t.size ≤ most_memory
    → image_of begin (s ∷ t ∷ []) ≡ Ok (record { begin = begin; segments = s ∷ t ∷ [] })
two_segments begin s t apart small =
    let clear : overlap s.base s.size t.base t.size ≡ false =
    le-ltb (max s.base t.base) (min (s.base + s.size) (t.base + t.size)) (omega arith) in
    let few : nat_lt most_memory (0 + s.size + t.size) ≡ false = le-ltb most_memory (0 + s.size + t.size) (omega arith) in
    rw (clear, few) refl

pub reads_back : ReadsBack
unfolding file_bytes
reads_back words init extra small few =
    let n = 4 * length words in
    let o = page_end (4096 + n) in
    let k = length init in
    let gap = o - (4096 + n) in
    let rest = following words init gap in
    let file = headed n o k extra rest in
    let place : o ≡ 4096 + n + gap = omega arith in
    let near : o ≤ 2 ^ 27 = omega arith in
    let long = length-following words init gap in
    let same : file_bytes words init extra ≡ file =
    regroup (file_header_bytes header_of_executable) (program_header_bytes (header_of_text n)) (program_header_bytes (header_of_data o k extra))
    (replicate 3920 0) (text_bytes words) (replicate gap 0) init in
    let read = reading-image file (headed-elf n o k extra rest) (headed-kind n o k extra rest)
    (headed-good n o k extra rest (omega arith) near (omega arith) (omega (arith, long)) (omega (arith, long, place))) in
    let entry : (file_header file).e_entry ≡ 0x10000 =
    ap (λ h. h.e_entry) (file_header-bytes (program_header_bytes (header_of_text n) ++ (program_header_bytes (header_of_data o k extra) ++ rest))) in
    let loads = headed-loads n o k extra rest (omega arith) near (omega arith) in
    let text = text_part n o k extra words init gap refl in
    let mem = data_part n o k extra words init gap refl place refl in
    ap reading_of same ∙ read
    ∙ ap (λ b. image_of b (map (segment_of file) (load_headers file))) entry
    ∙ ap (λ hs. image_of 0x10000 (map (segment_of file) hs)) loads
    ∙ ap (λ xs. image_of 0x10000 (record { base = 0x10000; size = n; flags = 5; init = xs } ∷ segment_of file (header_of_data o k extra) ∷ [])) text
    ∙ ap (λ xs. image_of 0x10000 (record { base = 0x10000; size = n; flags = 5; init = text_bytes words } ∷ record { base = 0x1000_0000; size = k + extra; flags = 6; init = xs } ∷ [])) mem
    ∙ two_segments 0x10000 (record { base = 0x10000; size = n; flags = 5; init = text_bytes words })
    (record { base = 0x1000_0000; size = k + extra; flags = 6; init = init }) (omega arith) (omega arith)

words_of-text_bytes : (words : List ℕ) → All (λ w. w < 2 ^ 32) words → words_of (text_bytes words) ≡ words
words_of-text_bytes [] small = refl
words_of-text_bytes (w ∷ words) small =
    let first : little_number 4 (little_bytes 4 w ++ []) ≡ w = little_number-reads_back 4 w [] (All-head (λ w. w < 2 ^ 32) w words small) in
    ap (λ x. x ∷ words_of (text_bytes words)) first
    ∙ ap (λ ws. w ∷ ws) (words_of-text_bytes words (All-tail (λ w. w < 2 ^ 32) w words small))

pub text_reads_back : TextReadsBack
text_reads_back words init extra small =
    let bytes = length-text_bytes words in
    let whole : (length (text_bytes words) == 4 * length words) ≡ true = eq-eqb (length (text_bytes words)) (4 * length words) bytes in
    let fours : (4 * length words % 4 == 0) ≡ true = eq-eqb (4 * length words % 4) 0 (omega arith) in
    rw (whole, fours) (ap Some (words_of-text_bytes words small))
