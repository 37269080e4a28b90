-- The file that the steps of `write` build is the one that the layout states.
use Rattle.std.proofs.Common.{◌≡◌, ℕ, ◌+◌, ◌-◌, ◌*◌, ◌≤◌, List, [], ◌∷◌, ◌++◌, length, take, replicate, refl, ap, ◌∙◌, arith, length-append}
use Rattle.std.proofs.lemmas.List.{take_all, length-replicate}
use Rattle.byteorder.specs.Endian.{little_bytes}
use Rattle.elf_file.specs.Layout.{file_header_bytes, program_header_bytes, header_of_executable, header_of_text, header_of_data, page_end, text_bytes, file_bytes}

-- a word has four bytes
pub length-text_bytes : (words : List ℕ) → length (text_bytes words) ≡ 4 * length words
length-text_bytes [] = refl
length-text_bytes (w ∷ words) =
    omega (arith, length-append (little_bytes 4 w) (text_bytes words), length-text_bytes words)

-- the three headers have 176 bytes
pub length-headers : (text_size offset size extra : ℕ)
    → length (file_header_bytes header_of_executable ++ program_header_bytes (header_of_text text_size)
    ++ program_header_bytes (header_of_data offset size extra))
    ≡ 176
length-headers text_size offset size extra = refl

-- a list that is filled with zeros up to a length that it has not passed keeps what it has
pub filled : (xs ys : List ℕ) (n size : ℕ) → size ≡ length xs → length xs ≤ n
    → ys ≡ take n xs ++ replicate (n - size) 0 → ys ≡ xs ++ replicate (n - length xs) 0
filled xs ys n size same short is =
    is ∙ ap (λ front. front ++ replicate (n - size) 0) (take_all n xs short) ∙ ap (λ k. xs ++ replicate (n - k) 0) same

-- three pieces and then two
joined : (h g1 t g2 last f3 f4 f5 f6 f7 : List ℕ) → f3 ≡ h → f4 ≡ f3 ++ g1 → f5 ≡ f4 ++ t → f6 ≡ f5 ++ g2 → f7 ≡ f6 ++ last
    → f7 ≡ h ++ g1 ++ t ++ g2 ++ last
joined h g1 t g2 last f3 f4 f5 f6 f7 e3 e4 e5 e6 e7 = cc

-- each step's list, from the headers to the data
pub written : (words init : List ℕ) (extra text_size offset : ℕ) (f1 f2 f3 f4 f5 f6 f7 : List ℕ) (n3 n5 : ℕ)
    → text_size ≡ 4 * length words
    → offset ≡ page_end (4096 + text_size)
    → f1 ≡ file_header_bytes header_of_executable
    → f2 ≡ f1 ++ program_header_bytes (header_of_text text_size)
    → f3 ≡ f2 ++ program_header_bytes (header_of_data offset (length init) extra)
    → n3 ≡ length f3
    → f4 ≡ take 4096 f3 ++ replicate (4096 - n3) 0
    → f5 ≡ f4 ++ text_bytes words
    → n5 ≡ length f5
    → f6 ≡ take offset f5 ++ replicate (offset - n5) 0
    → f7 ≡ f6 ++ init
    → f7 ≡ file_bytes words init extra
unfolding file_bytes
written words init extra text_size offset f1 f2 f3 f4 f5 f6 f7 n3 n5 ts os e1 e2 e3 l3 e4 e5 l5 e6 e7 =
    let headers =
    file_header_bytes header_of_executable ++ program_header_bytes (header_of_text text_size)
    ++ program_header_bytes (header_of_data offset (length init) extra) in
    let same : f3 ≡ headers = cc in
    let long : length f3 ≡ 176 = ap length same in
    let front = filled f3 f4 4096 n3 l3 (omega arith) e4 in
    let long4 : length f4 ≡ 4096 =
    ap length front ∙ length-append f3 (replicate (4096 - length f3) 0) ∙ omega (arith, length-replicate {A = ℕ} (4096 - length f3) 0) in
    let long5 : length f5 ≡ 4096 + text_size =
    ap length e5 ∙ length-append f4 (text_bytes words) ∙ omega (arith, length-text_bytes words) in
    let back = filled f5 f6 offset n5 l5 (omega arith) e6 in
    let first_gap : 4096 - length f3 ≡ 3920 = omega arith in
    let text_end : length f5 ≡ 4096 + 4 * length words = omega arith in
    let stop : offset ≡ page_end (4096 + 4 * length words) = os ∙ ap (λ n. page_end (4096 + n)) ts in
    let second_gap : offset - length f5 ≡ page_end (4096 + 4 * length words) - (4096 + 4 * length words) =
    ap (λ n. n - length f5) stop ∙ ap (λ n. page_end (4096 + 4 * length words) - n) text_end in
    let same_headers : f3 ≡ file_header_bytes header_of_executable ++ program_header_bytes (header_of_text (4 * length words))
    ++ program_header_bytes (header_of_data (page_end (4096 + 4 * length words)) (length init) extra) =
    same
    ∙ ap (λ n. file_header_bytes header_of_executable ++ program_header_bytes (header_of_text n)
    ++ program_header_bytes (header_of_data offset (length init) extra)) ts
    ∙ ap (λ n. file_header_bytes header_of_executable ++ program_header_bytes (header_of_text (4 * length words))
    ++ program_header_bytes (header_of_data n (length init) extra)) stop in
    joined (file_header_bytes header_of_executable ++ program_header_bytes (header_of_text (4 * length words))
    ++ program_header_bytes (header_of_data (page_end (4096 + 4 * length words)) (length init) extra))
    (replicate 3920 0) (text_bytes words)
    (replicate (page_end (4096 + 4 * length words) - (4096 + 4 * length words)) 0) init
    f3 f4 f5 f6 f7 same_headers
    (front ∙ ap (λ k. f3 ++ replicate k 0) first_gap) e5 (back ∙ ap (λ k. f5 ++ replicate k 0) second_gap) e7
