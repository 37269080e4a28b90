-- What an executable puts into memory: where the program starts, and the segments.
use Rattle.std.specs.Prelude.{◌≡◌, ◌≤◌, ℕ, ◌+◌, ◌^◌, ◌%◌, min, max, Bool, false, ◌==◌, ◌&&◌, ◌||◌, nat_lt, if◌then◌else◌, List, [], ◌∷◌, length, filter, sum_by, Option, Some, None}
use Rattle.std.specs.List.{list_any}
use Rattle.std.specs.Option.{option_map}
use Rattle.byteorder.specs.Endian.{little_number}

-- a segment of memory: `size` bytes from the address `base`, which hold `init` and then zeros. The flags
-- are 1 (executed), 2 (written) and 4 (read), added up.
pub record ImageSegment : Type 0 where
  pub base : ℕ
  pub size : ℕ
  pub flags : ℕ
  pub init : List ℕ

-- the address of the first instruction, and the segments
pub record ProgramImage : Type 0 where
  pub begin : ℕ
  pub segments : List ImageSegment

-- the segment ends at 2 ^ 64 at the latest, and its first bytes are within it
pub record IsSegment (s : ImageSegment) : Type 0 where
  pub ends : s.base + s.size ≤ 2 ^ 64
  pub holds : length s.init ≤ s.size

-- m bytes from a and n bytes from b share an address: the later beginning is below the earlier end
abbrev pub overlap : ℕ → ℕ → ℕ → ℕ → Bool
overlap a m b n = nat_lt (max a b) (min (a + m) (b + n))

-- r holds of some item of a list and a later one
abbrev pub any_pair : {X : Type 0} → (X → X → Bool) → List X → Bool
any_pair r [] = false
any_pair r (x ∷ xs) = list_any (r x) xs || any_pair r xs

-- two of the segments share an address
abbrev pub any_shared : List ImageSegment → Bool
any_shared segments = any_pair (λ s t. overlap s.base s.size t.base t.size) segments

-- how many bytes of memory the segments take
abbrev pub memory_size : List ImageSegment → ℕ
memory_size segments = sum_by (λ s. s.size) segments

-- the most that an image may take: half a gibibyte
abbrev pub most_memory : ℕ
most_memory = 536870912

-- no two segments share an address, and they take no more memory than is allowed
pub record IsImage (image : ProgramImage) : Type 0 where
  pub apart : any_shared image.segments ≡ false
  pub size : memory_size image.segments ≤ most_memory

-- the segment has flag X
abbrev pub is_executable : ImageSegment → Bool
is_executable s = s.flags % 2 == 1

-- it is read and executed, never written, and the file has all of its bytes, in whole words
abbrev pub is_text : ImageSegment → Bool
is_text s = s.flags == 5 && length s.init == s.size && s.size % 4 == 0

-- the only item of a list
abbrev pub only : {X : Type 0} → List X → Option X
only [] = None
only (x ∷ []) = Some x
only (x ∷ y ∷ ys) = None

-- the item, where it passes the test
abbrev pub passing : {X : Type 0} → (X → Bool) → Option X → Option X
passing test None = None
passing test (Some x) = if test x then Some x else None

-- the text segment: the only one with flag X, where it is a text
abbrev pub text_segment : ProgramImage → Option ImageSegment
text_segment image = passing is_text (only (filter is_executable image.segments))

-- the words of bytes, four bytes each, the lowest first
abbrev pub words_of : List ℕ → List ℕ
words_of (a ∷ b ∷ c ∷ d ∷ bytes) = little_number 4 (a ∷ b ∷ c ∷ d ∷ []) ∷ words_of bytes
words_of _ = []

-- the words of the text segment
abbrev pub text_of : ProgramImage → Option (List ℕ)
text_of image = option_map (λ s. words_of s.init) (text_segment image)
