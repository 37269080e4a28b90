-- What lies in memory, and what a store changes. Bytes that are read, written or executed lie in one segment with that flag.
use Rattle.std.specs.Prelude.{ℕ, zero, suc, ◌+◌, ◌-◌, ◌/◌, ◌%◌, ◌==◌, ◌&&◌, nat_le, Bool, List, [], ◌∷◌, length, Option, Some, None, if◌then◌else◌, slice_range}
use Rattle.std.specs.Option.{option_map}
use Rattle.byteorder.specs.Endian.{little_number}
use borrow.Rule.Slice.PartMut.{put_mid}
use Rattle.rv_model.specs.State.{LoadedSegment}

-- the flags of a segment
abbrev pub executed : ℕ
executed = 1

abbrev pub written : ℕ
written = 2

abbrev pub read : ℕ
read = 4

-- the segment has the flag, and all of the count bytes at the address
abbrev pub serves : ℕ → ℕ → ℕ → LoadedSegment → Bool
serves flag address count g =
    g.flags / flag % 2 == 1 && (nat_le g.base address && nat_le (address + count) (g.base + length g.bytes))

-- the count bytes at the address, where a segment with the flag has them
unfoldable pub bytes_at : ℕ → ℕ → ℕ → List LoadedSegment → Option (List ℕ)
bytes_at flag address count [] = None
bytes_at flag address count (g ∷ gs) =
    if serves flag address count g then Some (slice_range g.bytes (address - g.base) (address - g.base + count)) else bytes_at flag address count gs

-- the segment after the bytes were written at the address
abbrev pub overwritten : ℕ → List ℕ → LoadedSegment → LoadedSegment
overwritten address xs g = record g { bytes = put_mid (address - g.base) (length xs) g.bytes xs }

-- the memory after the bytes were written at the address, where a segment may be written there
unfoldable pub stored : ℕ → List ℕ → List LoadedSegment → Option (List LoadedSegment)
stored address xs [] = None
stored address xs (g ∷ gs) =
    if serves written address (length xs) g
    then Some (overwritten address xs g ∷ gs)
    else option_map (λ rest. g ∷ rest) (stored address xs gs)

-- the count bytes at the address, of which none need no place
abbrev pub bytes_for : ℕ → ℕ → List LoadedSegment → Option (List ℕ)
bytes_for address zero segments = Some []
bytes_for address (suc count) segments = bytes_at read address (suc count) segments

-- the memory after the bytes were written at the address, of which none need no place
abbrev pub kept_in : ℕ → List ℕ → List LoadedSegment → Option (List LoadedSegment)
kept_in address [] segments = Some segments
kept_in address (x ∷ xs) segments = stored address (x ∷ xs) segments

-- the word at an address that is a multiple of 4, where it can be executed; its lowest byte comes first
unfoldable pub word_at : ℕ → List LoadedSegment → Option ℕ
word_at p segments = if p % 4 == 0 then option_map (little_number 4) (bytes_at executed p 4 segments) else None
