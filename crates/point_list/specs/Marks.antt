-- Marks: registers of words, kept as a number a word, whose bit r is 1 where register r is marked.
use Rattle.std.specs.Prelude.{◌≡◌, ◌<◌, ℕ, IsTrue, zero, suc, ◌+◌, ◌*◌, Bool, ◌==◌, ◌&&◌, if◌then◌else◌, List, [], ◌∷◌, ◌++◌, length, slice_index}
use Rattle.std.specs.Int.{bit_at}
use Rattle.point_list.specs.declared.list.Point.{Point}

-- register r of word k is marked
abbrev pub is_marked : List ℕ → ℕ → ℕ → Bool
is_marked marks k r = bit_at (slice_index marks k) r == 1

-- the point is a marked register of a word of the text
abbrev pub IsMarkedPoint : ℕ → List ℕ → Point → Type 0
IsMarkedPoint base marks p = (k : ℕ) × (k < length marks) × (p.pc ≡ base + 4 * k) × IsTrue (is_marked marks k p.reg)

-- the point is register r of word k of a text
abbrev pub is_at : ℕ → ℕ → ℕ → Point → Bool
is_at base k r p = p.pc == base + 4 * k && p.reg == r

-- the points of the marked registers below n of a word at an address
unfoldable pub points_at : ℕ → ℕ → ℕ → List Point
points_at pc mark zero = []
points_at pc mark (suc n) = points_at pc mark n ++ (if bit_at mark n == 1 then record { pc = pc; reg = n } ∷ [] else [])

-- the points of the marks of the first n words of a text
unfoldable pub points_of : ℕ → List ℕ → ℕ → List Point
points_of base marks zero = []
points_of base marks (suc n) = points_of base marks n ++ points_at (base + 4 * n) (slice_index marks n) 32
