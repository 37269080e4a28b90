-- What the laws of memory speak of: which values an access moves, which accesses lie apart, and what stays of blocks.
use Rattle.std.specs.Prelude.{◌≡◌, ◌≢◌, ◌≤◌, ◌<◌, ◌⊎◌, ⊤, ℕ, ◌+◌, ◌^◌, false, List, length}
use Rattle.ir_model.specs.declared.Access.{Access}
use Rattle.ir_model.specs.declared.Access.TheVariants.{I8, I16, I32, I64, Ptr}
use Rattle.ir_model.specs.Values.{Pointer, Value, Integer, Address, Poison, MemoryBlock}
use Rattle.ir_model.specs.Memory.{block_at, size_of, access_size}

-- a number is one of so many bits
abbrev pub IsOfBits : ℕ → ℕ → ℕ → Type 0
IsOfBits bits width n = (width ≡ bits) × (n < 2 ^ bits)

-- which values an access moves: poison, an integer of its width, and by `Ptr` an address
abbrev pub Carries : Access → Value → Type 0
Carries access Poison = ⊤
Carries I8 (Integer width n) = IsOfBits 8 width n
Carries I16 (Integer width n) = IsOfBits 16 width n
Carries I32 (Integer width n) = IsOfBits 32 width n
Carries I64 (Integer width n) = IsOfBits 64 width n
Carries Ptr (Integer width n) = ⊥
Carries I8 (Address q) = ⊥
Carries I16 (Address q) = ⊥
Carries I32 (Address q) = ⊥
Carries I64 (Address q) = ⊥
Carries Ptr (Address q) = ⊤

-- two accesses share no byte
abbrev pub ShareNoByte : Access → Pointer → Access → Pointer → Type 0
ShareNoByte access q other r = (r.block ≢ q.block) ⊎ (q.offset + access_size access ≤ r.offset) ⊎ (r.offset + access_size other ≤ q.offset)

-- what stays of the blocks of memory, whatever is done: there are never fewer, none changes its size, and none that is dead lives again
pub record KeepsBlocks (before later : List MemoryBlock) : Type 0 where
  pub count : length before ≤ length later
  pub sizes : (k : ℕ) → k < length before → size_of later k ≡ size_of before k
  pub dead : (k : ℕ) → k < length before → (block_at before k).live ≡ false → (block_at later k).live ≡ false
