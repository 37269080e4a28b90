-- The blocks of memory that activations own: which blocks are live, and that none is owned twice.
use Rattle.std.specs.Prelude.{◌≡◌, ◌≤◌, ◌<◌, ◌⊎◌, ◌↔◌, ⊤, ℕ, true, List, [], ◌∷◌, ◌++◌, length}
use Rattle.std.specs.List.{Contains}
use Rattle.ir_model.specs.Values.{MemoryBlock}
use Rattle.ir_model.specs.Memory.{block_at}
use Rattle.ir_model.specs.Programs.{Program}
use Rattle.ir_model.specs.States.{Activation, State}
use Rattle.ir_typed_runs.specs.TypedPrograms.{first_blocks}

-- the blocks that activations own, the youngest first
abbrev pub owned_by : List Activation → List ℕ
owned_by [] = []
owned_by (a ∷ rest) = a.owned ++ owned_by rest

-- each number is below the one before it, and the first below a bound
abbrev pub Descends : ℕ → List ℕ → Type 0
Descends bound [] = ⊤
Descends bound (k ∷ ks) = (k < bound) × Descends k ks

-- numbers of blocks are those that are owned, where so many blocks were there at the start: they exist, each is there once, none is one
-- of the start; and a block is live just if it is one of the start or is owned
pub record AreOwned (first : ℕ) (memory : List MemoryBlock) (owned : List ℕ) : Type 0 where
  pub once : Descends (length memory) owned
  pub later : (k : ℕ) → Contains owned k → first ≤ k
  pub live : (k : ℕ) → ((block_at memory k).live ≡ true) ↔ ((k < first) ⊎ Contains owned k)

-- in a state, the activations own blocks so: those of null and of the globals belong to none
abbrev pub HasOwnBlocks : Program → State → Type 0
HasOwnBlocks p s = AreOwned (first_blocks p) s.memory (owned_by s.stack)
