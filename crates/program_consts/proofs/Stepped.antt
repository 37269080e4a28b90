-- Where steps lead, by distances modulo 2^64 and by the sizes of blocks.
use Rattle.std.specs.Prelude.{◌&&◌, not, if◌then◌else◌}
use Rattle.std.proofs.Common.{arith, ◌≡◌, ℕ, zero, suc, ◌%◌, ◌^◌, Bool, List, [], ◌∷◌, map, length, get_or, replicate, refl, sym, ap, ap₂, ◌∙◌}
use Rattle.std.specs.List.{AllZip}
use Rattle.std.proofs.Math.Nat.{add-mod-mod}
use Rattle.std.proofs.lemmas.List.{length-replicate}
use Rattle.ir_tree.specs.Shape.{GlobalShape, ModuleShape, NamedTyShape}
use Rattle.ir_model.specs.Values.{Pointer, Value, Integer, Address, Poison, MemoryBlock, Unknown, live_block}
use Rattle.ir_model.specs.Memory.{size_of}
use Rattle.ir_model.specs.Pointers.{Stride, is_in_block, stepped, stepped_if, walked}
use Rattle.ir_program.specs.Sizes.{ty_size}
use Rattle.ir_program.specs.Strides.{Index, scaled_only}
use Rattle.ir_program.specs.Constants.{rooms}
use Rattle.program_consts.specs.Rooms.{block_sizes, AreSizesOf}
use Rattle.program_consts.specs.Walks.{Counts, index_value, whole_length}
use Rattle.program_consts.proofs.Numbered.{far_is}

-- the size of a block, by the list of sizes
size_kept : (memory : List MemoryBlock) (k : ℕ) → get_or (map (λ b. length b.cells) memory) k 0 ≡ size_of memory k
size_kept [] k = refl
size_kept (b ∷ memory) zero = refl
size_kept (b ∷ memory) (suc k) = size_kept memory k

pub size_is : (memory : List MemoryBlock) (sizes : List ℕ) (k : ℕ) → AreSizesOf memory sizes → get_or sizes k 0 ≡ size_of memory k
size_is memory sizes k are = ap (λ (xs : List ℕ). get_or xs k 0) are ∙ size_kept memory k

-- the sizes of the blocks that are there at the start
rooms_long : (ts : List NamedTyShape) (gs : List GlobalShape)
    → map (λ g. ty_size ts g.ty) gs ≡ map (λ b. length b.cells) (map (λ g. live_block (replicate (ty_size ts g.ty) Unknown)) gs)
rooms_long ts [] = refl
rooms_long ts (g ∷ gs) = ap₂ (λ (n : ℕ) (ns : List ℕ). n ∷ ns) (sym (length-replicate (ty_size ts g.ty) Unknown)) (rooms_long ts gs)

pub rooms_sized : (m : ModuleShape) (sizes : List ℕ) → sizes ≡ block_sizes m → AreSizesOf (rooms m) sizes
rooms_sized m sizes are = are ∙ ap (λ (ns : List ℕ). 0 ∷ ns) (rooms_long m.types m.globals)

-- a distance counts modulo 2^64
pub stepped_cut : (inbounds : Bool) (memory : List MemoryBlock) (q : Pointer) (far : ℕ) → stepped inbounds memory q (far % 2 ^ 64) ≡ stepped inbounds memory q far
stepped_cut inbounds memory q far =
    ap (λ (r : Pointer). if inbounds && not (is_in_block memory q && is_in_block memory r) then Poison else Address r)
    (ap (λ (offset : ℕ). record q { offset = offset }) (add-mod-mod q.offset far (2 ^ 64)))

-- without steps, and from what is no address
pub walked_nowhere : (inbounds : Bool) (strides : List Stride) (memory : List MemoryBlock) (v : Value) (indices : List Value) → length strides ≡ 0
    → walked inbounds strides memory v indices ≡ v
walked_nowhere inbounds [] memory v indices none = refl
walked_nowhere inbounds (s ∷ strides) memory v indices none = absurd (omega (arith, none))

-- an integer or poison
abbrev pub IsNoAddress : Value → Type 0
IsNoAddress (Integer width n) = Unit {0}
IsNoAddress (Address q) = ⊥
IsNoAddress Poison = Unit {0}

pub walked_off : (inbounds : Bool) (strides : List Stride) (memory : List MemoryBlock) (v : Value) (indices : List Value) → (length strides ≡ 0 → ⊥)
    → IsNoAddress v → walked inbounds strides memory v indices ≡ Poison
walked_off inbounds [] memory v indices some isnt = absurd (some refl)
walked_off inbounds (s ∷ strides) memory (Integer width n) indices some isnt = refl
walked_off inbounds (s ∷ strides) memory (Address q) indices some isnt = absurd isnt
walked_off inbounds (s ∷ strides) memory Poison indices some isnt = refl

-- from an address
pub walked_far : (inbounds : Bool) (strides : List Stride) (memory : List MemoryBlock) (q : Pointer) (indices : List Index) → (length strides ≡ 0 → ⊥)
    → AllZip Counts strides indices
    → walked inbounds strides memory (Address q) (scaled_only strides (map index_value indices)) ≡ stepped inbounds memory q (whole_length strides indices)
walked_far inbounds [] memory q indices some counted = absurd (some refl)
walked_far inbounds (s ∷ strides) memory q indices some counted = ap (stepped_if inbounds memory q) (far_is (s ∷ strides) indices counted)
