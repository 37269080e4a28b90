-- What a load finds after a store.
use Rattle.std.specs.Prelude.{◌≡◌, ◌≤◌, ◌<◌, ℕ, zero, suc, ◌+◌, ◌^◌, ◌==◌, nat_le, ◌&&◌, Bool, true, false, if◌then◌else◌, List, [], ◌∷◌, length, map, replicate, Option, Some, None, is_some, slice_set}
use Rattle.std.specs.Int.{bytes_low_first}
use Rattle.std.specs.Simd.Lanes.{chunk, put_chunk}
use Rattle.std.proofs.Common.{arith, ap, ap₂, sym, refl, subst, ◌∙◌, inl, inr, eq-eqb, eqb-true, leb-true, true≢false, get_or-set_same, get_or-set_other}
use Rattle.std.proofs.lemmas.Simd.{length-put_chunk}
use Rattle.ir_model.specs.declared.Why.{Why}
use Rattle.ir_model.specs.declared.Why.TheVariants as why
use Rattle.ir_model.specs.declared.Access.{Access}
use Rattle.ir_model.specs.declared.Access.TheVariants.{I8, I16, I32, I64, Ptr}
use Rattle.ir_model.specs.Values.{Pointer, Value, Integer, Address, Poison, Cell, Byte, MemoryBlock, Gives, null_pointer, is_null, no_block}
use Rattle.ir_model.specs.Memory.{block_at, access_size, access_fault, unless_fault, number_in, integer_of, are_parts, parts_from, address_in, value_in, cells_of, cells_at, load_at, overwritten, stored}
use Rattle.ir_model.specs.MemoryFacts.{Carries, ShareNoByte}
use Rattle.ir_model.proofs.Spelled.{spelled}
use Rattle.ir_model.proofs.Chunks.{chunk_put, chunk_below, chunk_above}

-- a number equals itself
same : (n : ℕ) → (n == n) ≡ true
same n = eq-eqb n n refl

both : (a b c : Bool) → a ≡ true → b ≡ true → c ≡ true → (a && b && c) ≡ true
both a b c x y z = cc

-- the parts of an address are its parts
parts_match : (q : Pointer) (k count : ℕ) → are_parts q k (parts_from k count q) ≡ true
parts_match q k zero = refl
parts_match q k (suc count) =
    ap (λ (b : Bool). b && are_parts q (suc k) (parts_from (suc k) count q))
    (both (q.block == q.block) (q.offset == q.offset) (k == k) (same q.block) (same q.offset) (same k))
    ∙ parts_match q (suc k) count

-- null is the address that is null
both_true : (a b : Bool) → (a && b) ≡ true → (a ≡ true) × (b ≡ true)
both_true true b h = (refl, h)
both_true false b h = absurd (true≢false (sym h))

null_is : (q : Pointer) → is_null q ≡ true → null_pointer ≡ q
null_is q is =
    let parts = both_true (q.block == 0) (q.offset == 0) is in
    ap₂ (λ (b o : ℕ). record { block = b; offset = o }) (sym (eqb-true q.block 0 parts.0)) (sym (eqb-true q.offset 0 parts.1))

-- the bytes of an address hold it, whether it is null or not
address_held : (q : Pointer) (null : Bool) → is_null q ≡ null → address_in (if null then replicate 8 (Byte 0) else parts_from 0 8 q) ≡ Address q
address_held q true is = ap Address (null_is q is)
address_held q false is = ap (λ (b : Bool). if b then Address q else Poison) (parts_match q 0 8)

address_long : (q : Pointer) (null : Bool) → length (if null then replicate 8 (Byte 0) else parts_from 0 8 q) ≡ 8
address_long q true = refl
address_long q false = refl

-- an integer's bytes hold it
integer_held : (bits k width n : ℕ) → width ≡ bits → n < 256 ^ k → integer_of bits (number_in (map Byte (bytes_low_first 0 k n))) ≡ Integer width n
integer_held bits k width n is lt = ap (integer_of bits) (spelled k n lt) ∙ ap (λ (w : ℕ). Integer w n) (sym is)

-- the bytes of a value hold it
pub value_held : (access : Access) (v : Value) → Carries access v → value_in access (cells_of access v) ≡ v
value_held I8 (Integer width n) fits = integer_held 8 1 width n fits.0 fits.1
value_held I16 (Integer width n) fits = integer_held 16 2 width n fits.0 fits.1
value_held I32 (Integer width n) fits = integer_held 32 4 width n fits.0 fits.1
value_held I64 (Integer width n) fits = integer_held 64 8 width n fits.0 fits.1
value_held Ptr (Integer width n) fits = absurd fits
value_held I8 (Address q) fits = absurd fits
value_held I16 (Address q) fits = absurd fits
value_held I32 (Address q) fits = absurd fits
value_held I64 (Address q) fits = absurd fits
value_held Ptr (Address q) fits = address_held q (is_null q) refl
value_held I8 Poison fits = refl
value_held I16 Poison fits = refl
value_held I32 Poison fits = refl
value_held I64 Poison fits = refl
value_held Ptr Poison fits = refl

-- and are as many as the access moves
pub cells_long : (access : Access) (v : Value) → Carries access v → length (cells_of access v) ≡ access_size access
cells_long I8 (Integer width n) fits = refl
cells_long I16 (Integer width n) fits = refl
cells_long I32 (Integer width n) fits = refl
cells_long I64 (Integer width n) fits = refl
cells_long Ptr (Integer width n) fits = absurd fits
cells_long I8 (Address q) fits = absurd fits
cells_long I16 (Address q) fits = absurd fits
cells_long I32 (Address q) fits = absurd fits
cells_long I64 (Address q) fits = absurd fits
cells_long Ptr (Address q) fits = address_long q (is_null q)
cells_long I8 Poison fits = refl
cells_long I16 Poison fits = refl
cells_long I32 Poison fits = refl
cells_long I64 Poison fits = refl
cells_long Ptr Poison fits = refl

-- what a block has in common with the one in whose place it is set, each block has with the one before
pub common_stays : {X : Type 0} (P : MemoryBlock → X) (memory : List MemoryBlock) (k j : ℕ) (b : MemoryBlock) → P b ≡ P (block_at memory k)
    → P (block_at (slice_set memory k b) j) ≡ P (block_at memory j)
common_stays P [] k j b is = refl
common_stays P (x ∷ xs) zero zero b is = is
common_stays P (x ∷ xs) zero (suc j) b is = refl
common_stays P (x ∷ xs) (suc k) zero b is = refl
common_stays P (x ∷ xs) (suc k) (suc j) b is = common_stays P xs k j b is

-- a store makes no fault and mends none
pub faults_stay : (access other : Access) (v : Value) (q r : Pointer) (memory : List MemoryBlock)
    → access_fault other r (stored access v q memory) ≡ access_fault other r memory
faults_stay access other v q r memory =
    let b : MemoryBlock = overwritten q.offset (cells_of access v) (block_at memory q.block) in
    ap₂ (λ (live : Bool) (size : ℕ). if live then if nat_le (r.offset + access_size other) size then None else Some why.OutOfBounds else Some why.Dead)
    (common_stays (λ (c : MemoryBlock). c.live) memory q.block r.block b refl)
    (common_stays (λ (c : MemoryBlock). length c.cells) memory q.block r.block b (length-put_chunk q.offset (block_at memory q.block).cells (cells_of access v)))

-- a live block is there
live_there : (memory : List MemoryBlock) (k : ℕ) → (block_at memory k).live ≡ true → k < length memory
live_there [] k live = absurd (true≢false (sym live))
live_there (x ∷ xs) zero live = omega arith
live_there (x ∷ xs) (suc k) live = omega (arith, live_there xs k live)

-- an access without a fault is to a live block, and inside of it
no_fault : (live inside : Bool) → (if live then if inside then None else Some why.OutOfBounds else Some why.Dead) ≡ None → (live ≡ true) × (inside ≡ true)
no_fault true true h = (refl, refl)
no_fault true false h = absurd (true≢false (ap is_some h))
no_fault false inside h = absurd (true≢false (ap is_some h))

pub stored_loaded : (access : Access) (v : Value) (q : Pointer) (memory : List MemoryBlock) → Carries access v → access_fault access q memory ≡ None
    → load_at access q (stored access v q memory) ≡ Gives v
stored_loaded access v q memory fits none =
    let b : MemoryBlock = block_at memory q.block in
    let cells : List Cell = cells_of access v in
    let facts = no_fault b.live (nat_le (q.offset + access_size access) (length b.cells)) none in
    let inside : q.offset + access_size access ≤ length b.cells = leb-true (q.offset + access_size access) (length b.cells) facts.1 in
    let long : length cells ≡ access_size access = cells_long access v fits in
    let set : block_at (stored access v q memory) q.block ≡ overwritten q.offset cells b =
    get_or-set_same memory q.block (overwritten q.offset cells b) no_block (live_there memory q.block facts.0) in
    let found : cells_at access q (stored access v q memory) ≡ cells =
    ap (λ (c : MemoryBlock). chunk q.offset (access_size access) c.cells) set
    ∙ ap (λ (n : ℕ). chunk q.offset n (put_chunk q.offset b.cells cells)) (sym long)
    ∙ chunk_put q.offset b.cells cells (subst (λ (n : ℕ). q.offset + n ≤ length b.cells) (sym long) inside) in
    ap₂ (λ (fault : Option Why) (w : Value). unless_fault fault w) (faults_stay access access v q q memory ∙ none) (ap (value_in access) found
    ∙ value_held access v fits)

-- what lies apart is found as before
cells_stay : (access other : Access) (v : Value) (q r : Pointer) (memory : List MemoryBlock) → Carries access v → ShareNoByte access q other r
    → cells_at other r (stored access v q memory) ≡ cells_at other r memory
cells_stay access other v q r memory fits (inl apart) =
    ap (λ (c : MemoryBlock). chunk r.offset (access_size other) c.cells)
    (get_or-set_other memory q.block r.block (overwritten q.offset (cells_of access v) (block_at memory q.block)) no_block apart)
cells_stay access other v q r memory fits (inr (inl above)) =
    common_stays (λ (c : MemoryBlock). chunk r.offset (access_size other) c.cells) memory q.block r.block
    (overwritten q.offset (cells_of access v) (block_at memory q.block))
    (chunk_above q.offset r.offset (access_size other) (block_at memory q.block).cells (cells_of access v)
    (subst (λ (n : ℕ). q.offset + n ≤ r.offset) (sym (cells_long access v fits)) above))
cells_stay access other v q r memory fits (inr (inr below)) =
    common_stays (λ (c : MemoryBlock). chunk r.offset (access_size other) c.cells) memory q.block r.block
    (overwritten q.offset (cells_of access v) (block_at memory q.block))
    (chunk_below q.offset r.offset (access_size other) (block_at memory q.block).cells (cells_of access v) below)

pub loads_stay : (access other : Access) (v : Value) (q r : Pointer) (memory : List MemoryBlock) → Carries access v → ShareNoByte access q other r
    → load_at other r (stored access v q memory) ≡ load_at other r memory
loads_stay access other v q r memory fits apart =
    ap₂ (λ (fault : Option Why) (w : Value). unless_fault fault w) (faults_stay access other v q r memory)
    (ap (value_in other) (cells_stay access other v q r memory fits apart))
