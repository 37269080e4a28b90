-- The slots in which values are kept.
use Rattle.std.proofs.Common.{◌≡◌, ◌<◌, ◌^◌, ◌⊎◌, inl, inr, ℕ, zero, suc, ◌+◌, ◌*◌, Bool, true, false, if◌then◌else◌, List, map, replicate, take, arith, refl, ap₂, sym}
use Rattle.std.specs.Int.{bytes_low_first}
use Rattle.ir_model.specs.declared.Access.{Access}
use Rattle.ir_model.specs.declared.Access.TheVariants.{I8, I16, I32, I64, Ptr}
use Rattle.ir_model.specs.Values.{Pointer, Value, Integer, Address, Poison, Cell, Byte, Unknown, is_null}
use Rattle.ir_model.specs.Memory.{access_size, cells_of, parts_from}
use Rattle.ir_model.specs.MemoryFacts.{Carries}
use Rattle.mem_cells.specs.declared.slots.Slot.{Slot}
use Rattle.mem_cells.specs.Slots.{KeepEach, KeepAddress, slot_in, slots_from, kept_slots, HasWords}
use Rattle.mem_cells.proofs.Rows.{kind_at, AreNoParts, AreWhole, ordered_kinds}
use Rattle.mem_cells.proofs.Words.{low_word_kept, high_word_kept}

-- what is known of the slots of a value, and of the bytes that they keep
pub record AreKept (ss : List Slot) (cs : List Cell) : Type 0 where
  pub each : KeepEach ss cs
  pub kinds : AreNoParts ss ⊎ AreWhole ss
  pub address : AreWhole ss → KeepAddress ss cs

-- slots of one kind, which is none of a part, are no parts
small_kinds : (first low high k n m : ℕ) → first < 2 → (i : ℕ) → kind_at (take m (slots_from (slot_in first 0 low high) k n)) i < 2
small_kinds first low high k n zero small i = omega arith
small_kinds first low high k zero (suc m) small i = omega arith
small_kinds first low high k (suc n) (suc m) small zero = let e : first + 0 * k < 2 = omega arith in e
small_kinds first low high k (suc n) (suc m) small (suc i) = small_kinds first low high (suc k) n m small i

-- they are kept
no_parts : (first low high m : ℕ) (cs : List Cell) → first < 2 → KeepEach (take m (slots_from (slot_in first 0 low high) 0 8)) cs
    → AreKept (take m (slots_from (slot_in first 0 low high) 0 8)) cs
no_parts first low high m cs small keep =
    let ss : List Slot = take m (slots_from (slot_in first 0 low high) 0 8) in
    record {
      each = keep;
      kinds = inl (λ i lt. small_kinds first low high 0 8 m small i);
      address = λ whole. absurd (
          let long = whole.eight in
          let kind : kind_at ss 0 ≡ 2 + 0 + 0 = ordered_kinds 0 ss whole.ordered 0 (omega (arith, long)) in
          let less : kind_at ss 0 < 2 = small_kinds first low high 0 8 m small 0 in
          omega (arith, kind, less));
    }

number_kept : (k n : ℕ) (access : Access) → AreKept (take (access_size access) (slots_from (slot_in 1 0 n 0) 0 8)) (map Byte (bytes_low_first 0 (access_size access) n))
number_kept k n I8 = no_parts 1 n 0 1 _ (omega arith) ((refl, refl), tt)
number_kept k n I16 = no_parts 1 n 0 2 _ (omega arith) ((refl, refl), ((refl, refl), tt))
number_kept k n I32 = no_parts 1 n 0 4 _ (omega arith) ((refl, refl), ((refl, refl), ((refl, refl), ((refl, refl), tt))))
number_kept k n I64 = no_parts 1 n 0 8 _ (omega arith)
    ((refl, refl), ((refl, refl), ((refl, refl), ((refl, refl), ((refl, refl), ((refl, refl), ((refl, refl), ((refl, refl), tt))))))))
number_kept k n Ptr = no_parts 1 n 0 8 _ (omega arith)
    ((refl, refl), ((refl, refl), ((refl, refl), ((refl, refl), ((refl, refl), ((refl, refl), ((refl, refl), ((refl, refl), tt))))))))

poison_kept : (access : Access) → AreKept (take (access_size access) (slots_from (slot_in 0 0 0 0) 0 8)) (replicate (access_size access) Unknown)
poison_kept I8 = no_parts 0 0 0 1 _ (omega arith) (refl, tt)
poison_kept I16 = no_parts 0 0 0 2 _ (omega arith) (refl, (refl, tt))
poison_kept I32 = no_parts 0 0 0 4 _ (omega arith) (refl, (refl, (refl, (refl, tt))))
poison_kept I64 = no_parts 0 0 0 8 _ (omega arith) (refl, (refl, (refl, (refl, (refl, (refl, (refl, (refl, tt))))))))
poison_kept Ptr = no_parts 0 0 0 8 _ (omega arith) (refl, (refl, (refl, (refl, (refl, (refl, (refl, (refl, tt))))))))

-- an address that isn't null
parts_kept : (q : Pointer) → q.block < 2 ^ 64 → q.offset < 2 ^ 64 → AreKept (slots_from (slot_in 2 1 q.offset q.block) 0 8) (parts_from 0 8 q)
parts_kept q block offset = record {
  each = (refl, (refl, (refl, (refl, (refl, (refl, (refl, (refl, tt))))))));
  kinds = inr (record { eight = refl; ordered = refl });
  address = λ whole are. ap₂ (λ (b o : ℕ). parts_from 0 8 (record { block = b; offset = o }))
      (sym (high_word_kept 2 1 q.offset q.block block)) (sym (low_word_kept 2 1 q.offset q.block offset));
}

address_kept : (q : Pointer) (null : Bool) → q.block < 2 ^ 64 → q.offset < 2 ^ 64
    → AreKept (take 8 (if null then slots_from (slot_in 1 0 0 0) 0 8 else slots_from (slot_in 2 1 q.offset q.block) 0 8))
    (if null then replicate 8 (Byte 0) else parts_from 0 8 q)
address_kept q true block offset = number_kept 0 0 I64
address_kept q false block offset = parts_kept q block offset

-- the slots of a value keep its bytes
pub value_kept : (access : Access) (v : Value) → Carries access v → HasWords v → AreKept (take (access_size access) (kept_slots v)) (cells_of access v)
value_kept access (Integer width n) fits words = number_kept 0 n access
value_kept access Poison fits words = poison_kept access
value_kept I8 (Address q) fits words = absurd fits
value_kept I16 (Address q) fits words = absurd fits
value_kept I32 (Address q) fits words = absurd fits
value_kept I64 (Address q) fits words = absurd fits
value_kept Ptr (Address q) fits words = address_kept q (is_null q) words.0 words.1
