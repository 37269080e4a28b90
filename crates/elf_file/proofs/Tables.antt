-- How far the program headers have been read.
use Rattle.std.proofs.Common.{◌≡◌, ℕ, suc, ◌+◌, ◌-◌, ◌*◌, ◌<◌, ◌≤◌, Bool, true, false, List, [], ◌∷◌, ◌++◌, length, drop, filter, refl, ap, sym, ◌∙◌, arith, append_assoc, length-drop}
use Rattle.std.proofs.lemmas.Bool.{and_left, eq-eqb, ne_eqb}
use Rattle.std.specs.List.{list_all}
use Rattle.elf_file.specs.declared.header.ProgramHeader.{ProgramHeader}
use Rattle.elf_file.specs.Reading.{is_good_header, is_load, program_header, program_headers}

-- what is left of n headers of a table: the loads among the n - k that begin at the rest
abbrev pub loads_left : ℕ → ℕ → List ℕ → List ProgramHeader
loads_left n k rest = filter is_load (program_headers (n - k) rest)

-- k of the n headers have been read: those kept and those still to come are all, and the rest of the table
-- has room for those still to come
pub record Kept (n k : ℕ) (table rest : List ℕ) (kept : List ProgramHeader) : Type 0 where
  pub all : filter is_load (program_headers n table) ≡ kept ++ loads_left n k rest
  pub room : 56 * (n - k) ≤ length rest

-- k of the n headers have been read, and placed their segments well: all do if those still to come do
pub record Placed (size n k : ℕ) (table rest : List ℕ) : Type 0 where
  pub all : list_all (is_good_header size) (filter is_load (program_headers n table))
      ≡ list_all (is_good_header size) (loads_left n k rest)
  pub room : 56 * (n - k) ≤ length rest

-- the next header is the first of those left
left_next : (n k : ℕ) (rest : List ℕ) → k < n → loads_left n k rest ≡ filter is_load (program_header rest ∷ program_headers (n - (k + 1)) (drop 56 rest))
left_next n k rest h =
    let one_more : n - k ≡ suc (n - (k + 1)) = omega arith in
    ap (λ m. filter is_load (program_headers m rest)) one_more

-- it is kept
left_kept : (n k : ℕ) (rest : List ℕ) → k < n → is_load (program_header rest) ≡ true
    → loads_left n k rest ≡ program_header rest ∷ loads_left n (k + 1) (drop 56 rest)
left_kept n k rest h loads = left_next n k rest h ∙ rw loads refl

-- it is passed over
left_passed : (n k : ℕ) (rest : List ℕ) → k < n → is_load (program_header rest) ≡ false
    → loads_left n k rest ≡ loads_left n (k + 1) (drop 56 rest)
left_passed n k rest h passes = left_next n k rest h ∙ rw passes refl

room_left : (n k : ℕ) (rest : List ℕ) → k < n → 56 * (n - k) ≤ length rest → 56 * (n - (k + 1)) ≤ length (drop 56 rest)
room_left n k rest h room = omega (arith, length-drop {A = ℕ} 56 rest)

pub kept_more : (n k : ℕ) (table rest rest' : List ℕ) (kept kept' : List ProgramHeader)
    → k < n → is_load (program_header rest) ≡ true → Kept n k table rest kept
    → rest' ≡ drop 56 rest → kept' ≡ kept ++ program_header rest ∷ []
    → Kept n (k + 1) table rest' kept'
kept_more n k table rest rest' kept kept' h loads before moved more =
    let at : Kept n (k + 1) table (drop 56 rest) (kept ++ program_header rest ∷ []) = record {
      all = before.all ∙ ap (λ left. kept ++ left) (left_kept n k rest h loads)
          ∙ sym (append_assoc kept (program_header rest ∷ []) (loads_left n (k + 1) (drop 56 rest)));
      room = room_left n k rest h before.room;
    } in
    rw (moved, more) at

pub kept_same : (n k : ℕ) (table rest rest' : List ℕ) (kept kept' : List ProgramHeader)
    → k < n → is_load (program_header rest) ≡ false → Kept n k table rest kept
    → rest' ≡ drop 56 rest → kept' ≡ kept
    → Kept n (k + 1) table rest' kept'
kept_same n k table rest rest' kept kept' h passes before moved same =
    let at : Kept n (k + 1) table (drop 56 rest) kept = record {
      all = before.all ∙ ap (λ left. kept ++ left) (left_passed n k rest h passes);
      room = room_left n k rest h before.room;
    } in
    rw (moved, same) at

pub placed_more : (size n k : ℕ) (table rest rest' : List ℕ)
    → k < n → is_load (program_header rest) ≡ true → is_good_header size (program_header rest) ≡ true
    → Placed size n k table rest → rest' ≡ drop 56 rest → Placed size n (k + 1) table rest'
placed_more size n k table rest rest' h loads good before moved =
    let at : Placed size n (k + 1) table (drop 56 rest) = record {
      all = before.all ∙ ap (list_all (is_good_header size)) (left_kept n k rest h loads) ∙ rw good refl;
      room = room_left n k rest h before.room;
    } in
    rw moved at

pub placed_same : (size n k : ℕ) (table rest rest' : List ℕ)
    → k < n → is_load (program_header rest) ≡ false
    → Placed size n k table rest → rest' ≡ drop 56 rest → Placed size n (k + 1) table rest'
placed_same size n k table rest rest' h passes before moved =
    let at : Placed size n (k + 1) table (drop 56 rest) = record {
      all = before.all ∙ ap (list_all (is_good_header size)) (left_passed n k rest h passes);
      room = room_left n k rest h before.room;
    } in
    rw moved at

-- one that does not place its segment well
pub placed_badly : (size n k : ℕ) (table rest : List ℕ)
    → k < n → is_load (program_header rest) ≡ true → is_good_header size (program_header rest) ≡ false
    → Placed size n k table rest
    → list_all (is_good_header size) (filter is_load (program_headers n table)) ≡ false
placed_badly size n k table rest h loads bad before =
    before.all ∙ ap (list_all (is_good_header size)) (left_kept n k rest h loads) ∙ and_left (is_good_header size (program_header rest)) _ bad

-- what the code found of the header that it read
pub load_seen : (h h' : ProgramHeader) → h ≡ h' → h.p_type ≡ 1 → is_load h' ≡ true
load_seen h h' same is = ap is_load (sym same) ∙ eq-eqb h.p_type 1 is

pub skip_seen : (h h' : ProgramHeader) → h ≡ h' → (h.p_type ≡ 1 → ⊥) → is_load h' ≡ false
skip_seen h h' same is = ap is_load (sym same) ∙ ne_eqb h.p_type 1 is

pub good_seen : (size : ℕ) (h h' : ProgramHeader) (b : Bool) → h ≡ h' → b ≡ is_good_header size h → is_good_header size h' ≡ b
good_seen size h h' b same is = ap (is_good_header size) (sym same) ∙ sym is
