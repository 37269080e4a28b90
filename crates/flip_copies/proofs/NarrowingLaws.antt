-- What is known is narrowed to values in slots.
use Rattle.std.proofs.Common.{◌≡◌, ◌≢◌, ℕ, ◌+◌, ◌/◌, ◌==◌, Bool, true, false, cond, List, [], ◌∷◌, Option, refl, ap, ◌∙◌, subst, arith}
use Rattle.std.proofs.lemmas.Bool.Decides.{nat_tests}
use Rattle.rv_flips.specs.Cells.{Tag, One, Two, Three, Cell, Free, SaysLess}
use Rattle.rv_flips.specs.Assertion.{KnownByte, AnyByte, ByteSaysLess, with_register}
use Rattle.rv_flips.proofs.CellLemmas.{with_register-same, with_register-other, says_same, says_free}
use Rattle.flip_words.specs.Memory.{without_bytes}
use Rattle.flip_words.proofs.LessLemmas.{says_again}
use Rattle.flip_frames.specs.Views.{Stage, version}
use Rattle.flip_versions.specs.Operations.{stored, defined}
use Rattle.flip_jumps.specs.Places.{StageSaysLess}
use Rattle.flip_versions.proofs.VersionLaws.{defined_hold}
use Rattle.flip_copies.proofs.CopyLaws.{holds_defined}
use Rattle.flip_frames.specs.Fetching.{Triple}
use Rattle.flip_copies.specs.Narrowing.{AllClear, AreSeparate, HeldValue, AreHeld, forgotten, knowing}

cell_forgotten : (gone : Bool) (cell : Cell) → SaysLess cell (cond gone Free cell)
cell_forgotten true cell = says_free cell
cell_forgotten false cell = says_again cell

byte_forgotten : (gone : Bool) (byte : KnownByte) → ByteSaysLess byte (cond gone AnyByte byte)
byte_forgotten true byte x h = tt
byte_forgotten false byte x h = h

all_forgotten : (gone : ℕ → Bool) (g : Stage) → StageSaysLess g (forgotten gone g)
all_forgotten gone g =
    record {
      base = refl;
      places = λ r. says_again (g.places r);
      slots = λ k. cell_forgotten (gone k) (g.slots k);
      bytes = λ o. byte_forgotten (gone (o / 8)) (g.bytes o);
      size = refl;
      input = refl;
      out = refl;
    }

bytes_written : (more less : ℕ → KnownByte) (k : ℕ) → ((o : ℕ) → ByteSaysLess (more o) (less o)) → (o : ℕ) → ByteSaysLess (more o) (without_bytes less k o)
unfolding without_bytes
bytes_written more less k says o x h = byte_forgotten (o / 8 == k) (less o) x (says o x h)

-- a place of which the cell is said
cell_said : (more less : ℕ → Cell) (d : ℕ) (cell : Cell) → ((k : ℕ) → SaysLess (more k) (less k)) → more d ≡ cell → (k : ℕ) → SaysLess (more k) (with_register less d cell k)
cell_said more less d cell says own k = by_place (k == d) refl
  where
    by_place : (b : Bool) → (k == d) ≡ b → SaysLess (more k) (with_register less d cell k)
    by_place true e =
        let same : d ≡ k = grind (arith, nat_tests) in
        let P : ℕ → Type 0 = λ q. SaysLess (more q) (with_register less d cell q) in
        subst P same (rw (with_register-same less d cell) (says_same (more d) cell own))
    by_place false e =
        let other : k ≢ d = grind (arith, nat_tests) in
        rw (with_register-other less d k cell other) (says k)

-- a slot that holds a version, where less is known of the others
stored_says : (g h : Stage) (n : ℕ) (tag : Tag) (o : Option ℕ) → StageSaysLess g h → g.slots (g.base + n) ≡ version tag o → StageSaysLess g (stored h n tag o)
stored_says g h n tag o says holds =
    let there : g.slots (h.base + n) ≡ version tag o = ap (λ b. g.slots (b + n)) says.base ∙ holds in
    record {
      base = says.base;
      places = says.places;
      slots = cell_said g.slots h.slots (h.base + n) (version tag o) says.slots there;
      bytes = bytes_written g.bytes h.bytes (h.base + n) says.bytes;
      size = says.size;
      input = says.input;
      out = says.out;
    }

pub narrowed : (gone : ℕ → Bool) (g : Stage) (xs : List HeldValue) (values : ℕ → Option ℕ) → AreHeld g xs values → StageSaysLess g (knowing gone g xs values)
narrowed gone g [] values held = all_forgotten gone g
narrowed gone g (x ∷ xs) values held =
    let h = knowing gone g xs values in
    let d = x.slots in
    let o = values x.id in
    stored_says g (stored (stored h d.one One o) d.two Two o) d.three Three o
    (stored_says g (stored h d.one One o) d.two Two o
    (stored_says g h d.one One o (narrowed gone g xs values held.1) held.0.one) held.0.two) held.0.three

still_held : (g : Stage) (d : Triple) (o : Option ℕ) (xs : List HeldValue) (values : ℕ → Option ℕ) → AreHeld g xs values → AllClear d xs → AreHeld (defined g d o) xs values
still_held g d o [] values held clear = tt
still_held g d o (x ∷ xs) values held clear = (holds_defined g d x.slots (values x.id) o held.0 clear.0, still_held g d o xs values held.1 clear.1)

pub narrowed_holds : (gone : ℕ → Bool) (g : Stage) (xs : List HeldValue) (values : ℕ → Option ℕ) → AreSeparate xs → AreHeld (knowing gone g xs values) xs values
narrowed_holds gone g [] values separate = tt
narrowed_holds gone g (x ∷ xs) values separate =
    let h = knowing gone g xs values in
    (defined_hold h x.slots (values x.id) separate.0, still_held h x.slots (values x.id) xs values (narrowed_holds gone g xs values separate.2) separate.1)
