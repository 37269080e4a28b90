-- Guarded sequences word by word. The registers that are kept for sure at a word are found in windows of the code by computation.
use Rattle.std.proofs.Common.{◌≡◌, ◌≢◌, ℕ, zero, suc, ◌+◌, ◌-◌, ◌*◌, ◌<◌, ◌≤◌, ◌==◌, inl, inr, Bool, true, false, cond, List, [], ◌∷◌, ◌++◌, length, take, drop, Option, Some, None, refl, sym, ◌∙◌, ap, subst, arith, length-take, length-drop}
use Rattle.std.specs.Prelude.{◌&&◌}
use Rattle.std.proofs.lemmas.Bool.{and_parts}
use Rattle.std.proofs.lemmas.Bool.Decides.{nat_tests}
use Rattle.rv_inst.specs.declared.instruction.Form.{Form}
use Rattle.rv_model.specs.Text.{StandsAll}
use Rattle.rv_flips.specs.Cells.{Tag, Sure, One, Two, Three, Plain, Code, Leaf, Cell, Free, Has, SaysLess}
use Rattle.rv_flips.specs.Assertion.{KnowsLess, with_register, after_write}
use Rattle.rv_flips.specs.Known.{IsOneOf, Sures, AllListed}
use Rattle.rv_flips.specs.Moves.{Covered, Moves}
use Rattle.rv_flips.proofs.CellLemmas.{with_register-same, with_register-other, says_free}
use Rattle.rv_flips.proofs.KnownRegisters.{covered}
use Rattle.rv_flips.proofs.MoveLemmas.{moves_none, moves_then}
use Rattle.rv_flips.proofs.WordLaws.{meets_less}
use Rattle.flip_words.specs.Placed.{WindowPoints, Excepted, IsPlaced, Carries}
use Rattle.flip_words.proofs.LessLemmas.{says_again}
use Rattle.flip_frames.specs.Views.{version}
use Rattle.flip_guards.specs.Search.{in_window}
use Rattle.flip_guards.specs.Guards.{KeptRegister, Kept, over, Guard, guard_at}
use Rattle.flip_guards.proofs.FoundWindows.{windows_found}

abbrev pub is_sure : Tag → Bool
is_sure Sure = true
is_sure _ = false

-- the registers that are kept for sure
abbrev pub sures_of : List KeptRegister → List ℕ
sures_of [] = []
sures_of (Kept r tag o ∷ ks) = cond (is_sure tag) (r ∷ sures_of ks) (sures_of ks)

-- the list without register d, and with another cell of it
abbrev pub without : ℕ → List KeptRegister → List KeptRegister
without d [] = []
without d (Kept r tag o ∷ ks) = cond (r == d) (without d ks) (Kept r tag o ∷ without d ks)

abbrev pub put_in : ℕ → Tag → Option ℕ → List KeptRegister → List KeptRegister
put_in d tag o ks = Kept d tag o ∷ without d ks

-- each of the registers is in a window at the word with this index
abbrev pub all_in_windows : List Form → ℕ → List ℕ → Bool
all_in_windows code k [] = true
all_in_windows code k (r ∷ rs) = in_window r code k && all_in_windows code k rs

sure_tag : (tag : Tag) (o : Option ℕ) (w : ℕ) → version tag o ≡ Has Sure w → is_sure tag ≡ true
sure_tag tag None w e = absurd (cc)
sure_tag Sure (Some v) w e = refl
sure_tag One (Some v) w e = absurd (cc)
sure_tag Two (Some v) w e = absurd (cc)
sure_tag Three (Some v) w e = absurd (cc)
sure_tag Plain (Some v) w e = absurd (cc)
sure_tag Code (Some v) w e = absurd (cc)
sure_tag (Leaf first more) (Some v) w e = absurd (cc)

one_longer : (b : Bool) (r x : ℕ) (rs : List ℕ) → IsOneOf r rs → IsOneOf r (cond b (x ∷ rs) rs)
one_longer true r x rs h = inr h
one_longer false r x rs h = h

one_first : (b : Bool) (r x : ℕ) (rs : List ℕ) → b ≡ true → r ≡ x → IsOneOf r (cond b (x ∷ rs) rs)
one_first true r x rs e same = inl same
one_first false r x rs e same = absurd (cc)

-- where nothing is kept for sure all along, these alone are
pub sures_over : (ks : List KeptRegister) (regs : ℕ → Cell) → Sures regs [] → Sures (over ks regs) (sures_of ks)
sures_over [] regs sures r w e nonzero = sures r w e nonzero
sures_over (Kept d tag o ∷ ks) regs sures r w e nonzero = by_place (λ h. sures_over ks regs sures r w h nonzero) (r == d) refl e
  where
    by_place : (over ks regs r ≡ Has Sure w → IsOneOf r (sures_of ks)) → (b : Bool) → (r == d) ≡ b → cond b (version tag o) (over ks regs r) ≡ Has Sure w → IsOneOf r (cond (is_sure tag) (d ∷ sures_of ks) (sures_of ks))
    by_place rest true t h = one_first (is_sure tag) r d (sures_of ks) (sure_tag tag o w h) (grind (arith, nat_tests))
    by_place rest false t h = one_longer (is_sure tag) r d (sures_of ks) (rest h)

all_found : (words : List ℕ) (p : ℕ) (code : List Form) (k : ℕ) (rs : List ℕ) → IsPlaced words p code → all_in_windows code k rs ≡ true → AllListed (Excepted WindowPoints words) (p + 4 * k) rs
all_found words p code k [] placed e = tt
all_found words p code k (r ∷ rs) placed e =
    let parts = and_parts (in_window r code k) (all_in_windows code k rs) e in
    (windows_found words p code k r placed parts.0, all_found words p code k rs placed parts.1)

-- nothing is kept for sure all along the sequence but x0
abbrev pub IsCalm : Guard → Type 0
IsCalm γ = Sures γ.around.regs []

pub covered_at : (words : List ℕ) (p : ℕ) (code : List Form) (k : ℕ) (γ : Guard) → IsPlaced words p code → IsCalm γ → all_in_windows code k (sures_of γ.kept) ≡ true → Covered (Excepted WindowPoints words) (guard_at γ (p + 4 * k))
covered_at words p code k γ placed calm e =
    covered (Excepted WindowPoints words) (guard_at γ (p + 4 * k)) (sures_of γ.kept) (sures_over γ.kept γ.around.regs calm) (all_found words p code k (sures_of γ.kept) placed e)

-- from the begin of the code to the word with index k, wherever the code stands
pub record Line (words : List ℕ) (code : List Form) (start : Guard) (k : ℕ) (γ : Guard) : Type 0 where
  pub moves : IsCalm start → (p : ℕ) → IsPlaced words p code → Moves words (Excepted WindowPoints words) (guard_at start p) k (guard_at γ (p + 4 * k))
  pub calm : IsCalm start → IsCalm γ

pub line_start : (words : List ℕ) (code : List Form) (start : Guard) → Line words code start 0 start
line_start words code start =
    record {
      moves = λ calm p placed.
          let here : p ≡ p + 4 * 0 = omega arith in
          let P : ℕ → Type 0 = λ q. Moves words (Excepted WindowPoints words) (guard_at start p) 0 (guard_at start q) in
          subst P here (moves_none words (Excepted WindowPoints words) (guard_at start p));
      calm = λ calm. calm;
    }

-- instructions of the code that stand at an index
drop_stands : (words : List ℕ) (p k : ℕ) (code : List Form) → StandsAll words p code → StandsAll words (p + 4 * k) (drop k code)
drop_stands words p zero code h = let here : p ≡ p + 4 * 0 = omega arith in let P : ℕ → Type 0 = λ q. StandsAll words q code in subst P here h
drop_stands words p (suc k) [] h = tt
drop_stands words p (suc k) (i ∷ is) h =
    let there : p + 4 + 4 * k ≡ p + 4 * suc k = omega arith in
    let P : ℕ → Type 0 = λ q. StandsAll words q (drop k is) in
    subst P there (drop_stands words (p + 4) k is h.1)

take_stands : (words : List ℕ) (p n : ℕ) (code : List Form) → StandsAll words p code → StandsAll words p (take n code)
take_stands words p zero code h = tt
take_stands words p (suc n) [] h = tt
take_stands words p (suc n) (i ∷ is) h = (h.0, take_stands words (p + 4) n is h.1)

-- a piece of placed code is placed
pub piece_placed : (words : List ℕ) (p k : ℕ) (code piece : List Form) → 0 < length piece → take (length piece) (drop k code) ≡ piece → IsPlaced words p code → IsPlaced words (p + 4 * k) piece
piece_placed words p k code piece some e placed =
    let size : length piece ≤ length code - k = omega (arith, ap length e, length-take (length piece) (drop k code), length-drop k code) in
    let P : List Form → Type 0 = λ is. StandsAll words (p + 4 * k) is in
    record {
      stands = subst P e (take_stands words (p + 4 * k) (length piece) (drop k code) (drop_stands words p k code placed.stands));
      room = omega (arith, placed.room);
      short = placed.short;
    }

-- a piece of the code, by its law
pub line_piece : {words : List ℕ} {code : List Form} {start γ : Guard} {k : ℕ} (piece : List Form) (δ : Guard) → 0 < length piece → take (length piece) (drop k code) ≡ piece →
    (IsCalm γ → (p : ℕ) → IsPlaced words p code → Carries words (Excepted WindowPoints words) piece (guard_at γ (p + 4 * k)) (guard_at δ (p + 4 * k + 4 * length piece))) → (IsCalm γ → IsCalm δ) →
    Line words code start k γ → Line words code start (k + length piece) δ
line_piece {words = words} {code = code} {start = start} {γ = γ} {k = k} piece δ some e law calm line =
    record {
      moves = λ still p placed.
          let there : p + 4 * k + 4 * length piece ≡ p + 4 * (k + length piece) = omega arith in
          let one = law (line.calm still) p placed in
          let P : ℕ → Type 0 = λ q. Moves words (Excepted WindowPoints words) (guard_at start p) (k + length piece) (guard_at δ q) in
          subst P there
          (moves_then words (Excepted WindowPoints words) (guard_at start p) (guard_at γ (p + 4 * k)) (guard_at δ (p + 4 * k + 4 * length piece)) k (length piece) (line.moves still p placed)
          (one.moves (piece_placed words p k code piece some e placed)));
      calm = λ still. calm (line.calm still);
    }

-- one word, which needs that what is kept for sure is in windows there
pub line_word : {words : List ℕ} {code : List Form} {start γ : Guard} {k : ℕ} (form : Form) (δ : Guard) → take 1 (drop k code) ≡ form ∷ [] → all_in_windows code k (sures_of γ.kept) ≡ true →
    ((q : ℕ) → Covered (Excepted WindowPoints words) (guard_at γ q) → Carries words (Excepted WindowPoints words) (form ∷ []) (guard_at γ q) (guard_at δ (q + 4))) → (IsCalm γ → IsCalm δ) →
    Line words code start k γ → Line words code start (k + 1) δ
line_word {words = words} {code = code} {γ = γ} {k = k} form δ e windows law calm line =
    line_piece (form ∷ []) δ (omega arith) e (λ still p placed. law (p + 4 * k) (covered_at words p code k γ placed still windows)) calm line

-- less that is known of registers
pub less_guard : (γ : Guard) (ks : List KeptRegister) (p : ℕ) → ((q : ℕ) → SaysLess (over γ.kept γ.around.regs q) (over ks γ.around.regs q)) → KnowsLess (guard_at γ p) (guard_at (record γ { kept = ks }) p)
less_guard γ ks p says = record { pc = refl; regs = says; slots = λ k damage x h. h; bytes = λ o x h. h; size = refl; input = refl; out = refl }

-- another guard of which less is known
pub line_less : {words : List ℕ} {code : List Form} {start γ : Guard} {k : ℕ} (δ : Guard) → ((p : ℕ) → KnowsLess (guard_at γ p) (guard_at δ p)) → (IsCalm γ → IsCalm δ) → Line words code start k γ → Line words code start k δ
line_less {words = words} {code = code} {start = start} {γ = γ} {k = k} δ less calm line =
    record {
      moves = λ still p placed s f good.
          let a = line.moves still p placed s f good in
          record {
            steps = a.steps;
            state = a.state;
            flip = a.flip;
            few = a.few;
            good = record { damage = a.good.damage; meets = meets_less words (guard_at γ (p + 4 * k)) (guard_at δ (p + 4 * k)) a.good.damage a.state (less (p + 4 * k)) a.good.meets; pending = a.good.pending };
            goes = a.goes;
          };
      calm = λ still. calm (line.calm still);
    }

-- a register that isn't kept is what it is all along
pub over-without : (ks : List KeptRegister) (regs : ℕ → Cell) (d q : ℕ) → q ≢ d → over (without d ks) regs q ≡ over ks regs q
over-without [] regs d q ne = refl
over-without (Kept r tag o ∷ ks) regs d q ne = by_place (over-without ks regs d q ne) (r == d) refl
  where
    by_place : over (without d ks) regs q ≡ over ks regs q → (b : Bool) → (r == d) ≡ b → over (cond b (without d ks) (Kept r tag o ∷ without d ks)) regs q ≡ cond (q == r) (version tag o) (over ks regs q)
    by_place rest true e =
        let other : (q == r) ≡ false = grind (arith, nat_tests) in
        rest ∙ ap (λ b. cond b (version tag o) (over ks regs q)) (sym other)
    by_place rest false e = ap (λ (cell : Cell). cond (q == r) (version tag o) cell) rest

over-without_same : (ks : List KeptRegister) (regs : ℕ → Cell) (d : ℕ) → over (without d ks) regs d ≡ regs d
over-without_same [] regs d = refl
over-without_same (Kept r tag o ∷ ks) regs d = by_place (over-without_same ks regs d) (r == d) refl
  where
    by_place : over (without d ks) regs d ≡ regs d → (b : Bool) → (r == d) ≡ b → over (cond b (without d ks) (Kept r tag o ∷ without d ks)) regs d ≡ regs d
    by_place rest true e = rest
    by_place rest false e =
        let other : (d == r) ≡ false = grind (arith, nat_tests) in
        ap (λ b. cond b (version tag o) (over (without d ks) regs d)) other ∙ rest

-- a register that is written
pub written_over : (ks : List KeptRegister) (regs : ℕ → Cell) (d : ℕ) (tag : Tag) (o : Option ℕ) (cell : Cell) → SaysLess cell (version tag o) → (q : ℕ) → SaysLess (with_register (over ks regs) d cell q) (over (put_in d tag o ks) regs q)
written_over ks regs d tag o cell says q = by_place (q == d) refl
  where
    by_place : (b : Bool) → (q == d) ≡ b → SaysLess (with_register (over ks regs) d cell q) (cond b (version tag o) (over (without d ks) regs q))
    by_place true e =
        let same : d ≡ q = grind (arith, nat_tests) in
        let P : ℕ → Type 0 = λ k. SaysLess (with_register (over ks regs) d cell k) (version tag o) in
        subst P same (rw (with_register-same (over ks regs) d cell) says)
    by_place false e =
        let other : q ≢ d = grind (arith, nat_tests) in
        rw (with_register-other (over ks regs) d q cell other, over-without ks regs d q other) (says_again (over ks regs q))

pub guard_written : (γ : Guard) (d : ℕ) (tag : Tag) (o : Option ℕ) (cell : Cell) (p q r : ℕ) → SaysLess cell (version tag o) → r ≡ q → KnowsLess (after_write (guard_at γ p) d cell q) (guard_at (record γ { kept = put_in d tag o γ.kept }) r)
guard_written γ d tag o cell p q r says at =
    record { pc = at; regs = written_over γ.kept γ.around.regs d tag o cell says; slots = λ k damage x h. h; bytes = λ o x h. h; size = refl; input = refl; out = refl }

-- a register of which nothing is known any more
pub forgets : (regs : ℕ → Cell) (d q : ℕ) → SaysLess (regs q) (with_register regs d Free q)
forgets regs d q = by_place (q == d) refl
  where
    by_place : (b : Bool) → (q == d) ≡ b → SaysLess (regs q) (with_register regs d Free q)
    by_place true e =
        let same : d ≡ q = grind (arith, nat_tests) in
        let P : ℕ → Type 0 = λ k. SaysLess (regs k) (with_register regs d Free k) in
        subst P same (rw (with_register-same regs d Free) (says_free (regs d)))
    by_place false e = let other : q ≢ d = grind (arith, nat_tests) in rw (with_register-other regs d q Free other) (says_again (regs q))

-- a register that isn't needed any more, of which nothing is known all along
pub line_forget : {words : List ℕ} {code : List Form} {start γ : Guard} {k : ℕ} (d : ℕ) → γ.around.regs d ≡ Free → Line words code start k γ → Line words code start k (record γ { kept = without d γ.kept })
line_forget {γ = γ} d free line = line_less (record γ { kept = without d γ.kept }) (λ p. less_guard γ (without d γ.kept) p (λ q. each q (q == d) refl)) (λ calm. calm) line
  where
    each : (q : ℕ) (b : Bool) → (q == d) ≡ b → SaysLess (over γ.kept γ.around.regs q) (over (without d γ.kept) γ.around.regs q)
    each q true e =
        let same : d ≡ q = grind (arith, nat_tests) in
        let P : ℕ → Type 0 = λ k. SaysLess (over γ.kept γ.around.regs k) (over (without d γ.kept) γ.around.regs k) in
        subst P same (rw (over-without_same γ.kept γ.around.regs d, free) (says_free (over γ.kept γ.around.regs d)))
    each q false e =
        let other : q ≢ d = grind (arith, nat_tests) in
        rw (over-without γ.kept γ.around.regs d q other) (says_again (over γ.kept γ.around.regs q))

-- the whole code
pub line_carries : {words : List ℕ} {code : List Form} {start γ : Guard} → IsCalm start → (p : ℕ) → Line words code start (length code) γ → Carries words (Excepted WindowPoints words) code (guard_at start p) (guard_at γ (p + 4 * length code))
line_carries calm p line = record { moves = λ placed. line.moves calm p placed; ends = refl }

-- the front of a code that is placed whole
pub line_front : {words : List ℕ} {start γ : Guard} (front rest : List Form) (p : ℕ) → IsCalm start → IsPlaced words p (front ++ rest) → Line words (front ++ rest) start (length front) γ →
    Carries words (Excepted WindowPoints words) front (guard_at start p) (guard_at γ (p + 4 * length front))
line_front front rest p calm placed line = record { moves = λ alone. line.moves calm p placed; ends = refl }
