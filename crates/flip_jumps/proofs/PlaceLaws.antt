-- From place to place.
use Rattle.std.proofs.Common.{◌≡◌, ℕ, ◌+◌, ◌*◌, ◌==◌, Bool, true, false, cond, List, [], ◌∷◌, length, None, refl, sym, subst}
use Rattle.std.specs.Prelude.{ℤ}
use Rattle.rv_inst.specs.declared.instruction.Form.{Form}
use Rattle.rv_inst.specs.declared.instruction.Form.TheVariants.{JAL}
use Rattle.rv_flips.specs.Cells.{Tag, Sure, One, Two, Three, Cell, Has, SaysLess}
use Rattle.rv_flips.specs.Moves.{Finishes}
use Rattle.rv_flips.proofs.MoveLemmas.{moves_then, moves_finish}
use Rattle.flip_words.specs.Placed.{WindowPoints, Excepted, IsPlaced}
use Rattle.flip_words.specs.Words.{slot_address}
use Rattle.flip_words.proofs.CarryLemmas.{carries_less}
use Rattle.flip_words.proofs.LessLemmas.{says_again, knows_same}
use Rattle.flip_frames.specs.Views.{Stage, View, IsView, Runs, version, view_cell, is_scratch, no_values, at_address}
use Rattle.flip_frames.proofs.RunLaws.{runs_none, covered_view}
use Rattle.flip_jumps.specs.Jumps.{target}
use Rattle.flip_jumps.specs.Places.{Goes, StageSaysLess}
use Rattle.flip_jumps.proofs.JumpWords.{jump_moves}

pub goes_then : {words : List ℕ} {u v w : View} {p q r m n : ℕ} → Goes words u p m v q → Goes words v q n w r → Goes words u p (m + n) w r
goes_then {words = words} {u = u} {v = v} {w = w} {p = p} {q = q} {r = r} {m = m} {n = n} one two =
    record {
      moves = λ is. moves_then words (Excepted WindowPoints words) (at_address u p) (at_address v q) (at_address w r) m n (one.moves is) (two.moves (one.kept is));
      kept = λ is. two.kept (one.kept is);
    }

pub runs_go : {words : List ℕ} {code : List Form} {v w : View} (p : ℕ) → IsPlaced words p code → Runs words code v w → Goes words v p (length code) w (p + 4 * length code)
runs_go p placed runs = record { moves = λ is. (runs.carries is p).moves placed; kept = runs.kept }

pub jumps_go : (words : List ℕ) (v : View) (p : ℕ) (offset : ℤ) → IsPlaced words p (JAL 0 offset ∷ []) → Goes words v p 1 v (target p offset)
jumps_go words v p offset placed =
    record {
      moves = λ is. jump_moves words (Excepted WindowPoints words) (at_address v p) offset placed (covered_view words v p is);
      kept = λ is. is;
    }

pub places_end : {words : List ℕ} {v w : View} {p q n m : ℕ} {out : List ℕ} {status : ℕ} → IsView v → Goes words v p n w q → (IsView w → Finishes words (Excepted WindowPoints words) (at_address w q) m out status) →
    Finishes words (Excepted WindowPoints words) (at_address v p) (n + m) out status
places_end {words = words} {v = v} {w = w} {p = p} {q = q} {n = n} {m = m} {out = out} {status = status} is go ends =
    moves_finish words (Excepted WindowPoints words) (at_address v p) (at_address w q) n m out status (go.moves is) (ends (go.kept is))

says_by : (b : Bool) (one two less lesser : Cell) → SaysLess one less → SaysLess two lesser → SaysLess (cond b one two) (cond b less lesser)
says_by true one two less lesser h k = h
says_by false one two less lesser h k = k

-- where the stages say less of places, and have their frames at the same place, the views say less of registers
place_says : (more less : Stage) (tag : Tag) (q : ℕ) → less.base ≡ more.base → SaysLess (more.places q) (less.places q) → SaysLess (view_cell more tag no_values q) (view_cell less tag no_values q)
unfolding view_cell
place_says more less tag q base says =
    let sp = slot_address more.base in
    let P : ℕ → Type 0 = λ b.
    SaysLess (view_cell more tag no_values q)
    (cond (q == 0) (Has Sure 0) (cond (q == 2) (Has One (slot_address b)) (cond (q == 3) (Has Two (slot_address b)) (cond (q == 4) (Has Three (slot_address b)) (cond (is_scratch q) (version tag None) (less.places q)))))) in
    let more1 = cond (is_scratch q) (version tag None) (more.places q) in
    let less1 = cond (is_scratch q) (version tag None) (less.places q) in
    let more2 = cond (q == 4) (Has Three sp) more1 in
    let less2 = cond (q == 4) (Has Three sp) less1 in
    let more3 = cond (q == 3) (Has Two sp) more2 in
    let less3 = cond (q == 3) (Has Two sp) less2 in
    let s1 = says_by (is_scratch q) (version tag None) (more.places q) (version tag None) (less.places q) (says_again (version tag None)) says in
    let s2 = says_by (q == 4) (Has Three sp) more1 (Has Three sp) less1 (says_again (Has Three sp)) s1 in
    let s3 = says_by (q == 3) (Has Two sp) more2 (Has Two sp) less2 (says_again (Has Two sp)) s2 in
    let s4 = says_by (q == 2) (Has One sp) more3 (Has One sp) less3 (says_again (Has One sp)) s3 in
    subst P (sym base) (says_by (q == 0) (Has Sure 0) (cond (q == 2) (Has One sp) more3) (Has Sure 0) (cond (q == 2) (Has One sp) less3) (says_again (Has Sure 0)) s4)

pub stage_forgotten : (words : List ℕ) (more less : Stage) (tag : Tag) → StageSaysLess more less → ((q w : ℕ) → less.places q ≡ Has Sure w → ⊥) →
    Runs words [] (record { stage = more; tag = tag; file = no_values }) (record { stage = less; tag = tag; file = no_values })
stage_forgotten words more less tag says unsure =
    let v : View = record { stage = more; tag = tag; file = no_values } in
    let w : View = record { stage = less; tag = tag; file = no_values } in
    record {
      carries = λ is p.
          carries_less (knows_same (at_address v p)) ((runs_none words v).carries is p)
          (record {
            pc = refl;
            regs = λ q. place_says more less tag q says.base (says.places q);
            slots = says.slots;
            bytes = says.bytes;
            size = says.size;
            input = says.input;
            out = says.out;
          });
      kept = λ is. record { tag = is.tag; places = unsure; size = rw says.size is.size; base = rw says.base is.base };
    }
