-- A vote serves the words after it: each is a window point of x2 up to the last access.
use Rattle.std.proofs.Common.{◌≡◌, ℕ, ◌+◌, ◌*◌, ◌%◌, ◌<◌, ◌^◌, ◌==◌, ◌⊎◌, inl, inr, Bool, true, false, List, [], ◌∷◌, ◌++◌, length, refl, ◌∙◌, ap, subst, arith, length-append}
use Rattle.std.specs.Prelude.{pos, not, ◌&&◌, ◌||◌, Some}
use Rattle.std.specs.List.{list_all}
use Rattle.std.proofs.lemmas.Bool.{and_parts, or_cases}
use Rattle.std.proofs.lemmas.Bool.Decides.{nat_tests}
use Rattle.rv_inst.specs.declared.instruction.Form.{Form}
use Rattle.rv_inst.specs.declared.instruction.Form.TheVariants.{BEQ, JAL, LD, SD}
use Rattle.rv_inst.specs.declared.table.Group.{Group}
use Rattle.rv_inst.specs.declared.table.Group.TheVariants.{Constants, Immediates, Registers, RegisterJumps}
use Rattle.rv_inst.specs.Forms.{kind_of}
use Rattle.rv_inst.specs.Groups.{is_same_group, group_of}
use Rattle.rv_inst.specs.Registers.{reads, writes}
use Rattle.rv_inst.specs.Window.{quiet_next, passes, may_use, is_register_jump}
use Rattle.rv_model.specs.Text.{StandsAll}
use Rattle.rv_flips.specs.Cells.{Has, Sure, One}
use Rattle.rv_flips.specs.Assertion.{KnowsLess, with_register}
use Rattle.rv_flips.proofs.CellLemmas.{sure_says}
use Rattle.rv_flips.proofs.Windows.{place_of, GoOn, AllPass}
use Rattle.flip_words.specs.Placed.{WindowPoints, Excepted, IsPlaced, Carries}
use Rattle.flip_words.specs.Words.{slot_address, only_computes}
use Rattle.flip_words.proofs.CarryLemmas.{joined, carries_less}
use Rattle.flip_words.proofs.LessLemmas.{says_again, knows_same, knows_regs, written_less, carries_placed}
use Rattle.flip_words.proofs.Windows.{window_after}
use Rattle.flip_frames.specs.Views.{View, IsView, Runs, is_scratch, view_cell, at_address}
use Rattle.flip_frames.specs.Slots.{vote_words}
use Rattle.flip_frames.proofs.ViewLemmas.{scratch_above, view_cell-two}
use Rattle.flip_frames.proofs.Votes.{vote_carries}
use Rattle.flip_votes.specs.Votes.{voted, VoteStands, RunsVoted, is_access, lets_stand, ends_in_access, IsServed}

-- a scratch register isn't x2
pub scratch_apart : (r : ℕ) → is_scratch r ≡ true → (2 == r) ≡ false
scratch_apart r e = let above : 4 < r = scratch_above r e in grind (arith, nat_tests)

-- an access lets x2 pass, uses it, and goes on to the next word
record IsUse (i : Form) : Type 0 where
  pass : passes 2 (BEQ 2 3 (pos 8)) (Some i) ≡ true
  read : reads i 2 ≡ true
  used : may_use 2 (BEQ 2 3 (pos 8)) i ≡ true

use_of : (i : Form) → is_access i ≡ true → IsUse i
use_of (LD rd rs1 imm) e =
    let both = and_parts (rs1 == 2) (is_scratch rd) e in
    let two : (2 == rs1) ≡ true = grind (arith, nat_tests, both.0) in
    let apart : (2 == rd) ≡ false = scratch_apart rd both.1 in
    record { pass = rw (apart, two) refl; read = two; used = refl }
use_of (SD rs1 rs2 imm) e =
    let two : (2 == rs1) ≡ true = grind (arith, nat_tests) in
    record { pass = rw two refl; read = rw two refl; used = refl }
use_of _ e = absurd (cc)

-- a word that computes goes on to the next, and is no jump
straight : (p : ℕ) (i : Form) → lets_stand i ≡ true → quiet_next (place_of p i) ≡ p + 4
straight p (BEQ rs1 rs2 imm) e = absurd (cc)
straight p (JAL rd imm) e = absurd (cc)
straight p _ e = refl

-- instructions that only compute are no jumps to where a register points
no_jump : (g : Group) → (is_same_group Constants g || (is_same_group Immediates g || is_same_group Registers g)) ≡ true → is_same_group RegisterJumps g ≡ false
no_jump RegisterJumps e = absurd (cc)
no_jump _ e = refl

not_true : (b : Bool) → not b ≡ true → b ≡ false
not_true true e = absurd (cc)
not_true false e = refl

-- a word that lets the vote stand lets x2 pass
pub lets_pass : (i : Form) → lets_stand i ≡ true → passes 2 (BEQ 2 3 (pos 8)) (Some i) ≡ true
lets_pass i e = by (or_cases (only_computes i && (not (reads i 2) && not (writes i 2))) (is_access i) e)
  where
    by : ((only_computes i && (not (reads i 2) && not (writes i 2))) ≡ true) ⊎ (is_access i ≡ true) → passes 2 (BEQ 2 3 (pos 8)) (Some i) ≡ true
    by (inl computes) =
        let a = and_parts (only_computes i) (not (reads i 2) && not (writes i 2)) computes in
        let b = and_parts (not (reads i 2)) (not (writes i 2)) a.1 in
        let jump : is_register_jump i ≡ false = no_jump (group_of (kind_of i)) a.0 in
        rw (b.1, jump, b.0) refl
    by (inr access) = (use_of i access).pass

-- ---- the words between the vote and its last access
record Ended (code : List Form) : Type 0 where
  middle : List Form
  last : Form
  whole : code ≡ middle ++ last ∷ []
  pass : AllPass 2 (BEQ 2 3 (pos 8)) middle
  access : is_access last ≡ true

ended : (code : List Form) → list_all lets_stand code ≡ true → ends_in_access code ≡ true → Ended code
ended [] stands last = absurd (cc)
ended (i ∷ []) stands last = record { middle = []; last = i; whole = refl; pass = tt; access = last }
ended (i ∷ j ∷ is) stands last =
    let both = and_parts (lets_stand i) (list_all lets_stand (j ∷ is)) stands in
    let rest = ended (j ∷ is) both.1 last in
    record { middle = i ∷ rest.middle; last = rest.last; whole = ap (λ xs. i ∷ xs) rest.whole; pass = (lets_pass i both.0, rest.pass); access = rest.access }

goes_on : (p : ℕ) (code : List Form) → list_all lets_stand code ≡ true → GoOn p code
goes_on p [] stands = tt
goes_on p (i ∷ []) stands = tt
goes_on p (i ∷ j ∷ is) stands =
    let both = and_parts (lets_stand i) (list_all lets_stand (j ∷ is)) stands in
    (straight p i both.0, goes_on (p + 4) (j ∷ is) both.1)

vote_stands : (words : List ℕ) (p : ℕ) (code : List Form) → IsServed code → IsPlaced words p (vote_words ++ code) → VoteStands words (p + 8) code
vote_stands words p code served placed k within =
    let there : (p + 8) % 2 ^ 64 ≡ p + 8 = omega (arith, placed.room) in
    let same : p + 4 + 4 ≡ p + 8 = omega arith in
    let e = ended code served.stands served.last in
    let taken = use_of e.last e.access in
    let size : length code ≡ length e.middle + 1 = ap length e.whole ∙ length-append e.middle (e.last ∷ []) in
    let P : List Form → Type 0 = λ xs. StandsAll words (p + 8) xs in
    let Q : List Form → Type 0 = λ xs. GoOn (p + 8) xs in
    let R : ℕ → Type 0 = λ q. StandsAll words q code in
    window_after words p (p + 8) 2 (BEQ 2 3 (pos 8)) e.middle e.last k placed.stands.0 there (subst P e.whole (subst R same placed.stands.1.1)) (subst Q e.whole (goes_on (p + 8) code served.stands))
    (omega (arith, served.short)) (omega arith) e.pass refl taken.read taken.used refl

-- the vote is forgotten
vote_forgotten : (w : View) (p q : ℕ) → q ≡ p → KnowsLess (voted w p) (at_address w q)
vote_forgotten w p q at =
    let sp = slot_address w.stage.base in
    let regs = view_cell w.stage w.tag w.file in
    knows_regs (at_address w p) p q (with_register regs 2 (Has Sure (slot_address w.stage.base))) (view_cell w.stage w.tag w.file) at
    (written_less (view_cell w.stage w.tag w.file) (view_cell w.stage w.tag w.file) 2 (Has Sure (slot_address w.stage.base))
    (rw (view_cell-two w.stage w.tag w.file) (sure_says One sp)) (λ r ne. says_again (regs r)))

pub served_runs : (words : List ℕ) (code : List Form) (v w : View) → IsServed code → RunsVoted words code v w → Runs words (vote_words ++ code) v w
served_runs words code v w served one =
    record {
      carries = λ is p.
          carries_placed words (Excepted WindowPoints words) (vote_words ++ code) (at_address v p) (at_address w (p + 4 * length (vote_words ++ code))) refl (λ placed. whole is p placed);
      kept = one.kept;
    }
  where
    whole : IsView v → (p : ℕ) → IsPlaced words p (vote_words ++ code) → Carries words (Excepted WindowPoints words) (vote_words ++ code) (at_address v p) (at_address w (p + 4 * length (vote_words ++ code)))
    whole is p placed =
        let there : p + 4 * length (vote_words ++ code) ≡ p + 8 + 4 * length code = omega arith in
        joined (vote_carries words v p is)
        (carries_less (knows_same (voted v (p + 8))) (one.carries is (p + 8) (vote_stands words p code served placed))
        (vote_forgotten w (p + 8 + 4 * length code) (p + 4 * length (vote_words ++ code)) there))
