-- From moves between places to the survival of a text.
use Rattle.std.proofs.Common.{◌≡◌, ℕ, zero, suc, ◌+◌, ◌*◌, ◌<◌, ◌≤◌, List, [], ◌++◌, length, Option, Some, None, refl, sym, ◌∙◌, ap, subst, arith, lit<, length-append}
use Rattle.std.proofs.Math.Nat.{add-mul, mul-add}
use Rattle.rv_inst.specs.declared.instruction.Form.{Form}
use Rattle.rv_inst.specs.Window.{IsWindowPoint}
use Rattle.rv_model.specs.Text.{text_base}
use Rattle.rv_model.specs.Start.{program_image}
use Rattle.rv_flips.specs.Cells.{Tag, One, Two, Three, Free, Has, Sure}
use Rattle.rv_flips.specs.Assertion.{Assertion, KnowsLess, with_register, after_write}
use Rattle.rv_flips.specs.Known.{Sures}
use Rattle.rv_flips.specs.Moves.{Moves, Finishes}
use Rattle.rv_flips.specs.Survives.{IsListed, Survives}
use Rattle.rv_flips.proofs.CellLemmas.{with_register-other}
use Rattle.rv_flips.proofs.KnownRegisters.{covered, sures_other}
use Rattle.rv_flips.proofs.MoveLemmas.{moves_finish}
use Rattle.rv_flips.proofs.StartLaws.{start_cells, start_assertion, start_cells-zero, sures-start_cells, survives}
use Rattle.rv_flips.proofs.WordLaws.{meets_less}
use Rattle.flip_words.specs.Placed.{WindowPoints, Excepted, IsPlaced, Carries}
use Rattle.flip_words.specs.Words.{slot_address}
use Rattle.flip_words.proofs.CarryLemmas.{joined, carries_less}
use Rattle.flip_words.proofs.LessLemmas.{knows_same, knows_regs}
use Rattle.flip_frames.specs.Views.{View, IsView, IsVersion, Runs, version, view_cell, at_address, no_values}
use Rattle.flip_frames.proofs.RunLaws.{version_uncoded}
use Rattle.flip_frames.proofs.ViewLemmas.{not_sure_version}
use Rattle.flip_guards.specs.Sources.{Part, part_words, made}
use Rattle.flip_guards.proofs.Lines.{forgets}
use Rattle.flip_guards.proofs.SourceLaws.{making, parts_carry}
use Rattle.flip_programs.specs.Programs.{start_stage}
use Rattle.flip_programs.proofs.ProgramLaws.{with_copies, copies_say, finishes_more}
use Rattle.flip_texts.specs.Texts.{IsWay, IsKept, start_code, started_at, IsText}

pub sequence_moves : (words : List ℕ) (code : List Form) (v w : View) (p : ℕ) → Runs words code v w → IsView v → IsPlaced words p code → Moves words (Excepted WindowPoints words) (at_address v p) (length code) (at_address w (p + 4 * length code))
sequence_moves words code v w p runs is placed = (runs.carries is p).moves placed

-- from k moves on, where `left` are left
kept_from : (words : List ℕ) (holds : ℕ → Assertion → Type 0) (n cost m : ℕ) (out : List ℕ) (status : ℕ) → IsKept words holds n cost → ((d : Assertion) → holds n d → Finishes words (Excepted WindowPoints words) d m out status) →
    (k left : ℕ) (c : Assertion) → k + left ≡ n → holds k c → Finishes words (Excepted WindowPoints words) c (left * cost + m) out status
kept_from words holds n cost m out status go end k zero c e h =
    let there : k ≡ n = omega arith in
    let none : m ≡ zero * cost + m = omega arith in
    let P : ℕ → Type 0 = λ j. holds j c in
    let Q : ℕ → Type 0 = λ j. Finishes words (Excepted WindowPoints words) c j out status in
    subst Q none (end c (subst P there h))
kept_from words holds n cost m out status go end k (suc left) c e h =
    further (go k c (omega arith) h) (λ d next. kept_from words holds n cost m out status go end (suc k) left d (omega arith) next)
  where
    further : (d : Assertion) × holds (suc k) d × Moves words (Excepted WindowPoints words) c cost d → ((d : Assertion) → holds (suc k) d → Finishes words (Excepted WindowPoints words) d (left * cost + m) out status) →
        Finishes words (Excepted WindowPoints words) c (suc left * cost + m) out status
    further (d, next, moves) rest =
        let more : cost + (left * cost + m) ≡ suc left * cost + m = omega arith in
        let Q : ℕ → Type 0 = λ j. Finishes words (Excepted WindowPoints words) c j out status in
        subst Q more (moves_finish words (Excepted WindowPoints words) c d cost (left * cost + m) out status moves (rest d next))

pub relation_ends : (holds : ℕ → Assertion → Type 0) (words : List ℕ) (c : Assertion) (n cost m : ℕ) (out : List ℕ) (status : ℕ) → IsKept words holds n cost → ((d : Assertion) → holds n d → Finishes words (Excepted WindowPoints words) d m out status) →
    holds 0 c → Finishes words (Excepted WindowPoints words) c (n * cost + m) out status
relation_ends holds words c n cost m out status go end h = kept_from words holds n cost m out status go end 0 n c (omega arith) h

pub way_ends : (words : List ℕ) (known : ℕ → Assertion) (n cost m : ℕ) (out : List ℕ) (status : ℕ) → IsWay words known n cost → Finishes words (Excepted WindowPoints words) (known n) m out status →
    Finishes words (Excepted WindowPoints words) (known 0) (n * cost + m) out status
way_ends words known n cost m out status way end =
    relation_ends (λ k c. c ≡ known k) words (known 0) n cost m out status
    (λ k c small is. (known (suc k), refl, subst (λ (x : Assertion). Moves words (Excepted WindowPoints words) x cost (known (suc k))) (sym is) (way k small)))
    (λ c is. subst (λ (x : Assertion). Finishes words (Excepted WindowPoints words) x m out status) (sym is) end) refl

-- one copy of the stack pointer
copy_carries : (words : List ℕ) (c : Assertion) (d v : ℕ) (tag : Tag) (parts : List Part) → IsVersion tag → c.regs 0 ≡ Has Sure 0 → Sures c.regs [] → 0 < d → made parts None ≡ Some v →
    Carries words (Excepted WindowPoints words) (part_words d parts) c (after_write c d (Has tag v) (c.pc + 4 * length (part_words d parts)))
copy_carries words c d v tag parts is x0 sures nonzero e =
    let P : Option ℕ → Type 0 = λ o. Carries words (Excepted WindowPoints words) (part_words d parts) c (making c d tag o (c.pc + 4 * length (part_words d parts))) in
    subst P e
    (carries_less (knows_regs c c.pc c.pc c.regs (with_register c.regs d Free) refl (λ q. forgets c.regs d q))
    (parts_carry words (Excepted WindowPoints words) c d c.pc tag parts None x0 nonzero (version_uncoded tag is)
    (λ q o. covered (Excepted WindowPoints words) (making c d tag o q) [] (sures_other c.regs d (version tag o) [] (not_sure_version tag o is) sures) tt))
    (knows_same (making c d tag (made parts None) (c.pc + 4 * length (part_words d parts)))))

-- the start
start_carries : (words init input : List ℕ) (extra base : ℕ) (parts : List Part) → made parts None ≡ Some (slot_address base) →
    Carries words (Excepted WindowPoints words) (start_code parts) (start_assertion init input extra) (started_at base init input extra (text_base + 4 * length (start_code parts)))
start_carries words init input extra base parts e =
    let sp = slot_address base in
    let g = start_stage base init input extra in
    let c0 = start_assertion init input extra in
    let c1 = after_write c0 2 (Has One sp) (c0.pc + 4 * length (part_words 2 parts)) in
    let c2 = after_write c1 3 (Has Two sp) (c1.pc + 4 * length (part_words 3 parts)) in
    let zero1 : c1.regs 0 ≡ Has Sure 0 = with_register-other c0.regs 2 0 (Has One sp) (omega arith) ∙ start_cells-zero in
    let zero2 : c2.regs 0 ≡ Has Sure 0 = with_register-other c1.regs 3 0 (Has Two sp) (omega arith) ∙ zero1 in
    let s1 = sures_other start_cells 2 (Has One sp) [] (not_sure_version One (Some sp) tt) sures-start_cells in
    let s2 = sures_other c1.regs 3 (Has Two sp) [] (not_sure_version Two (Some sp) tt) s1 in
    let there : text_base + 4 * length (start_code parts) ≡ c2.pc + 4 * length (part_words 4 parts) =
    omega (arith, length-append (part_words 2 parts) (part_words 3 parts ++ part_words 4 parts), length-append (part_words 3 parts) (part_words 4 parts)) in
    joined (copy_carries words c0 2 sp One parts tt start_cells-zero sures-start_cells (lit< tt) e)
    (joined (copy_carries words c1 3 sp Two parts tt zero1 s1 (lit< tt) e)
    (carries_less (knows_same c2) (copy_carries words c2 4 sp Three parts tt zero2 s2 (lit< tt) e)
    (knows_regs c0 (c2.pc + 4 * length (part_words 4 parts)) (text_base + 4 * length (start_code parts)) (with_copies sp) (view_cell g One no_values) there (λ q. copies_say g q (λ r. refl)))))

pub text_survives : (words init input : List ℕ) (extra base : ℕ) (parts : List Part) (points : List (ℕ × ℕ)) (n bound : ℕ) (out : List ℕ) (status : ℕ) → IsText words init extra base parts →
    Finishes words (Excepted WindowPoints words) (started_at base init input extra (text_base + 4 * length (start_code parts))) n out status → ((p r : ℕ) → IsWindowPoint words text_base p r → IsListed points p r) →
    length (start_code parts) + n ≤ bound → Survives (program_image words init extra) points input out status bound
text_survives words init input extra base parts points n bound out status is end all few =
    let c = start_assertion init input extra in
    let d = started_at base init input extra (text_base + 4 * length (start_code parts)) in
    survives words init extra input points (length (start_code parts) + n) bound out status few is.bytes
    (finishes_more words points c (length (start_code parts) + n) out status all
    (moves_finish words (Excepted WindowPoints words) c d (length (start_code parts)) n out status ((start_carries words init input extra base parts is.address).moves is.placed) end))

pub way_survives : (words init input : List ℕ) (extra base : ℕ) (parts : List Part) (points : List (ℕ × ℕ)) (known : ℕ → Assertion) (n m : ℕ) (out : List ℕ) (status : ℕ) → IsText words init extra base parts →
    KnowsLess (started_at base init input extra (text_base + 4 * length (start_code parts))) (known 0) → IsWay words known n (length words) → Finishes words (Excepted WindowPoints words) (known n) m out status →
    ((p r : ℕ) → IsWindowPoint words text_base p r → IsListed points p r) → length (start_code parts) + m ≤ length words → Survives (program_image words init extra) points input out status ((n + 1) * (length words + 1))
way_survives words init input extra base parts points known n m out status is less way end all few =
    let d = started_at base init input extra (text_base + 4 * length (start_code parts)) in
    let size : length (start_code parts) + (n * length words + m) ≤ (n + 1) * (length words + 1) = bounded n (length words) (length (start_code parts)) m few in
    text_survives words init input extra base parts points (n * length words + m) ((n + 1) * (length words + 1)) out status is
    (λ s f good. way_ends words known n (length words) m out status way end s f (record { damage = good.damage; meets = meets_less words d (known 0) good.damage s less good.meets; pending = good.pending })) all size
  where
    bounded : (n w a m : ℕ) → a + m ≤ w → a + (n * w + m) ≤ (n + 1) * (w + 1)
    bounded n w a m few =
        let product : (n + 1) * (w + 1) ≡ n * w + n * 1 + 1 * (w + 1) = add-mul n 1 (w + 1) ∙ ap (λ x. x + 1 * (w + 1)) (mul-add n w 1) in
        omega arith
