-- Three versions are loaded by an address that is fetched.
use Rattle.std.proofs.Common.{◌≡◌, ◌≢◌, ℕ, ◌+◌, ◌*◌, ◌<◌, ◌^◌, List, [], ◌∷◌, ◌++◌, length, Option, Some, refl, sym, subst, arith, lit<, append_assoc, length-append}
use Rattle.std.specs.Prelude.{pos}
use Rattle.rv_inst.specs.declared.instruction.Form.{Form}
use Rattle.rv_inst.specs.declared.instruction.Form.TheVariants.{LB, LH, LW, LD}
use Rattle.rv_model.specs.Text.{data_base}
use Rattle.rv_flips.specs.Cells.{Tag, One, Two, Three}
use Rattle.flip_words.specs.Placed.{WindowPoints, Excepted, Carries}
use Rattle.flip_words.proofs.CarryLemmas.{joined, carries_less}
use Rattle.flip_words.proofs.LessLemmas.{knows_same}
use Rattle.flip_frames.specs.Views.{Stage, IsView, Runs, version, view_cell, at_address, no_values}
use Rattle.flip_frames.specs.Fetching.{Triple}
use Rattle.flip_frames.specs.Slots.{any_store}
use Rattle.flip_versions.specs.Operations.{resting, IsSlot, AreSlots, stored, defined}
use Rattle.flip_versions.proofs.VersionLaws.{slot_after}
use Rattle.flip_guards.specs.Guards.{KeptRegister, Kept, over, guard_at, guarded}
use Rattle.flip_guards.specs.Fetching.{Operand, IsGiven, bring_three, check_words, fetch_operand}
use Rattle.flip_guards.proofs.FetchLaws.{three_kept, keeping_six, keeping_seven, free_scratch, calm_stage, stage_brings}
use Rattle.flip_guards.proofs.GuardRuns.{guard_stores, framed_kept, scratch_forgotten}
use Rattle.flip_guards.proofs.LineWords.{line_check}
use Rattle.flip_guards.proofs.Lines.{Line, line_start, line_forget, line_carries}
use Rattle.flip_bytes.proofs.ByteLines.{line_load_bytes}
use Rattle.flip_blocks.specs.Sizes.{AccessSize, OneByte, TwoBytes, FourBytes, EightBytes, load_at}
use Rattle.flip_blocks.specs.Blocks.{IsInside, load_words, value_at}

-- the three loads
abbrev loads : AccessSize → List Form
loads size = load_at size 6 5 ∷ load_at size 7 5 ∷ load_at size 30 5 ∷ []

abbrev check_and_load : AccessSize → List Form
check_and_load size = check_words 5 6 7 ++ loads size

-- the versions that they bring
abbrev loaded : Option ℕ → List KeptRegister
loaded v = Kept 30 Three v ∷ Kept 7 Two v ∷ Kept 6 One v ∷ []

load_line : (words : List ℕ) (size : AccessSize) (g : Stage) (o : ℕ) → data_base + o < 2 ^ 64 → IsInside g o size → Line words (check_and_load size) (guarded g (three_kept 5 6 7 (Some (data_base + o)) [])) 5 (guarded g (loaded (value_at g size o)))
load_line words OneByte g o small inside =
    let l2 = line_check 5 6 7 (data_base + o) refl refl refl refl (lit< tt) refl (line_start words (check_and_load OneByte) (guarded g (three_kept 5 6 7 (Some (data_base + o)) []))) in
    let l3 = line_load_bytes (LB 6 5 (pos 0)) o One refl refl (lit< tt) (λ q. record { base = data_base + o; right = refl; leads = omega arith; within = inside }) refl l2 in
    let l4 = line_load_bytes (LB 7 5 (pos 0)) o Two refl refl (lit< tt) (λ q. record { base = data_base + o; right = refl; leads = omega arith; within = inside }) refl l3 in
    let l5 = line_load_bytes (LB 30 5 (pos 0)) o Three refl refl (lit< tt) (λ q. record { base = data_base + o; right = refl; leads = omega arith; within = inside }) refl l4 in
    line_forget 5 (free_scratch g 5 refl) l5
load_line words TwoBytes g o small inside =
    let l2 = line_check 5 6 7 (data_base + o) refl refl refl refl (lit< tt) refl (line_start words (check_and_load TwoBytes) (guarded g (three_kept 5 6 7 (Some (data_base + o)) []))) in
    let l3 = line_load_bytes (LH 6 5 (pos 0)) o One refl refl (lit< tt) (λ q. record { base = data_base + o; right = refl; leads = omega arith; within = inside }) refl l2 in
    let l4 = line_load_bytes (LH 7 5 (pos 0)) o Two refl refl (lit< tt) (λ q. record { base = data_base + o; right = refl; leads = omega arith; within = inside }) refl l3 in
    let l5 = line_load_bytes (LH 30 5 (pos 0)) o Three refl refl (lit< tt) (λ q. record { base = data_base + o; right = refl; leads = omega arith; within = inside }) refl l4 in
    line_forget 5 (free_scratch g 5 refl) l5
load_line words FourBytes g o small inside =
    let l2 = line_check 5 6 7 (data_base + o) refl refl refl refl (lit< tt) refl (line_start words (check_and_load FourBytes) (guarded g (three_kept 5 6 7 (Some (data_base + o)) []))) in
    let l3 = line_load_bytes (LW 6 5 (pos 0)) o One refl refl (lit< tt) (λ q. record { base = data_base + o; right = refl; leads = omega arith; within = inside }) refl l2 in
    let l4 = line_load_bytes (LW 7 5 (pos 0)) o Two refl refl (lit< tt) (λ q. record { base = data_base + o; right = refl; leads = omega arith; within = inside }) refl l3 in
    let l5 = line_load_bytes (LW 30 5 (pos 0)) o Three refl refl (lit< tt) (λ q. record { base = data_base + o; right = refl; leads = omega arith; within = inside }) refl l4 in
    line_forget 5 (free_scratch g 5 refl) l5
load_line words EightBytes g o small inside =
    let l2 = line_check 5 6 7 (data_base + o) refl refl refl refl (lit< tt) refl (line_start words (check_and_load EightBytes) (guarded g (three_kept 5 6 7 (Some (data_base + o)) []))) in
    let l3 = line_load_bytes (LD 6 5 (pos 0)) o One refl refl (lit< tt) (λ q. record { base = data_base + o; right = refl; leads = omega arith; within = inside }) refl l2 in
    let l4 = line_load_bytes (LD 7 5 (pos 0)) o Two refl refl (lit< tt) (λ q. record { base = data_base + o; right = refl; leads = omega arith; within = inside }) refl l3 in
    let l5 = line_load_bytes (LD 30 5 (pos 0)) o Three refl refl (lit< tt) (λ q. record { base = data_base + o; right = refl; leads = omega arith; within = inside }) refl l4 in
    line_forget 5 (free_scratch g 5 refl) l5

-- one version goes to its slot
loaded_stored : (words : List ℕ) (g : Stage) (v : Option ℕ) (r n : ℕ) (tag : Tag) (p : ℕ) → IsView (resting g One) → IsSlot g n → 4 < r → r ≢ 28 → r ≢ 29 → over (loaded v) (view_cell g One no_values) r ≡ version tag v →
    Carries words (Excepted WindowPoints words) (any_store r n) (guard_at (guarded g (loaded v)) p) (guard_at (guarded (stored g n tag v) (loaded v)) (p + 4 * length (any_store r n)))
loaded_stored words g v r n tag p is slot above ne28 ne29 keeps =
    guard_stores words g (loaded v) r n tag v p (framed_kept g (loaded v) p is refl refl refl refl refl) (free_scratch g 28 refl) (free_scratch g 29 refl) slot above ne28 ne29 keeps

-- a view is still one after a store
view_after : (g : Stage) (n : ℕ) (t : Tag) (v : Option ℕ) → IsView (resting g One) → IsView (resting (stored g n t v) One)
view_after g n t v is = record { tag = tt; places = is.places; size = is.size; base = is.base }

-- all three do
all_stored : (words : List ℕ) (g : Stage) (v : Option ℕ) (d : Triple) (p : ℕ) → IsView (resting g One) → AreSlots g d →
    Carries words (Excepted WindowPoints words) (any_store 6 d.one ++ (any_store 7 d.two ++ any_store 30 d.three)) (guard_at (guarded g (loaded v)) p)
    (at_address (resting (defined g d v) One) (p + 4 * length (any_store 6 d.one) + 4 * length (any_store 7 d.two) + 4 * length (any_store 30 d.three)))
all_stored words g v d p is slots =
    let g1 = stored g d.one One v in
    let g2 = stored g1 d.two Two v in
    let p1 = p + 4 * length (any_store 6 d.one) in
    let p2 = p1 + 4 * length (any_store 7 d.two) in
    let p3 = p2 + 4 * length (any_store 30 d.three) in
    let is1 = view_after g d.one One v is in
    let is2 = view_after g1 d.two Two v is1 in
    let s2 = slot_after g d.two d.one One v slots.two in
    let s3 = slot_after g1 d.three d.two Two v (slot_after g d.three d.one One v slots.three) in
    joined (loaded_stored words g v 6 d.one One p is slots.one (omega arith) (omega arith) (omega arith) refl)
    (joined (loaded_stored words g1 v 7 d.two Two p1 is1 s2 (omega arith) (omega arith) (omega arith) refl)
    (carries_less (knows_same (guard_at (guarded g2 (loaded v)) p2)) (loaded_stored words g2 v 30 d.three Three p2 is2 s3 (omega arith) (omega arith) (omega arith) refl) (scratch_forgotten (defined g d v) (loaded v) p3 refl)))

pub block_is_loaded : (words : List ℕ) (size : AccessSize) (g : Stage) (y : Operand) (d : Triple) (o : ℕ) → IsGiven g y (Some (data_base + o)) → IsInside g o size → AreSlots g d →
    Runs words (load_words size y d) (resting g One) (resting (defined g d (value_at g size o)) One)
block_is_loaded words size g y d o gives inside slots =
    record { carries = whole; kept = λ is. record { tag = tt; places = is.places; size = is.size; base = is.base } }
  where
    front : List Form
    front = bring_three 5 6 7 y

    stores : List Form
    stores = any_store 6 d.one ++ (any_store 7 d.two ++ any_store 30 d.three)

    whole : IsView (resting g One) → (p : ℕ) → Carries words (Excepted WindowPoints words) (load_words size y d) (at_address (resting g One) p) (at_address (resting (defined g d (value_at g size o)) One) (p + 4 * length (load_words size y d)))
    whole is p =
        let a = data_base + o in
        let q = p + 4 * length (bring_three 5 6 7 y) in
        let small : data_base + o < 2 ^ 64 = omega (arith, is.size) in
        let grouped : bring_three 5 6 7 y ++ (check_words 5 6 7 ++ loads size) ≡ fetch_operand y ++ loads size = sym (append_assoc (bring_three 5 6 7 y) (check_words 5 6 7) (loads size)) in
        let there : q + 20 + 4 * length (any_store 6 d.one) + 4 * length (any_store 7 d.two) + 4 * length (any_store 30 d.three) ≡ p + 4 * length (load_words size y d) =
        omega (arith, length-append (fetch_operand y ++ loads size) stores, length-append (fetch_operand y) (loads size), length-append (bring_three 5 6 7 y) (check_words 5 6 7), length-append (any_store 6 d.one) (any_store 7 d.two ++ any_store 30 d.three), length-append (any_store 7 d.two) (any_store 30 d.three)) in
        let P : List Form → Type 0 = λ code. Carries words (Excepted WindowPoints words) code (at_address (resting g One) p) (guard_at (guarded g (loaded (value_at g size o))) (q + 20)) in
        let Q : ℕ → Type 0 = λ r. Carries words (Excepted WindowPoints words) (load_words size y d) (at_address (resting g One) p) (at_address (resting (defined g d (value_at g size o)) One) r) in
        subst Q there
        (joined (subst P grouped (joined (stage_brings words g 5 6 7 y (Some a) p is (omega arith) keeping_six keeping_seven gives) (line_carries (calm_stage g (three_kept 5 6 7 (Some a) []) is) q (load_line words size g o small inside))))
        (all_stored words g (value_at g size o) d (q + 20) is slots))
