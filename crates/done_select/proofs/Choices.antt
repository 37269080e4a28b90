-- A choice between operands of any kind, in three versions.
use Rattle.std.proofs.Common.{◌≡◌, ℕ, ◌<◌, ◌^◌, List, Option, Some, refl, ap, ◌∙◌, arith}
use Rattle.rv_flips.specs.Cells.{Tag, One, Two, Three}
use Rattle.flip_frames.specs.Views.{Stage, View, IsVersion, Runs, with_scratch}
use Rattle.flip_frames.specs.Computing.{effect_of}
use Rattle.flip_frames.specs.Fetching.{Triple}
use Rattle.flip_frames.specs.Slots.{far_view}
use Rattle.flip_frames.proofs.RunLaws.{runs_then, pure_runs}
use Rattle.flip_versions.specs.Operations.{resting, IsSlot, AreSlots, stored, defined}
use Rattle.flip_versions.proofs.VersionLaws.{slot_after, store_turns}
use Rattle.flip_guards.specs.Sources.{Source}
use Rattle.flip_guards.specs.Fetching.{Operand, IsGiven}
use Rattle.flip_copies.specs.Copies.{IsReadInTime}
use Rattle.flip_copies.proofs.CopyLaws.{GivesTurn, gives_stored}
use Rattle.flip_operations.proofs.OperationLaws.{brings_run}
use Rattle.flip_select.specs.Select.{select_code}
use Rattle.flip_select.proofs.SelectLaw.{Leaves, ones, ones_leaves, zero_leaves, loaded_three, loads_bring}
use Rattle.done_select.specs.Select.{version_of_choice, choice_words}

-- the code leaves a value where these three came in
abbrev pub LeavesOf : List ℕ → Option ℕ → Option ℕ → Option ℕ → Option ℕ → Type 0
LeavesOf words m x y o = (v : View) → v.file ≡ loaded_three m x y → Leaves words v o

version_runs : (words : List ℕ) (g : Stage) (t t' : Tag) (c x y : Source) (d : ℕ) (m first second o : Option ℕ) → IsVersion t → IsVersion t' → LeavesOf words m first second o
    → GivesTurn g c t m → GivesTurn g x t first → GivesTurn g y t second → IsSlot g d → Runs words (version_of_choice c x y d) (resting g t) (resting (stored g d t o) t')
version_runs words g t t' c x y d m first second o turn turn' leaves gc gx gy sd =
    let v1 : View = with_scratch (far_view (resting g t)) 5 m in
    let v2 : View = with_scratch (far_view (with_scratch (far_view (resting g t)) 5 m)) 6 first in
    let v3 : View = with_scratch (far_view (with_scratch (far_view (with_scratch (far_view (resting g t)) 5 m)) 6 first)) 7 second in
    let left : Leaves words v3 o = leaves v3 refl in
    runs_then (brings_run words (resting g t) 5 c m (omega arith) refl turn gc)
    (runs_then (brings_run words v1 6 x first (omega arith) refl turn gx)
    (runs_then (brings_run words v2 7 y second (omega arith) refl turn gy) (store_turns g t t' d left.file o turn' sd left.is left.runs)))

-- all three versions
pub choice_runs : (words : List ℕ) (g : Stage) (c x y : Operand) (d : Triple) (m first second o : Option ℕ) → LeavesOf words m first second o
    → IsGiven g c m → IsGiven g x first → IsGiven g y second → AreSlots g d → IsReadInTime d c → IsReadInTime d x → IsReadInTime d y
    → Runs words (choice_words c x y d) (resting g One) (resting (defined g d o) One)
choice_runs words g c x y d m first second o leaves gc gx gy slots tc tx ty =
    let g1 : Stage = stored g d.one One o in
    let g2 : Stage = stored (stored g d.one One o) d.two Two o in
    let second_gives : (z : Operand) (w : Option ℕ) → IsGiven g z w → IsReadInTime d z → GivesTurn (stored g d.one One o) z.two Two w =
    λ z w gives time. gives_stored g d.one Two One o w z.two gives.two time.two_one in
    let third_gives : (z : Operand) (w : Option ℕ) → IsGiven g z w → IsReadInTime d z → GivesTurn (stored (stored g d.one One o) d.two Two o) z.three Three w =
    λ z w gives time. gives_stored g1 d.two Three Two o w z.three (gives_stored g d.one Three One o w z.three gives.three time.three_one) time.three_two in
    runs_then (version_runs words g One Two c.one x.one y.one d.one m first second o tt tt leaves gc.one gx.one gy.one slots.one)
    (runs_then
    (version_runs words g1 Two Three c.two x.two y.two d.two m first second o tt tt leaves (second_gives c m gc tc) (second_gives x first gx tx) (second_gives y second gy ty)
    (slot_after g d.two d.one One o slots.two))
    (version_runs words g2 Three One c.three x.three y.three d.three m first second o tt tt leaves (third_gives c m gc tc) (third_gives x first gx tx) (third_gives y second gy ty)
    (slot_after g1 d.three d.two Two o (slot_after g d.three d.one One o slots.three))))

-- whatever came in, the code leaves something, one and the same in all versions
pub leaves_some : (words : List ℕ) (m first second : Option ℕ) → LeavesOf words m first second (effect_of select_code (loaded_three m first second) 5)
leaves_some words m first second v is =
    record { file = effect_of select_code v.file; is = ap (λ (f : ℕ → Option ℕ). effect_of select_code f 5) is; runs = pure_runs words select_code v refl }

-- by a condition of ones the first value, by one of zeros the second
pub leaves_first : (words : List ℕ) (m first second : Option ℕ) (w : ℕ) → m ≡ Some ones → first ≡ Some w → w < 2 ^ 64 → LeavesOf words m first second (Some w)
leaves_first words m first second w all chosen small v is =
    let values = loads_bring m first second in
    ones_leaves words v (Some w) (ap (λ (f : ℕ → Option ℕ). f 5) is ∙ values.0 ∙ all) (ap (λ (f : ℕ → Option ℕ). f 6) is ∙ values.1 ∙ chosen) small

pub leaves_second : (words : List ℕ) (m first second : Option ℕ) (w : ℕ) → m ≡ Some 0 → second ≡ Some w → w < 2 ^ 64 → LeavesOf words m first second (Some w)
leaves_second words m first second w zeros chosen small v is =
    let values = loads_bring m first second in
    zero_leaves words v (Some w) (ap (λ (f : ℕ → Option ℕ). f 5) is ∙ values.0 ∙ zeros) (ap (λ (f : ℕ → Option ℕ). f 7) is ∙ values.2 ∙ chosen) small
