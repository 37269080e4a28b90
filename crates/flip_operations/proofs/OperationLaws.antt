-- Operations on operands of any kind.
use Rattle.std.proofs.Common.{◌≡◌, ◌≢◌, ℕ, ◌+◌, ◌*◌, ◌<◌, ◌==◌, Bool, true, false, List, [], ◌∷◌, ◌++◌, length, cond, Option, None, Some, refl, sym, ◌∙◌, ap, subst, arith}
use Rattle.std.specs.List.{list_all}
use Rattle.std.proofs.lemmas.Bool.Decides.{nat_tests}
use Rattle.rv_inst.specs.declared.instruction.Form.{Form}
use Rattle.rv_flips.specs.Cells.{Tag, One, Two, Three, Free, SaysLess}
use Rattle.rv_flips.specs.Assertion.{with_register}
use Rattle.flip_words.proofs.CarryLemmas.{carries_less}
use Rattle.flip_words.proofs.LessLemmas.{says_again, says_then, knows_same, knows_regs, written_says}
use Rattle.flip_frames.specs.Views.{Stage, View, IsView, IsVersion, Runs, is_scratch, version, view_cell, at_address, with_value, with_scratch, no_values}
use Rattle.flip_frames.specs.Computing.{is_pure, effect_of}
use Rattle.flip_frames.specs.Fetching.{Triple}
use Rattle.flip_frames.specs.Slots.{far_view}
use Rattle.flip_frames.proofs.ViewLemmas.{view_cell-zero, view_cell-two, view_cell-three, view_cell-four, view_cell-file, sures_view, scratch_written, with_value-other, with_value-same}
use Rattle.flip_frames.proofs.RunLaws.{runs_then, runs_less, pure_runs}
use Rattle.flip_versions.specs.Operations.{resting, IsSlot, AreSlots, stored, defined, Leaves}
use Rattle.flip_versions.proofs.VersionLaws.{slot_after, store_turns}
use Rattle.flip_guards.specs.Slots.{IsFramed}
use Rattle.flip_guards.specs.Sources.{Source, InSlot, InRegister, Constant, bring, Gives}
use Rattle.flip_guards.specs.Fetching.{Operand, IsGiven}
use Rattle.flip_guards.proofs.SourceLaws.{source_carries}
use Rattle.flip_copies.specs.Copies.{IsReadInTime}
use Rattle.flip_copies.proofs.CopyLaws.{GivesTurn, gives_stored}
use Rattle.flip_operations.specs.Operations.{version_of_two, version_of_one, TwoOperandsRun, OneOperandRuns}

-- ---- an operand comes into a scratch register, where values are in others
framed : (v : View) (p : ℕ) → IsView v → IsFramed (at_address v p) v.stage.base
framed v p is =
    record {
      zero = view_cell-zero v.stage v.tag v.file;
      one = view_cell-two v.stage v.tag v.file;
      two = view_cell-three v.stage v.tag v.file;
      three = view_cell-four v.stage v.tag v.file;
      sures = sures_view v is;
      size = is.size;
      frame = is.base;
    }

-- a place is none of the scratch registers
place_cell : (g : Stage) (t : Tag) (file : ℕ → Option ℕ) (r : ℕ) → 7 < r → r < 28 → view_cell g t file r ≡ view_cell g One no_values r
unfolding view_cell
place_cell g t file r above below = grind (arith, nat_tests)

given : (v : View) (p : ℕ) (s : Source) (o : Option ℕ) → GivesTurn v.stage s v.tag o → Gives (at_address v p) v.stage.base s v.tag o
given v p (InSlot n) o gives = (record { within = gives.0.within; small = gives.0.small }, gives.1)
given v p (InRegister r) o gives = (gives.0, place_cell v.stage v.tag v.file r gives.0.0 gives.0.1 ∙ gives.1)
given v p (Constant parts) o gives = gives

-- x28 and x29 are used up, and the register has the version
brought_less : (v : View) (r : ℕ) (o : Option ℕ) → is_scratch r ≡ true → (q : ℕ)
    → SaysLess (with_register (with_register (with_register (view_cell v.stage v.tag v.file) 28 Free) 29 Free) r (version v.tag o) q)
    (view_cell v.stage v.tag (with_value (with_value (with_value v.file 28 None) 29 None) r o) q)
brought_less v r o scratch q =
    let v28 = with_scratch v 28 None in
    let v29 = with_scratch v28 29 None in
    let r28 = with_register (view_cell v.stage v.tag v.file) 28 Free in
    let less28 = view_cell v.stage v.tag (with_value v.file 28 None) in
    let less29 = view_cell v.stage v.tag (with_value (with_value v.file 28 None) 29 None) in
    let s28 = scratch_written v 28 None Free refl (says_again Free) in
    let s29 : (k : ℕ) → SaysLess (with_register r28 29 Free k) (less29 k) =
    λ k. says_then (with_register r28 29 Free k) (with_register less28 29 Free k) (less29 k) (written_says r28 less28 29 Free Free (says_again Free) (λ i ne. s28 i) k) (scratch_written v28 29 None Free refl (says_again Free) k) in
    says_then (with_register (with_register r28 29 Free) r (version v.tag o) q) (with_register less29 r (version v.tag o) q) (view_cell v.stage v.tag (with_value (with_value (with_value v.file 28 None) 29 None) r o) q)
    (written_says (with_register r28 29 Free) less29 r (version v.tag o) (version v.tag o) (says_again (version v.tag o)) (λ i ne. s29 i) q)
    (scratch_written v29 r o (version v.tag o) scratch (says_again (version v.tag o)) q)

pub brings_run : (words : List ℕ) (v : View) (r : ℕ) (s : Source) (o : Option ℕ) → 4 < r → is_scratch r ≡ true → IsVersion v.tag → GivesTurn v.stage s v.tag o
    → Runs words (bring r s) v (with_scratch (far_view v) r o)
brings_run words v r s o above scratch turn gives =
    record {
      carries = λ is p.
          carries_less (knows_same (at_address v p)) (source_carries words (at_address v p) v.stage.base r s v.tag o (framed v p is) above turn (given v p s o gives))
          (knows_regs (at_address v p) (p + 4 * length (bring r s)) (p + 4 * length (bring r s))
          (with_register (with_register (with_register (view_cell v.stage v.tag v.file) 28 Free) 29 Free) r (version v.tag o))
          (view_cell v.stage v.tag ((with_scratch (far_view v) r o).file)) refl (brought_less v r o scratch));
      kept = λ is. record { tag = is.tag; places = is.places; size = is.size; base = is.base };
    }

-- ---- one version
-- nothing is in x28 and x29 where nothing was
two_tests : (b6 b29 b28 b5 : Bool) (o1 o2 : Option ℕ) → (b29 ≡ true → b5 ≡ false) → (b28 ≡ true → b5 ≡ false)
    → cond b6 o2 (cond b29 None (cond b28 None (cond b5 o1 (cond b29 None (cond b28 None None))))) ≡ cond b6 o2 (cond b5 o1 None)
two_tests true b29 b28 b5 o1 o2 h k = refl
two_tests false true b28 b5 o1 o2 h k = rw (h refl) refl
two_tests false false true b5 o1 o2 h k = rw (k refl) refl
two_tests false false false true o1 o2 h k = refl
two_tests false false false false o1 o2 h k = refl

two_values : (o1 o2 : Option ℕ) (q : ℕ)
    → with_value (with_value (with_value (with_value (with_value (with_value no_values 28 None) 29 None) 5 o1) 28 None) 29 None) 6 o2 q
    ≡ with_value (with_value no_values 5 o1) 6 o2 q
unfolding with_value
two_values o1 o2 q = two_tests (q == 6) (q == 29) (q == 28) (q == 5) o1 o2 (λ e. grind (arith, nat_tests)) (λ e. grind (arith, nat_tests))

one_test : (b6 b29 b28 b5 : Bool) (o1 : Option ℕ) → cond b5 o1 (cond b29 None (cond b28 None None)) ≡ cond b6 (cond b5 o1 None) (cond b5 o1 None)
one_test true true true true o1 = refl
one_test true true true false o1 = refl
one_test true true false true o1 = refl
one_test true true false false o1 = refl
one_test true false true true o1 = refl
one_test true false true false o1 = refl
one_test true false false true o1 = refl
one_test true false false false o1 = refl
one_test false true true true o1 = refl
one_test false true true false o1 = refl
one_test false true false true o1 = refl
one_test false true false false o1 = refl
one_test false false true true o1 = refl
one_test false false true false o1 = refl
one_test false false false true o1 = refl
one_test false false false false o1 = refl

no_sixth : (b6 b5 : Bool) (o1 : Option ℕ) → (b6 ≡ true → b5 ≡ false) → cond b6 (cond b5 o1 None) (cond b5 o1 None) ≡ cond b6 None (cond b5 o1 None)
no_sixth true b5 o1 apart = rw (apart refl) refl
no_sixth false b5 o1 apart = refl

one_value : (o1 : Option ℕ) (q : ℕ) → with_value (with_value (with_value no_values 28 None) 29 None) 5 o1 q ≡ with_value (with_value no_values 5 o1) 6 None q
unfolding with_value
one_value o1 q = one_test (q == 6) (q == 29) (q == 28) (q == 5) o1 ∙ no_sixth (q == 6) (q == 5) o1 (λ e. grind (arith, nat_tests))

pub two_version : (words : List ℕ) (code : List Form) (g : Stage) (t t' : Tag) (x y : Source) (d : ℕ) (o1 o2 o : Option ℕ) → list_all is_pure code ≡ true
    → Leaves code o1 o2 o → IsVersion t → IsVersion t' → GivesTurn g x t o1 → GivesTurn g y t o2 → IsSlot g d
    → Runs words (version_of_two code x y d) (resting g t) (resting (stored g d t o) t')
two_version words code g t t' x y d o1 o2 o pure leaves turn turn' gx gy sd =
    let v = resting g t in
    let v1 : View = with_scratch (far_view (resting g t)) 5 o1 in
    let v2 : View = with_scratch (far_view (with_scratch (far_view (resting g t)) 5 o1)) 6 o2 in
    let same : (with_scratch (far_view (with_scratch (far_view (resting g t)) 5 o1)) 6 o2).file ≡ with_value (with_value no_values 5 o1) 6 o2 = λ i q. two_values o1 o2 q i in
    let value : effect_of code ((with_scratch (far_view (with_scratch (far_view (resting g t)) 5 o1)) 6 o2).file) 5 ≡ o = ap (λ (f : ℕ → Option ℕ). effect_of code f 5) same ∙ leaves in
    runs_then (brings_run words v 5 x o1 (omega arith) refl turn gx)
    (runs_then (brings_run words v1 6 y o2 (omega arith) refl turn gy) (store_turns g t t' d (effect_of code v2.file) o turn' sd value (pure_runs words code v2 pure)))

pub one_version : (words : List ℕ) (code : List Form) (g : Stage) (t t' : Tag) (x : Source) (d : ℕ) (o1 o : Option ℕ) → list_all is_pure code ≡ true
    → Leaves code o1 None o → IsVersion t → IsVersion t' → GivesTurn g x t o1 → IsSlot g d
    → Runs words (version_of_one code x d) (resting g t) (resting (stored g d t o) t')
one_version words code g t t' x d o1 o pure leaves turn turn' gx sd =
    let v = resting g t in
    let v1 : View = with_scratch (far_view (resting g t)) 5 o1 in
    let same : (with_scratch (far_view (resting g t)) 5 o1).file ≡ with_value (with_value no_values 5 o1) 6 None = λ i q. one_value o1 q i in
    let value : effect_of code ((with_scratch (far_view (resting g t)) 5 o1).file) 5 ≡ o = ap (λ (f : ℕ → Option ℕ). effect_of code f 5) same ∙ leaves in
    runs_then (brings_run words v 5 x o1 (omega arith) refl turn gx) (store_turns g t t' d (effect_of code v1.file) o turn' sd value (pure_runs words code v1 pure))

-- ---- all three
pub two_run : TwoOperandsRun
two_run words code g x y d o1 o2 o pure leaves gx gy slots tx ty =
    let g1 = stored g d.one One o in
    let g2 = stored g1 d.two Two o in
    runs_then (two_version words code g One Two x.one y.one d.one o1 o2 o pure leaves tt tt gx.one gy.one slots.one)
    (runs_then (two_version words code g1 Two Three x.two y.two d.two o1 o2 o pure leaves tt tt (gives_stored g d.one Two One o o1 x.two gx.two tx.two_one)
    (gives_stored g d.one Two One o o2 y.two gy.two ty.two_one) (slot_after g d.two d.one One o slots.two))
    (two_version words code g2 Three One x.three y.three d.three o1 o2 o pure leaves tt tt
    (gives_stored g1 d.two Three Two o o1 x.three (gives_stored g d.one Three One o o1 x.three gx.three tx.three_one) tx.three_two)
    (gives_stored g1 d.two Three Two o o2 y.three (gives_stored g d.one Three One o o2 y.three gy.three ty.three_one) ty.three_two)
    (slot_after g1 d.three d.two Two o (slot_after g d.three d.one One o slots.three))))

pub one_runs : OneOperandRuns
one_runs words code g x d o1 o pure leaves gx slots tx =
    let g1 = stored g d.one One o in
    let g2 = stored g1 d.two Two o in
    runs_then (one_version words code g One Two x.one d.one o1 o pure leaves tt tt gx.one slots.one)
    (runs_then (one_version words code g1 Two Three x.two d.two o1 o pure leaves tt tt (gives_stored g d.one Two One o o1 x.two gx.two tx.two_one)
    (slot_after g d.two d.one One o slots.two))
    (one_version words code g2 Three One x.three d.three o1 o pure leaves tt tt
    (gives_stored g1 d.two Three Two o o1 x.three (gives_stored g d.one Three One o o1 x.three gx.three tx.three_one) tx.three_two)
    (slot_after g1 d.three d.two Two o (slot_after g d.three d.one One o slots.three))))
