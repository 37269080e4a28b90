-- One version of an operation, of a copy and of a constant, and three of them in a row.
use Rattle.std.proofs.Common.{◌≡◌, ◌≢◌, ℕ, ◌+◌, ◌==◌, Bool, true, false, cond, List, ◌++◌, Option, None, refl, ◌∙◌, ap, subst, arith}
use Rattle.std.specs.List.{list_all}
use Rattle.std.proofs.lemmas.Bool.Decides.{nat_tests}
use Rattle.rv_inst.specs.declared.instruction.Form.{Form}
use Rattle.rv_flips.specs.Cells.{Tag, One, Two, Three, Cell}
use Rattle.rv_flips.specs.Assertion.{with_register}
use Rattle.rv_flips.proofs.CellLemmas.{with_register-same, with_register-other, says_free}
use Rattle.flip_frames.specs.Views.{Stage, View, IsVersion, Runs, version, with_value, with_scratch, no_values}
use Rattle.flip_frames.specs.Computing.{effect_of, is_pure}
use Rattle.flip_frames.specs.Fetching.{Triple}
use Rattle.flip_frames.specs.Slots.{any_load, any_store, far_view}
use Rattle.flip_frames.proofs.ViewLemmas.{with_value-same}
use Rattle.flip_frames.proofs.RunLaws.{runs_then, runs_less, pure_runs}
use Rattle.flip_frames.proofs.AnySlots.{any_load_runs, any_store_runs}
use Rattle.flip_versions.specs.Operations.{resting, IsSlot, AreSlots, HoldsVersions, stored, defined, version_words, operation_words, copy_words, constant_words, Leaves, Makes, IsApart, AreDifferent, IsOther}

-- the values after two loads are the two operands, and no others
two_tests : (b6 b29 b28 b5 : Bool) (o1 o2 : Option ℕ) → (b29 ≡ true → b5 ≡ false) → (b28 ≡ true → b5 ≡ false) →
    cond b6 o2 (cond b29 None (cond b28 None (cond b5 o1 (cond b29 None (cond b28 None None))))) ≡ cond b6 o2 (cond b5 o1 None)
two_tests true b29 b28 b5 o1 o2 h k = refl
two_tests false true b28 b5 o1 o2 h k = rw (h refl) refl
two_tests false false true b5 o1 o2 h k = rw (k refl) refl
two_tests false false false true o1 o2 h k = refl
two_tests false false false false o1 o2 h k = refl

two_values : (o1 o2 : Option ℕ) (q : ℕ) →
    with_value (with_value (with_value (with_value (with_value (with_value no_values 28 None) 29 None) 5 o1) 28 None) 29 None) 6 o2 q ≡ with_value (with_value no_values 5 o1) 6 o2 q
unfolding with_value
two_values o1 o2 q = two_tests (q == 6) (q == 29) (q == 28) (q == 5) o1 o2 (λ e. grind (arith, nat_tests)) (λ e. grind (arith, nat_tests))

-- after a store the turn is the next version's
pub store_turns : {words : List ℕ} {code : List Form} {v : View} (g : Stage) (t t' : Tag) (d : ℕ) (file : ℕ → Option ℕ) (o : Option ℕ) → IsVersion t' → IsSlot g d → file 5 ≡ o →
    Runs words code v (record { stage = g; tag = t; file = file }) → Runs words (code ++ any_store 5 d) v (resting (stored g d t o) t')
store_turns {words = words} {code = code} {v = v} g t t' d file o turn slot is one =
    let w : View = record { stage = g; tag = t; file = file } in
    let ne : 5 ≢ 28 = omega arith in
    let ne' : 5 ≢ 29 = omega arith in
    let P : Option ℕ → Type 0 = λ x. Runs words (code ++ any_store 5 d) v (resting (stored g d t x) t') in
    subst P is (runs_then one (runs_less t' no_values turn (λ q. says_free (version t ((far_view w).file q))) (any_store_runs words w 5 d refl ne ne' slot.small slot.within)))

version_runs : (words : List ℕ) (code : List Form) (g : Stage) (t t' : Tag) (x y d : ℕ) (o1 o2 o : Option ℕ) → list_all is_pure code ≡ true → Leaves code o1 o2 o → IsVersion t' → IsSlot g x → IsSlot g y → IsSlot g d →
    g.slots (g.base + x) ≡ version t o1 → g.slots (g.base + y) ≡ version t o2 → Runs words (version_words code x y d) (resting g t) (resting (stored g d t o) t')
version_runs words code g t t' x y d o1 o2 o pure leaves turn sx sy sd hx hy =
    let v = resting g t in
    let v1 : View = with_scratch (far_view (resting g t)) 5 o1 in
    let v2 : View = with_scratch (far_view (with_scratch (far_view (resting g t)) 5 o1)) 6 o2 in
    let same : (with_scratch (far_view (with_scratch (far_view (resting g t)) 5 o1)) 6 o2).file ≡ with_value (with_value no_values 5 o1) 6 o2 = λ i q. two_values o1 o2 q i in
    let value : effect_of code ((with_scratch (far_view (with_scratch (far_view (resting g t)) 5 o1)) 6 o2).file) 5 ≡ o = ap (λ (f : ℕ → Option ℕ). effect_of code f 5) same ∙ leaves in
    runs_then (any_load_runs words v 5 x o1 refl sx.small sx.within hx)
    (runs_then (any_load_runs words v1 6 y o2 refl sy.small sy.within hy)
    (store_turns g t t' d (effect_of code v2.file) o turn sd value (pure_runs words code v2 pure)))

copy_runs : (words : List ℕ) (g : Stage) (t t' : Tag) (x d : ℕ) (o : Option ℕ) → IsVersion t' → IsSlot g x → IsSlot g d → g.slots (g.base + x) ≡ version t o → Runs words (any_load 5 x ++ any_store 5 d) (resting g t) (resting (stored g d t o) t')
copy_runs words g t t' x d o turn sx sd hx =
    let file = (with_scratch (far_view (resting g t)) 5 o).file in
    store_turns g t t' d file o turn sd (with_value-same ((far_view (resting g t)).file) 5 o) (any_load_runs words (resting g t) 5 x o refl sx.small sx.within hx)

constant_runs : (words : List ℕ) (code : List Form) (g : Stage) (t t' : Tag) (d : ℕ) (o : Option ℕ) → list_all is_pure code ≡ true → Makes code o → IsVersion t' → IsSlot g d → Runs words (code ++ any_store 5 d) (resting g t) (resting (stored g d t o) t')
constant_runs words code g t t' d o pure makes turn sd = store_turns g t t' d (effect_of code no_values) o turn sd makes (pure_runs words code (resting g t) pure)

-- a slot that wasn't written
other_slot : (g : Stage) (n d : ℕ) (cell : Cell) → n ≢ d → with_register g.slots (g.base + d) cell (g.base + n) ≡ g.slots (g.base + n)
other_slot g n d cell ne = let apart : g.base + n ≢ g.base + d = omega arith in with_register-other g.slots (g.base + d) (g.base + n) cell apart

-- a slot of a stage is one of a stage after a store
pub slot_after : (g : Stage) (n d : ℕ) (t : Tag) (o : Option ℕ) → IsSlot g n → IsSlot (stored g d t o) n
slot_after g n d t o s = record { within = s.within; small = s.small }

-- the later versions of an operand, after the earlier ones of the result were stored
pub second_holds : (g : Stage) (x d : Triple) (a o : Option ℕ) → HoldsVersions g x a → IsApart d x → (stored g d.one One o).slots (g.base + x.two) ≡ version Two a
second_holds g x d a o holds apart = other_slot g x.two d.one (version One o) apart.two_one ∙ holds.two

pub third_holds : (g : Stage) (x d : Triple) (a o : Option ℕ) → HoldsVersions g x a → IsApart d x → (stored (stored g d.one One o) d.two Two o).slots (g.base + x.three) ≡ version Three a
third_holds g x d a o holds apart =
    other_slot (stored g d.one One o) x.three d.two (version Two o) apart.three_two ∙ other_slot g x.three d.one (version One o) apart.three_one ∙ holds.three

pub operation_runs : (words : List ℕ) (code : List Form) (g : Stage) (x y d : Triple) (o1 o2 o : Option ℕ) → list_all is_pure code ≡ true → Leaves code o1 o2 o → AreSlots g x → AreSlots g y → AreSlots g d →
    HoldsVersions g x o1 → HoldsVersions g y o2 → IsApart d x → IsApart d y → Runs words (operation_words code x y d) (resting g One) (resting (defined g d o) One)
operation_runs words code g x y d o1 o2 o pure leaves sx sy sd hx hy ax ay =
    let g1 = stored g d.one One o in
    let g2 = stored (stored g d.one One o) d.two Two o in
    let after1 = λ (n : ℕ) (s : IsSlot g n). slot_after g n d.one One o s in
    let after2 = λ (n : ℕ) (s : IsSlot g n). slot_after g1 n d.two Two o (slot_after g n d.one One o s) in
    runs_then (version_runs words code g One Two x.one y.one d.one o1 o2 o pure leaves tt sx.one sy.one sd.one hx.one hy.one)
    (runs_then (version_runs words code g1 Two Three x.two y.two d.two o1 o2 o pure leaves tt (after1 x.two sx.two) (after1 y.two sy.two) (after1 d.two sd.two) (second_holds g x d o1 o hx ax) (second_holds g y d o2 o hy ay))
    (version_runs words code g2 Three One x.three y.three d.three o1 o2 o pure leaves tt (after2 x.three sx.three) (after2 y.three sy.three) (after2 d.three sd.three) (third_holds g x d o1 o hx ax) (third_holds g y d o2 o hy ay)))

pub copies_run : (words : List ℕ) (g : Stage) (x d : Triple) (o : Option ℕ) → AreSlots g x → AreSlots g d → HoldsVersions g x o → IsApart d x → Runs words (copy_words x d) (resting g One) (resting (defined g d o) One)
copies_run words g x d o sx sd hx ax =
    let g1 = stored g d.one One o in
    let g2 = stored (stored g d.one One o) d.two Two o in
    runs_then (copy_runs words g One Two x.one d.one o tt sx.one sd.one hx.one)
    (runs_then (copy_runs words g1 Two Three x.two d.two o tt (slot_after g x.two d.one One o sx.two) (slot_after g d.two d.one One o sd.two) (second_holds g x d o o hx ax))
    (copy_runs words g2 Three One x.three d.three o tt (slot_after g1 x.three d.two Two o (slot_after g x.three d.one One o sx.three)) (slot_after g1 d.three d.two Two o (slot_after g d.three d.one One o sd.three)) (third_holds g x d o o hx ax)))

pub constants_run : (words : List ℕ) (code : List Form) (g : Stage) (d : Triple) (o : Option ℕ) → list_all is_pure code ≡ true → Makes code o → AreSlots g d → Runs words (constant_words code d) (resting g One) (resting (defined g d o) One)
constants_run words code g d o pure makes sd =
    let g1 = stored g d.one One o in
    let g2 = stored (stored g d.one One o) d.two Two o in
    runs_then (constant_runs words code g One Two d.one o pure makes tt sd.one)
    (runs_then (constant_runs words code g1 Two Three d.two o pure makes tt (slot_after g d.two d.one One o sd.two))
    (constant_runs words code g2 Three One d.three o pure makes tt (slot_after g1 d.three d.two Two o (slot_after g d.three d.one One o sd.three))))

-- what the result's slots hold
pub defined_hold : (g : Stage) (d : Triple) (o : Option ℕ) → AreDifferent d → HoldsVersions (defined g d o) d o
defined_hold g d o apart =
    let g1 = stored g d.one One o in
    let g2 = stored (stored g d.one One o) d.two Two o in
    let own1 = with_register-same g.slots (g.base + d.one) (version One o) in
    let own2 = with_register-same g1.slots (g.base + d.two) (version Two o) in
    record {
      one = other_slot g2 d.one d.three (version Three o) apart.one_three ∙ other_slot g1 d.one d.two (version Two o) apart.one_two ∙ own1;
      two = other_slot g2 d.two d.three (version Three o) apart.two_three ∙ own2;
      three = with_register-same g2.slots (g.base + d.three) (version Three o);
    }

pub others_stay : (g : Stage) (d : Triple) (o : Option ℕ) (n : ℕ) → IsOther d n → (defined g d o).slots (g.base + n) ≡ g.slots (g.base + n)
others_stay g d o n other =
    other_slot (stored (stored g d.one One o) d.two Two o) n d.three (version Three o) other.three
    ∙ other_slot (stored g d.one One o) n d.two (version Two o) other.two
    ∙ other_slot g n d.one (version One o) other.one
