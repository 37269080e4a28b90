-- The choice by masks.
use Rattle.std.proofs.Common.{◌≡◌, ℕ, ◌+◌, ◌-◌, ◌^◌, ◌==◌, inl, inr, cond, List, [], ◌∷◌, Option, Some, None, refl, sym, ◌∙◌, ap, subst, arith, bit_and, bit_or}
use Rattle.std.specs.Prelude.{negsuc}
use Rattle.std.specs.Int.Bits.{or_zero_l, or_zero_r}
use Rattle.std.proofs.lemmas.Nat.{and_mask}
use Rattle.rv_inst.specs.declared.instruction.Form.{Form}
use Rattle.rv_inst.specs.declared.instruction.Form.TheVariants.{AND, OR, XORI}
use Rattle.rv_flips.specs.Cells.{Tag, One, Two, Three}
use Rattle.flip_frames.specs.Views.{Stage, View, IsVersion, Runs, version, with_value, with_scratch, no_values}
use Rattle.flip_frames.specs.Computing.{of_both, effect_of}
use Rattle.flip_frames.specs.Fetching.{Triple}
use Rattle.flip_frames.specs.Slots.{far_view}
use Rattle.flip_frames.proofs.RunLaws.{runs_then, pure_runs}
use Rattle.flip_frames.proofs.AnySlots.{any_load_runs}
use Rattle.flip_versions.specs.Operations.{resting, IsSlot, AreSlots, HoldsVersions, stored, defined, IsApart}
use Rattle.flip_versions.proofs.VersionLaws.{store_turns, slot_after, second_holds, third_holds}
use Rattle.flip_select.specs.Select.{IsMask, IsWord, chosen, select_code, select_version, select_words}
use Rattle.flip_select.proofs.MaskLaw.{mask_runs}

-- the code leaves a value in x5
pub record Leaves (words : List ℕ) (v : View) (o : Option ℕ) : Type 0 where
  pub file : ℕ → Option ℕ
  pub is : file 5 ≡ o
  pub runs : Runs words select_code v (record v { file = file })

of_none : (f : ℕ → ℕ → ℕ) (o : Option ℕ) → of_both f o None ≡ None
of_none f None = refl
of_none f (Some v) = refl

abbrev pub ones : ℕ
ones = 2 ^ 64 - 1

-- a value under a mask of ones
kept_by_ones : (o : Option ℕ) → IsWord o → of_both bit_and o (Some ones) ≡ o
kept_by_ones None wide = refl
kept_by_ones (Some v) wide = let whole : bit_and v (2 ^ 64 - 1) ≡ v = and_mask v 64 ∙ omega arith in ap (λ (n : ℕ). Some n) whole

or_left : (o : Option ℕ) → of_both bit_or (Some 0) o ≡ o
or_left None = refl
or_left (Some v) = ap (λ (n : ℕ). Some n) (or_zero_l v)

or_right : (o : Option ℕ) → of_both bit_or o (Some 0) ≡ o
or_right None = refl
or_right (Some v) = ap (λ (n : ℕ). Some n) (or_zero_r v)

-- nothing is known of the condition
unknown_leaves : (words : List ℕ) (v : View) → v.file 5 ≡ None → Leaves words v None
unfolding with_value
unknown_leaves words v e =
    record {
      file = effect_of select_code v.file;
      is = rw (e, of_none) refl;
      runs = pure_runs words select_code v refl;
    }

-- the condition doesn't hold: the first value is masked, whatever it is
pub zero_leaves : (words : List ℕ) (v : View) (second : Option ℕ) → v.file 5 ≡ Some 0 → v.file 7 ≡ second → IsWord second → Leaves words v second
unfolding with_value
zero_leaves words v second e f wide =
    let rest : List Form = XORI 5 5 (negsuc 0) ∷ AND 7 7 5 ∷ OR 5 6 7 ∷ [] in
    record {
      file = effect_of (XORI 5 5 (negsuc 0) ∷ AND 7 7 5 ∷ OR 5 6 7 ∷ []) (with_scratch v 6 (Some 0)).file;
      is = rw (e, f) (rw (kept_by_ones second wide) (or_left second));
      runs = runs_then (mask_runs words v 6 6 5 refl refl e) (pure_runs words rest (with_scratch v 6 (Some 0)) refl);
    }

-- it holds: the second value is masked
pub ones_leaves : (words : List ℕ) (v : View) (first : Option ℕ) → v.file 5 ≡ Some ones → v.file 6 ≡ first → IsWord first → Leaves words v first
unfolding with_value
ones_leaves words v first e f wide =
    let front : List Form = AND 6 6 5 ∷ XORI 5 5 (negsuc 0) ∷ [] in
    let v2 : View = record v { file = effect_of (AND 6 6 5 ∷ XORI 5 5 (negsuc 0) ∷ []) v.file } in
    let zero : effect_of (AND 6 6 5 ∷ XORI 5 5 (negsuc 0) ∷ []) v.file 5 ≡ Some 0 = rw e refl in
    record {
      file = effect_of (OR 5 6 7 ∷ []) (with_scratch v2 7 (Some 0)).file;
      is = rw (e, f) (rw (kept_by_ones first wide) (or_right first));
      runs = runs_then (pure_runs words front v refl) (runs_then (mask_runs words v2 7 7 5 refl refl zero) (pure_runs words (OR 5 6 7 ∷ []) (with_scratch v2 7 (Some 0)) refl));
    }

code_leaves : (words : List ℕ) (v : View) (mask first second : Option ℕ) → IsMask mask → IsWord first → IsWord second → v.file 5 ≡ mask → v.file 6 ≡ first → v.file 7 ≡ second → Leaves words v (chosen mask first second)
code_leaves words v None first second is w1 w2 e f g = unknown_leaves words v e
code_leaves words v (Some m) first second (inl zero) w1 w2 e f g =
    let P : ℕ → Type 0 = λ n. Leaves words v (cond (n == 0) second first) in
    subst P (sym zero) (zero_leaves words v second (e ∙ ap (λ (n : ℕ). Some n) zero) g w2)
code_leaves words v (Some m) first second (inr all) w1 w2 e f g =
    let P : ℕ → Type 0 = λ n. Leaves words v (cond (n == 0) second first) in
    subst P (sym all) (ones_leaves words v first (e ∙ ap (λ (n : ℕ). Some n) all) f w1)

-- the values after three loads
abbrev pub loaded_three : Option ℕ → Option ℕ → Option ℕ → ℕ → Option ℕ
loaded_three m x y =
    with_value (with_value (with_value (with_value (with_value (with_value (with_value (with_value (with_value no_values 28 None) 29 None) 5 m) 28 None) 29 None) 6 x) 28 None) 29 None) 7 y

pub loads_bring : (m x y : Option ℕ) → (loaded_three m x y 5 ≡ m) × (loaded_three m x y 6 ≡ x) × (loaded_three m x y 7 ≡ y)
unfolding with_value
loads_bring m x y = (refl, refl, refl)

version_runs : (words : List ℕ) (g : Stage) (t t' : Tag) (m x y d : ℕ) (mask first second : Option ℕ) → IsVersion t' → IsMask mask → IsWord first → IsWord second → IsSlot g m → IsSlot g x → IsSlot g y → IsSlot g d →
    g.slots (g.base + m) ≡ version t mask → g.slots (g.base + x) ≡ version t first → g.slots (g.base + y) ≡ version t second → Runs words (select_version m x y d) (resting g t) (resting (stored g d t (chosen mask first second)) t')
version_runs words g t t' m x y d mask first second turn is w1 w2 sm sx sy sd hm hx hy =
    let v0 = resting g t in
    let v1 : View = with_scratch (far_view (resting g t)) 5 mask in
    let v2 : View = with_scratch (far_view (with_scratch (far_view (resting g t)) 5 mask)) 6 first in
    let v3 : View = with_scratch (far_view (with_scratch (far_view (with_scratch (far_view (resting g t)) 5 mask)) 6 first)) 7 second in
    let values = loads_bring mask first second in
    let leaves = code_leaves words v3 mask first second is w1 w2 values.0 values.1 values.2 in
    runs_then (any_load_runs words v0 5 m mask refl sm.small sm.within hm)
    (runs_then (any_load_runs words v1 6 x first refl sx.small sx.within hx)
    (runs_then (any_load_runs words v2 7 y second refl sy.small sy.within hy)
    (store_turns g t t' d leaves.file (chosen mask first second) turn sd leaves.is leaves.runs)))

pub select_runs : (words : List ℕ) (g : Stage) (m x y d : Triple) (mask first second : Option ℕ) → IsMask mask → IsWord first → IsWord second → AreSlots g m → AreSlots g x → AreSlots g y → AreSlots g d →
    HoldsVersions g m mask → HoldsVersions g x first → HoldsVersions g y second → IsApart d m → IsApart d x → IsApart d y → Runs words (select_words m x y d) (resting g One) (resting (defined g d (chosen mask first second)) One)
select_runs words g m x y d mask first second is w1 w2 sm sx sy sd hm hx hy am ax ay =
    let o = chosen mask first second in
    let g1 = stored g d.one One o in
    let g2 = stored g1 d.two Two o in
    let s2 : (n : ℕ) → IsSlot g n → IsSlot g2 n = λ n s. slot_after g1 n d.two Two o (slot_after g n d.one One o s) in
    runs_then (version_runs words g One Two m.one x.one y.one d.one mask first second tt is w1 w2 sm.one sx.one sy.one sd.one hm.one hx.one hy.one)
    (runs_then
    (version_runs words g1 Two Three m.two x.two y.two d.two mask first second tt is w1 w2 (slot_after g m.two d.one One o sm.two) (slot_after g x.two d.one One o sx.two) (slot_after g y.two d.one One o sy.two) (slot_after g d.two d.one One o sd.two)
    (second_holds g m d mask o hm am) (second_holds g x d first o hx ax) (second_holds g y d second o hy ay))
    (version_runs words g2 Three One m.three x.three y.three d.three mask first second tt is w1 w2 (s2 m.three sm.three) (s2 x.three sx.three) (s2 y.three sy.three) (s2 d.three sd.three)
    (third_holds g m d mask o hm am) (third_holds g x d first o hx ax) (third_holds g y d second o hy ay)))
