-- From guarded sequences, word by word, to sequences between views.
use Rattle.std.proofs.Common.{◌≡◌, ◌≢◌, ℕ, Bool, ◌+◌, ◌*◌, ◌<◌, true, List, [], ◌∷◌, ◌++◌, length, Option, refl, ◌∙◌, subst, arith, length-append}
use Rattle.std.specs.Prelude.{◌&&◌}
use Rattle.std.proofs.lemmas.Bool.{and_parts}
use Rattle.rv_inst.specs.declared.instruction.Form.{Form}
use Rattle.rv_flips.specs.Cells.{Tag, One, Cell, Free, SaysLess}
use Rattle.rv_flips.specs.Assertion.{KnowsLess}
use Rattle.rv_flips.specs.Known.{Sures}
use Rattle.rv_flips.proofs.CellLemmas.{says_same, says_free}
use Rattle.flip_words.specs.Memory.{after_store}
use Rattle.flip_words.specs.Placed.{WindowPoints, Excepted, Carries}
use Rattle.flip_words.proofs.CarryLemmas.{joined, carries_less}
use Rattle.flip_words.proofs.LessLemmas.{says_again, knows_same, written_says}
use Rattle.flip_frames.specs.Views.{Stage, View, IsView, Runs, is_scratch, version, view_cell, at_address, with_value, no_values}
use Rattle.flip_frames.specs.Slots.{any_store}
use Rattle.flip_frames.proofs.ViewLemmas.{view_cell-scratch, with_value-same, with_value-other, sures_view}
use Rattle.flip_frames.proofs.RunLaws.{cells_say}
use Rattle.flip_versions.specs.Operations.{resting, IsSlot, stored}
use Rattle.flip_guards.specs.Guards.{KeptRegister, Kept, over, Guard, guard_at, guarded}
use Rattle.flip_guards.specs.Fetching.{Operand, IsGiven, bring_three, IsKeeping}
use Rattle.flip_guards.specs.Slots.{IsFramed, used_up}
use Rattle.flip_guards.proofs.FetchLaws.{unused, framed_stage, free_scratch, three_kept, calm_stage, stage_brings}
use Rattle.flip_guards.proofs.Lines.{sures_of, sures_over, Line, line_carries}
use Rattle.flip_guards.proofs.SlotWords.{kept_less, used_regs, slots_take_up}

-- a sequence whose view is known less afterwards
pub runs_weaker : {words : List ℕ} {code : List Form} {v w : View} (w' : View) → ((p : ℕ) → KnowsLess (at_address w p) (at_address w' p)) → (IsView w → IsView w') → Runs words code v w → Runs words code v w'
runs_weaker {words = words} {code = code} {v = v} {w = w} w' less kept one =
    record { carries = λ is p. carries_less (knows_same (at_address v p)) (one.carries is p) (less (p + 4 * length code)); kept = λ is. kept (one.kept is) }

-- between sequences the version whose turn it is doesn't matter
pub turn_view : (g : Stage) (tag : Tag) → IsView (resting g tag) → IsView (resting g One)
turn_view g tag is = record { tag = tt; places = is.places; size = is.size; base = is.base }

pub turn_less : (g : Stage) (t t' : Tag) (p : ℕ) → KnowsLess (at_address (resting g t) p) (at_address (resting g t') p)
unfolding view_cell
turn_less g t t' p = record { pc = refl; regs = λ r damage x h. h; slots = λ k damage x h. h; bytes = λ o x h. h; size = refl; input = refl; out = refl }

-- words of a guarded sequence are a sequence
pub line_runs : {words : List ℕ} {code : List Form} {g : Stage} {δ : Guard} (tag : Tag) (w : View) → ((q : ℕ) → KnowsLess (guard_at δ q) (at_address w q)) → (IsView (resting g tag) → IsView w) → Line words code (guarded g []) (length code) δ →
    Runs words code (resting g tag) w
line_runs {code = code} {g = g} tag w less kept line =
    record {
      carries = λ is p.
          carries_less (turn_less g tag One p) (line_carries (calm_stage g [] (turn_view g tag is)) p line) (less (p + 4 * length code));
      kept = kept;
    }

-- an operand that is brought, and words of a guarded sequence after it, are a sequence
pub brings_run : {words : List ℕ} {code : List Form} {g : Stage} {δ : Guard} (a b t : ℕ) (x : Operand) (o : Option ℕ) (w : View) → 4 < a → IsKeeping b → IsKeeping t → IsGiven g x o →
    ((q : ℕ) → KnowsLess (guard_at δ q) (at_address w q)) → (IsView (resting g One) → IsView w) → Line words code (guarded g (three_kept a b t o [])) (length code) δ → Runs words (bring_three a b t x ++ code) (resting g One) w
brings_run {words = words} {code = code} {g = g} a b t x o w above kb kt gives less kept line =
    record {
      carries = λ is p.
          let q = p + 4 * length (bring_three a b t x) in
          let there : p + 4 * length (bring_three a b t x) + 4 * length code ≡ p + 4 * length (bring_three a b t x ++ code) = omega (arith, length-append (bring_three a b t x) code) in
          let P : ℕ → Type 0 = λ r. Carries words (Excepted WindowPoints words) (bring_three a b t x ++ code) (at_address (resting g One) p) (at_address w r) in
          let tail = line_carries (calm_stage g (three_kept a b t o []) is) q line in
          subst P there (joined (stage_brings words g a b t x o p is above kb kt gives) (carries_less (knows_same (guard_at (guarded g (three_kept a b t o [])) q)) tail (less (q + 4 * length code))));
      kept = kept;
    }

-- one version in a scratch register, as a view says it
pub version_view : (g : Stage) (r : ℕ) (tag : Tag) (o : Option ℕ) (p : ℕ) → is_scratch r ≡ true → KnowsLess (guard_at (guarded g (Kept r tag o ∷ [])) p) (at_address (record { stage = g; tag = tag; file = with_value no_values r o }) p)
version_view g r tag o p scratch =
    record { pc = refl; regs = kept_less [] (view_cell g One no_values) less r tag o own others; slots = λ k damage x h. h; bytes = λ o x h. h; size = refl; input = refl; out = refl }
  where
    less : ℕ → Cell
    less = view_cell g tag (with_value no_values r o)

    own : SaysLess (version tag o) (view_cell g tag (with_value no_values r o) r)
    own = rw (view_cell-scratch g tag (with_value no_values r o) r scratch, with_value-same no_values r o) (says_again (version tag o))

    others : (q : ℕ) → q ≢ r → SaysLess (view_cell g One no_values q) (view_cell g tag (with_value no_values r o) q)
    others q ne = cells_say g One tag no_values (with_value no_values r o) q (rw (with_value-other no_values r q o ne) (λ damage x h. h))

-- a store into a slot changes no register
pub same_view : (g : Stage) (n : ℕ) (tag : Tag) (o : Option ℕ) (ks : List KeptRegister) (q : ℕ) → over ks (view_cell (stored g n tag o) One no_values) q ≡ over ks (view_cell g One no_values) q
unfolding view_cell
same_view g n tag o ks q = refl

-- a slot keeps what a register keeps, and the registers are as before
pub guard_stores : (words : List ℕ) (g : Stage) (ks : List KeptRegister) (r n : ℕ) (tag : Tag) (o : Option ℕ) (p : ℕ) → IsFramed (guard_at (guarded g ks) p) g.base → over ks (view_cell g One no_values) 28 ≡ Free →
    over ks (view_cell g One no_values) 29 ≡ Free → IsSlot g n → 4 < r → r ≢ 28 → r ≢ 29 → over ks (view_cell g One no_values) r ≡ version tag o →
    Carries words (Excepted WindowPoints words) (any_store r n) (guard_at (guarded g ks) p) (guard_at (guarded (stored g n tag o) ks) (p + 4 * length (any_store r n)))
guard_stores words g ks r n tag o p framed first second slot above ne28 ne29 keeps =
    let c = guard_at (guarded g ks) p in
    carries_less (knows_same c) (slots_take_up words c g.base r n framed (record { within = slot.within; small = slot.small }) above ne28 ne29) (less (p + 4 * length (any_store r n)))
  where
    stage_says : (g : Stage) (n : ℕ) (tag : Tag) (o : Option ℕ) (ks : List KeptRegister) (k : ℕ) (cell : Cell) → SaysLess cell (over ks (view_cell g One no_values) k) → SaysLess cell (over ks (view_cell (stored g n tag o) One no_values) k)
    stage_says g n tag o ks k cell says = rw (same_view g n tag o ks k) says

    less : (q : ℕ) → KnowsLess (after_store (used_up (guard_at (guarded g ks) p) q) (g.base + n) (over ks (view_cell g One no_values) r) q) (guard_at (guarded (stored g n tag o) ks) q)
    less q =
        record {
          pc = refl;
          regs = λ k. stage_says g n tag o ks k (used_regs (over ks (view_cell g One no_values)) k) (unused (over ks (view_cell g One no_values)) k first second);
          slots = written_says g.slots g.slots (g.base + n) (over ks (view_cell g One no_values) r) (version tag o) (says_same (over ks (view_cell g One no_values) r) (version tag o) keeps) (λ k ne. says_again (g.slots k));
          bytes = λ k x h. h;
          size = refl;
          input = refl;
          out = refl;
        }

-- what a frame is seen from, once more registers keep versions
pub framed_kept : (g : Stage) (ks : List KeptRegister) (p : ℕ) → IsView (resting g One) → sures_of ks ≡ [] → over ks (view_cell g One no_values) 0 ≡ view_cell g One no_values 0 → over ks (view_cell g One no_values) 2 ≡ view_cell g One no_values 2 →
    over ks (view_cell g One no_values) 3 ≡ view_cell g One no_values 3 → over ks (view_cell g One no_values) 4 ≡ view_cell g One no_values 4 → IsFramed (guard_at (guarded g ks) p) g.base
framed_kept g ks p is none zero one two three =
    let v = framed_stage g p is in
    let P : List ℕ → Type 0 = λ rs. Sures (over ks (view_cell g One no_values)) rs in
    record {
      zero = zero ∙ v.zero;
      one = one ∙ v.one;
      two = two ∙ v.two;
      three = three ∙ v.three;
      sures = subst P none (sures_over ks (view_cell g One no_values) (sures_view (resting g One) is));
      size = v.size;
      frame = v.frame;
    }

-- scratch registers that are kept are forgotten
abbrev pub all_scratch : List KeptRegister → Bool
all_scratch [] = true
all_scratch (Kept r tag o ∷ ks) = is_scratch r && all_scratch ks

pub scratch_forgotten : (g : Stage) (ks : List KeptRegister) (p : ℕ) → all_scratch ks ≡ true → KnowsLess (guard_at (guarded g ks) p) (at_address (resting g One) p)
scratch_forgotten g ks p scratch = record { pc = refl; regs = forgets_all g ks scratch; slots = λ k damage x h. h; bytes = λ o x h. h; size = refl; input = refl; out = refl }
  where
    forgets_all : (g : Stage) (ks : List KeptRegister) → all_scratch ks ≡ true → (q : ℕ) → SaysLess (over ks (view_cell g One no_values) q) (view_cell g One no_values q)
    forgets_all g [] e q = says_again (view_cell g One no_values q)
    forgets_all g (Kept r tag o ∷ ks) e q =
        let parts = and_parts (is_scratch r) (all_scratch ks) e in
        kept_less ks (view_cell g One no_values) (view_cell g One no_values) r tag o (rw (free_scratch g r parts.0) (says_free (version tag o))) (λ k ne. forgets_all g ks parts.1 k) q
