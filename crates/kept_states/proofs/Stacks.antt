-- Frames that keep a stack of activations.
use Rattle.std.proofs.Common.{◌≡◌, ◌≢◌, ◌≤◌, ◌<◌, ℕ, zero, suc, ◌+◌, ◌-◌, ◌*◌, List, [], ◌∷◌, length, Option, Some, None, inl, inr, refl, sym, ap, subst, ◌∙◌, arith, get_or-set_same, get_or-set_other, length-set}
use Rattle.std.specs.Prelude.{◌⊎◌, slice_index_or, slice_set}
use Rattle.std.specs.List.{AllByRecursion}
use Rattle.std.proofs.lemmas.Bool.Decides.{eqb_tells}
use Rattle.ir_model.specs.Values.{Value, Poison}
use Rattle.ir_model.specs.Programs.{Program, function_at}
use Rattle.ir_model.specs.States.{Activation, State, after}
use Rattle.ir_model.specs.Runs.{frames, IsWithinStack}
use Rattle.rv_flips.specs.Cells.{Cell, Has, Sure}
use Rattle.flip_frames.specs.Views.{Stage}
use Rattle.flip_frames.specs.Fetching.{Triple}
use Rattle.flip_versions.specs.Operations.{HoldsVersions, IsSlot, defined, IsOther}
use Rattle.flip_versions.proofs.VersionLaws.{defined_hold, others_stay}
use Rattle.flip_copies.specs.Copies.{IsClear}
use Rattle.kept_states.specs.Layouts.{FrameLayout, Layout, AreInFrame, IsGoodFrame, IsGoodLayout}
use Rattle.kept_states.specs.Kept.{word_of, KeepsThree, KeepsValues, KeepsLink, KeepsStack, KeepsState}
use Rattle.kept_states.specs.Laws.{HaveValues, FramesHaveRoom, ValuesAreHeld, ResultsAreKept, IsInUse, OtherSlotsAreFree}

-- ---- room
-- how many slots the frames of a stack have
abbrev pub sizes : Layout → List Activation → ℕ
sizes l [] = 0
sizes l (a ∷ rest) = (l.frames a.function).size + sizes l rest

pub up_to_top : (l : Layout) (address : ℕ → ℕ) (slots : ℕ → Cell) (base : ℕ) (stack : List Activation) → KeepsStack l address slots base stack
    → base + sizes l stack ≡ l.top
up_to_top l address slots base [] kept = (let e : base + 0 ≡ base = omega arith in e) ∙ kept
up_to_top l address slots base (a ∷ rest) kept =
    let size : ℕ = (l.frames a.function).size in
    (let e : base + (size + sizes l rest) ≡ base + size + sizes l rest = omega arith in e) ∙ up_to_top l address slots (base + size) rest kept.2

pub counted : (p : Program) (l : Layout) (size : ℕ) → IsGoodLayout p l size → (stack : List Activation) → 8 * sizes l stack ≤ frames p stack
counted p l size good [] = omega arith
counted p l size good (a ∷ rest) = omega (arith, good.counted a.function, counted p l size good rest)

pub room : FramesHaveRoom
room p l address size g s a rest good kept is within =
    let stack : KeepsStack l address g.slots g.base (a ∷ rest) = subst (KeepsStack l address g.slots g.base) is kept.stack in
    let top : g.base + sizes l (a ∷ rest) ≡ l.top = up_to_top l address g.slots g.base (a ∷ rest) stack in
    let few : 8 * sizes l (a ∷ rest) ≤ frames p (a ∷ rest) = counted p l size good (a ∷ rest) in
    let in_data : (n : ℕ) → n < (l.frames a.function).size → 8 * (g.base + n) + 8 ≤ g.size = λ n lt. omega (arith, good.within, kept.data_size) in
    let held : 64 + frames p (a ∷ rest) ≤ 8388608 = subst (λ (st : List Activation). 64 + frames p st ≤ 8388608) is within in (
      omega (arith, good.room),
      omega (arith, good.within),
      λ n lt. record {
        within = in_data n lt;
        small = omega (arith, good.within, good.small);
      },
    )

-- ---- what is kept stays
pub three_held : (g : Stage) (x : Triple) (o : Option ℕ) → KeepsThree g.slots g.base x o → HoldsVersions g x o
three_held g x o kept = record { one = kept.one; two = kept.two; three = kept.three }

pub held_three : (g : Stage) (x : Triple) (o : Option ℕ) → HoldsVersions g x o → KeepsThree g.slots g.base x o
held_three g x o held = record { one = held.one; two = held.two; three = held.three }

pub values_held : ValuesAreHeld
values_held l address size g s a rest id kept is lt =
    three_held g ((l.frames a.function).places id) _ ((subst (KeepsStack l address g.slots g.base) is kept.stack).0 id lt)

-- three slots that stay
three_stay : (before later : ℕ → Cell) (base : ℕ) (x : Triple) (o : Option ℕ) → later (base + x.one) ≡ before (base + x.one)
    → later (base + x.two) ≡ before (base + x.two) → later (base + x.three) ≡ before (base + x.three) → KeepsThree before base x o → KeepsThree later base x o
three_stay before later base x o one two three kept = record { one = one ∙ kept.one; two = two ∙ kept.two; three = three ∙ kept.three }

pub link_stays : (l : Layout) (before later : ℕ → Cell) (base f : ℕ) (rest : List Activation)
    → later (base + (l.frames f).link) ≡ before (base + (l.frames f).link) → KeepsLink l before base f rest → KeepsLink l later base f rest
link_stays l before later base f [] stays kept = tt
link_stays l before later base f (b ∷ rest) stays kept = stays ∙ kept

-- frames stay where no word from the begin of the first of them on changes
pub stack_stays : (l : Layout) (address : ℕ → ℕ) (before later : ℕ → Cell) (base : ℕ) (stack : List Activation)
    → ((k : ℕ) → base ≤ k → later k ≡ before k) → KeepsStack l address before base stack → KeepsStack l address later base stack
stack_stays l address before later base [] stays kept = kept
stack_stays l address before later base (a ∷ rest) stays kept = (
  λ id lt.
      let x : Triple = (l.frames a.function).places id in
      three_stay before later base x _ (stays (base + x.one) (omega arith)) (stays (base + x.two) (omega arith)) (stays (base + x.three) (omega arith)) (kept.0 id lt),
  link_stays l before later base a.function rest (stays (base + (l.frames a.function).link) (omega arith)) kept.1,
  stack_stays l address before later (base + (l.frames a.function).size) rest (λ k le. stays k (omega arith)) kept.2,
)

pub free : OtherSlotsAreFree
free p l address before later base a rest many above used kept =
    let lay : FrameLayout = l.frames a.function in (
      λ id lt.
          let x : Triple = lay.places id in
          let counted : id < (function_at p a.function).values = omega (arith, many.0) in
          three_stay before later base x _
          (used x.one (inl (id, counted, inl refl)))
          (used x.two (inl (id, counted, inr (inl refl))))
          (used x.three (inl (id, counted, inr (inr refl))))
          (kept.0 id lt),
      link_stays l before later base a.function rest (used lay.link (inr refl)) kept.1,
      stack_stays l address before later (base + lay.size) rest above kept.2,
    )

-- ---- a value that is defined
-- slots past a frame are none of those in it
pub past : (size : ℕ) (d : Triple) (n : ℕ) → AreInFrame size d → size ≤ n → IsOther d n
past size d n inside le =
    record { one = omega (arith, inside.one); two = omega (arith, inside.two); three = omega (arith, inside.three) }

pub results : ResultsAreKept
results p l address g a rest id v good many lt kept =
    let lay : FrameLayout = l.frames a.function in
    let d : Triple = lay.places id in
    let o : Option ℕ = word_of address v in
    let counted : (j : ℕ) → j < length a.values → j < (function_at p a.function).values = λ j small. omega (arith, many.0) in
    let own : KeepsThree (defined g d o).slots g.base d o = held_three (defined g d o) d o (defined_hold g d o (good.different id (counted id lt))) in (
      λ j small.
          let inside : j < length a.values = omega (arith, length-set a.values id v) in
          elim (eqb_tells j id) [
            | inl e ↦
                subst (λ (k : ℕ). KeepsThree (defined g d o).slots g.base (lay.places k) (word_of address (slice_index_or (slice_set a.values id v) k Poison))) (sym e.1)
                (subst (λ (w : Value). KeepsThree (defined g d o).slots g.base d (word_of address w)) (sym (get_or-set_same a.values id v Poison lt)) own)
            | inr e ↦
                let x : Triple = lay.places j in
                let clear : IsClear d x = good.apart id j (counted id lt) (counted j inside) (λ same. e.1 (sym same)) in
                subst (λ (w : Value). KeepsThree (defined g d o).slots g.base x (word_of address w)) (sym (get_or-set_other a.values id j v Poison e.1))
                (three_stay g.slots (defined g d o).slots g.base x _ (others_stay g d o x.one clear.one) (others_stay g d o x.two clear.two) (others_stay g d o x.three clear.three)
                (kept.0 j inside))
          ],
      link_stays l g.slots (defined g d o).slots g.base a.function rest (others_stay g d o lay.link (good.link_spared id (counted id lt))) kept.1,
      stack_stays l address g.slots (defined g d o).slots (g.base + lay.size) rest
          (λ k le.
          let n : ℕ = k - g.base in
          let same : g.base + n ≡ k = omega arith in
          subst (λ (m : ℕ). (defined g d o).slots m ≡ g.slots m) same
          (others_stay g d o n (past lay.size d n (good.inside id (counted id lt)) (omega arith))))
          kept.2,
    )
