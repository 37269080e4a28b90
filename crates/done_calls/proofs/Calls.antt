-- The words of a call enter the function.
use Rattle.std.proofs.Common.{◌≡◌, ◌≢◌, ◌≤◌, ◌<◌, ◌+◌, ◌-◌, ◌*◌, ℕ, zero, suc, ℤ, List, [], ◌∷◌, map, length, Option, inl, inr, refl, sym, ap, subst, ◌∙◌, arith, slice_index_or}
use Rattle.std.specs.Prelude.{⊤}
use Rattle.std.specs.List.{AllByRecursion}
use Rattle.std.proofs.lemmas.List.{length-map}
use Rattle.std.proofs.lemmas.Bool.Decides.{eqb_tells}
use Rattle.ir_model.specs.Values.{Value, Poison}
use Rattle.ir_model.specs.Programs.{Operand, Local, Fixed, Instruction, Program, function_at}
use Rattle.ir_model.specs.States.{Activation, State, Continues, value_of, goes_on, entered}
use Rattle.ir_model.specs.Steps.{act, did, stepped, step}
use Rattle.ir_model.specs.Runs.{frames, IsWithinStack}
use Rattle.rv_flips.specs.Cells.{Cell, Free, Has, Sure, One}
use Rattle.rv_flips.proofs.CellLemmas.{with_register-same, with_register-other}
use Rattle.flip_words.specs.Placed.{IsPlaced}
use Rattle.flip_frames.specs.Views.{Stage}
use Rattle.flip_frames.specs.Fetching.{Triple}
use Rattle.flip_versions.specs.Operations.{resting, IsSlot, HoldsVersions, IsOther}
use Rattle.flip_jumps.specs.Places.{StageSaysLess, Goes}
use Rattle.flip_jumps.proofs.PlaceLaws.{goes_then, runs_go, stage_forgotten}
use Rattle.flip_guards.specs.Sources.{Part}
use Rattle.flip_guards.specs.Fetching.{IsGiven}
use Rattle.flip_guards.proofs.FetchLaws.{triples_give}
use Rattle.flip_copies.specs.Copies.{Copy, CanCopy, IsElsewhere, IsClear, AllLeaveAlone, Compatible, copied, AreSet, IsBesideAll, SameWhere}
use Rattle.flip_copies.proofs.CopyLaws.{rest_stays}
use Rattle.flip_calls.specs.Frames.{based_at}
use Rattle.flip_calls.specs.Calls.{back_of, entry_words, called, IsCall, SparesSlot, AreInside}
use Rattle.flip_calls.proofs.CallLaws.{calls_enter, arguments_are_set, callers_stay}
use Rattle.kept_states.specs.Layouts.{FrameLayout, Layout, AreInFrame, IsGoodFrame, IsGoodLayout}
use Rattle.kept_states.specs.Kept.{word_of, KeepsThree, KeepsStack, KeepsState}
use Rattle.kept_states.specs.Laws.{KeepsCall}
use Rattle.kept_states.proofs.Stacks.{room, values_held, held_three}
use Rattle.kept_states.proofs.Moves.{entries}
use Rattle.done_operations.specs.Sources.{MakeWords, source_of, IsWithin}
use Rattle.done_flow.specs.Edges.{Arrives}
use Rattle.done_flow.proofs.Edges.{KnowMore, copied_says, given_of, right_of}
use Rattle.done_calls.specs.Calls.{from_below, seen_from_below, copies_to, argument_copies, call_at, called_at, AtCall, CallsAreDone}
use Rattle.done_calls.proofs.Frames.{FitsBelow, frame_fits, cleared, cleared_below, cleared_above, cleared_says, linked_says}

-- ---- values by the number of the argument
abbrev no_operand : Operand
no_operand = Fixed Poison

-- a function of numbers has for each argument, from number k on, what another has for the argument itself
abbrev Numbered : (ℕ → Option ℕ) → (Operand → Option ℕ) → ℕ → List Operand → Type 0
Numbered v f k [] = ⊤
Numbered v f k (x ∷ xs) = (v k ≡ f x) × Numbered v f (suc k) xs

later : (v : ℕ → Option ℕ) (f : Operand → Option ℕ) (k : ℕ) (xs : List Operand) → Numbered (λ i. v (suc i)) f k xs → Numbered v f (suc k) xs
later v f k [] are = tt
later v f k (x ∷ xs) are = (are.0, later v f (suc k) xs are.1)

numbered : (f : Operand → Option ℕ) (xs : List Operand) → Numbered (λ id. f (slice_index_or xs id no_operand)) f 0 xs
numbered f [] = tt
numbered f (x ∷ xs) = (refl, later (λ id. f (slice_index_or (x ∷ xs) id no_operand)) f 0 xs (numbered f xs))

value_at : (values : List Value) (xs : List Operand) (id : ℕ) → slice_index_or (map (value_of values) xs) id Poison ≡ value_of values (slice_index_or xs id no_operand)
value_at values [] id = refl
value_at values (x ∷ xs) zero = refl
value_at values (x ∷ xs) (suc id) = value_at values xs id

-- ---- the copies of arguments
module _ (callee : FrameLayout) (n : ℕ) (good : IsGoodFrame callee n) (caller : FrameLayout) (parts : Value → List Part) where
  abbrev copies : ℕ → List Operand → List Copy
  copies k xs = copies_to callee (seen_from_below callee.size caller) parts k xs

  -- an argument is read from no slot of the function's frame
  far : (m : ℕ) (x : Operand) → m < callee.size
      → IsElsewhere m (source_of (seen_from_below callee.size caller) parts x).one
      × IsElsewhere m (source_of (seen_from_below callee.size caller) parts x).two
      × IsElsewhere m (source_of (seen_from_below callee.size caller) parts x).three
  far m (Local j) lt = (λ e. omega arith, λ e. omega arith, λ e. omega arith)
  far m (Fixed v) lt = (tt, tt, tt)

  alone : (d k : ℕ) (xs : List Operand) → d < k → k + length xs ≤ n → AllLeaveAlone (callee.places d) (copies k xs)
  alone d k [] lt le = tt
  alone d k (x ∷ xs) lt le =
      let inside = good.inside d (omega arith) in
      let one = far (callee.places d).one x inside.one in
      let two = far (callee.places d).two x inside.two in
      let three = far (callee.places d).three x inside.three in (
        record {
          one = record { one = one.0; two = two.0; three = three.0 };
          two = record { one = one.1; two = two.1; three = three.1 };
          three = record { one = one.2; two = two.2; three = three.2 };
          written = good.apart d k (omega arith) (omega arith) (λ e. omega arith);
        },
        alone d (suc k) xs (omega arith) (omega arith),
      )

  fit : (k : ℕ) (xs : List Operand) → k + length xs ≤ n → Compatible (copies k xs)
  fit k [] le = tt
  fit k (x ∷ xs) le =
      let inside = good.inside k (omega arith) in
      let one = far (callee.places k).one x inside.one in
      let two = far (callee.places k).two x inside.two in (
        good.different k (omega arith),
        record { two_one = one.1; three_one = one.2; three_two = two.2 },
        alone k (suc k) xs (omega arith) (omega arith),
        fit (suc k) xs (omega arith),
      )

  inside_all : (k : ℕ) (xs : List Operand) → k + length xs ≤ n → AreInside callee.size (copies k xs)
  inside_all k [] le = tt
  inside_all k (x ∷ xs) le =
      let inside = good.inside k (omega arith) in
      (inside.one, inside.two, inside.three, inside_all (suc k) xs (omega arith))

  spares : (k : ℕ) (xs : List Operand) → k + length xs ≤ n → SparesSlot callee.link (copies k xs)
  spares k [] le = tt
  spares k (x ∷ xs) le = (good.link_spared k (omega arith), spares (suc k) xs (omega arith))

  -- a slot that is none of those of the first values is beside the copies
  beside_all : (base m k : ℕ) (xs : List Operand) → ((d : ℕ) → d < k + length xs → IsOther (callee.places d) m) → IsBesideAll base (copies k xs) (base + m)
  beside_all base m k [] other = tt
  beside_all base m k (x ∷ xs) other =
      let own = other k (omega arith) in (
        record { one = λ e. own.one (omega arith); two = λ e. own.two (omega arith); three = λ e. own.three (omega arith) },
        beside_all base m (suc k) xs (λ d lt. other d (omega arith)),
      )

  set_at : (h : Stage) (v : ℕ → Option ℕ) (k : ℕ) (xs : List Operand) → AreSet h (copies k xs) v → (id : ℕ) → k ≤ id → id < k + length xs
      → HoldsVersions h (callee.places id) (v id)
  set_at h v k [] set id le lt = absurd (omega arith)
  set_at h v k (x ∷ xs) set id le lt = elim (eqb_tells k id) [
    | inl e ↦ subst (λ (j : ℕ). HoldsVersions h (callee.places j) (v j)) e.1 set.0
    | inr e ↦ set_at h v (suc k) xs set.1 id (omega (arith, e.1)) (omega arith)
  ]

  can : (h : Stage) (values : ℕ) (v : ℕ → Option ℕ) (f : Operand → Option ℕ)
      → ((x : Operand) → IsWithin values x → IsGiven h (source_of (seen_from_below callee.size caller) parts x) (f x))
      → ((m : ℕ) → m < callee.size → IsSlot h m) → (k : ℕ) (xs : List Operand) → k + length xs ≤ n → AllByRecursion (IsWithin values) xs → Numbered v f k xs
      → CanCopy h (copies k xs) v
  can h values v f gives reach k [] le there are = tt
  can h values v f gives reach k (x ∷ xs) le there are =
      let inside = good.inside k (omega arith) in (
        subst (IsGiven h (source_of (seen_from_below callee.size caller) parts x)) (sym are.0) (gives x there.0),
        record { one = reach (callee.places k).one inside.one; two = reach (callee.places k).two inside.two; three = reach (callee.places k).three inside.three },
        can h values v f gives reach (suc k) xs (omega arith) there.1 are.1,
      )

-- ---- the step
call_step : (p : Program) (s : State) (f : ℕ) (result : Option ℕ) (xs : List Operand) (a : Activation) (rest : List Activation) → AtCall p s f result xs a rest
    → step p s ≡ goes_on (entered p f (map (value_of a.values) xs)) (a ∷ rest) s
unfolding step act
call_step p s f result xs a rest at =
    ap (λ (st : List Activation). stepped p st s) at.stack ∙ ap (λ (i : Option Instruction). did p i a rest s) at.next

pub same_state : (u v : State) → Continues u ≡ Continues v → u ≡ v
same_state u v e = grind arith

-- ---- the call
-- a value of the caller is given to the function called
seen_given : (l : Layout) (address : ℕ → ℕ) (size : ℕ) (parts : Value → List Part) (g : Stage) (s : State) (a : Activation) (rest : List Activation) (inner n values : ℕ)
    → IsGoodFrame (l.frames a.function) values → length a.values ≡ values → KeepsState l address size g s → s.stack ≡ a ∷ rest → inner + n ≡ g.base → g.size ≤ 0x4000_0000
    → ((m : ℕ) → m < (l.frames a.function).size → IsSlot g m) → (x : Operand) → IsWithin (length a.values) x
    → IsGiven (based_at g inner) (source_of (seen_from_below n (l.frames a.function)) parts x) (given_of address parts a.values x)
seen_given l address size parts g s a rest inner n values good many kept stack below small reach (Local id) there =
    let x : Triple = (l.frames a.function).places id in
    let held : HoldsVersions g x (word_of address (slice_index_or a.values id Poison)) = values_held l address size g s a rest id kept stack there in
    let inside = good.inside id (omega arith) in
    let at : (m : ℕ) → g.base + m ≡ inner + (n + m) = λ m. omega arith in
    let slot : (m : ℕ) → IsSlot g m → IsSlot (based_at g inner) (n + m) = λ m is. record { within = omega (arith, is.within); small = omega (arith, is.within) } in
    triples_give (based_at g inner) (from_below n x) (word_of address (slice_index_or a.values id Poison))
    (record { one = slot x.one (reach x.one inside.one); two = slot x.two (reach x.two inside.two); three = slot x.three (reach x.three inside.three) })
    (record {
      one = ap g.slots (sym (at x.one)) ∙ held.one;
      two = ap g.slots (sym (at x.two)) ∙ held.two;
      three = ap g.slots (sym (at x.three)) ∙ held.three;
    })
seen_given l address size parts g s a rest inner n values good many kept stack below small reach (Fixed v) there = record { one = refl; two = refl; three = refl }

-- where there is room for the function's frame: the caller's, and the addresses
module _ (p : Program) (l : Layout) (address : ℕ → ℕ) (size : ℕ) (words : List ℕ) (parts : Value → List Part) (g : Stage) (s : State) (f : ℕ)
    (result : Option ℕ) (xs : List Operand) (a : Activation) (rest : List Activation) (from : ℕ) (offset : ℤ) (inner : ℕ) (good : IsGoodLayout p l size)
    (makes : MakeWords address parts) (kept : KeepsState l address size g s) (at : AtCall p s f result xs a rest) (below : inner + (l.frames f).size ≡ g.base)
    (fits : FitsBelow g.base g.size (l.frames f).size) (reach : (m : ℕ) → m < (l.frames a.function).size → IsSlot g m) where
  abbrev callee : FrameLayout
  callee = l.frames f

  abbrev args : List Copy
  args = argument_copies (l.frames a.function) (l.frames f) parts xs

  abbrev vs : List Value
  vs = map (value_of a.values) xs

  -- what the sources of the arguments give, and the words of the arguments
  abbrev given : ℕ → Option ℕ
  given id = given_of address parts a.values (slice_index_or xs id no_operand)

  abbrev known : ℕ → Option ℕ
  known id = word_of address (slice_index_or (map (value_of a.values) xs) id Poison)

  knows_more : KnowMore given known
  knows_more id w is =
      right_of address parts a.values makes (slice_index_or xs id no_operand) w (ap (word_of address) (sym (value_at a.values xs id)) ∙ is)

  few : 0 + length xs ≤ (function_at p f).values
  few = omega (arith, at.few)

  own_slot : (m : ℕ) → m < (l.frames f).size → IsSlot (based_at g inner) m
  own_slot m lt = record { within = omega (arith, fits.within, below); small = omega (arith, fits.small) }

  is_call : IsCall g (l.frames f).size inner (l.frames f).link args given
  is_call =
      let frame : IsGoodFrame (l.frames f) (function_at p f).values = good.frames f in
      let caller : FrameLayout = l.frames a.function in
      record {
        size = fits.small;
        below = below;
        arguments = can (l.frames f) (function_at p f).values frame caller parts (based_at g inner) (length a.values) given (given_of address parts a.values)
            (seen_given l address size parts g s a rest inner (l.frames f).size (function_at p a.function).values (good.frames a.function) at.values.0 kept at.stack below fits.reach reach)
            own_slot 0 xs few at.there (numbered (given_of address parts a.values) xs);
        compatible = fit (l.frames f) (function_at p f).values frame caller parts 0 xs few;
        link = (own_slot (l.frames f).link (good.links f at.function_there)).within;
        unused = kept.places 1;
      }

  -- the stage after the call, where nothing is known below the caller's frame but the arguments and the return address
  abbrev after_call : ℕ → Stage
  after_call back = called (cleared g) inner args known (l.frames f).link back

  less : (back : ℕ) → StageSaysLess (called g inner args given (l.frames f).link back) (after_call back)
  less back =
      linked_says (copied (based_at g inner) args given) (copied (based_at (cleared g) inner) args known) (l.frames f).link back
      (copied_says (based_at g inner) (based_at (cleared g) inner) args given known (cleared_says g inner) knows_more)

  same : SameWhere (IsBesideAll inner args) (based_at (cleared g) inner) (copied (based_at (cleared g) inner) args known)
  same = rest_stays (based_at (cleared g) inner) args known

  -- slots of the new frame that no argument goes to
  unknown : (back m : ℕ) → m < (l.frames f).size → m ≢ (l.frames f).link → ((d : ℕ) → d < length xs → IsOther ((l.frames f).places d) m)
      → (after_call back).slots (inner + m) ≡ Free
  unknown back m lt other apart =
      let h : Stage = copied (based_at (cleared g) inner) args known in
      let base : (copied (based_at (cleared g) inner) args known).base ≡ inner = same.base in
      let ne : inner + m ≢ h.base + (l.frames f).link = λ e. other (omega (arith, base)) in
      with_register-other h.slots (h.base + (l.frames f).link) (inner + m) (Has Sure back) ne
      ∙ same.slots (inner + m)
      (beside_all (l.frames f) (function_at p f).values (good.frames f) (l.frames a.function) parts inner m 0 xs (λ d small. apart d (omega arith)))
      ∙ cleared_below g (inner + m) (omega (arith, below))

  keeps_call : (back : ℕ) → back ≡ l.back a.function a.block a.position
      → KeepsCall l address (after_call back).slots inner f (function_at p f).values vs a
  keeps_call back is =
      let frame : IsGoodFrame (l.frames f) (function_at p f).values = good.frames f in
      let caller : FrameLayout = l.frames a.function in
      let many : length vs ≡ length xs = length-map xs (value_of a.values) in
      let set : AreSet (after_call back) args known =
      arguments_are_set (cleared g) inner (l.frames f).link back args known (fit (l.frames f) (function_at p f).values frame caller parts 0 xs few)
      (spares (l.frames f) (function_at p f).values frame caller parts 0 xs few) in
      record {
        arguments_are = λ id lt.
            let x : Triple = (l.frames f).places id in
            let held : HoldsVersions (after_call back) x (known id) =
            set_at (l.frames f) (function_at p f).values frame caller parts (after_call back) known 0 xs set id (omega arith) (omega (arith, many)) in
            subst (λ (b : ℕ). KeepsThree (after_call back).slots b x (known id)) same.base (held_three (after_call back) x (known id) held);
        others_are = λ id le lt.
            let x : Triple = (l.frames f).places id in
            let inside : AreInFrame (l.frames f).size x = frame.inside id lt in
            let spared : IsOther x (l.frames f).link = frame.link_spared id lt in
            let clear : (d : ℕ) → d < length xs → IsClear ((l.frames f).places d) x = λ d small. frame.apart d id (omega (arith, many)) lt (λ e. omega (arith, many)) in
            record {
              one = unknown back x.one inside.one (λ e. spared.one (sym e)) (λ d small. (clear d small).one);
              two = unknown back x.two inside.two (λ e. spared.two (sym e)) (λ d small. (clear d small).two);
              three = unknown back x.three inside.three (λ e. spared.three (sym e)) (λ d small. (clear d small).three);
            };
        link_is =
            subst (λ (b : ℕ). (after_call back).slots (b + (l.frames f).link) ≡ Has Sure (l.back a.function a.block a.position)) same.base
            (with_register-same (copied (based_at (cleared g) inner) args known).slots ((after_call back).base + (l.frames f).link) (Has Sure back) ∙ ap (Has Sure) is);
      }

  keeps_after : (back : ℕ) → back ≡ l.back a.function a.block a.position
      → KeepsState l address size (after_call back) (record s { stack = entered p f vs ∷ a ∷ rest })
  keeps_after back is =
      let frame : IsGoodFrame (l.frames f) (function_at p f).values = good.frames f in
      let many : length vs ≡ length xs = length-map xs (value_of a.values) in
      let above = callers_stay (cleared g) (l.frames f).size inner (l.frames f).link back args known below
      (inside_all (l.frames f) (function_at p f).values frame (l.frames a.function) parts 0 xs few) (good.links f at.function_there) in
      let stack : KeepsStack l address (after_call back).slots inner (entered p f vs ∷ a ∷ rest) =
      entries p l address g.slots (after_call back).slots g.base inner f vs a rest below (omega (arith, many, at.few))
      (subst (KeepsStack l address g.slots g.base) at.stack kept.stack)
      (λ k le. above.slots k le ∙ cleared_above g k le) (keeps_call back is) in
      record {
        stack = subst (λ (b : ℕ). KeepsStack l address (after_call back).slots b (entered p f vs ∷ a ∷ rest)) (sym same.base) stack;
        places = λ q. ap (λ (ps : ℕ → Cell). ps q) same.places ∙ kept.places q;
        data_size = same.size ∙ kept.data_size;
        input = same.input ∙ kept.input;
        out = same.out ∙ kept.out;
      }

  entering : (t : State) → record s { stack = entered p f vs ∷ a ∷ rest } ≡ t
      → IsPlaced words from (call_at (l.frames a.function) (l.frames f) parts xs offset)
      → IsPlaced words (called_at (l.frames a.function) (l.frames f) parts xs offset from) (entry_words (l.frames f).link)
      → back_of from (l.frames f).size args ≡ l.back a.function a.block a.position
      → Arrives l address size words g t from (length (call_at (l.frames a.function) (l.frames f) parts xs offset) + 3)
      (called_at (l.frames a.function) (l.frames f) parts xs offset from + 12)
  entering t state placed entry back =
      let b : ℕ = back_of from (l.frames f).size args in
      let count : ℕ = length (call_at (l.frames a.function) (l.frames f) parts xs offset) in
      let to : ℕ = called_at (l.frames a.function) (l.frames f) parts xs offset from in
      let goes : Goes words (resting g One) from (count + 3) (resting (called g inner args given (l.frames f).link b) One) (to + 12) =
      calls_enter words g from (l.frames f).size inner (l.frames f).link args given offset is_call placed entry in
      let empty : IsPlaced words (to + 12) [] = record { stands = tt; room = omega (arith, entry.room); short = entry.short } in
      let forget : Goes words (resting (called g inner args given (l.frames f).link b) One) (to + 12) 0 (resting (after_call b) One) (to + 12 + 4 * 0) =
      runs_go (to + 12) empty (stage_forgotten words (called g inner args given (l.frames f).link b) (after_call b) One (less b)
      (λ q w sure. none_sure w (sym (kept.places q) ∙ sym (ap (λ (ps : ℕ → Cell). ps q) same.places) ∙ sure))) in
      let both : Goes words (resting g One) from (count + 3 + 0) (resting (after_call b) One) (to + 12 + 4 * 0) = goes_then goes forget in
      record {
        stage = after_call b;
        kept = subst (KeepsState l address size (after_call b)) state (keeps_after b back);
        goes = subst (λ (q : ℕ). Goes words (resting g One) from (count + 3) (resting (after_call b) One) q) (let e : to + 12 + 4 * 0 ≡ to + 12 = omega arith in e)
            (subst (λ (n : ℕ). Goes words (resting g One) from n (resting (after_call b) One) (to + 12 + 4 * 0)) (let e : count + 3 + 0 ≡ count + 3 = omega arith in e) both);
      }
    where
      none_sure : (u : ℕ) → Free ≡ Has Sure u → ⊥
      none_sure u e = cc

pub calls : CallsAreDone
calls p l address size words parts g s t f result xs a rest from offset good makes kept at goes within placed entry back =
    let n : ℕ = (l.frames f).size in
    let u : State = record s { stack = entered p f (map (value_of a.values) xs) ∷ a ∷ rest } in
    let state : u ≡ t = same_state u t (sym (call_step p s f result xs a rest at) ∙ goes) in
    let roomy : 64 + ((function_at p f).frame + frames p (a ∷ rest)) ≤ 8388608 = subst (λ (w : State). IsWithinStack p w) (sym state) within in
    let here : 64 + ((function_at p f).frame + frames p s.stack) ≤ 8388608 =
    subst (λ (st : List Activation). 64 + ((function_at p f).frame + frames p st) ≤ 8388608) (sym at.stack) roomy in
    let fits : FitsBelow g.base g.size n = frame_fits p l address size g s f good kept here in
    let held : IsWithinStack p s = omega arith in
    entering p l address size words parts g s f result xs a rest from offset (g.base - n) good makes kept at (omega (arith, fits.below)) fits
    (room p l address size g s a rest good kept at.stack held).2 t state placed entry back
