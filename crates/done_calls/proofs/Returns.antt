-- The words of a return and those after the call do the step of the return.
use Rattle.std.proofs.Common.{◌≡◌, ◌≤◌, ◌<◌, ◌+◌, ◌-◌, ◌*◌, ◌%◌, ℕ, Bool, true, false, List, [], ◌∷◌, ◌++◌, length, Option, Some, None, refl, sym, ap, subst, ◌∙◌, arith, append-nil, length-append}
use Rattle.std.specs.Prelude.{pos, if◌then◌else◌}
use Rattle.std.specs.Option.{option_and_then}
use Rattle.ir_model.specs.Values.{Value, Poison}
use Rattle.ir_model.specs.Programs.{Operand, Instruction, Program, function_at}
use Rattle.ir_model.specs.States.{Activation, State, Continues, instruction_at, after}
use Rattle.ir_model.specs.Steps.{returns, act, did, stepped, step}
use Rattle.ir_model.specs.Runs.{frames, IsWithinStack}
use Rattle.rv_inst.specs.declared.instruction.Form.{Form}
use Rattle.rv_inst.specs.declared.instruction.Form.TheVariants.{ADDI, ADD}
use Rattle.rv_model.specs.Text.{StandsAll}
use Rattle.rv_flips.specs.Cells.{Cell, Free, Has, Sure, One, Two, Three}
use Rattle.rv_flips.specs.Assertion.{with_register}
use Rattle.flip_words.specs.Placed.{IsPlaced}
use Rattle.flip_words.proofs.CarryLemmas.{placed_front, placed_back}
use Rattle.flip_frames.specs.Views.{Stage, Runs, version}
use Rattle.flip_frames.specs.Slots.{is_near}
use Rattle.flip_frames.specs.Fetching.{Triple}
use Rattle.flip_frames.proofs.RunLaws.{runs_then}
use Rattle.flip_versions.specs.Operations.{resting, IsSlot, AreSlots, AreDifferent, defined}
use Rattle.flip_versions.proofs.VersionLaws.{defined_hold, others_stay}
use Rattle.flip_jumps.specs.Places.{Goes}
use Rattle.flip_jumps.proofs.PlaceLaws.{goes_then, runs_go, stage_forgotten}
use Rattle.flip_guards.specs.Sources.{Part}
use Rattle.flip_guards.specs.Fetching.{in_slots}
use Rattle.flip_guards.proofs.FetchLaws.{triples_give}
use Rattle.flip_copies.specs.Copies.{Copy, IsReadInTime, IsClear, Compatible, CanCopy, copies_words}
use Rattle.flip_copies.proofs.CopyLaws.{copy_lists_run}
use Rattle.flip_calls.specs.Frames.{size_words, copy_up, frame_up, based_at}
use Rattle.flip_calls.specs.Calls.{return_words, after_words}
use Rattle.flip_calls.proofs.CallLaws.{returns_go, results_are_taken}
use Rattle.kept_states.specs.Layouts.{FrameLayout, Layout, AreInFrame, IsGoodFrame, IsGoodLayout}
use Rattle.kept_states.specs.Kept.{word_of, KeepsThree, KeepsStack, KeepsState}
use Rattle.kept_states.specs.Laws.{HaveValues}
use Rattle.kept_states.proofs.Stacks.{room, three_held, held_three, stack_stays, past, results}
use Rattle.kept_states.proofs.Moves.{callers}
use Rattle.done_operations.specs.Sources.{MakeWords, source_of, IsWithin}
use Rattle.done_operations.specs.Operations.{Reaches}
use Rattle.done_operations.proofs.Done.{sourced, defined_less}
use Rattle.ir_model.specs.Programs.{Local, Fixed}
use Rattle.done_calls.specs.Calls.{from_below, seen_from_below}
use Rattle.done_calls.specs.Returns.{IsGoodResult, AreGoodResults, return_at, returned, return_of, AtReturn, left_by, KeepsResult, GivesBack, FunctionsReturn}
use Rattle.done_calls.specs.Returns.{taken_copies, after_at, IsResultOf, WaitsFor, ResultsAreDone, ReturnsAreDone}
use Rattle.done_calls.proofs.Frames.{function_there, FitsBelow, frame_fits, undefined_says}
use Rattle.done_calls.proofs.Calls.{same_state}

none_sure : (u : ℕ) → Free ≡ Has Sure u → ⊥
none_sure u e = cc

-- ---- in the function that returns
module _ (p : Program) (l : Layout) (address : ℕ → ℕ) (size : ℕ) (words : List ℕ) (parts : Value → List Part) (waiting : ℕ → Triple) (g : Stage) (s : State)
    (given : Option Operand) (a b : Activation) (rest : List Activation) (from : ℕ) (good : IsGoodLayout p l size) (fine : AreGoodResults p l waiting)
    (makes : MakeWords address parts) (kept : KeepsState l address size g s) (at : AtReturn p s given a b rest) (within : IsWithinStack p s)
    (even : l.back b.function b.block b.position % 2 ≡ 0) where
  is_there : a.function < length p.functions
  is_there = function_there p a (return_of given) at.next

  abbrev r : Triple
  r = waiting a.function

  reach : (m : ℕ) → m < (l.frames a.function).size → IsSlot g m
  reach = (room p l address size g s a (b ∷ rest) good kept at.stack within).2

  both : KeepsStack l address g.slots g.base (a ∷ b ∷ rest)
  both = subst (KeepsStack l address g.slots g.base) at.stack kept.stack

  -- with the value where it waits, and what is above as before
  gives : (v : Value) → KeepsResult l address size waiting (defined g r (word_of address v)) (left_by a b rest s) a.function v
  gives v =
      let o : Option ℕ = word_of address v in
      let n : ℕ = (l.frames a.function).size in
      let is : IsGoodResult (l.frames a.function) (function_at p a.function).values r = fine a.function is_there in
      record {
        value = held_three (defined g r o) r o (defined_hold g r o is.different);
        caller = record {
          stack = stack_stays l address g.slots (defined g r o).slots (g.base + n) (b ∷ rest)
              (λ k le.
              let m : ℕ = k - g.base in
              let same : g.base + m ≡ k = omega arith in
              subst (λ (q : ℕ). (defined g r o).slots q ≡ g.slots q) same (others_stay g r o m (past n r m is.inside (omega arith))))
              (callers l address g.slots g.base a b rest both).1;
          places = kept.places;
          data_size = kept.data_size;
          input = kept.input;
          out = kept.out;
        };
      }

  -- after words that bring it there
  brought : (code : List Form) (v : Value) → Runs words code (resting g One) (resting (defined g r (word_of address v)) One)
      → IsPlaced words from (code ++ return_words (l.frames a.function).link)
      → GivesBack l address size words waiting g (left_by a b rest s) a.function v from (length (code ++ return_words (l.frames a.function).link))
      (l.back b.function b.block b.position)
  brought code v run placed =
      let o : Option ℕ = word_of address v in
      let h : Stage = defined g r o in
      let m : ℕ = (l.frames a.function).link in
      let back : ℕ = l.back b.function b.block b.position in
      let holds : h.slots (h.base + m) ≡ Has Sure back =
      others_stay g r o m (fine a.function is_there).link_spared ∙ (callers l address g.slots g.base a b rest both).0 in
      let goes : Goes words (resting g One) from (length code + 4) (resting h One) back =
      goes_then (runs_go from (placed_front words from code (return_words m) placed) run)
      (returns_go words h (from + 4 * length code) m back (placed_back words from code (return_words m) placed) (reach m (good.links a.function is_there)).within holds even (kept.places 1)) in
      record {
        stage = h;
        kept = gives v;
        goes = subst (λ (count : ℕ). Goes words (resting g One) from count (resting h One) back) (sym (length-append code (return_words m))) goes;
      }

  forgotten_run : (code : List Form) (o w : Option ℕ) → ((u : ℕ) → w ≡ Some u → o ≡ Some u) → Runs words code (resting g One) (resting (defined g r o) One)
      → Runs words code (resting g One) (resting (defined g r w) One)
  forgotten_run code o w right run =
      subst (λ (zs : List Form). Runs words zs (resting g One) (resting (defined g r w) One)) (append-nil code)
      (runs_then run (stage_forgotten words (defined g r o) (defined g r w) One (defined_less g r o w right) (λ q u sure. none_sure u (sym (kept.places q) ∙ sure))))

  -- a value of the function is read in time
  result_in_time : (x : Operand) → IsWithin (function_at p a.function).values x → IsReadInTime r (source_of (l.frames a.function) parts x)
  result_in_time (Local j) there =
      let clear : IsClear r ((l.frames a.function).places j) = (fine a.function is_there).apart j there in
      record { two_one = clear.two.one; three_one = clear.three.one; three_two = clear.three.two }
  result_in_time (Fixed v) there = record { two_one = tt; three_one = tt; three_two = tt }

  copied_there : (x : Operand) → IsWithin (length a.values) x
      → Runs words (copies_words (record { source = source_of (l.frames a.function) parts x; goal = r; id = 0 } ∷ [])) (resting g One)
      (resting (defined g r (word_of address (returned a.values (Some x)))) One)
  copied_there x there =
      let lay : FrameLayout = l.frames a.function in
      let many : length a.values ≡ (function_at p a.function).values = at.values.0 in
      let sx = sourced l address size parts g s a (b ∷ rest) (function_at p a.function).values (good.frames a.function) makes kept at.stack many reach x there in
      let is : IsGoodResult lay (function_at p a.function).values r = fine a.function is_there in
      let cs : List Copy = record { source = source_of lay parts x; goal = r; id = 0 } ∷ [] in
      let slots : AreSlots g r = record { one = reach r.one is.inside.one; two = reach r.two is.inside.two; three = reach r.three is.inside.three } in
      let time : IsReadInTime r (source_of lay parts x) = result_in_time x (subst (λ (n : ℕ). IsWithin n x) many there) in
      forgotten_run (copies_words cs) sx.given (word_of address (returned a.values (Some x))) sx.right
      (copy_lists_run words g cs (λ id. sx.given) (sx.gives, slots, tt) (is.different, time, tt, tt))

pub functions : FunctionsReturn
functions p l address size words parts waiting g s None a b rest from good fine makes kept at within even placed =
    brought p l address size words parts waiting g s None a b rest from good fine makes kept at within even [] Poison
    (stage_forgotten words g (defined g (waiting a.function) None) One (undefined_says g (waiting a.function)) (λ q u sure. none_sure u (sym (kept.places q) ∙ sure))) placed
functions p l address size words parts waiting g s (Some x) a b rest from good fine makes kept at within even placed =
    brought p l address size words parts waiting g s (Some x) a b rest from good fine makes kept at within even
    (copies_words (record { source = source_of (l.frames a.function) parts x; goal = waiting a.function; id = 0 } ∷ [])) (returned a.values (Some x))
    (copied_there p l address size words parts waiting g s (Some x) a b rest from good fine makes kept at within even x at.there) placed

-- ---- the step
return_step : (p : Program) (s : State) (given : Option Operand) (a b : Activation) (rest : List Activation) → AtReturn p s given a b rest
    → step p s ≡ returns p (returned a.values given) a (b ∷ rest) s
unfolding step act
return_step p s None a b rest at =
    ap (λ (st : List Activation). stepped p st s) at.stack ∙ ap (λ (i : Option Instruction). did p i a (b ∷ rest) s) at.next
return_step p s (Some x) a b rest at =
    ap (λ (st : List Activation). stepped p st s) at.stack ∙ ap (λ (i : Option Instruction). did p i a (b ∷ rest) s) at.next

-- the state after it, where the caller waits for this result
gone_on : (p : Program) (s t : State) (given : Option Operand) (result : Option ℕ) (xs : List Operand) (a b : Activation) (rest : List Activation)
    → AtReturn p s given a b rest → WaitsFor p b a.function result xs → step p s ≡ Continues t
    → record (left_by a b rest s) { stack = after result (returned a.values given) b ∷ rest } ≡ t
gone_on p s t given result xs a b rest at waits goes =
    let v : Value = returned a.values given in
    let awaited_is : option_and_then (λ (x : Instruction). x.result) (instruction_at p b) ≡ result = ap (λ (i : Option Instruction). option_and_then (λ (x : Instruction). x.result) i) waits.next in
    same_state (record (left_by a b rest s) { stack = after result v b ∷ rest }) t
    (ap (λ (o : Option ℕ). Continues (record (left_by a b rest s) { stack = after o v b ∷ rest })) (sym awaited_is) ∙ sym (return_step p s given a b rest at) ∙ goes)

-- ---- in its caller
three_at : (slots : ℕ → Cell) (i j k i' j' k' : ℕ) (x y z : Cell) → i ≡ i' → j ≡ j' → k ≡ k'
    → with_register (with_register (with_register slots i x) j y) k z ≡ with_register (with_register (with_register slots i' x) j' y) k' z
three_at slots i j k i' j' k' x y z one two three =
    ap (λ (q : ℕ). with_register (with_register (with_register slots q x) j y) k z) one
    ∙ ap (λ (q : ℕ). with_register (with_register (with_register slots i' x) q y) k z) two
    ∙ ap (λ (q : ℕ). with_register (with_register (with_register slots i' x) j' y) q z) three

-- a result is taken from the frame below to a value's slots, counted from there
module _ (g : Stage) (r d : Triple) (n : ℕ) (o : Option ℕ) (inside : AreInFrame n r) (different : AreDifferent d) (slots : (m : ℕ) → m < n → IsSlot g m)
    (goal : AreSlots g (from_below n d)) (holds : KeepsThree g.slots g.base r o) where
  can_take : CanCopy g (record { source = in_slots r; goal = from_below n d; id = 0 } ∷ []) (λ id. o)
  can_take =
      (triples_give g r o (record { one = slots r.one inside.one; two = slots r.two inside.two; three = slots r.three inside.three }) (three_held g r o holds), goal, tt)

  fits_take : Compatible (record { source = in_slots r; goal = from_below n d; id = 0 } ∷ [])
  fits_take = (
    record { one_two = λ e. different.one_two (omega arith); one_three = λ e. different.one_three (omega arith); two_three = λ e. different.two_three (omega arith) },
    record { two_one = λ e. omega (arith, inside.two); three_one = λ e. omega (arith, inside.three); three_two = λ e. omega (arith, inside.three) },
    tt,
    tt,
  )

-- the stage after the result was taken and the frame went up
module _ (p : Program) (l : Layout) (address : ℕ → ℕ) (size : ℕ) (words : List ℕ) (waiting : ℕ → Triple) (g : Stage) (s t : State) (v : Value) (f : ℕ)
    (b : Activation) (rest : List Activation) (from : ℕ) (good : IsGoodLayout p l size) (fine : AreGoodResults p l waiting)
    (known : f < length p.functions) (kept : KeepsResult l address size waiting g s f v) (stack : s.stack ≡ b ∷ rest) (values : HaveValues p (b ∷ rest))
    (fits : FitsBelow (g.base + (l.frames f).size) g.size (l.frames f).size) (within : IsWithinStack p s) where
  abbrev base : ℕ
  base = g.base + (l.frames f).size

  abbrev d : ℕ → Triple
  d id = (l.frames b.function).places id

  above : KeepsStack l address g.slots base (b ∷ rest)
  above = subst (KeepsStack l address g.slots base) stack kept.caller.stack

  high : 8 * base ≤ 0x4000_0000
  high = omega (arith, fits.within, fits.reach)

  -- a result that isn't used is left where it is
  unused : record s { stack = after None v b ∷ rest } ≡ t → IsPlaced words from (after_at (l.frames b.function) (l.frames f) (waiting f) None)
      → Reaches l address size words g t from (length (after_at (l.frames b.function) (l.frames f) (waiting f) None))
  unused state placed =
      record {
        stage = based_at g base;
        kept = subst (KeepsState l address size (based_at g base)) state (record {
          stack = above;
          places = kept.caller.places;
          data_size = kept.caller.data_size;
          input = kept.caller.input;
          out = kept.caller.out;
        });
        goes = runs_go from placed (results_are_taken words g (l.frames f).size base [] (λ id. None) tt tt fits.small refl high);
      }

  below_slot : (m : ℕ) → m < (l.frames f).size → IsSlot g m
  below_slot m lt = record { within = omega (arith, fits.within); small = omega (arith, fits.small) }

  above_slot : (m : ℕ) → IsSlot (based_at g base) m → IsSlot g ((l.frames f).size + m)
  above_slot m is = record { within = omega (arith, is.within); small = omega (arith, is.within, fits.reach) }

  goal_slots : (id : ℕ) → id < length b.values → AreSlots g (from_below (l.frames f).size (d id))
  goal_slots id lt =
      let inside : AreInFrame (l.frames b.function).size (d id) = (good.frames b.function).inside id (omega (arith, values.0)) in
      let slot : (m : ℕ) → m < (l.frames b.function).size → IsSlot (based_at g base) m = (room p l address size (based_at g base) s b rest good kept.caller stack within).2 in
      record {
        one = above_slot (d id).one (slot (d id).one inside.one);
        two = above_slot (d id).two (slot (d id).two inside.two);
        three = above_slot (d id).three (slot (d id).three inside.three);
      }

  used : (id : ℕ) → id < length b.values → record s { stack = after (Some id) v b ∷ rest } ≡ t
      → IsPlaced words from (after_at (l.frames b.function) (l.frames f) (waiting f) (Some id))
      → Reaches l address size words g t from (length (after_at (l.frames b.function) (l.frames f) (waiting f) (Some id)))
  used id lt state placed =
      let n : ℕ = (l.frames f).size in
      let o : Option ℕ = word_of address v in
      let frame : IsGoodFrame (l.frames b.function) (function_at p b.function).values = good.frames b.function in
      let different : AreDifferent (d id) = frame.different id (omega (arith, values.0)) in
      let cs : List Copy = taken_copies (seen_from_below n (l.frames b.function)) (waiting f) (Some id) in
      let h : Stage = based_at (defined g (from_below n (d id)) o) base in
      let run : Runs words (after_at (l.frames b.function) (l.frames f) (waiting f) (Some id)) (resting g One) (resting h One) =
      results_are_taken words g n base cs (λ i. o)
      (can_take g (waiting f) (d id) n o (fine f known).inside different below_slot (goal_slots id lt) kept.value)
      (fits_take g (waiting f) (d id) n o (fine f known).inside different below_slot (goal_slots id lt) kept.value) fits.small refl high in
      let at : (m : ℕ) → base + m ≡ g.base + (n + m) = λ m. omega arith in
      let same : (defined (based_at g base) (d id) o).slots ≡ (defined g (from_below n (d id)) o).slots =
      three_at g.slots (base + (d id).one) (base + (d id).two) (base + (d id).three) (g.base + (n + (d id).one)) (g.base + (n + (d id).two)) (g.base + (n + (d id).three))
      (version One o) (version Two o) (version Three o) (at (d id).one) (at (d id).two) (at (d id).three) in
      record {
        stage = h;
        kept = subst (KeepsState l address size h) state (record {
          stack = subst (λ (slots : ℕ → Cell). KeepsStack l address slots base (after (Some id) v b ∷ rest)) same
              (results p l address (based_at g base) b rest id v frame values lt above);
          places = kept.caller.places;
          data_size = kept.caller.data_size;
          input = kept.caller.input;
          out = kept.caller.out;
        });
        goes = runs_go from placed run;
      }

  taken : (result : Option ℕ) → IsResultOf (length b.values) result → record s { stack = after result v b ∷ rest } ≡ t
      → IsPlaced words from (after_at (l.frames b.function) (l.frames f) (waiting f) result)
      → Reaches l address size words g t from (length (after_at (l.frames b.function) (l.frames f) (waiting f) result))
  taken None there state placed = unused state placed
  taken (Some id) there state placed = used id there state placed

pub takes : ResultsAreDone
takes p l address size words waiting g s t given result xs a b rest from good fine at waits kept within goes placed =
    let n : ℕ = (l.frames a.function).size in
    let u : State = left_by a b rest s in
    let here : 64 + ((function_at p a.function).frame + frames p (b ∷ rest)) ≤ 8388608 = subst (λ (st : List Activation). 64 + frames p st ≤ 8388608) at.stack within in
    let fits : FitsBelow (g.base + n) g.size n = frame_fits p l address size (based_at g (g.base + n)) u a.function good kept.caller here in
    let less : IsWithinStack p u = omega arith in
    taken p l address size words waiting g u t (returned a.values given) a.function b rest from good fine (function_there p a (return_of given) at.next) kept refl at.values.1 fits less result waits.there
    (gone_on p s t given result xs a b rest at waits goes) placed

-- ---- both
-- a place at which the frame goes up is even
even_up : (near : Bool) (words : List ℕ) (q c n : ℕ) (code : List Form)
    → StandsAll words q ((if near then ADDI c c (pos (8 * n)) ∷ [] else size_words n ++ ADD c c 5 ∷ []) ++ code) → q % 2 ≡ 0
even_up true words q c n code stands = let at = stands.0.place in omega arith
even_up false words q c n code stands = let at = stands.0.place in omega arith

even_back : (words : List ℕ) (q n : ℕ) (cs : List Copy) → IsPlaced words q (after_words cs n) → q % 2 ≡ 0
even_back words q n cs placed =
    let up : IsPlaced words (q + 4 * length (copies_words cs)) (frame_up n) = placed_back words q (copies_words cs) (frame_up n) placed in
    let even : (q + 4 * length (copies_words cs)) % 2 ≡ 0 = even_up (is_near n) words (q + 4 * length (copies_words cs)) 2 n (copy_up 3 n ++ copy_up 4 n) up.stands in
    omega arith

pub returns_done : ReturnsAreDone
returns_done p l address size words parts waiting g s t given result xs a b rest from good fine makes kept at waits within goes placed next =
    let back : ℕ = l.back b.function b.block b.position in
    let code : List Form = after_at (l.frames b.function) (l.frames a.function) (waiting a.function) result in
    let even : back % 2 ≡ 0 = even_back words back (l.frames a.function).size (taken_copies (seen_from_below (l.frames a.function).size (l.frames b.function)) (waiting a.function) result) next in
    let first : GivesBack l address size words waiting g (left_by a b rest s) a.function (returned a.values given) from
    (length (return_at (l.frames a.function) parts (waiting a.function) given)) back =
    functions p l address size words parts waiting g s given a b rest from good fine makes kept at within even placed in
    let second : Reaches l address size words first.stage t back (length code) =
    takes p l address size words waiting first.stage s t given result xs a b rest back good fine at waits first.kept within goes next in
    record {
      stage = second.stage;
      kept = second.kept;
      goes = goes_then first.goes second.goes;
    }
