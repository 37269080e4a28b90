-- Output, input and the end of a program do their steps.
use Rattle.std.proofs.Common.{◌≡◌, ◌≢◌, ◌≤◌, ◌<◌, ◌+◌, ◌-◌, ◌*◌, ◌%◌, ◌^◌, ◌==◌, ℕ, Bool, true, false, List, [], ◌∷◌, ◌++◌, map, length, drop, Option, Some, None, inl, inr, refl, sym, ap, ap₂, subst, ◌∙◌, arith, bit_and, slice_index_or}
use Rattle.std.specs.Prelude.{pos, slice_index}
use Rattle.std.proofs.lemmas.Option.{same_Some, none-some}
use Rattle.std.proofs.lemmas.Nat.{and_mask}
use Rattle.ir_model.specs.Values.{Value, Integer, Address, Poison}
use Rattle.ir_model.specs.Pointers.{extended}
use Rattle.ir_model.specs.Programs.{Operand, Instruction, Action, PutChar, GetChar, Return, Program, function_at}
use Rattle.ir_model.specs.States.{Activation, State, StepResult, Continues, Ends, value_of, instruction_at, after}
use Rattle.ir_model.specs.Steps.{puts, gets, returns, finishes, act, did, stepped, step}
use Rattle.ir_model.specs.Runs.{IsWithinStack}
use Rattle.ir_typed_runs.specs.Kinds.{OfWidth, IsOfKind}
use Rattle.rv_inst.specs.declared.instruction.Form.{Form}
use Rattle.rv_inst.specs.declared.instruction.Form.TheVariants.{ANDI}
use Rattle.rv_flips.specs.Cells.{Cell, Free, Has, Sure, One}
use Rattle.rv_flips.specs.Assertion.{AreBytes, with_register}
use Rattle.rv_flips.specs.Moves.{Finishes}
use Rattle.rv_flips.proofs.CellLemmas.{with_register-other}
use Rattle.flip_words.specs.Placed.{WindowPoints, Excepted, IsPlaced}
use Rattle.flip_frames.specs.Views.{Stage, IsView, Runs, with_value, no_values, at_address}
use Rattle.flip_frames.specs.Computing.{effect_of, of_both}
use Rattle.flip_frames.specs.Fetching.{Triple}
use Rattle.flip_frames.proofs.RunLaws.{runs_then}
use Rattle.flip_versions.specs.Operations.{resting, IsSlot, defined}
use Rattle.flip_guards.specs.Sources.{Part}
use Rattle.flip_guards.specs.Fetching.{IsGiven}
use Rattle.flip_operations.specs.Operations.{one_operand}
use Rattle.flip_operations.proofs.OperationLaws.{one_runs}
use Rattle.flip_io.specs.ByteCell.{MayCall, cell_used}
use Rattle.flip_io.specs.Output.{put_words, with_output}
use Rattle.flip_io.specs.Input.{get_words, read_value, with_input}
use Rattle.flip_io.specs.Ending.{end_words}
use Rattle.flip_io.proofs.OutputLaw.{byte_is_output}
use Rattle.flip_io.proofs.InputLaw.{byte_is_input}
use Rattle.flip_io.proofs.EndLaw.{value_ends}
use Rattle.op_words.proofs.Powers.{Width, width}
use Rattle.op_words.proofs.Extended.{below_or, low_word, high_word}
use Rattle.kept_states.specs.Layouts.{FrameLayout, Layout, IsGoodFrame, IsGoodLayout}
use Rattle.kept_states.specs.Kept.{word_of, KeepsStack, KeepsState}
use Rattle.kept_states.proofs.Stacks.{room, stack_stays}
use Rattle.done_operations.specs.Sources.{MakeWords, source_of, IsWithin}
use Rattle.done_operations.specs.Operations.{Reaches}
use Rattle.done_operations.proofs.Done.{Sourced, triple_slots, sourced, in_time, defines}
use Rattle.done_io.specs.Bytes.{AtAction, put_at, OutputsAreDone, InputsAreDone, AtEnd, EndsAreDone}

-- ---- what the calls of the environment need
may_call : (p : Program) (l : Layout) (address : ℕ → ℕ) (size : ℕ) (g : Stage) (s : State) → IsGoodLayout p l size → KeepsState l address size g s → MayCall g
may_call p l address size g s good kept =
    record {
      file = kept.places 10;
      address = kept.places 11;
      count = kept.places 12;
      number = kept.places 17;
      cell = let e : g.size ≡ size = kept.data_size in omega (arith, good.room, good.within);
    }

-- a stage that keeps a state keeps it also with the byte cell used
cell_kept : (l : Layout) (address : ℕ → ℕ) (g : Stage) (stack : List Activation) → 2 ≤ g.base → KeepsStack l address g.slots g.base stack
    → KeepsStack l address (cell_used g).slots g.base stack
cell_kept l address g stack above kept =
    stack_stays l address g.slots (cell_used g).slots g.base stack (λ k le. with_register-other g.slots 0 k Free (λ e. omega arith)) kept

-- ---- bytes of words
word32 : Width 32
word32 = width 32 (omega arith) (omega arith)

low_byte : (n : ℕ) → n < 2 ^ 32 → extended 32 n % 256 ≡ n % 256
low_byte n lt = elim (below_or n (2 ^ 31)) [
  | inl low ↦ ap (λ (x : ℕ). x % 256) (low_word 32 n word32 low)
  | inr high ↦ ap (λ (x : ℕ). x % 256) (high_word 32 n word32 lt high) ∙ (let e : (n + (2 ^ 64 - 2 ^ 32)) % 256 ≡ n % 256 = omega arith in e)
]

byte_word : (n : ℕ) → n < 256 → extended 32 n ≡ n
byte_word n lt = low_word 32 n word32 (omega arith)

-- the byte that is given back, from a word
byte_given : (given : Option ℕ) (v : ℕ) → given ≡ Some v
    → effect_of (ANDI 5 5 (pos 255) ∷ []) (with_value (with_value no_values 5 given) 6 None) 5 ≡ Some (bit_and v 255)
unfolding with_value
byte_given given v is = ap (λ (o : Option ℕ). of_both bit_and o (Some 255)) is

low_bits : (v : ℕ) → bit_and v 255 ≡ v % 256
low_bits v = and_mask v 8

-- ---- output
put_step : (p : Program) (s : State) (a : Activation) (rest : List Activation) (x : Operand) (id : ℕ) → AtAction p s PutChar (x ∷ []) a rest id
    → step p s ≡ puts (value_of a.values x) (Some id) a rest s
unfolding step act
put_step p s a rest x id at =
    ap (λ (st : List Activation). stepped p st s) at.stack ∙ ap (λ (i : Option Instruction). did p i a rest s) at.next

-- a state after a byte was put out
abbrev with_byte : State → ℕ → State
with_byte s b = record s { out = s.out ++ b ∷ [] }

pub outputs : OutputsAreDone
outputs p l address size words parts g s t a rest x id from good makes kept at there kind within goes placed =
    by_value (value_of a.values x) refl kind (sym (put_step p s a rest x id at) ∙ goes)
  where
    by_value : (v : Value) → value_of a.values x ≡ v → IsOfKind (length s.memory) (OfWidth 32) v → puts v (Some id) a rest s ≡ Continues t
        → Reaches l address size words g t from (length (put_at (l.frames a.function) parts x id))
    by_value (Address q) is has continues = absurd has
    by_value Poison is has continues = cc
    by_value (Integer w n) is has continues =
        let lay : FrameLayout = l.frames a.function in
        let frame : IsGoodFrame (l.frames a.function) (function_at p a.function).values = good.frames a.function in
        let many : length a.values ≡ (function_at p a.function).values = at.values.0 in
        let roomy = room p l address size g s a rest good kept at.stack within in
        let sx = sourced l address size parts g s a rest (function_at p a.function).values frame makes kept at.stack many roomy.2 x there in
        let v : ℕ = extended 32 n in
        let word : word_of address (value_of a.values x) ≡ Some v = ap (word_of address) is ∙ ap (λ (u : ℕ). Some (extended u n)) has.0 in
        let given : IsGiven g (source_of lay parts x) (Some v) = subst (IsGiven g (source_of lay parts x)) (sx.right v word) sx.gives in
        let byte : v % 256 ≡ n % 256 = low_byte n has.1 in
        let g1 : Stage = with_output g (n % 256) in
        let s1 : State = with_byte s (n % 256) in
        let kept1 : KeepsState l address size g1 s1 = record {
          stack = cell_kept l address g s.stack roomy.0 kept.stack;
          places = kept.places;
          data_size = kept.data_size;
          input = kept.input;
          out = ap (λ (out : List ℕ). out ++ n % 256 ∷ []) kept.out;
        } in
        let roomy1 = room p l address size g1 s1 a rest good kept1 at.stack within in
        let sx1 = sourced l address size parts g1 s1 a rest (function_at p a.function).values frame makes kept1 at.stack many roomy1.2 x there in
        let d : Triple = lay.places id in
        let o : Option ℕ = effect_of (ANDI 5 5 (pos 255) ∷ []) (with_value (with_value no_values 5 sx1.given) 6 None) 5 in
        let first : Runs words (put_words (source_of lay parts x)) (resting g One) (resting g1 One) =
        subst (λ (b : ℕ). Runs words (put_words (source_of lay parts x)) (resting g One) (resting (with_output g b) One)) byte
        (byte_is_output words g (source_of lay parts x) v given (may_call p l address size g s good kept)) in
        let second : Runs words (one_operand (ANDI 5 5 (pos 255) ∷ []) (source_of lay parts x) d) (resting g1 One) (resting (defined g1 d o) One) =
        one_runs words (ANDI 5 5 (pos 255) ∷ []) g1 (source_of lay parts x) d sx1.given o refl refl sx1.gives
        (triple_slots g1 lay (function_at p a.function).values id frame (omega (arith, at.result_there)) roomy1.2)
        (in_time l address size parts g1 s1 a rest (function_at p a.function).values frame makes kept1 at.stack many roomy1.2 x id there at.result_there) in
        let left : o ≡ Some (n % 256) = back sx1.given v n (sx1.right v word) byte in
        let byte_small : n % 256 < 256 = omega arith in
        defines p l address size words g g1 s1 t a rest (put_at lay parts x id) id from (Integer 32 (n % 256)) o good kept1 at.stack at.values at.result_there continues
        (λ w is_word. left ∙ ap Some (sym (byte_word (n % 256) byte_small)) ∙ is_word) (runs_then first second) placed
      where
        back : (given : Option ℕ) (v n : ℕ) → given ≡ Some v → v % 256 ≡ n % 256
            → effect_of (ANDI 5 5 (pos 255) ∷ []) (with_value (with_value no_values 5 given) 6 None) 5 ≡ Some (n % 256)
        back given v n is byte = byte_given given v is ∙ ap Some (low_bits v ∙ byte)

-- ---- input
get_step : (p : Program) (s : State) (a : Activation) (rest : List Activation) (id : ℕ) → AtAction p s GetChar [] a rest id
    → step p s ≡ gets s.input (Some id) a rest s
unfolding step act
get_step p s a rest id at =
    ap (λ (st : List Activation). stepped p st s) at.stack ∙ ap (λ (i : Option Instruction). did p i a rest s) at.next

pub inputs : InputsAreDone
inputs p l address size words g s t a rest id from good kept at bytes within goes placed =
    by_input s.input refl (sym (get_step p s a rest id at) ∙ goes)
  where
    -- with what is left of the input, and the value that is given
    done : (left : List ℕ) (v : Value) (w : ℕ) → drop 1 s.input ≡ left → word_of address v ≡ Some w → read_value s.input ≡ w
        → Continues (record s { input = left; stack = after (Some id) v a ∷ rest }) ≡ Continues t
        → Reaches l address size words g t from (length (get_words ((l.frames a.function).places id)))
    done left v w rest_is word value continues =
        let lay : FrameLayout = l.frames a.function in
        let frame : IsGoodFrame (l.frames a.function) (function_at p a.function).values = good.frames a.function in
        let many : length a.values ≡ (function_at p a.function).values = at.values.0 in
        let roomy = room p l address size g s a rest good kept at.stack within in
        let d : Triple = lay.places id in
        let g1 : Stage = with_input g in
        let s1 : State = record s { input = left } in
        let kept1 : KeepsState l address size g1 s1 = record {
          stack = cell_kept l address g s.stack roomy.0 kept.stack;
          places = kept.places;
          data_size = kept.data_size;
          input = ap (drop 1) kept.input ∙ rest_is;
          out = kept.out;
        } in
        let above : 0 < g.base = omega (arith, roomy.0) in
        let run : Runs words (get_words d) (resting g One) (resting (defined g1 d (Some (read_value g.input))) One) =
        byte_is_input words g d (triple_slots g lay (function_at p a.function).values id frame (omega (arith, at.result_there)) roomy.2)
        (may_call p l address size g s good kept) above (subst AreBytes (sym kept.input) bytes) in
        defines p l address size words g g1 s1 t a rest (get_words d) id from v (Some (read_value g.input)) good kept1 at.stack at.values at.result_there continues
        (λ u is_word. ap (λ (xs : List ℕ). Some (read_value xs)) kept.input ∙ ap Some value ∙ sym word ∙ is_word) run placed

    by_input : (xs : List ℕ) → s.input ≡ xs → gets xs (Some id) a rest s ≡ Continues t
        → Reaches l address size words g t from (length (get_words ((l.frames a.function).places id)))
    by_input [] is continues =
        done s.input (Integer 32 (2 ^ 32 - 1)) (2 ^ 64 - 1) (ap (drop 1) is ∙ sym is) refl (ap read_value is) continues
    by_input (c ∷ cs) is continues =
        let small : c < 256 = subst (λ (xs : List ℕ). slice_index xs 0 < 256) is (bytes 0) in
        done cs (Integer 32 c) c (ap (drop 1) is) (ap Some (byte_word c small)) (ap read_value is) continues

-- ---- the end
end_step : (p : Program) (s : State) (a : Activation) (x : Operand) → AtEnd p s a x → step p s ≡ finishes (value_of a.values x)
unfolding step act
end_step p s a x at =
    ap (λ (st : List Activation). stepped p st s) at.stack ∙ ap (λ (i : Option Instruction). did p i a [] s) at.next

pub ends : EndsAreDone
ends p l address size words parts g s status a x from good makes kept at within finish placed =
    by_value (value_of a.values x) refl at.kind (sym (end_step p s a x at) ∙ finish)
  where
    by_value : (v : Value) → value_of a.values x ≡ v → IsOfKind (length s.memory) (OfWidth 32) v → finishes v ≡ Ends status
        → Finishes words (Excepted WindowPoints words) (at_address (resting g One) from) (length (end_words (source_of (l.frames a.function) parts x))) s.out status
    by_value (Address q) is has ended = absurd has
    by_value Poison is has ended = cc
    by_value (Integer w n) is has ended =
        let lay : FrameLayout = l.frames a.function in
        let frame : IsGoodFrame (l.frames a.function) (function_at p a.function).values = good.frames a.function in
        let roomy = room p l address size g s a [] good kept at.stack within in
        let sx = sourced l address size parts g s a [] (function_at p a.function).values frame makes kept at.stack at.values.0 roomy.2 x at.there in
        let v : ℕ = extended 32 n in
        let word : word_of address (value_of a.values x) ≡ Some v = ap (word_of address) is ∙ ap (λ (u : ℕ). Some (extended u n)) has.0 in
        let given : IsGiven g (source_of lay parts x) (Some v) = subst (IsGiven g (source_of lay parts x)) (sx.right v word) sx.gives in
        let same : v % 256 ≡ status = low_byte n has.1 ∙ ended_is (n % 256) status ended in
        let view : IsView (resting g One) = record {
          tag = tt;
          places = λ q u sure. none_sure u (sym (kept.places q) ∙ sure);
          size = let e : g.size ≡ size = kept.data_size in omega (arith, good.small);
          base = omega (arith, roomy.1, good.small);
        } in
        subst (λ (z : ℕ). Finishes words (Excepted WindowPoints words) (at_address (resting g One) from) (length (end_words (source_of lay parts x))) s.out z) same
        (subst (λ (out : List ℕ). Finishes words (Excepted WindowPoints words) (at_address (resting g One) from) (length (end_words (source_of lay parts x))) out (v % 256)) kept.out
        (value_ends words g (source_of lay parts x) v from view given placed))
      where
        ended_is : (m z : ℕ) → Ends m ≡ Ends z → m ≡ z
        ended_is m z e = grind arith

        none_sure : (u : ℕ) → Free ≡ Has Sure u → ⊥
        none_sure u e = cc
