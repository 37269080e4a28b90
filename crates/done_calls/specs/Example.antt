-- Two functions with their layout and their words: `main` has the value 7, and calls a function that gives back what it is given.
use Rattle.std.specs.Prelude.{ℕ, zero, suc, pos, ◌+◌, ◌*◌, ◌/◌, ◌%◌, List, [], ◌∷◌, ◌++◌, Some, None, unwrap_or}
use Rattle.ir_model.specs.Values.{Value, Integer, null_block}
use Rattle.ir_model.specs.Programs.{Local, Call, Return, Function, Program}
use Rattle.ir_model.specs.States.{Activation, State}
use Rattle.rv_inst.specs.declared.instruction.Form.{Form}
use Rattle.rv_model.specs.Text.{text_base}
use Rattle.rv_flips.specs.Cells.{Free}
use Rattle.rv_flips.specs.Assertion.{AnyByte}
use Rattle.flip_frames.specs.Views.{Stage}
use Rattle.flip_frames.specs.Fetching.{Triple}
use Rattle.flip_versions.specs.Operations.{defined}
use Rattle.flip_guards.specs.Sources.{Part, Small, Plus, Shifted}
use Rattle.flip_calls.specs.Calls.{entry_words}
use Rattle.kept_states.specs.Layouts.{FrameLayout, Layout}
use Rattle.kept_states.specs.Kept.{word_of}
use Rattle.done_flow.specs.Edges.{Arrives}
use Rattle.done_calls.specs.Calls.{call_at}
use Rattle.done_calls.specs.Returns.{return_at, after_at}

-- the program: value 0 of `main` is the argument, value 1 the result
abbrev pub calling : Function
calling = record {
  params = 0;
  values = 2;
  frame = 128;
  blocks = record {
    phis = [];
    body =
        record { result = Some 1; action = Call 1; operands = Local 0 ∷ [] } ∷
        record { result = None; action = Return; operands = Local 1 ∷ [] } ∷ [];
  } ∷ [];
}

-- the function called
abbrev pub giving : Function
giving = record {
  params = 1;
  values = 1;
  frame = 128;
  blocks = record { phis = []; body = record { result = None; action = Return; operands = Local 0 ∷ [] } ∷ [] } ∷ [];
}

-- both: `main` is function 0
abbrev pub small : Program
small = record { globals = []; functions = calling ∷ giving ∷ []; main = 0 }

-- three slots one after another
abbrev pub three_from : ℕ → Triple
three_from n = record { one = n; two = n + 1; three = n + 2 }

-- a frame of sixteen slots: the return address, two values, room for cells, and where the result waits
abbrev pub laid : FrameLayout
laid = record { size = 16; places = λ id. three_from (1 + 3 * id); cells = λ id. three_from (7 + 3 * id); link = 0 }

-- both functions have one
abbrev pub frame_by : ℕ → FrameLayout
frame_by zero = laid
frame_by (suc zero) = laid
frame_by (suc (suc f)) = record laid { size = 0 }

-- where results wait
abbrev pub waiting : ℕ → Triple
waiting f = three_from 13

-- the stack ends at the end of the data, and the one call returns to the word after its jump
abbrev pub spread : Layout
spread = record { frames = frame_by; code = λ f block position. text_base; back = λ f block position. text_base + 88; top = 1048578 }

-- the words: the call, what follows it, and the function
abbrev pub small_code : (Value → List Part) → List Form
small_code parts =
    call_at laid laid parts (Local 0 ∷ []) (pos 88)
    ++ (after_at laid laid (three_from 13) (Some 1) ++ (entry_words 0 ++ return_at laid parts (three_from 13) (Some (Local 0))))

-- their numbers
abbrev pub small_words : List ℕ
small_words =
    0xf8010113 ∷ 0xf8018193 ∷ 0xf8020213 ∷ 0x00310463 ∷ 0x00020113 ∷ 0x08813283 ∷ 0x00310463 ∷ 0x00020113 ∷
    0x00513423 ∷ 0x00310463 ∷ 0x00020113 ∷ 0x09013283 ∷ 0x00310463 ∷ 0x00020113 ∷ 0x00513823 ∷ 0x00310463 ∷
    0x00020113 ∷ 0x09813283 ∷ 0x00310463 ∷ 0x00020113 ∷ 0x00513c23 ∷ 0x058000ef ∷ 0x00310463 ∷ 0x00020113 ∷
    0x06813283 ∷ 0x00310463 ∷ 0x00020113 ∷ 0x0a513023 ∷ 0x00310463 ∷ 0x00020113 ∷ 0x07013283 ∷ 0x00310463 ∷
    0x00020113 ∷ 0x0a513423 ∷ 0x00310463 ∷ 0x00020113 ∷ 0x07813283 ∷ 0x00310463 ∷ 0x00020113 ∷ 0x0a513823 ∷
    0x08010113 ∷ 0x08018193 ∷ 0x08020213 ∷ 0x00310463 ∷ 0x00020113 ∷ 0x00113023 ∷ 0x00310463 ∷ 0x00020113 ∷
    0x00813283 ∷ 0x00310463 ∷ 0x00020113 ∷ 0x06513423 ∷ 0x00310463 ∷ 0x00020113 ∷ 0x01013283 ∷ 0x00310463 ∷
    0x00020113 ∷ 0x06513823 ∷ 0x00310463 ∷ 0x00020113 ∷ 0x01813283 ∷ 0x00310463 ∷ 0x00020113 ∷ 0x06513c23 ∷
    0x00310463 ∷ 0x00020113 ∷ 0x00013083 ∷ 0x00008067 ∷ []

-- `main` at a position, with this value as the result
abbrev pub main_at : ℕ → Value → Activation
main_at position v = record { function = 0; block = 0; position = position; values = Integer 32 7 ∷ v ∷ []; owned = [] }

-- the state with that activation alone
abbrev pub in_main : ℕ → Value → State
in_main position v = record { stack = main_at position v ∷ []; memory = null_block ∷ []; input = []; out = [] }

-- a stage of which nothing is known
abbrev pub blank : Stage
blank = record { base = 1048562; places = λ r. Free; slots = λ k. Free; bytes = λ o. AnyByte; size = 8388624; input = []; out = [] }

-- one that keeps the state before the call
abbrev pub with_seven : Stage
with_seven = defined blank (three_from 1) (Some 7)

-- words that make a number of 64 bits, eleven bits at a time, the highest first
abbrev pub parts_by : ℕ → ℕ → List Part
parts_by zero w = Small (pos w) ∷ []
parts_by (suc n) w = parts_by n (w / 2048) ++ (Shifted (pos 11) ∷ Plus (pos (w % 2048)) ∷ [])

-- those of a constant, by the addresses of the blocks of globals
abbrev pub parts_for : (ℕ → ℕ) → Value → List Part
parts_for address v = parts_by 5 (unwrap_or (word_of address v) 0)

-- the machine comes from the call to what follows in `main`, where the result is 7
abbrev pub ACallIsDone : Type 0
ACallIsDone = (address : ℕ → ℕ)
    → Arrives spread address 8388624 small_words with_seven (in_main 1 (Integer 32 7)) text_base 68 (text_base + 172)
