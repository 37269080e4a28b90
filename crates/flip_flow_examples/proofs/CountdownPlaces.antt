-- Where the parts of the program stand.
use Rattle.std.proofs.Common.{ℕ, List, [], ◌∷◌, ◌++◌, sym, append-nil, lit≤}
use Rattle.std.specs.Prelude.{pos, negsuc}
use Rattle.rv_inst.specs.declared.instruction.Form.{Form}
use Rattle.rv_inst.specs.declared.instruction.Form.TheVariants.{ADDI, ADD, JAL}
use Rattle.rv_model.specs.Text.{text_base}
use Rattle.rv_model.proofs.TextLemmas.{stands_from}
use Rattle.flip_words.specs.Placed.{IsPlaced}
use Rattle.flip_words.proofs.CarryLemmas.{placed_front, placed_back}
use Rattle.flip_versions.specs.Operations.{operation_words}
use Rattle.flip_guards.specs.Fetching.{in_slots}
use Rattle.flip_guards.specs.Sources.{Upper}
use Rattle.flip_texts.specs.Texts.{start_code}
use Rattle.flip_copies.specs.Copies.{copies_words}
use Rattle.flip_copies.specs.Edges.{edge_words}
use Rattle.flip_calls.specs.Calls.{call_words, entry_words, return_words, after_words}
use Rattle.flip_branches.specs.Branches.{branch_words}
use Rattle.flip_flow_examples.specs.Slots.{slots_from}
use Rattle.flip_flow_examples.specs.Countdown.{counter, summed, lessened, added, first_values, arguments, results, again, loop_code, exit_code, function_code, countdown_code, countdown_words}
use Rattle.flip_flow_examples.proofs.CountdownWords.{are_words}

abbrev W : List ℕ
W = countdown_words

pub whole_placed : IsPlaced countdown_words text_base countdown_code
whole_placed = record { stands = stands_from countdown_words 0 countdown_words [] countdown_code (sym (append-nil countdown_words)) are_words; room = lit≤ tt; short = lit≤ tt }

after_start : IsPlaced countdown_words 65548 (copies_words first_values ++ (loop_code ++ (exit_code ++ function_code)))
after_start = placed_back W text_base (start_code (Upper (pos 65537) ∷ [])) (copies_words first_values ++ (loop_code ++ (exit_code ++ function_code))) whole_placed

pub start_placed : IsPlaced countdown_words text_base (start_code (Upper (pos 65537) ∷ []))
start_placed = placed_front W text_base (start_code (Upper (pos 65537) ∷ [])) (copies_words first_values ++ (loop_code ++ (exit_code ++ function_code))) whole_placed

pub first_placed : IsPlaced countdown_words 65548 (copies_words first_values)
first_placed = placed_front W 65548 (copies_words first_values) (loop_code ++ (exit_code ++ function_code)) after_start

after_first : IsPlaced countdown_words 65644 (loop_code ++ (exit_code ++ function_code))
after_first = placed_back W 65548 (copies_words first_values) (loop_code ++ (exit_code ++ function_code)) after_start

after_loop : IsPlaced countdown_words 66284 (exit_code ++ function_code)
after_loop = placed_back W 65644 loop_code (exit_code ++ function_code) after_first

pub exit_placed : IsPlaced countdown_words 66284 exit_code
exit_placed = placed_front W 66284 exit_code function_code after_loop

function_placed : IsPlaced countdown_words 66336 function_code
function_placed = placed_back W 66284 exit_code function_code after_loop

-- the parts of the function
abbrev taking : List Form
taking = operation_words (ADDI 5 5 (negsuc 0) ∷ []) (slots_from 4) (slots_from 4) (slots_from 1)

pub entry_placed : IsPlaced countdown_words 66336 (entry_words 0)
entry_placed = placed_front W 66336 (entry_words 0) (taking ++ return_words 0) function_placed

body_placed : IsPlaced countdown_words 66348 (taking ++ return_words 0)
body_placed = placed_back W 66336 (entry_words 0) (taking ++ return_words 0) function_placed

pub taking_placed : IsPlaced countdown_words 66348 (operation_words (ADDI 5 5 (negsuc 0) ∷ []) (slots_from 4) (slots_from 4) (slots_from 1))
taking_placed = placed_front W 66348 taking (return_words 0) body_placed

pub return_placed : IsPlaced countdown_words 66468 (return_words 0)
return_placed = placed_back W 66348 taking (return_words 0) body_placed

-- the parts of the loop
abbrev adding : List Form
adding = operation_words (ADD 5 5 6 ∷ []) summed counter added

abbrev from_edge : List Form
from_edge = edge_words again ++ JAL 0 (negsuc 635) ∷ []

abbrev from_branch : List Form
from_branch = branch_words (in_slots lessened) (pos 300) (pos 4) ++ from_edge

abbrev from_return : List Form
from_return = after_words results 8 ++ from_branch

abbrev from_call : List Form
from_call = call_words 8 arguments (pos 488) ++ from_return

loop_placed : IsPlaced countdown_words 65644 (adding ++ from_call)
loop_placed = placed_front W 65644 loop_code (exit_code ++ function_code) after_first

pub adding_placed : IsPlaced countdown_words 65644 (operation_words (ADD 5 5 6 ∷ []) summed counter added)
adding_placed = placed_front W 65644 adding from_call loop_placed

at_call : IsPlaced countdown_words 65764 from_call
at_call = placed_back W 65644 adding from_call loop_placed

pub call_placed : IsPlaced countdown_words 65764 (call_words 8 arguments (pos 488))
call_placed = placed_front W 65764 (call_words 8 arguments (pos 488)) from_return at_call

at_return : IsPlaced countdown_words 65852 from_return
at_return = placed_back W 65764 (call_words 8 arguments (pos 488)) from_return at_call

pub after_placed : IsPlaced countdown_words 65852 (after_words results 8)
after_placed = placed_front W 65852 (after_words results 8) from_branch at_return

at_branch : IsPlaced countdown_words 65936 from_branch
at_branch = placed_back W 65852 (after_words results 8) from_branch at_return

pub branch_placed : IsPlaced countdown_words 65936 (branch_words (in_slots lessened) (pos 300) (pos 4))
branch_placed = placed_front W 65936 (branch_words (in_slots lessened) (pos 300) (pos 4)) from_edge at_branch

at_edge : IsPlaced countdown_words 65992 from_edge
at_edge = placed_back W 65936 (branch_words (in_slots lessened) (pos 300) (pos 4)) from_edge at_branch

pub edge_placed : IsPlaced countdown_words 65992 (edge_words again)
edge_placed = placed_front W 65992 (edge_words again) (JAL 0 (negsuc 635) ∷ []) at_edge

pub jump_placed : IsPlaced countdown_words 66280 (JAL 0 (negsuc 635) ∷ [])
jump_placed = placed_back W 65992 (edge_words again) (JAL 0 (negsuc 635) ∷ []) at_edge
