-- The readers of single lines. Whether a line is a phi is told by the word after its result.
use Rattle.std.specs.Prelude.{ℕ, ◌≤◌, Bool, false, List, ◌++◌, Option}
use Rattle.std.specs.List.{slice_range}
use Rattle.grammar.specs.Language.{cons}
use Rattle.grammar.specs.Reader.{Out, Got, Wrong, Reader, then_out, heads, opens, run_seq, run_map, run_maybe, run_or}
use Rattle.ir_tree.specs.Shape.{InstShape}
use Rattle.ir_lex.specs.Symbols.{Symbol}
use Rattle.ir_lex.specs.declared.token.Token.{Token}
use Rattle.ir_grammar_insts.specs.Operands.{local_name}
use Rattle.ir_grammar_insts.specs.Instructions.{phi_word, run_phi}
use Rattle.ir_grammar_modules.specs.Blocks.{line_of, run_result, begins_inst, run_inst_line, run_last_line, run_after_phis}
use Rattle.ir_read_modules.specs.Spots.{InPieces, IsLineAt}

-- a result, if there is one
abbrev pub run_maybe_result : Reader Symbol (Option (List ℕ))
run_maybe_result = run_maybe (heads local_name) run_result

-- what is read after a result, or without one, begins with `phi`
abbrev pub told_phi : Out Symbol (Option (List ℕ)) → Bool
told_phi (Got o rest) = opens (heads phi_word) rest
told_phi (Wrong rest) = false

unfoldable pub is_phi_line : List Symbol → Bool
is_phi_line ts = told_phi (run_maybe_result ts)

abbrev pub run_phi_line : ℕ → Reader Symbol InstShape
run_phi_line n = run_map line_of (run_seq run_maybe_result (run_phi n))

-- the lines after the phis: an instruction and the lines after it, or the terminator
abbrev pub run_others : ℕ → Reader Symbol (List InstShape)
run_others n = run_or begins_inst (run_map cons (run_seq (run_inst_line n) (run_after_phis n))) (run_last_line n)

-- the answer for lines of which the first are front
abbrev pub lines_after : List InstShape → Out Symbol (List InstShape) → Out Symbol (List InstShape)
lines_after front o = then_out o (λ vs rest. Got (front ++ vs) rest)

-- the tokens between two numbers are these lines, and each line begins at its spot
abbrev pub AreLinesAt : List ℕ → List Token → ℕ → ℕ → List InstShape → List ℕ → Type 0
AreLinesAt text toks from next vs spots = (from ≤ next) × InPieces (IsLineAt text) (slice_range toks from next) vs spots
