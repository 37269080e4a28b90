-- The grammar of blocks, and its readers: block = [ Label ] { [ Local "=" ] phi } { [ Local "=" ] inst } term
-- Whether a line that begins with `Local "="` is a phi is told by the word after it, so the readers go line
-- by line.
use Rattle.std.specs.Prelude.{ℕ, zero, suc, Bool, true, ◌||◌, List, [], ◌∷◌, ◌++◌, Option, None, Some}
use Rattle.grammar.specs.Language.{Lang, one, seq, map_to, maybe, many, or_else, up_to}
use Rattle.grammar.specs.Reader.{Reader, Wrong, heads, run_one, run_seq, run_map, run_maybe, run_many, run_or, run_up_to}
use Rattle.ir_tree.specs.Shape.{BodyShape, InstShape, BlockShape}
use Rattle.ir_lex.specs.Symbols.{Symbol, LocalSymbol, LabelSymbol}
use Rattle.ir_cursor.specs.Marks.{punct}
use Rattle.ir_grammar_insts.specs.Operands.{local_name}
use Rattle.ir_grammar_insts.specs.Instructions.{phi_word, phi, inst_head, inst, run_phi, run_inst}
use Rattle.ir_grammar_insts.specs.Terminators.{term, run_term}

-- the name of a Label
abbrev pub label_name : Symbol → Option (List ℕ)
label_name (LabelSymbol name) = Some name
label_name _ = None

-- Local "="
abbrev pub result : Lang Symbol (List ℕ)
result = up_to (punct 61) (one local_name)

-- a line: its result, if there is one, and what it does
abbrev pub line_of : Option (List ℕ) × BodyShape → InstShape
line_of v = record { result = v.0; body = v.1 }

-- [ Local "=" ] phi
abbrev pub phi_line : Lang Symbol InstShape
phi_line = map_to line_of (seq (maybe result) phi)

-- [ Local "=" ] inst
abbrev pub inst_line : Lang Symbol InstShape
inst_line = map_to line_of (seq (maybe result) inst)

-- term
abbrev pub last_of : BodyShape → List InstShape
last_of body = line_of (None, body) ∷ []

abbrev pub last_line : Lang Symbol (List InstShape)
last_line = map_to last_of term

-- any number of as, and then the others
abbrev pub joined : {V : Type 0} → List V × List V → List V
joined v = v.0 ++ v.1

abbrev pub in_front : {V : Type 0} → Lang Symbol V → Lang Symbol (List V) → Lang Symbol (List V)
in_front a others = map_to joined (seq (many a) others)

-- { [ Local "=" ] inst } term
abbrev pub after_phis : Lang Symbol (List InstShape)
after_phis = in_front inst_line last_line

-- { [ Local "=" ] phi } { [ Local "=" ] inst } term
abbrev pub lines : Lang Symbol (List InstShape)
lines = in_front phi_line after_phis

-- a block with its Label
abbrev pub block_of : List ℕ × List InstShape → BlockShape
block_of v = record { name = v.0; insts = v.1 }

abbrev pub block : Lang Symbol BlockShape
block = map_to block_of (seq (one label_name) lines)

-- the first block, which may lack its Label
abbrev pub FirstBlock : Type 0
FirstBlock = Option (List ℕ) × List InstShape

abbrev pub first_block : Lang Symbol FirstBlock
first_block = seq (maybe (one label_name)) lines

-- The same lines, told by their first symbol and by the word after `Local "="`; more is what follows a phi.

-- what a line does and the lines after it, after a result or without one
abbrev pub with_result : List ℕ × (BodyShape × List InstShape) → List InstShape
with_result v = line_of (Some v.0, v.1.0) ∷ v.1.1

abbrev pub without_result : BodyShape × List InstShape → List InstShape
without_result v = line_of (None, v.0) ∷ v.1

-- phi, or inst, and the lines after it
abbrev pub line_word : Lang Symbol (List InstShape) → Lang Symbol (BodyShape × List InstShape)
line_word more = or_else (seq phi more) (seq inst after_phis)

-- Local "=" phi .., or Local "=" inst .., or the same without `Local "="`, or term
abbrev pub told_lines : Lang Symbol (List InstShape) → Lang Symbol (List InstShape)
told_lines more = or_else (map_to with_result (seq result (line_word more))) (or_else (map_to without_result (line_word more)) last_line)

-- the readers of these, of at most n symbols
abbrev pub run_result : Reader Symbol (List ℕ)
run_result = run_up_to (punct 61) (run_one local_name)

-- what an instruction begins with
abbrev pub begins_inst : Symbol → Bool
begins_inst (LocalSymbol name) = true
begins_inst t = heads inst_head t

abbrev pub run_inst_line : ℕ → Reader Symbol InstShape
run_inst_line n = run_map line_of (run_seq (run_maybe (heads local_name) run_result) (run_inst n))

abbrev pub run_last_line : ℕ → Reader Symbol (List InstShape)
run_last_line n = run_map last_of (run_term n)

abbrev pub run_after_phis : ℕ → Reader Symbol (List InstShape)
run_after_phis n = run_map joined (run_seq (run_many n begins_inst (run_inst_line n)) (run_last_line n))

abbrev pub begins_word : Symbol → Bool
begins_word t = heads phi_word t || heads inst_head t

abbrev pub run_line_word : ℕ → Reader Symbol (List InstShape) → Reader Symbol (BodyShape × List InstShape)
run_line_word n r = run_or (heads phi_word) (run_seq (run_phi n) r) (run_seq (run_inst n) (run_after_phis n))

abbrev pub run_told_lines : ℕ → Reader Symbol (List InstShape) → Reader Symbol (List InstShape)
run_told_lines n r =
    run_or (heads local_name) (run_map with_result (run_seq run_result (run_line_word n r)))
    (run_or begins_word (run_map without_result (run_line_word n r)) (run_last_line n))

-- at most n phis
unfoldable pub run_lines : ℕ → Reader Symbol (List InstShape)
run_lines zero ts = Wrong ts
run_lines (suc n) ts = run_told_lines (suc n) (run_lines n) ts

abbrev pub run_block : ℕ → Reader Symbol BlockShape
run_block n = run_map block_of (run_seq (run_one label_name) (run_lines n))

abbrev pub run_first_block : ℕ → Reader Symbol FirstBlock
run_first_block n = run_seq (run_maybe (heads label_name) (run_one label_name)) (run_lines n)
