-- The printed form of types and constants by their parts: rows with commas, and braces.
use Rattle.std.specs.Prelude.{ℕ, Bool, true, false, List, [], ◌∷◌, ◌++◌}
use Rattle.ir_print_symbols.specs.Printed.{joined, text_of_symbol}
use Rattle.ir_tree.specs.ShapeOf.{ty_shape, const_shape, typed_shape}
use Rattle.ir_tree.specs.declared.types.Ty.{Ty}
use Rattle.ir_tree.specs.declared.types.Const.{Const}
use Rattle.ir_tree.specs.declared.types.Typed.{Typed}
use Rattle.ir_words.specs.declared.words.Keyword.TheVariants.{GetElementPtr, InBounds}
use Rattle.ir_lex.specs.Symbols.{KeywordSymbol}
use Rattle.ir_grammar_consts.specs.Spelling.{ty_spelling, const_spelling, typed_spelling}

-- a comma and a blank, where something stands before them
abbrev pub comma : Bool → List ℕ
comma false = []
comma true = 44 ∷ 32 ∷ []

-- texts in a row, with a comma and a blank between them, and before the first where something stands before it
abbrev pub in_row : Bool → List (List ℕ) → List ℕ
in_row behind [] = []
in_row behind (t ∷ ts) = comma behind ++ (t ++ in_row true ts)

-- what a structure begins with: `{`, or `<{` where it is packed
abbrev pub open_brace : Bool → List ℕ
open_brace false = 123 ∷ []
open_brace true = 60 ∷ 123 ∷ []

-- what a structure ends with: `}`, or `}>` where it is packed
abbrev pub close_brace : Bool → List ℕ
close_brace false = 125 ∷ []
close_brace true = 125 ∷ 62 ∷ []

-- the printed form of a type, with its names from a table
abbrev pub ty_text : List (List ℕ) → Ty → List ℕ
ty_text names t = joined (ty_spelling (ty_shape names t))

-- the flag of an address, after a blank
abbrev pub flag_text : Bool → List ℕ
flag_text false = []
flag_text true = 32 ∷ text_of_symbol (KeywordSymbol InBounds)

-- the printed form of a constant, with its names from a table
abbrev pub const_text : List (List ℕ) → Const → List ℕ
const_text names c = joined (const_spelling (const_shape names c))

-- the printed form of a constant after its type
abbrev pub typed_text : List (List ℕ) → Typed → List ℕ
typed_text names v = joined (typed_spelling (typed_shape names v))

-- what an address begins with: its flag, and after a bracket the type that is stepped through and a comma
abbrev pub address_start : List (List ℕ) → Bool → Ty → List ℕ
address_start names inbounds t = text_of_symbol (KeywordSymbol GetElementPtr) ++ (flag_text inbounds ++ (32 ∷ 40 ∷ (ty_text names t ++ 44 ∷ 32 ∷ [])))
