-- Where the lines of blocks begin: the tokens are cut into pieces, one for each line, and a line's spot is the offset of the first token of its piece.
use Rattle.std.specs.Prelude.{◌≡◌, ℕ, List, [], ◌∷◌, ◌++◌, Option, None}
use Rattle.grammar.specs.Language.{Lang, one, map_to, maybe, or_else}
use Rattle.ir_tree.specs.Shape.{InstShape, BlockShape}
use Rattle.ir_lex.specs.Symbols.{Symbol, symbols_of}
use Rattle.ir_lex.specs.declared.token.Token.{Token}
use Rattle.ir_grammar_insts.specs.Terminators.{term}
use Rattle.ir_grammar_modules.specs.Blocks.{FirstBlock, label_name, line_of, phi_line, inst_line}

-- the offset of the first of these tokens
abbrev pub start_of : List Token → ℕ
start_of [] = 0
start_of (t ∷ toks) = t.start

-- the tokens are cut into as many pieces as there are values, and R holds of each piece, its value and its place
abbrev pub InPieces : {V K : Type 0} → (List Token → V → K → Type 0) → List Token → List V → List K → Type 0
InPieces R toks [] [] = toks ≡ []
InPieces R toks [] (k ∷ ks) = ⊥
InPieces R toks (v ∷ vs) [] = ⊥
InPieces R toks (v ∷ vs) (k ∷ ks) = (p : List Token) × (q : List Token) × (toks ≡ p ++ q) × R p v k × InPieces R q vs ks

-- a phi, an instruction or a terminator
abbrev pub any_line : Lang Symbol InstShape
any_line = or_else phi_line (or_else inst_line (map_to (λ body. line_of (None, body)) term))

-- the tokens spell the line, and the first of them is at the spot
abbrev pub IsLineAt : List ℕ → List Token → InstShape → ℕ → Type 0
IsLineAt text toks v spot = any_line (symbols_of text toks) v × (spot ≡ start_of toks)

-- after a Label, if there is one, the tokens are the first block's lines, which begin at the spots
abbrev pub IsEntryAt : List ℕ → List Token → FirstBlock → List ℕ → Type 0
IsEntryAt text toks v spots =
    (p : List Token) × (q : List Token) × (toks ≡ p ++ q) × maybe (one label_name) (symbols_of text p) v.0 × InPieces (IsLineAt text) q v.1 spots

-- the same of any block, whatever its Label is
abbrev pub IsBlockAt : List ℕ → List Token → BlockShape → List ℕ → Type 0
IsBlockAt text toks v spots = (label : Option (List ℕ)) × IsEntryAt text toks (label, v.insts) spots
