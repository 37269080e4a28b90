-- Where the items of a module and the lines of its functions begin: the tokens are cut into pieces, one for each item, and an item's spot is the offset
-- of the first token of its piece.
use Rattle.std.specs.Prelude.{◌≡◌, ℕ, List, [], ◌∷◌, ◌++◌, map}
use Rattle.grammar.specs.Language.{mark, one, skip, up_to}
use Rattle.ir_tree.specs.Shape.{BlockShape, FunctionShape, ModuleShape}
use Rattle.ir_tree.specs.declared.parsed.Spots.{Spots}
use Rattle.ir_lex.specs.Symbols.{symbols_of}
use Rattle.ir_lex.specs.declared.token.Token.{Token}
use Rattle.ir_cursor.specs.Marks.{punct}
use Rattle.ir_read_modules.specs.Spots.{start_of, InPieces, IsBlockAt}
use Rattle.ir_grammar_modules.specs.Items.{ItemShape, type_item, global_item, declare_item, function_item, define_word, Signature, signature, item}
use Rattle.ir_grammar_modules.specs.Modules.{module_of}

-- where an item begins, and of a function also where the lines of each block begin
pub record Place : Type 0 where
  pub spot : ℕ
  pub lines : List (List ℕ)

-- the tokens are blocks, whose lines begin at the spots, and then `}`
pub record IsBodyAt (text : List ℕ) (toks : List Token) (vs : List BlockShape) (spots : List (List ℕ)) : Type 0 where
  pub body : List Token
  pub close : List Token
  pub cut : toks ≡ body ++ close
  pub blocks : InPieces (IsBlockAt text) body vs spots
  pub closed : one (punct 125) (symbols_of text close) mark

-- the tokens are `define`, the signature and `{`, and then the body
pub record IsFunctionAt (text : List ℕ) (toks : List Token) (f : FunctionShape) (spots : List (List ℕ)) : Type 0 where
  pub head : List Token
  pub rest : List Token
  pub cut : toks ≡ head ++ rest
  pub signed : Signature
  pub opened : skip define_word (up_to (punct 123) signature) (symbols_of text head) signed
  pub body : IsBodyAt text rest f.blocks spots

-- a function's lines begin there; another item has none
abbrev pub HasLinesAt : List ℕ → List Token → ItemShape → List (List ℕ) → Type 0
HasLinesAt text toks (function_item f) spots = IsFunctionAt text toks f spots
HasLinesAt text toks _ spots = spots ≡ []

-- the tokens spell the item, which begins at the place
abbrev pub IsItemAt : List ℕ → List Token → ItemShape → Place → Type 0
IsItemAt text toks v place = item (symbols_of text toks) v × (place.spot ≡ start_of toks) × HasLinesAt text toks v place.lines

-- the spots of each kind of item, in text order
pub record SpotLists : Type 0 where
  pub types : List ℕ
  pub globals : List ℕ
  pub declares : List ℕ
  pub functions : List ℕ
  pub insts : List (List (List ℕ))

abbrev pub with_spot : ItemShape → Place → SpotLists → SpotLists
with_spot (type_item v) p s = record { types = p.spot ∷ s.types; globals = s.globals; declares = s.declares; functions = s.functions; insts = s.insts }
with_spot (global_item v) p s = record { types = s.types; globals = p.spot ∷ s.globals; declares = s.declares; functions = s.functions; insts = s.insts }
with_spot (declare_item v) p s = record { types = s.types; globals = s.globals; declares = p.spot ∷ s.declares; functions = s.functions; insts = s.insts }
with_spot (function_item v) p s = record { types = s.types; globals = s.globals; declares = s.declares; functions = p.spot ∷ s.functions; insts = p.lines ∷ s.insts }

abbrev pub spots_of : List ItemShape → List Place → SpotLists
spots_of (v ∷ vs) (p ∷ ps) = with_spot v p (spots_of vs ps)
spots_of _ _ = record { types = []; globals = []; declares = []; functions = []; insts = [] }

-- the same with the item last
abbrev pub with_last_spot : ItemShape → Place → SpotLists → SpotLists
with_last_spot (type_item v) p s = record { types = s.types ++ p.spot ∷ []; globals = s.globals; declares = s.declares; functions = s.functions; insts = s.insts }
with_last_spot (global_item v) p s = record { types = s.types; globals = s.globals ++ p.spot ∷ []; declares = s.declares; functions = s.functions; insts = s.insts }
with_last_spot (declare_item v) p s = record { types = s.types; globals = s.globals; declares = s.declares ++ p.spot ∷ []; functions = s.functions; insts = s.insts }
with_last_spot (function_item v) p s = record { types = s.types; globals = s.globals; declares = s.declares; functions = s.functions ++ p.spot ∷ []; insts = s.insts ++ p.lines ∷ [] }

-- the lists that are kept of a module
abbrev pub lists_of : Spots → SpotLists
lists_of s = record {
  types = s.types.items;
  globals = s.globals.items;
  declares = s.declares.items;
  functions = s.functions.items;
  insts = map (λ f. map (λ b. b.items) f.items) s.insts.items;
}

-- the spots are those of a cut of all tokens into the module's items
pub record AreSpots (text : List ℕ) (toks : List Token) (m : ModuleShape) (spots : Spots) : Type 0 where
  pub items : List ItemShape
  pub places : List Place
  pub is_module : m ≡ module_of items
  pub pieces : InPieces (IsItemAt text) toks items places
  pub spotted : lists_of spots ≡ spots_of items places
