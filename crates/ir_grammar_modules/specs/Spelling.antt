-- How blocks, items and modules are spelled: one list of symbols for each, and which of them a text can spell.
use Rattle.std.specs.Prelude.{◌≡◌, ℕ, Bool, true, false, List, [], ◌∷◌, ◌++◌, map, Option, None, Some}
use Rattle.std.specs.List.{All}
use Rattle.ir_tree.specs.Shape.{TyShape, BodyShape, InstShape, BlockShape, ParamShape, FunctionShape, GlobalShape, DeclareShape, NamedTyShape, ModuleShape}
use Rattle.ir_words.specs.declared.words.Keyword.{Keyword}
use Rattle.ir_words.specs.declared.words.Keyword.TheVariants.{«Type», Global, Constant, Declare, Define}
use Rattle.ir_lex.specs.Symbols.{Symbol, KeywordSymbol, LocalSymbol, GlobalSymbol, LabelSymbol, MarkSymbol}
use Rattle.ir_grammar_consts.specs.Spelling.{ty_spelling, const_spelling, FitsTy, FitsConst}
use Rattle.ir_grammar_insts.specs.Spelling.{body_spelling, in_a_row, with_commas, FitsPhi, FitsInst, FitsTerm}
use Rattle.ir_grammar_modules.specs.Blocks.{last_of}

-- [ Local "=" ]
abbrev pub result_spelling : Option (List ℕ) → List Symbol
result_spelling None = []
result_spelling (Some name) = LocalSymbol name ∷ MarkSymbol 61 ∷ []

-- a phi, an instruction or a terminator
abbrev pub line_spelling : InstShape → List Symbol
line_spelling v = result_spelling v.result ++ body_spelling v.body

-- each block with its Label
abbrev pub block_spelling : BlockShape → List Symbol
block_spelling v = LabelSymbol v.name ∷ in_a_row line_spelling v.insts

-- ty [ Local ]
abbrev pub name_spelling : Option (List ℕ) → List Symbol
name_spelling None = []
name_spelling (Some name) = LocalSymbol name ∷ []

abbrev pub parameter_spelling : ParamShape → List Symbol
parameter_spelling v = ty_spelling v.ty ++ name_spelling v.name

-- ty Global "(" [ par { "," par } ] ")"
abbrev pub signature_spelling : TyShape → List ℕ → List ParamShape → List Symbol
signature_spelling ret name row = ty_spelling ret ++ GlobalSymbol name ∷ MarkSymbol 40 ∷ (with_commas parameter_spelling row ++ MarkSymbol 41 ∷ [])

-- a parameter without a name
abbrev pub without_name : TyShape → ParamShape
without_name t = record { ty = t; name = None }

abbrev pub constancy_word : Bool → Keyword
constancy_word false = Global
constancy_word true = Constant

abbrev pub type_spelling : NamedTyShape → List Symbol
type_spelling v = LocalSymbol v.name ∷ MarkSymbol 61 ∷ KeywordSymbol «Type» ∷ ty_spelling v.ty

abbrev pub global_spelling : GlobalShape → List Symbol
global_spelling v = GlobalSymbol v.name ∷ MarkSymbol 61 ∷ KeywordSymbol (constancy_word v.constant) ∷ (ty_spelling v.ty ++ const_spelling v.init)

abbrev pub declare_spelling : DeclareShape → List Symbol
declare_spelling v = KeywordSymbol Declare ∷ signature_spelling v.ret v.name (map without_name v.params)

abbrev pub function_spelling : FunctionShape → List Symbol
function_spelling v =
    KeywordSymbol Define ∷ (signature_spelling v.ret v.name v.params ++ MarkSymbol 123 ∷ (in_a_row block_spelling v.blocks ++ MarkSymbol 125 ∷ []))

-- types, globals, declarations and functions, in this order
abbrev pub module_spelling : ModuleShape → List Symbol
module_spelling m =
    in_a_row type_spelling m.types ++ (in_a_row global_spelling m.globals ++ (in_a_row declare_spelling m.declares ++ in_a_row function_spelling m.functions))

-- what a text can spell

abbrev pub FitsPhiLine : InstShape → Type 0
FitsPhiLine v = FitsPhi v.body

abbrev pub FitsInstLine : InstShape → Type 0
FitsInstLine v = FitsInst v.body

-- phis, then instructions, then a terminator without a result
pub record FitLines (insts : List InstShape) : Type 0 where
  pub phis : List InstShape
  pub others : List InstShape
  pub last : BodyShape
  pub cut : insts ≡ phis ++ (others ++ last_of last)
  pub fit_phis : All FitsPhiLine phis
  pub fit_others : All FitsInstLine others
  pub fits_last : FitsTerm last

abbrev pub FitsBlock : BlockShape → Type 0
FitsBlock v = FitLines v.insts

-- a function has a block
abbrev pub FitBlocks : List BlockShape → Type 0
FitBlocks [] = ⊥
FitBlocks (v ∷ vs) = FitsBlock v × All FitsBlock vs

abbrev pub FitsParam : ParamShape → Type 0
FitsParam v = FitsTy v.ty

abbrev pub FitsType : NamedTyShape → Type 0
FitsType v = FitsTy v.ty

abbrev pub FitsGlobal : GlobalShape → Type 0
FitsGlobal v = FitsTy v.ty × FitsConst v.init

abbrev pub FitsDeclare : DeclareShape → Type 0
FitsDeclare v = FitsTy v.ret × All FitsTy v.params

abbrev pub FitsFunction : FunctionShape → Type 0
FitsFunction v = FitsTy v.ret × All FitsParam v.params × FitBlocks v.blocks

pub record FitsModule (m : ModuleShape) : Type 0 where
  pub fit_types : All FitsType m.types
  pub fit_globals : All FitsGlobal m.globals
  pub fit_declares : All FitsDeclare m.declares
  pub fit_functions : All FitsFunction m.functions
