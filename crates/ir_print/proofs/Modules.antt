-- The printed form of a module, line by line.
use Rattle.std.proofs.Common.{◌≡◌, ℕ, List, [], ◌∷◌, ◌++◌, map, Option, None, Some, refl, sym, ap, ◌∙◌, subst, append_assoc, append-nil}
use Rattle.std.specs.List.{flat_map}
use Rattle.ir_words.specs.declared.words.Keyword.TheVariants.{«Type», Declare, Define}
use Rattle.ir_lex.specs.Symbols.{Symbol, KeywordSymbol, LocalSymbol, GlobalSymbol, MarkSymbol}
use Rattle.ir_print_symbols.specs.Printed.{Line, joined, text_of_lines}
use Rattle.ir_tree.specs.Shape.{TyShape, InstShape, BlockShape, NamedTyShape, GlobalShape, DeclareShape, ParamShape, FunctionShape, ModuleShape}
use Rattle.ir_grammar_consts.specs.Spelling.{ty_spelling}
use Rattle.ir_grammar_insts.specs.Spelling.{with_commas, body_spelling}
use Rattle.ir_grammar_modules.specs.Spelling.{result_spelling, line_spelling, name_spelling, parameter_spelling, signature_spelling, without_name, constancy_word, type_spelling, global_spelling, declare_spelling}
use Rattle.ir_print.specs.Printed.{outer, inner, block_lines, function_lines, module_text}
use Rattle.ir_print.specs.Texts.{word_text, local_text, global_text, label_text, type_text, constant_text, result_text, body_text, line_text, block_text, name_part, parameter_text, signature_text, type_line, global_line, declare_line, function_text, items_text}
use Rattle.ir_print.proofs.Pieces.{Piece, Item, both, item_then, alone, empty_piece, equals_piece, parens_item, brace_text, listed_text}
use Rattle.ir_print.proofs.OperandItems.{word_item, local_item, global_item, type_item, constant_item}
use Rattle.ir_print.proofs.Bodies.{body_item}

-- a name, `=`, and what it names
named_item : (row ss : List Symbol) (name text : List ℕ) → Item row name → Item ss text → Item (row ++ MarkSymbol 61 ∷ ss) (name ++ (32 ∷ 61 ∷ 32 ∷ text))
named_item row ss name text i j = item_then i (both equals_piece j.piece)

result_line : (result : Option (List ℕ)) (ss : List Symbol) (text : List ℕ) → Item ss text → joined (result_spelling result ++ ss) ≡ result_text result ++ text
result_line None ss text i = alone i
result_line (Some name) ss text i = alone (named_item (LocalSymbol name ∷ []) ss (local_text name) text (local_item name) i) ∙ sym (append_assoc (local_text name) (32 ∷ 61 ∷ 32 ∷ []) text)

line_joined : (v : InstShape) → joined (line_spelling v) ≡ result_text v.result ++ body_text v.body
line_joined v = result_line v.result (body_spelling v.body) (body_text v.body) (body_item v.body)

name_piece : (name : Option (List ℕ)) → Piece (name_spelling name) (name_part name)
name_piece None = empty_piece
name_piece (Some name) = (local_item name).piece

parameter_item : (v : ParamShape) → Item (parameter_spelling v) (parameter_text v)
parameter_item v = item_then (type_item v.ty) (name_piece v.name)

signature_item : (ret : TyShape) (name : List ℕ) (row : List ParamShape) → Item (signature_spelling ret name row) (signature_text ret name (map parameter_text row))
signature_item ret name row =
    let parens : Item (GlobalSymbol name ∷ MarkSymbol 40 ∷ (with_commas parameter_spelling row ++ MarkSymbol 41 ∷ [])) (global_text name ++ (40 ∷ (joined (with_commas parameter_spelling row) ++ 41 ∷ []))) =
    parens_item (GlobalSymbol name ∷ []) (with_commas parameter_spelling row) (global_text name) [] (global_item name) refl in
    subst (λ z. Item (signature_spelling ret name row) (type_text ret ++ (32 ∷ (global_text name ++ (40 ∷ (z ++ 41 ∷ [])))))) (listed_text parameter_spelling parameter_text parameter_item row)
    (item_then (type_item ret) parens.piece)

type_joined : (v : NamedTyShape) → joined (type_spelling v) ≡ local_text v.name ++ (32 ∷ 61 ∷ 32 ∷ (word_text «Type» ++ (32 ∷ type_text v.ty)))
type_joined v =
    alone (named_item (LocalSymbol v.name ∷ []) (KeywordSymbol «Type» ∷ ty_spelling v.ty) (local_text v.name) (word_text «Type» ++ (32 ∷ type_text v.ty)) (local_item v.name) (item_then (word_item «Type») (type_item v.ty).piece))

global_joined : (v : GlobalShape)
    → joined (global_spelling v) ≡ global_text v.name ++ (32 ∷ 61 ∷ 32 ∷ (word_text (constancy_word v.constant) ++ (32 ∷ (type_text v.ty ++ (32 ∷ constant_text v.init)))))
global_joined v =
    alone (named_item (GlobalSymbol v.name ∷ []) _ (global_text v.name) _ (global_item v.name) (item_then (word_item (constancy_word v.constant)) (both (type_item v.ty).piece (constant_item v.init).piece)))

without_names : (ts : List TyShape) → map parameter_text (map without_name ts) ≡ map type_text ts
without_names [] = refl
without_names (t ∷ ts) = ap (λ z. z ∷ map parameter_text (map without_name ts)) (append-nil (type_text t)) ∙ ap (λ z. type_text t ∷ z) (without_names ts)

declare_joined : (v : DeclareShape) → joined (declare_spelling v) ≡ word_text Declare ++ (32 ∷ signature_text v.ret v.name (map type_text v.params))
declare_joined v =
    alone (item_then (word_item Declare) (signature_item v.ret v.name (map without_name v.params)).piece)
    ∙ ap (λ z. word_text Declare ++ (32 ∷ signature_text v.ret v.name z)) (without_names v.params)

text_of_lines-append : (ls ms : List Line) → text_of_lines (ls ++ ms) ≡ text_of_lines ls ++ text_of_lines ms
text_of_lines-append [] ms = refl
text_of_lines-append (l ∷ ls) ms =
    ap (λ z. l.indent ++ (joined l.row ++ 10 ∷ z)) (text_of_lines-append ls ms)
    ∙ ap (λ z. l.indent ++ z) (sym (append_assoc (joined l.row) (10 ∷ text_of_lines ls) (text_of_lines ms)))
    ∙ sym (append_assoc l.indent (joined l.row ++ 10 ∷ text_of_lines ls) (text_of_lines ms))

-- one line for each
each_text : {V : Type 0} (line : V → Line) (text : V → List ℕ) → ((v : V) (rest : List ℕ) → (line v).indent ++ (joined (line v).row ++ 10 ∷ rest) ≡ text v ++ rest)
    → (vs : List V) → text_of_lines (map line vs) ≡ flat_map text vs
each_text line text each [] = refl
each_text line text each (v ∷ vs) = each v (text_of_lines (map line vs)) ∙ ap (λ z. text v ++ z) (each_text line text each vs)

-- some lines for each
all_text : {V : Type 0} (lines : V → List Line) (text : V → List ℕ) → ((v : V) → text_of_lines (lines v) ≡ text v) → (vs : List V) → text_of_lines (flat_map lines vs) ≡ flat_map text vs
all_text lines text each [] = refl
all_text lines text each (v ∷ vs) =
    text_of_lines-append (lines v) (flat_map lines vs)
    ∙ ap (λ z. z ++ text_of_lines (flat_map lines vs)) (each v)
    ∙ ap (λ z. text v ++ z) (all_text lines text each vs)

two_ended : (r b rest : List ℕ) → (r ++ b) ++ 10 ∷ rest ≡ (r ++ (b ++ 10 ∷ [])) ++ rest
two_ended r b rest = simp append_assoc

line_is : (v : InstShape) (rest : List ℕ) → 32 ∷ 32 ∷ (joined (line_spelling v) ++ 10 ∷ rest) ≡ line_text v ++ rest
line_is v rest = ap (λ z. 32 ∷ 32 ∷ (z ++ 10 ∷ rest)) (line_joined v) ∙ ap (λ z. 32 ∷ 32 ∷ z) (two_ended (result_text v.result) (body_text v.body) rest)

type_ended : (n w t rest : List ℕ) → (n ++ (32 ∷ 61 ∷ 32 ∷ (w ++ (32 ∷ t)))) ++ 10 ∷ rest ≡ (n ++ (32 ∷ 61 ∷ 32 ∷ (w ++ (32 ∷ (t ++ 10 ∷ []))))) ++ rest
type_ended n w t rest = simp append_assoc

type_is : (v : NamedTyShape) (rest : List ℕ) → joined (type_spelling v) ++ 10 ∷ rest ≡ type_line v ++ rest
type_is v rest = ap (λ z. z ++ 10 ∷ rest) (type_joined v) ∙ type_ended (local_text v.name) (word_text «Type») (type_text v.ty) rest

global_ended : (n w t c rest : List ℕ)
    → (n ++ (32 ∷ 61 ∷ 32 ∷ (w ++ (32 ∷ (t ++ (32 ∷ c)))))) ++ 10 ∷ rest ≡ (n ++ (32 ∷ 61 ∷ 32 ∷ (w ++ (32 ∷ (t ++ (32 ∷ (c ++ 10 ∷ []))))))) ++ rest
global_ended n w t c rest = simp append_assoc

global_is : (v : GlobalShape) (rest : List ℕ) → joined (global_spelling v) ++ 10 ∷ rest ≡ global_line v ++ rest
global_is v rest =
    ap (λ z. z ++ 10 ∷ rest) (global_joined v) ∙ global_ended (global_text v.name) (word_text (constancy_word v.constant)) (type_text v.ty) (constant_text v.init) rest

declare_ended : (w s rest : List ℕ) → (w ++ (32 ∷ s)) ++ 10 ∷ rest ≡ (w ++ (32 ∷ (s ++ 10 ∷ []))) ++ rest
declare_ended w s rest = simp append_assoc

declare_is : (v : DeclareShape) (rest : List ℕ) → joined (declare_spelling v) ++ 10 ∷ rest ≡ declare_line v ++ rest
declare_is v rest =
    ap (λ z. z ++ 10 ∷ rest) (declare_joined v) ∙ declare_ended (word_text Declare) (signature_text v.ret v.name (map type_text v.params)) rest

block_is : (v : BlockShape) → text_of_lines (block_lines v) ≡ block_text v
unfolding label_text
block_is v =
    ap (λ z. z ++ 10 ∷ text_of_lines (map inner v.insts)) (append-nil (label_text v.name))
    ∙ ap (λ z. label_text v.name ++ 10 ∷ z) (each_text inner line_text line_is v.insts)

function_ended : (w s b : List ℕ) → ((w ++ (32 ∷ s)) ++ 32 ∷ 123 ∷ []) ++ 10 ∷ b ≡ w ++ (32 ∷ (s ++ (32 ∷ 123 ∷ 10 ∷ b)))
function_ended w s b = simp append_assoc

function_is : (v : FunctionShape) → text_of_lines (function_lines v) ≡ function_text v
function_is v =
    let end : List Line = outer (MarkSymbol 125 ∷ []) ∷ [] in
    let blocks : List Line = flat_map block_lines v.blocks ++ end in
    let sig : List ℕ = signature_text v.ret v.name (map parameter_text v.params) in
    ap (λ z. z ++ 10 ∷ text_of_lines blocks) (brace_text (item_then (word_item Define) (signature_item v.ret v.name v.params).piece))
    ∙ ap (λ z. ((word_text Define ++ (32 ∷ sig)) ++ 32 ∷ 123 ∷ []) ++ 10 ∷ z) (text_of_lines-append (flat_map block_lines v.blocks) end ∙ ap (λ z. z ++ 125 ∷ 10 ∷ []) (all_text block_lines block_text block_is v.blocks))
    ∙ function_ended (word_text Define) sig (flat_map block_text v.blocks ++ 125 ∷ 10 ∷ [])

-- the text of a module is that of its items
pub module_is : (m : ModuleShape) → module_text m ≡ items_text m
module_is m =
    let types : List Line = map (λ v. outer (type_spelling v)) m.types in
    let globals : List Line = map (λ v. outer (global_spelling v)) m.globals in
    let declares : List Line = map (λ v. outer (declare_spelling v)) m.declares in
    let functions : List Line = flat_map function_lines m.functions in
    text_of_lines-append types (globals ++ (declares ++ functions))
    ∙ ap (λ t. text_of_lines types ++ t) (text_of_lines-append globals (declares ++ functions) ∙ ap (λ t. text_of_lines globals ++ t) (text_of_lines-append declares functions))
    ∙ ap (λ t. t ++ (text_of_lines globals ++ (text_of_lines declares ++ text_of_lines functions))) (each_text (λ v. outer (type_spelling v)) type_line type_is m.types)
    ∙ ap (λ t. flat_map type_line m.types ++ (t ++ (text_of_lines declares ++ text_of_lines functions))) (each_text (λ v. outer (global_spelling v)) global_line global_is m.globals)
    ∙ ap (λ t. flat_map type_line m.types ++ (flat_map global_line m.globals ++ (t ++ text_of_lines functions))) (each_text (λ v. outer (declare_spelling v)) declare_line declare_is m.declares)
    ∙ ap (λ t. flat_map type_line m.types ++ (flat_map global_line m.globals ++ (flat_map declare_line m.declares ++ t))) (all_text function_lines function_text function_is m.functions)
