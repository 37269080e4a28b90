-- The lines of a module are its spelling, and are indented.
use Rattle.std.proofs.Common.{◌≡◌, ℕ, List, [], ◌∷◌, ◌++◌, map, refl, sym, ap, ◌∙◌, subst, append_assoc, length}
use Rattle.std.specs.List.{flat_map}
use Rattle.ir_tree.specs.Shape.{BlockShape, FunctionShape, ModuleShape}
use Rattle.ir_words.specs.declared.words.Keyword.TheVariants.{Define}
use Rattle.ir_lex.specs.Bytes.{is_blank}
use Rattle.ir_lex.specs.Symbols.{Symbol, KeywordSymbol, LabelSymbol, MarkSymbol, symbols_of}
use Rattle.ir_lex.specs.Tokens.{AreTokens}
use Rattle.ir_lex.specs.declared.token.Token.{Token}
use Rattle.grammar.specs.Reader.{Got}
use Rattle.grammar.proofs.Reading.{reads_back}
use Rattle.ir_print_symbols.specs.Printed.{Line, rows_of, AreBlanks, AreIndented, ArePrintable}
use Rattle.ir_print_symbols.specs.Spells.{Spells}
use Rattle.ir_print_symbols.proofs.Lines.{lines_spell}
use Rattle.ir_print_symbols.proofs.Walks.{spells_alone}
use Rattle.ir_grammar_insts.specs.Spelling.{in_a_row}
use Rattle.ir_grammar_modules.specs.Modules.{run_module, whole_module}
use Rattle.ir_grammar_modules.specs.Spelling.{block_spelling, signature_spelling, type_spelling, global_spelling, declare_spelling, function_spelling, module_spelling, FitsModule}
use Rattle.ir_grammar_modules.proofs.ItemLaw.{good_module}
use Rattle.ir_grammar_modules.proofs.ModuleSpelled.{spelled_module}
use Rattle.std.proofs.lemmas.List.{append-nil}
use Rattle.std.proofs.Common.{arith}
use Rattle.ir_print.specs.Printed.{outer, inner, block_lines, function_lines, module_lines, module_text}

rows-append : (ls ms : List Line) → rows_of (ls ++ ms) ≡ rows_of ls ++ rows_of ms
rows-append [] ms = refl
rows-append (l ∷ ls) ms = ap (λ t. l.row ++ t) (rows-append ls ms) ∙ sym (append_assoc l.row (rows_of ls) (rows_of ms))

-- one line for each
rows_each : {V : Type 0} (line : V → Line) (vs : List V) → rows_of (map line vs) ≡ in_a_row (λ v. (line v).row) vs
rows_each line [] = refl
rows_each line (v ∷ vs) = ap (λ t. (line v).row ++ t) (rows_each line vs)

-- some lines for each
rows_all : {V : Type 0} (lines : V → List Line) (spelling : V → List Symbol) → ((v : V) → rows_of (lines v) ≡ spelling v) → (vs : List V)
    → rows_of (flat_map lines vs) ≡ in_a_row spelling vs
rows_all lines spelling each [] = refl
rows_all lines spelling each (v ∷ vs) =
    rows-append (lines v) (flat_map lines vs)
    ∙ ap (λ t. t ++ rows_of (flat_map lines vs)) (each v)
    ∙ ap (λ t. spelling v ++ t) (rows_all lines spelling each vs)

block_rows : (v : BlockShape) → rows_of (block_lines v) ≡ block_spelling v
block_rows v = ap (λ t. LabelSymbol v.name ∷ t) (rows_each inner v.insts)

function_rows : (v : FunctionShape) → rows_of (function_lines v) ≡ function_spelling v
function_rows v =
    let sig : List Symbol = signature_spelling v.ret v.name v.params in
    let close : List Symbol = MarkSymbol 125 ∷ [] in
    ap (λ t. KeywordSymbol Define ∷ ((sig ++ MarkSymbol 123 ∷ []) ++ t)) (rows-append (flat_map block_lines v.blocks) (outer close ∷ []) ∙ ap (λ t. t ++ close) (rows_all block_lines block_spelling block_rows v.blocks))
    ∙ ap (λ t. KeywordSymbol Define ∷ t) (append_assoc sig (MarkSymbol 123 ∷ []) (in_a_row block_spelling v.blocks ++ close))

pub rows_are : (m : ModuleShape) → rows_of (module_lines m) ≡ module_spelling m
rows_are m =
    let types : List Line = map (λ v. outer (type_spelling v)) m.types in
    let globals : List Line = map (λ v. outer (global_spelling v)) m.globals in
    let declares : List Line = map (λ v. outer (declare_spelling v)) m.declares in
    let functions : List Line = flat_map function_lines m.functions in
    rows-append types (globals ++ (declares ++ functions))
    ∙ ap (λ t. rows_of types ++ t) (rows-append globals (declares ++ functions) ∙ ap (λ t. rows_of globals ++ t) (rows-append declares functions))
    ∙ ap (λ t. t ++ (rows_of globals ++ (rows_of declares ++ rows_of functions))) (rows_each (λ v. outer (type_spelling v)) m.types)
    ∙ ap (λ t. in_a_row type_spelling m.types ++ (t ++ (rows_of declares ++ rows_of functions))) (rows_each (λ v. outer (global_spelling v)) m.globals)
    ∙ ap (λ t. in_a_row type_spelling m.types ++ (in_a_row global_spelling m.globals ++ (t ++ rows_of functions))) (rows_each (λ v. outer (declare_spelling v)) m.declares)
    ∙ ap (λ t. in_a_row type_spelling m.types ++ (in_a_row global_spelling m.globals ++ (in_a_row declare_spelling m.declares ++ t))) (rows_all function_lines function_spelling function_rows m.functions)

indented-append : (ls ms : List Line) → AreIndented ls → AreIndented ms → AreIndented (ls ++ ms)
indented-append [] ms h i = i
indented-append (l ∷ ls) ms h i = (h.0, indented-append ls ms h.1 i)

indented_each : {V : Type 0} (line : V → Line) → ((v : V) → AreBlanks (line v).indent) → (vs : List V) → AreIndented (map line vs)
indented_each line each [] = tt
indented_each line each (v ∷ vs) = (each v, indented_each line each vs)

indented_all : {V : Type 0} (lines : V → List Line) → ((v : V) → AreIndented (lines v)) → (vs : List V) → AreIndented (flat_map lines vs)
indented_all lines each [] = tt
indented_all lines each (v ∷ vs) = indented-append (lines v) (flat_map lines vs) (each v) (indented_all lines each vs)

two_blanks : AreBlanks (32 ∷ 32 ∷ [])
unfolding is_blank
two_blanks = (refl, (refl, tt))

block_indented : (v : BlockShape) → AreIndented (block_lines v)
block_indented v = (tt, indented_each inner (λ w. two_blanks) v.insts)

function_indented : (v : FunctionShape) → AreIndented (function_lines v)
function_indented v = (tt, indented-append (flat_map block_lines v.blocks) (outer (MarkSymbol 125 ∷ []) ∷ []) (indented_all block_lines block_indented v.blocks) (tt, tt))

module_indented : (m : ModuleShape) → AreIndented (module_lines m)
module_indented m =
    indented-append (map (λ v. outer (type_spelling v)) m.types) _ (indented_each (λ v. outer (type_spelling v)) (λ v. tt) m.types)
    (indented-append (map (λ v. outer (global_spelling v)) m.globals) _ (indented_each (λ v. outer (global_spelling v)) (λ v. tt) m.globals)
    (indented-append (map (λ v. outer (declare_spelling v)) m.declares) _ (indented_each (λ v. outer (declare_spelling v)) (λ v. tt) m.declares) (indented_all function_lines function_indented m.functions)))

-- a module's text spells it
pub module_spelled : (m : ModuleShape) → ArePrintable (module_spelling m) → Spells (module_text m) (module_spelling m)
module_spelled m p =
    subst (Spells (module_text m)) (rows_are m) (lines_spell (module_lines m) (subst ArePrintable (sym (rows_are m)) p) (module_indented m))

-- what spells a module is read back
pub module_back : (m : ModuleShape) (text : List ℕ) (toks : List Token) → FitsModule m → Spells text (module_spelling m) → AreTokens text toks
    → run_module (length (symbols_of text toks)) (symbols_of text toks) ≡ Got m []
module_back m text toks fits spells tokens =
    let word : List Symbol = module_spelling m in
    let same : word ++ [] ≡ word = append-nil word in
    ap (λ ss. run_module (length ss) ss) (spells_alone text word toks spells tokens)
    ∙ subst (λ z. run_module (length word) z ≡ Got m []) same
    (reads_back (good_module (length word)) word [] m (spelled_module m fits) tt (omega (arith, ap length same)))

-- and is a word of the grammar
pub module_word : (m : ModuleShape) (text : List ℕ) (toks : List Token) → FitsModule m → Spells text (module_spelling m) → AreTokens text toks
    → whole_module (symbols_of text toks) m
module_word m text toks fits spells tokens =
    subst (λ z. whole_module z m) (sym (spells_alone text (module_spelling m) toks spells tokens)) (spelled_module m fits)
