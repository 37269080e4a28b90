-- From the items of a module to the answer for all tokens; how many spots there are; and where brackets nest too deep.
use Rattle.std.proofs.Common.{◌≡◌, ℕ, suc, ◌+◌, ◌≤◌, ◌<◌, List, [], ◌∷◌, length, map, drop, take, Option, None, Some, Result, Ok, Err, refl, sym, ◌∙◌, ap, subst, arith, Vec}
use Rattle.std.specs.declared.alloc.Global.{Global}
use Rattle.std.proofs.lemmas.List.{drop_all, length-drop, length-map}
use Rattle.grammar.specs.Reader.{Got, Wrong, all_read}
use Rattle.grammar.specs.FirstWrong.{ReadsAll}
use Rattle.grammar.specs.Code.{Stops}
use Rattle.grammar.specs.declared.Stop.{Stop}
use Rattle.grammar.specs.declared.Stop.TheVariants.{WrongSymbol, OutOfMemory}
use Rattle.grammar.proofs.Reading.{reads_all}
use Rattle.ir_lex.specs.Symbols.{Symbol, symbols_of}
use Rattle.ir_lex.specs.declared.token.Token.{Token}
use Rattle.ir_tree.specs.Shape.{BlockShape, ModuleShape}
use Rattle.ir_tree.specs.ShapeOf.{inst_shape, block_shape, function_shape}
use Rattle.ir_tree.specs.declared.module.Block.{Block}
use Rattle.ir_tree.specs.declared.module.Function.{Function}
use Rattle.ir_grammar_consts.specs.Depth.{IsTooDeep}
use Rattle.ir_grammar_consts.specs.Counting.{deep_len}
use Rattle.ir_grammar_consts.proofs.Depths.{deep_found, deep_counted}
use Rattle.ir_const.specs.Places.{cut_of}
use Rattle.ir_const.proofs.Cuts.{symbols_count}
use Rattle.ir_grammar_modules.specs.Items.{ItemShape, type_item, global_item, declare_item, function_item}
use Rattle.ir_grammar_modules.specs.Modules.{with_item, module_of, whole_module, run_module}
use Rattle.ir_grammar_modules.proofs.ItemLaw.{good_module}
use Rattle.ir_read_modules.specs.Spots.{InPieces, IsBlockAt}
use Rattle.ir_parse.specs.Answers.{AreShallow, error_of, ReadsWhole, Parses}
use Rattle.ir_parse.specs.declared.error.ParseError.{ParseError}
use Rattle.ir_parse.specs.declared.error.ParseError.TheVariants as error
use Rattle.ir_tree.specs.declared.parsed.Parsed.{Parsed}
use Rattle.ir_parse.specs.Spots.{Place, HasLinesAt, IsItemAt, SpotLists, with_spot, spots_of, AreSpots}
use Rattle.ir_parse.specs.Drafts.{draft_shape}
use Rattle.ir_parse.specs.declared.draft.Draft.{Draft}

-- what the reader of modules answers for all tokens
whole : (text : List ℕ) (toks : List Token) → ReadsAll whole_module (symbols_of text toks) (all_read (run_module (length toks) (symbols_of text toks)))
whole text toks = reads_all (good_module (length toks)) (symbols_of text toks) (omega (arith, symbols_count text toks))

-- all tokens were read
pub whole_read : (text : List ℕ) (toks : List Token) (m : ModuleShape) (next : ℕ) → length toks ≤ next
    → run_module (length toks) (symbols_of text toks) ≡ Got m (drop next (symbols_of text toks)) → whole_module (symbols_of text toks) m
whole_read text toks m next past e =
    let none : drop next (symbols_of text toks) ≡ [] = drop_all next (symbols_of text toks) (omega (arith, symbols_count text toks)) in
    let given : run_module (length toks) (symbols_of text toks) ≡ Got m [] = e ∙ ap (Got m) none in
    let answer : ReadsAll whole_module (symbols_of text toks) (Got m []) = subst (λ z. ReadsAll whole_module (symbols_of text toks) (all_read z)) given (whole text toks) in
    answer.1

left_wrong : (ss : List Symbol) (m : ModuleShape) (rest : List Symbol) → 0 < length rest → ReadsAll whole_module ss (all_read (Got m rest)) → ReadsAll whole_module ss (Wrong rest)
left_wrong ss m [] some answer = absurd (omega arith)
left_wrong ss m (t ∷ rest) some answer = answer

-- a token is left
pub whole_left : (text : List ℕ) (toks : List Token) (m : ModuleShape) (next : ℕ) → next < length toks
    → run_module (length toks) (symbols_of text toks) ≡ Got m (drop next (symbols_of text toks)) → ReadsAll whole_module (symbols_of text toks) (Wrong (drop next (symbols_of text toks)))
whole_left text toks m next before e =
    left_wrong (symbols_of text toks) m (drop next (symbols_of text toks)) (omega (arith, length-drop next (symbols_of text toks), symbols_count text toks))
    (subst (λ z. ReadsAll whole_module (symbols_of text toks) (all_read z)) e (whole text toks))

-- the reader of the items stopped
pub whole_stopped : (text : List ℕ) (toks : List Token) (e : Stop) → Stops (symbols_of text toks) e (run_module (length toks) (symbols_of text toks)) → ReadsWhole text toks (Err (error_of text toks e))
whole_stopped text toks (WrongSymbol k) h =
    (k, omega (arith, h.1, symbols_count text toks), refl, subst (λ z. ReadsAll whole_module (symbols_of text toks) (all_read z)) h.0 (whole text toks))
whole_stopped text toks OutOfMemory h = tt

-- no bracket is the 65th open one
pub shallow_parses : (text : List ℕ) (toks : List Token) (result : Result Parsed ParseError) → ReadsWhole text toks result → AreShallow (symbols_of text toks) → Parses text toks result
shallow_parses text toks (Ok parsed) h s = (h, s)
shallow_parses text toks (Err (error.Syntax at)) h s = (h, s)
shallow_parses text toks (Err (error.Deep at)) h s = absurd h
shallow_parses text toks (Err error.OutOfMemory) h s = tt

-- there are as many spots as items and lines

pieces_count : {V K : Type 0} (R : List Token → V → K → Type 0) (toks : List Token) (vs : List V) (ks : List K) → InPieces R toks vs ks → length ks ≡ length vs
pieces_count R toks [] [] h = refl
pieces_count R toks [] (k ∷ ks) h = absurd h
pieces_count R toks (v ∷ vs) [] h = absurd h
pieces_count R toks (v ∷ vs) (k ∷ ks) h = ap suc (pieces_count R h.1 vs ks h.4)

abbrev counts : List (List ℕ) → List ℕ
counts spots = map (λ (s : List ℕ). length s) spots

abbrev line_counts : List BlockShape → List ℕ
line_counts bs = map (λ b. length b.insts) bs

blocks_counted : (text : List ℕ) (toks : List Token) (bs : List BlockShape) (spots : List (List ℕ)) → InPieces (IsBlockAt text) toks bs spots → counts spots ≡ line_counts bs
blocks_counted text toks [] [] h = refl
blocks_counted text toks [] (k ∷ ks) h = absurd h
blocks_counted text toks (b ∷ bs) [] h = absurd h
blocks_counted text toks (b ∷ bs) (k ∷ ks) h =
    let lines = h.3.1 in
    let here : length k ≡ length b.insts = pieces_count _ lines.1 b.insts k lines.4 in
    let more = blocks_counted text h.1 bs ks h.4 in
    ap (λ z. z ∷ counts ks) here ∙ ap (λ z. length b.insts ∷ z) more

record Counted (m : ModuleShape) (s : SpotLists) : Type 0 where
  pub types : length s.types ≡ length m.types
  pub globals : length s.globals ≡ length m.globals
  pub declares : length s.declares ≡ length m.declares
  pub functions : length s.functions ≡ length m.functions
  pub insts : map counts s.insts ≡ map (λ f. line_counts f.blocks) m.functions

counted_more : (text : List ℕ) (toks : List Token) (v : ItemShape) (p : Place) (m : ModuleShape) (s : SpotLists) → HasLinesAt text toks v p.lines → Counted m s → Counted (with_item v m) (with_spot v p s)
counted_more text toks (type_item v) p m s h g = record { types = ap suc g.types; globals = g.globals; declares = g.declares; functions = g.functions; insts = g.insts }
counted_more text toks (global_item v) p m s h g = record { types = g.types; globals = ap suc g.globals; declares = g.declares; functions = g.functions; insts = g.insts }
counted_more text toks (declare_item v) p m s h g = record { types = g.types; globals = g.globals; declares = ap suc g.declares; functions = g.functions; insts = g.insts }
counted_more text toks (function_item v) p m s h g =
    let here = blocks_counted text h.body.body v.blocks p.lines h.body.blocks in
    record {
      types = g.types;
      globals = g.globals;
      declares = g.declares;
      functions = ap suc g.functions;
      insts = ap (λ z. z ∷ map counts s.insts) here ∙ ap (λ z. line_counts v.blocks ∷ z) g.insts;
    }

counted : (text : List ℕ) (toks : List Token) (items : List ItemShape) (places : List Place) → InPieces (IsItemAt text) toks items places → Counted (module_of items) (spots_of items places)
counted text toks [] [] h = record { types = refl; globals = refl; declares = refl; functions = refl; insts = refl }
counted text toks [] (p ∷ places) h = absurd h
counted text toks (v ∷ items) [] h = absurd h
counted text toks (v ∷ items) (p ∷ places) h = counted_more text h.0 v p (module_of items) (spots_of items places) h.3.2 (counted text h.1 items places h.4)

block_lists : (spots : List (Vec ℕ Global)) → map (λ b. length b.items) spots ≡ counts (map (λ b. b.items) spots)
block_lists [] = refl
block_lists (b ∷ spots) = ap (λ z. length b.items ∷ z) (block_lists spots)

function_lists : (spots : List (Vec (Vec ℕ Global) Global)) → map (λ f. map (λ b. length b.items) f.items) spots ≡ map counts (map (λ f. map (λ b. b.items) f.items) spots)
function_lists [] = refl
function_lists (f ∷ spots) =
    ap (λ z. z ∷ map (λ f. map (λ b. length b.items) f.items) spots) (block_lists f.items)
    ∙ ap (λ z. counts (map (λ b. b.items) f.items) ∷ z) (function_lists spots)

block_shapes : (names : List (List ℕ)) (bs : List Block) → line_counts (map (block_shape names) bs) ≡ map (λ b. length b.insts.items) bs
block_shapes names [] = refl
block_shapes names (b ∷ bs) =
    ap (λ z. z ∷ line_counts (map (block_shape names) bs)) (length-map b.insts.items (inst_shape names)) ∙ ap (λ z. length b.insts.items ∷ z) (block_shapes names bs)

function_shapes : (names : List (List ℕ)) (fs : List Function) → map (λ f. line_counts f.blocks) (map (function_shape names) fs) ≡ map (λ f. map (λ b. length b.insts.items) f.blocks.items) fs
function_shapes names [] = refl
function_shapes names (f ∷ fs) =
    ap (λ z. z ∷ map (λ f. line_counts f.blocks) (map (function_shape names) fs)) (block_shapes names f.blocks.items)
    ∙ ap (λ z. map (λ b. length b.insts.items) f.blocks.items ∷ z) (function_shapes names fs)

pub record SpotCounts (d : Draft) : Type 0 where
  pub types : length d.spots.types.items ≡ length d.types.items
  pub globals : length d.spots.globals.items ≡ length d.globals.items
  pub declares : length d.spots.declares.items ≡ length d.declares.items
  pub functions : length d.spots.functions.items ≡ length d.functions.items
  pub insts : map (λ f. map (λ b. length b.items) f.items) d.spots.insts.items ≡ map (λ f. map (λ b. length b.insts.items) f.blocks.items) d.functions.items

pub spot_counts : (text : List ℕ) (toks : List Token) (names : List (List ℕ)) (d : Draft) → AreSpots text toks (draft_shape names d) d.spots → SpotCounts d
spot_counts text toks names d g =
    let c = counted text toks g.items g.places g.pieces in
    record {
      types = ap (λ (s : SpotLists). length s.types) g.spotted ∙ c.types ∙ ap (λ (m : ModuleShape). length m.types) (sym g.is_module) ∙ length-map d.types.items _;
      globals = ap (λ (s : SpotLists). length s.globals) g.spotted ∙ c.globals ∙ ap (λ (m : ModuleShape). length m.globals) (sym g.is_module) ∙ length-map d.globals.items _;
      declares = ap (λ (s : SpotLists). length s.declares) g.spotted ∙ c.declares ∙ ap (λ (m : ModuleShape). length m.declares) (sym g.is_module) ∙ length-map d.declares.items _;
      functions = ap (λ (s : SpotLists). length s.functions) g.spotted ∙ c.functions ∙ ap (λ (m : ModuleShape). length m.functions) (sym g.is_module) ∙ length-map d.functions.items _;
      insts = function_lists d.spots.insts.items ∙ ap (λ (s : SpotLists). map counts s.insts) g.spotted ∙ c.insts
          ∙ ap (λ (m : ModuleShape). map (λ f. line_counts f.blocks) m.functions) (sym g.is_module) ∙ function_shapes names d.functions.items;
    }

-- brackets

deep_from : (ss : List Symbol) (end : ℕ) (o : Option ℕ) → deep_len 0 ss ≡ o → Some end ≡ cut_of 0 o → IsTooDeep 0 (take end ss)
deep_from ss end None e h = cc
deep_from ss end (Some count) e h =
    let same : end ≡ 0 + count = cc in
    let here : count ≡ end = omega arith in
    subst (λ z. IsTooDeep 0 (take z ss)) here (deep_found 0 ss count (omega arith) e).0

-- the bracket that was found
pub deep_at : (ss : List Symbol) (end : ℕ) → Some end ≡ cut_of 0 (deep_len 0 ss) → IsTooDeep 0 (take end ss)
deep_at ss end h = deep_from ss end (deep_len 0 ss) refl h

shallow_from : (ss : List Symbol) (o : Option ℕ) → deep_len 0 ss ≡ o → None ≡ cut_of 0 o → AreShallow ss
shallow_from ss None e h front rest cut deep =
    let there : deep_len 0 ss ≡ Some (length front) = ap (deep_len 0) cut ∙ deep_counted 0 front rest deep in cc
shallow_from ss (Some count) e h front rest cut deep = absurd (cc)

-- none was found
pub shallow_at : (ss : List Symbol) → None ≡ cut_of 0 (deep_len 0 ss) → AreShallow ss
shallow_at ss h = shallow_from ss (deep_len 0 ss) refl h
