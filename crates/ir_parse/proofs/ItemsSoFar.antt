-- The items of a module: those read so far are what the reader on symbols gives, and their pieces stand one
-- after another.
use Rattle.std.proofs.Common.{◌≡◌, ℕ, zero, suc, ◌+◌, ◌≤◌, ◌<◌, true, false, List, [], ◌∷◌, ◌++◌, length, map, drop, slice_range, refl, sym, ◌∙◌, ap, subst, arith}
use Rattle.grammar.specs.Reader.{Out, Got, then_out, heads, opens, run_many}
use Rattle.grammar.specs.Code.{Stops}
use Rattle.grammar.specs.declared.Stop.{Stop}
use Rattle.grammar.specs.declared.Stop.TheVariants.{WrongSymbol, OutOfMemory}
use Rattle.grammar.proofs.Loops.{ManyLeft, many_start, many_go_on, many_stop, many_close, many_run_out}
use Rattle.ir_lex.specs.Symbols.{Symbol, symbols_of}
use Rattle.ir_lex.specs.declared.token.Token.{Token}
use Rattle.ir_cursor.specs.Marks.{punct}
use Rattle.ir_tree.specs.NameTable.{Grows}
use Rattle.ir_tree.specs.Shape.{NamedTyShape, GlobalShape, DeclareShape, FunctionShape, ModuleShape}
use Rattle.ir_tree.specs.ShapeOf.{named_ty_shape, global_shape, declare_shape, function_shape}
use Rattle.ir_tree.specs.Known.{named_ty_known, global_known, declare_known, function_known}
use Rattle.ir_tree.proofs.Grows.{and_both, and_left, and_right}
use Rattle.ir_tree.proofs.GrowsModule.{named_ty_shape-append, named_ty_known-more, global_shape-append, global_known-more, declare_shape-append, declare_known-more, function_shape-append, function_known-more}
use Rattle.ir_grammar_insts.specs.Operands.{local_name, global_name}
use Rattle.ir_grammar_modules.specs.Items.{ItemShape, type_item, global_item, declare_item, function_item, type_word, constancy, declare_word, define_word, blocks, run_blocks, type_of, global_of, declare_of, function_of, item, run_item}
use Rattle.ir_grammar_modules.specs.Modules.{with_item, module_of, begins_item, run_module}
use Rattle.ir_grammar_modules.proofs.ItemLaw.{starts_item}
use Rattle.ir_read_consts.proofs.NamedItems.{Keeps, shapes_kept}
use Rattle.ir_read_insts.proofs.ValueParts.{map_read}
use Rattle.ir_read_modules.specs.Spots.{start_of, InPieces}
use Rattle.ir_read_modules.proofs.Sound.{Sound, sound_one, sound_skip, sound_map, sound_seq, sound_or, sound_until}
use Rattle.ir_read_modules.proofs.SoundLines.{sound_ty, sound_const}
use Rattle.ir_read_modules.proofs.SoundBlocks.{sound_block, sound_first_block}
use Rattle.ir_read_modules.proofs.Pieces.{pieces_more, slices_joined, no_slice, slice_spelled, goes_past, start_of_slice}
use Rattle.ir_parse.specs.Spots.{Place, HasLinesAt, IsItemAt, SpotLists, with_spot, spots_of, with_last_spot, lists_of, AreSpots}
use Rattle.ir_parse.specs.Drafts.{item_shape, item_lines, draft_shape, draft_known, with_last}
use Rattle.ir_parse.specs.declared.items.Item.{Item}
use Rattle.ir_parse.specs.declared.draft.Draft.{Draft}
use Rattle.ir_parse.proofs.Bodies.{all_stay, sound_signature}

sound_blocks : (n : ℕ) → Sound blocks (run_blocks n)
sound_blocks n = sound_seq (sound_first_block n) (sound_until n (punct 125) (sound_block n))

sound_item : (n : ℕ) → Sound item (run_item n)
sound_item n =
    sound_or (heads local_name) (sound_map type_of (sound_seq (sound_one local_name) (sound_skip (punct 61) (sound_skip type_word (sound_ty n)))))
    (sound_or (heads global_name) (sound_map global_of (sound_seq (sound_one global_name) (sound_skip (punct 61) (sound_seq (sound_one constancy) (sound_seq (sound_ty n) (sound_const n))))))
    (sound_or (heads declare_word) (sound_skip declare_word (sound_map declare_of (sound_signature n)))
    (sound_skip define_word (sound_map function_of (sound_seq (sound_signature n) (sound_skip (punct 123) (sound_blocks n)))))))

types_keep : Keeps named_ty_shape named_ty_known
types_keep = record { same = named_ty_shape-append; stays = named_ty_known-more }

globals_keep : Keeps global_shape global_known
globals_keep = record { same = global_shape-append; stays = global_known-more }

declares_keep : Keeps declare_shape declare_known
declares_keep = record { same = declare_shape-append; stays = declare_known-more }

functions_keep : Keeps function_shape function_known
functions_keep = record { same = function_shape-append; stays = function_known-more }

made : List NamedTyShape → List GlobalShape → List DeclareShape → List FunctionShape → ModuleShape
made t g d f = record { types = t; globals = g; declares = d; functions = f }

-- what was read keeps its shape where names are added
draft_kept : {old new : List (List ℕ)} → Grows old new → (d : Draft) → draft_known (length old) d ≡ true → draft_shape new d ≡ draft_shape old d
unfolding made
draft_kept {old = old} {new = new} g d h =
    let first = and_left _ _ h in
    let second = and_left _ _ first in
    let t = shapes_kept types_keep g d.types.items (and_left _ _ second) in
    let v = shapes_kept globals_keep g d.globals.items (and_right _ _ second) in
    let e = shapes_kept declares_keep g d.declares.items (and_right _ _ first) in
    let f = shapes_kept functions_keep g d.functions.items (and_right _ _ h) in
    ap (λ z. made z (map (global_shape new) d.globals.items) (map (declare_shape new) d.declares.items) (map (function_shape new) d.functions.items)) t
    ∙ ap (λ z. made (map (named_ty_shape old) d.types.items) z (map (declare_shape new) d.declares.items) (map (function_shape new) d.functions.items)) v
    ∙ ap (λ z. made (map (named_ty_shape old) d.types.items) (map (global_shape old) d.globals.items) z (map (function_shape new) d.functions.items)) e
    ∙ ap (λ z. made (map (named_ty_shape old) d.types.items) (map (global_shape old) d.globals.items) (map (declare_shape old) d.declares.items) z) f

pub draft_stays : {old new : List (List ℕ)} → Grows old new → (d : Draft) → draft_known (length old) d ≡ true → draft_known (length new) d ≡ true
draft_stays g d h =
    let first = and_left _ _ h in
    let second = and_left _ _ first in
    and_both (and_both (and_both (all_stay types_keep g d.types.items (and_left _ _ second)) (all_stay globals_keep g d.globals.items (and_right _ _ second)))
    (all_stay declares_keep g d.declares.items (and_right _ _ first))) (all_stay functions_keep g d.functions.items (and_right _ _ h))

-- an item more at the end, and one at the front
both_ends : (w v : ItemShape) (m : ModuleShape) → with_item w (with_last v m) ≡ with_last v (with_item w m)
both_ends (type_item w) (type_item v) m = refl
both_ends (type_item w) (global_item v) m = refl
both_ends (type_item w) (declare_item v) m = refl
both_ends (type_item w) (function_item v) m = refl
both_ends (global_item w) (type_item v) m = refl
both_ends (global_item w) (global_item v) m = refl
both_ends (global_item w) (declare_item v) m = refl
both_ends (global_item w) (function_item v) m = refl
both_ends (declare_item w) (type_item v) m = refl
both_ends (declare_item w) (global_item v) m = refl
both_ends (declare_item w) (declare_item v) m = refl
both_ends (declare_item w) (function_item v) m = refl
both_ends (function_item w) (type_item v) m = refl
both_ends (function_item w) (global_item v) m = refl
both_ends (function_item w) (declare_item v) m = refl
both_ends (function_item w) (function_item v) m = refl

only_one : (v : ItemShape) → module_of (v ∷ []) ≡ with_last v (module_of [])
only_one (type_item v) = refl
only_one (global_item v) = refl
only_one (declare_item v) = refl
only_one (function_item v) = refl

module_more : (items : List ItemShape) (v : ItemShape) → module_of (items ++ v ∷ []) ≡ with_last v (module_of items)
module_more [] v = only_one v
module_more (w ∷ items) v = ap (with_item w) (module_more items v) ∙ both_ends w v (module_of items)

spots_both : (w v : ItemShape) (p q : Place) (s : SpotLists) → with_spot w p (with_last_spot v q s) ≡ with_last_spot v q (with_spot w p s)
spots_both (type_item w) (type_item v) p q s = refl
spots_both (type_item w) (global_item v) p q s = refl
spots_both (type_item w) (declare_item v) p q s = refl
spots_both (type_item w) (function_item v) p q s = refl
spots_both (global_item w) (type_item v) p q s = refl
spots_both (global_item w) (global_item v) p q s = refl
spots_both (global_item w) (declare_item v) p q s = refl
spots_both (global_item w) (function_item v) p q s = refl
spots_both (declare_item w) (type_item v) p q s = refl
spots_both (declare_item w) (global_item v) p q s = refl
spots_both (declare_item w) (declare_item v) p q s = refl
spots_both (declare_item w) (function_item v) p q s = refl
spots_both (function_item w) (type_item v) p q s = refl
spots_both (function_item w) (global_item v) p q s = refl
spots_both (function_item w) (declare_item v) p q s = refl
spots_both (function_item w) (function_item v) p q s = refl

one_spot : (v : ItemShape) (p : Place) → spots_of (v ∷ []) (p ∷ []) ≡ with_last_spot v p (spots_of [] [])
one_spot (type_item v) p = refl
one_spot (global_item v) p = refl
one_spot (declare_item v) p = refl
one_spot (function_item v) p = refl

spots_more : (text : List ℕ) (toks : List Token) (items : List ItemShape) (places : List Place) (v : ItemShape) (p : Place) → InPieces (IsItemAt text) toks items places
    → spots_of (items ++ v ∷ []) (places ++ p ∷ []) ≡ with_last_spot v p (spots_of items places)
spots_more text toks [] [] v p h = one_spot v p
spots_more text toks [] (q ∷ places) v p h = absurd h
spots_more text toks (w ∷ items) [] v p h = absurd h
spots_more text toks (w ∷ items) (q ∷ places) v p h = ap (with_spot w q) (spots_more text h.1 items places v p h.4) ∙ spots_both w v q p (spots_of items places)

-- the items so far, of at most n more
pub record ItemsRead (n : ℕ) (text : List ℕ) (toks : List Token) (names : List (List ℕ)) (d : Draft) (next : ℕ) : Type 0 where
  pub items : List ItemShape
  pub places : List Place
  pub left : ManyLeft n begins_item (run_item (length toks)) (run_many (length toks) begins_item (run_item (length toks)) (symbols_of text toks)) items (symbols_of text toks) next
  pub shape : draft_shape names d ≡ module_of items
  pub pieces : InPieces (IsItemAt text) (slice_range toks 0 next) items places
  pub spotted : lists_of d.spots ≡ spots_of items places
  pub count : length names ≤ next
  pub all_known : draft_known (length names) d ≡ true

pub items_start : (text : List ℕ) (toks : List Token) (names : List (List ℕ)) (d : Draft) → names ≡ []
    → draft_shape names d ≡ module_of [] → lists_of d.spots ≡ spots_of [] [] → draft_known (length names) d ≡ true
    → ItemsRead (length toks) text toks names d 0
items_start text toks names d none shape spotted known = record {
  items = [];
  places = [];
  left = many_start (length toks) begins_item (run_item (length toks)) (symbols_of text toks) 0 (omega arith);
  shape = shape;
  pieces = no_slice toks 0;
  spotted = spotted;
  count = omega (arith, ap length none);
  all_known = known;
}

pub items_next : {n : ℕ} {text : List ℕ} {toks : List Token} {names : List (List ℕ)} {d : Draft} {next : ℕ} → (m : ℕ) → ItemsRead n text toks names d next → n ≡ suc m
    → opens begins_item (drop next (symbols_of text toks)) ≡ true → {new : List (List ℕ)} → Grows names new → (x : Item) (last : ℕ) → length new + next ≤ length names + last
    → run_item (length toks) (drop next (symbols_of text toks)) ≡ Got (item_shape new x) (drop last (symbols_of text toks)) → last ≤ length (symbols_of text toks)
    → HasLinesAt text (slice_range toks next last) (item_shape new x) (item_lines x) → (spot : ℕ) → spot ≡ start_of (drop next toks)
    → (e : Draft) → draft_shape new e ≡ with_last (item_shape new x) (draft_shape new d)
    → lists_of e.spots ≡ with_last_spot (item_shape new x) (record { spot = spot; lines = item_lines x }) (lists_of d.spots)
    → draft_known (length new) e ≡ true → ItemsRead m text toks new e last
items_next {text = text} {toks = toks} {names = names} {d = d} {next = next} m g e apart {new = new} grows x last count read le lines spot at draft shape spots known =
    let v : ItemShape = item_shape new x in
    let p : Place = record { spot = spot; lines = item_lines x } in
    let past : next < last = goes_past (sound_item (length toks)) starts_item (symbols_of text toks) next last v g.left.within le read in
    let begins : spot ≡ start_of (slice_range toks next last) = at ∙ sym (start_of_slice toks next last past) in
    let here : IsItemAt text (slice_range toks next last) v p = (slice_spelled (sound_item (length toks)) text toks next last v g.left.within le read, begins, lines) in
    let more = pieces_more (IsItemAt text) g.items g.places (slice_range toks 0 next) (slice_range toks next last) v p g.pieces here in
    record {
      items = g.items ++ v ∷ [];
      places = g.places ++ p ∷ [];
      left = many_go_on m g.left e apart last v read le;
      shape = shape ∙ ap (with_last v) (draft_kept grows d g.all_known ∙ g.shape) ∙ sym (module_more g.items v);
      pieces = subst (λ z. InPieces (IsItemAt text) z (g.items ++ v ∷ []) (g.places ++ p ∷ [])) (sym (slices_joined toks 0 next last (omega arith) (omega arith))) more;
      spotted = spots ∙ ap (with_last_spot v p) g.spotted ∙ sym (spots_more text (slice_range toks 0 next) g.items g.places v p g.pieces);
      count = let c : length names ≤ next = g.count in omega arith;
      all_known = known;
    }

items_given : {n : ℕ} {text : List ℕ} {toks : List Token} {names : List (List ℕ)} {d : Draft} {next : ℕ} → (g : ItemsRead n text toks names d next)
    → run_many (length toks) begins_item (run_item (length toks)) (symbols_of text toks) ≡ Got g.items (drop next (symbols_of text toks))
    → run_module (length toks) (symbols_of text toks) ≡ Got (draft_shape names d) (drop next (symbols_of text toks))
items_given {text = text} {toks = toks} {next = next} g e =
    map_read module_of (run_many (length toks) begins_item (run_item (length toks))) (symbols_of text toks) e ∙ ap (λ z. Got z (drop next (symbols_of text toks))) (sym g.shape)

-- no item follows
pub items_close : {n : ℕ} {text : List ℕ} {toks : List Token} {names : List (List ℕ)} {d : Draft} {next : ℕ} → ItemsRead n text toks names d next
    → opens begins_item (drop next (symbols_of text toks)) ≡ false
    → run_module (length toks) (symbols_of text toks) ≡ Got (draft_shape names d) (drop next (symbols_of text toks))
items_close g apart = items_given g (many_close g.left apart)

pub items_run_out : {n : ℕ} {text : List ℕ} {toks : List Token} {names : List (List ℕ)} {d : Draft} {next : ℕ} → ItemsRead n text toks names d next → n ≡ zero
    → run_module (length toks) (symbols_of text toks) ≡ Got (draft_shape names d) (drop next (symbols_of text toks))
items_run_out g none = items_given g (many_run_out g.left none)

pub items_spotted : {n : ℕ} {text : List ℕ} {toks : List Token} {names : List (List ℕ)} {d : Draft} {next : ℕ} → ItemsRead n text toks names d next
    → AreSpots text (slice_range toks 0 next) (draft_shape names d) d.spots
items_spotted g = record { items = g.items; places = g.places; is_module = g.shape; pieces = g.pieces; spotted = g.spotted }

map_stops : {V W : Type 0} (h : V → W) (ss : List Symbol) (o : Out Symbol V) (e : Stop) → Stops ss e o → Stops ss e (then_out o (λ v rest. Got (h v) rest))
map_stops h ss o (WrongSymbol k) s = (let same = s.0 in rw same refl, s.1)
map_stops h ss o OutOfMemory s = tt

-- an item is wrong
pub items_stopped : {n : ℕ} {text : List ℕ} {toks : List Token} {names : List (List ℕ)} {d : Draft} {next : ℕ} → (m : ℕ) → ItemsRead n text toks names d next → n ≡ suc m
    → opens begins_item (drop next (symbols_of text toks)) ≡ true → (e : Stop) → Stops (symbols_of text toks) e (run_item (length toks) (drop next (symbols_of text toks)))
    → Stops (symbols_of text toks) e (run_module (length toks) (symbols_of text toks))
items_stopped {text = text} {toks = toks} m g e there stop h =
    map_stops module_of (symbols_of text toks) (run_many (length toks) begins_item (run_item (length toks)) (symbols_of text toks)) stop (many_stop m g.left e there stop h)
