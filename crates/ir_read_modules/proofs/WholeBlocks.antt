-- A Label and the lines after it, read one after the other: the tokens of the one, and then those of the
-- others.
use Rattle.std.proofs.Common.{◌≡◌, ℕ, ◌+◌, ◌≤◌, true, List, length, map, drop, Option, Some, subst, arith, Vec}
use Rattle.std.specs.Prelude.{option_map}
use Rattle.std.specs.List.{slice_range}
use Rattle.std.specs.declared.alloc.Global.{Global}
use Rattle.grammar.specs.Language.{one, maybe}
use Rattle.grammar.specs.Reader.{Got, heads, run_one, run_maybe}
use Rattle.ir_lex.specs.Symbols.{symbols_of}
use Rattle.ir_lex.specs.declared.token.Token.{Token}
use Rattle.ir_tree.specs.NameTable.{Grows}
use Rattle.ir_tree.specs.Shape.{InstShape}
use Rattle.ir_tree.specs.ShapeOf.{name_shape, inst_shape, block_shape}
use Rattle.ir_tree.specs.Known.{result_known}
use Rattle.ir_tree.specs.declared.names.NameId.{NameId}
use Rattle.ir_tree.specs.declared.module.Inst.{Inst}
use Rattle.ir_read_consts.proofs.NamedItems.{grows_length}
use Rattle.ir_grammar_modules.specs.Blocks.{label_name}
use Rattle.ir_read_modules.specs.Spots.{InPieces, IsLineAt, IsEntryAt, IsBlockAt}
use Rattle.ir_read_modules.proofs.LineParts.{result_kept}
use Rattle.ir_read_modules.proofs.Sound.{sound_one, sound_maybe}
use Rattle.ir_read_modules.proofs.Pieces.{slices_joined, slice_spelled}

-- where the lines of a block begin, after what was read of its Label
spots_after : (text : List ℕ) (toks : List Token) (at first end : ℕ) (label : Option (List ℕ)) (vs : List InstShape) (spots : List ℕ) → at ≤ first → first ≤ end
    → maybe (one label_name) (symbols_of text (slice_range toks at first)) label → InPieces (IsLineAt text) (slice_range toks first end) vs spots
    → IsEntryAt text (slice_range toks at end) (label, vs) spots
spots_after text toks at first end label vs spots h k word lines =
    (slice_range toks at first, slice_range toks first end, slices_joined toks at first end h k, word, lines)

goes_on : {old new : List (List ℕ)} (at next : ℕ) → Grows old new → length new + at ≤ length old + next → at ≤ next
goes_on at next g h = omega (arith, h, grows_length g)

pub entry_spots : {old mid new : List (List ℕ)} → Grows old mid → Grows mid new → (text : List ℕ) (toks : List Token) (at first end : ℕ) (o : Option NameId) (vs : List InstShape) (spots : List ℕ)
    → result_known (length mid) o ≡ true → at ≤ length (symbols_of text toks) → first ≤ length (symbols_of text toks)
    → length mid + at ≤ length old + first → length new + first ≤ length mid + end
    → run_maybe (heads label_name) (run_one label_name) (drop at (symbols_of text toks)) ≡ Got (option_map (name_shape mid) o) (drop first (symbols_of text toks))
    → InPieces (IsLineAt text) (slice_range toks first end) vs spots → IsEntryAt text (slice_range toks at end) (option_map (name_shape new) o, vs) spots
entry_spots {mid = mid} g j text toks at first end o vs spots known h k count next read lines =
    let word = slice_spelled (sound_maybe (heads label_name) (sound_one label_name)) text toks at first (option_map (name_shape mid) o) h k read in
    spots_after text toks at first end _ vs spots (goes_on at first g count) (goes_on first end j next)
    (subst (λ z. maybe (one label_name) (symbols_of text (slice_range toks at first)) z) (result_kept j o known) word) lines

pub block_spots : {old mid new : List (List ℕ)} → Grows old mid → Grows mid new → (text : List ℕ) (toks : List Token) (at first end : ℕ) (id : NameId) (v : Vec Inst Global) (spots : List ℕ)
    → at ≤ length (symbols_of text toks) → first ≤ length (symbols_of text toks) → length mid + at ≤ length old + first → length new + first ≤ length mid + end
    → run_one label_name (drop at (symbols_of text toks)) ≡ Got (name_shape mid id) (drop first (symbols_of text toks))
    → InPieces (IsLineAt text) (slice_range toks first end) (map (inst_shape new) v.items) spots
    → IsBlockAt text (slice_range toks at end) (block_shape new (record { name = id; insts = v })) spots
block_spots {mid = mid} {new = new} g j text toks at first end id v spots h k count next read lines =
    let word = slice_spelled (sound_one label_name) text toks at first (name_shape mid id) h k read in
    (Some (name_shape mid id), spots_after text toks at first end (Some (name_shape mid id)) (map (inst_shape new) v.items) spots (goes_on at first g count) (goes_on first end j next) word lines)
