-- The blocks of a function: those read so far are what the reader on symbols gives, and their pieces stand
-- one after another.
use Rattle.std.proofs.Common.{◌≡◌, ℕ, suc, ◌+◌, ◌≤◌, Bool, true, false, List, [], ◌∷◌, ◌++◌, length, map, drop, slice_range, Option, option_map, refl, sym, ◌∙◌, ap, subst, arith, append_assoc, Vec}
use Rattle.std.specs.List.{list_all}
use Rattle.std.specs.declared.alloc.Global.{Global}
use Rattle.std.proofs.lemmas.List.{map-append}
use Rattle.grammar.specs.Language.{one, mark}
use Rattle.grammar.specs.Reader.{Out, Got, Wrong, Reader, then_out, heads, opens, run_one, run_skip, run_map, run_seq, run_up_to, run_until}
use Rattle.ir_lex.specs.Symbols.{Symbol, symbols_of}
use Rattle.ir_lex.specs.declared.token.Token.{Token}
use Rattle.ir_cursor.specs.Marks.{punct}
use Rattle.ir_tree.specs.NameTable.{Grows}
use Rattle.ir_tree.specs.Shape.{TyShape, InstShape, BlockShape, ParamShape, FunctionShape}
use Rattle.ir_tree.specs.ShapeOf.{ty_shape, name_shape, inst_shape, block_shape, param_shape, function_shape}
use Rattle.ir_tree.specs.Known.{ty_known, name_known, inst_known, block_known, param_known, function_known}
use Rattle.ir_tree.specs.declared.types.Ty.{Ty}
use Rattle.ir_tree.specs.declared.names.NameId.{NameId}
use Rattle.ir_tree.specs.declared.module.Inst.{Inst}
use Rattle.ir_tree.specs.declared.module.Block.{Block}
use Rattle.ir_tree.specs.declared.module.Param.{Param}
use Rattle.ir_tree.proofs.Grows.{and_both, list_all-weaker}
use Rattle.ir_tree.proofs.Table.{grows_on}
use Rattle.ir_tree.proofs.GrowsModule.{inst_shape-append, inst_known-more, block_shape-append, block_known-more, param_shape-append, param_known-more}
use Rattle.ir_grammar_modules.specs.Blocks.{FirstBlock, run_block, run_first_block}
use Rattle.ir_grammar_insts.specs.Operands.{local_name, global_name}
use Rattle.ir_grammar_modules.specs.Items.{ItemShape, parameter_of, parameter, run_parameter, function_item, define_word, first_name, blocks_of, run_blocks, Signature, signature, run_signature, function_of, run_function}
use Rattle.ir_read_consts.proofs.NamedItems.{Keeps, NamedUntil, tys_keep, until_named_start, shapes_kept, shapes_more, grows_length}
use Rattle.ir_read_insts.proofs.ValueParts.{names_keep, kept_one, stays_one, seq_plain, map_read, skip_read, up_to_read, until_named_next}
use Rattle.ir_read_modules.specs.Spots.{InPieces, IsEntryAt, IsBlockAt}
use Rattle.ir_read_modules.proofs.Sound.{Sound, sound_one, sound_skip, sound_map, sound_seq, sound_maybe, sound_listed, sound_up_to}
use Rattle.ir_read_modules.proofs.SoundLines.{sound_ty}
use Rattle.ir_read_modules.proofs.Pieces.{pieces_more, slices_joined, no_slice, slice_spelled}
use Rattle.ir_parse.specs.Spots.{IsBodyAt, IsFunctionAt}

pub blocks_keep : Keeps block_shape block_known
blocks_keep = record { same = block_shape-append; stays = block_known-more }

abbrev pub lists_in : List (Vec ℕ Global) → List (List ℕ)
lists_in spots = map (λ v. v.items) spots

pub record BlocksRead (n budget : ℕ) (text : List ℕ) (toks : List Token) (old names : List (List ℕ)) (blocks : List Block) (spots : List (Vec ℕ Global)) (at next : ℕ) : Type 0 where
  pub named : NamedUntil block_shape block_known n (punct 125) (run_block budget) (run_until budget (punct 125) (run_block budget) (drop at (symbols_of text toks))) old names blocks (symbols_of text toks) at next
  pub pieces : InPieces (IsBlockAt text) (slice_range toks at next) (map (block_shape names) blocks) (lists_in spots)
  pub after : at ≤ next

pub blocks_start : (budget : ℕ) (text : List ℕ) (toks : List Token) (names : List (List ℕ)) (at : ℕ) → at ≤ length (symbols_of text toks)
    → BlocksRead budget budget text toks names names [] [] at at
blocks_start budget text toks names at h = record {
  named = until_named_start block_shape block_known budget (punct 125) (run_block budget) names (symbols_of text toks) at h;
  pieces = no_slice toks at;
  after = omega arith;
}

-- what is read from a number on ends after it
pub grown_after : {old new : List (List ℕ)} → Grows old new → (at last : ℕ) → length new + at ≤ length old + last → at ≤ last
grown_after g at last h = omega (arith, grows_length g)

pub blocks_next : {n budget : ℕ} {text : List ℕ} {toks : List Token} {old names : List (List ℕ)} {blocks : List Block} {spots : List (Vec ℕ Global)} {at next : ℕ} → (m : ℕ)
    → BlocksRead n budget text toks old names blocks spots at next → n ≡ suc m → opens (heads (punct 125)) (drop next (symbols_of text toks)) ≡ false
    → {new : List (List ℕ)} → Grows names new → (b : Block) (lines : Vec ℕ Global) → block_known (length new) b ≡ true → (last : ℕ) → length new + next ≤ length names + last
    → run_block budget (drop next (symbols_of text toks)) ≡ Got (block_shape new b) (drop last (symbols_of text toks)) → last ≤ length (symbols_of text toks)
    → IsBlockAt text (slice_range toks next last) (block_shape new b) lines.items
    → BlocksRead m budget text toks old new (blocks ++ b ∷ []) (spots ++ lines ∷ []) at last
blocks_next {text = text} {toks = toks} {names = names} {blocks = blocks} {spots = spots} {at = at} {next = next} m g e apart {new = new} grows b lines fits last count read le spotted =
    let behind : next ≤ last = grown_after grows next last count in
    let more = pieces_more (IsBlockAt text) (map (block_shape names) blocks) (lists_in spots) (slice_range toks at next) (slice_range toks next last) (block_shape new b) lines.items g.pieces spotted in
    let shapes = subst (λ z. InPieces (IsBlockAt text) (slice_range toks at next ++ slice_range toks next last) z (lists_in spots ++ lines.items ∷ [])) (shapes_more blocks_keep grows blocks g.named.all_known b) more in
    let lists = subst (λ z. InPieces (IsBlockAt text) (slice_range toks at next ++ slice_range toks next last) (map (block_shape new) (blocks ++ b ∷ [])) z) (sym (map-append (λ (v : Vec ℕ Global). v.items) spots (lines ∷ []))) shapes in
    record {
      named = until_named_next blocks_keep m g.named e apart grows b fits last count read le;
      pieces = subst (λ z. InPieces (IsBlockAt text) z (map (block_shape new) (blocks ++ b ∷ [])) (lists_in (spots ++ lines ∷ []))) (sym (slices_joined toks at next last g.after behind)) lists;
      after = let a : at ≤ next = g.after in omega arith;
    }

pub blocks_closed : {n budget : ℕ} {text : List ℕ} {toks : List Token} {old names : List (List ℕ)} {blocks : List Block} {spots : List (Vec ℕ Global)} {at next : ℕ}
    → BlocksRead n budget text toks old names blocks spots at next → (end : ℕ) → run_one (punct 125) (drop next (symbols_of text toks)) ≡ Got mark (drop end (symbols_of text toks))
    → end ≤ length (symbols_of text toks) → end ≡ next + 1
    → IsBodyAt text (slice_range toks at end) (map (block_shape names) blocks) (lists_in spots)
blocks_closed {text = text} {toks = toks} {at = at} {next = next} g end read le one_more = record {
  body = slice_range toks at next;
  close = slice_range toks next end;
  cut = slices_joined toks at next end g.after (omega arith);
  blocks = g.pieces;
  closed = slice_spelled (sound_one (punct 125)) text toks next end mark (omega arith) le read;
}

insts_keep : Keeps inst_shape inst_known
insts_keep = record { same = inst_shape-append; stays = inst_known-more }

params_keep : Keeps param_shape param_known
params_keep = record { same = param_shape-append; stays = param_known-more }

pub all_stay : {A V : Type 0} {shape : List (List ℕ) → A → V} {known : ℕ → A → Bool} → Keeps shape known → {old new : List (List ℕ)} → Grows old new
    → (xs : List A) → list_all (known (length old)) xs ≡ true → list_all (known (length new)) xs ≡ true
all_stay {known = known} keeps {old = old} {new = new} g xs h =
    list_all-weaker (known (length old)) (known (length new)) (λ x k. keeps.stays (length old) (length new) (grows_length g) x k) xs h

-- the first block, once it is named: its label and lines were read under a shorter table, and its name was found under one in between
pub record Named (zero one two three : List (List ℕ)) (params : List Param) (label : Option NameId) (insts : List Inst) (id : NameId) : Type 0 where
  pub entry : Grows zero one
  pub naming : Grows one two
  pub more : Grows two three
  pub params_known : list_all (param_known (length zero)) params ≡ true
  pub insts_known : list_all (inst_known (length one)) insts ≡ true
  pub id_known : name_known (length two) id ≡ true
  pub name : name_shape two id ≡ first_name (map (param_shape one) params) (option_map (name_shape one) label)

pub first_known : {zero one two three : List (List ℕ)} {params : List Param} {label : Option NameId} {id : NameId} → (insts : Vec Inst Global)
    → Named zero one two three params label insts.items id → block_known (length three) (record { name = id; insts = insts }) ≡ true
first_known {id = id} insts g =
    and_both (stays_one names_keep g.more id g.id_known) (all_stay insts_keep (grows_on g.naming g.more) insts.items g.insts_known)

first_shape : {zero one two three : List (List ℕ)} {params : List Param} {label : Option NameId} {id : NameId} → (insts : Vec Inst Global)
    → Named zero one two three params label insts.items id
    → ◌≡◌ {A = BlockShape} (record { name = first_name (map (param_shape zero) params) (option_map (name_shape one) label); insts = map (inst_shape one) insts.items })
    (block_shape three (record { name = id; insts = insts }))
first_shape {zero = zero} {one = one} {two = two} {three = three} {params = params} {label = label} {id = id} insts g =
    let row : map (param_shape one) params ≡ map (param_shape zero) params = shapes_kept params_keep g.entry params g.params_known in
    let lines : map (inst_shape three) insts.items ≡ map (inst_shape one) insts.items = shapes_kept insts_keep (grows_on g.naming g.more) insts.items g.insts_known in
    let name : first_name (map (param_shape zero) params) (option_map (name_shape one) label) ≡ name_shape three id =
    ap (λ z. first_name z (option_map (name_shape one) label)) (sym row) ∙ sym g.name ∙ kept_one names_keep g.more id g.id_known in
    let made : List ℕ → List InstShape → BlockShape = λ n is. record { name = n; insts = is } in
    ap (λ z. made z (map (inst_shape one) insts.items)) name ∙ ap (λ z. made (name_shape three id) z) (sym lines)

pub blocks_read : {zero one two three : List (List ℕ)} {params : List Param} {label : Option NameId} {id : NameId} → (insts : Vec Inst Global) (more : List Block)
    → Named zero one two three params label insts.items id → (n : ℕ) (ts q rest : List Symbol)
    → run_first_block n ts ≡ Got (option_map (name_shape one) label, map (inst_shape one) insts.items) q
    → run_until n (punct 125) (run_block n) q ≡ Got (map (block_shape three) more) rest
    → run_map (blocks_of (map (param_shape zero) params)) (run_blocks n) ts ≡ Got (map (block_shape three) (record { name = id; insts = insts } ∷ more)) rest
blocks_read {zero = zero} {one = one} {three = three} {params = params} {label = label} {id = id} insts more g n ts q rest e f =
    map_read (blocks_of (map (param_shape zero) params)) (run_blocks n) ts (seq_plain (run_first_block n) (run_until n (punct 125) (run_block n)) ts e f)
    ∙ ap (λ z. Got (z ∷ map (block_shape three) more) rest) (first_shape insts g)

-- a block's lines begin where they did, whatever shape its parts have under another table
pub body_joined : (text : List ℕ) (toks : List Token) (at mid end : ℕ) (entry : FirstBlock) (first : BlockShape) (more : List BlockShape) (lines : List ℕ) (spots : List (List ℕ))
    → at ≤ mid → mid ≤ end → IsEntryAt text (slice_range toks at mid) entry lines → entry.1 ≡ first.insts → IsBodyAt text (slice_range toks mid end) more spots
    → IsBodyAt text (slice_range toks at end) (first ∷ more) (lines ∷ spots)
body_joined text toks at mid end entry first more lines spots h k spotted same g = record {
  body = slice_range toks at mid ++ g.body;
  close = g.close;
  cut = slices_joined toks at mid end h k ∙ ap (λ z. slice_range toks at mid ++ z) g.cut ∙ sym (append_assoc (slice_range toks at mid) g.body g.close);
  blocks = (slice_range toks at mid, g.body, refl, (entry.0, subst (λ z. IsEntryAt text (slice_range toks at mid) (entry.0, z) lines) same spotted), g.blocks);
  closed = g.closed;
}

-- a function that was read: its signature, and then its body
pub function_read : {old new : List (List ℕ)} → Grows old new → (n : ℕ) (ts p q r rest : List Symbol) (ret : Ty) (name : NameId) (params : Vec Param Global) (blocks : Vec Block Global)
    → ty_known (length old) ret ≡ true → name_known (length old) name ≡ true → list_all (param_known (length old)) params.items ≡ true
    → run_one define_word ts ≡ Got mark p → run_signature n p ≡ Got (ty_shape old ret, (name_shape old name, map (param_shape old) params.items)) q
    → run_one (punct 123) q ≡ Got mark r → run_map (blocks_of (map (param_shape old) params.items)) (run_blocks n) r ≡ Got (map (block_shape new) blocks.items) rest
    → run_function n ts ≡ Got (function_item (function_shape new (record { name = name; ret = ret; params = params; blocks = blocks }))) rest
function_read {old = old} {new = new} g n ts p q r rest ret name params blocks known_ret known_name known_params e f h i =
    let body = map_got (blocks_of (map (param_shape old) params.items)) (run_blocks n) r rest (map (block_shape new) blocks.items) i in
    let made : TyShape → List ℕ → List ParamShape → List BlockShape → ItemShape = λ t x ps bs. function_item (record { name = x; ret = t; params = ps; blocks = bs }) in
    let row = map (param_shape old) params.items in
    skip_read define_word (run_map function_of (run_seq (run_signature n) (run_skip (punct 123) (run_blocks n)))) ts e
    (map_read function_of (run_seq (run_signature n) (run_skip (punct 123) (run_blocks n))) p
    (seq_plain (run_signature n) (run_skip (punct 123) (run_blocks n)) p f (skip_read (punct 123) (run_blocks n) q h body.1)))
    ∙ ap (λ z. Got (made (ty_shape old ret) (name_shape old name) row z) rest) body.2
    ∙ ap (λ z. Got (made z (name_shape old name) row (map (block_shape new) blocks.items)) rest) (kept_one tys_keep g ret known_ret)
    ∙ ap (λ z. Got (made (ty_shape new ret) z row (map (block_shape new) blocks.items)) rest) (kept_one names_keep g name known_name)
    ∙ ap (λ z. Got (made (ty_shape new ret) (name_shape new name) z (map (block_shape new) blocks.items)) rest) (sym (shapes_kept params_keep g params.items known_params))
  where
    map_out : {V W : Type 0} (h : V → W) (o : Out Symbol V) (rest : List Symbol) (w : W) → then_out o (λ v more. Got (h v) more) ≡ Got w rest
        → (v : V) × (o ≡ Got v rest) × (h v ≡ w)
    map_out h (Got v more) rest w e =
        let value : h v ≡ w = cc in
        let left : more ≡ rest = cc in
        (v, ap (λ z. Got v z) left, value)
    map_out h (Wrong more) rest w e = cc

    map_got : {V W : Type 0} (h : V → W) (reader : Reader Symbol V) (ts rest : List Symbol) (w : W) → run_map h reader ts ≡ Got w rest
        → (v : V) × (reader ts ≡ Got v rest) × (h v ≡ w)
    map_got h reader ts rest w e = map_out h (reader ts) rest w e

pub function_known_of : {old new : List (List ℕ)} → Grows old new → (ret : Ty) (name : NameId) (params : Vec Param Global) (blocks : Vec Block Global)
    → ty_known (length old) ret ≡ true → name_known (length old) name ≡ true → list_all (param_known (length old)) params.items ≡ true
    → list_all (block_known (length new)) blocks.items ≡ true
    → function_known (length new) (record { name = name; ret = ret; params = params; blocks = blocks }) ≡ true
function_known_of g ret name params blocks known_ret known_name known_params known_blocks =
    and_both (and_both (and_both (stays_one names_keep g name known_name) (stays_one tys_keep g ret known_ret)) (all_stay params_keep g params.items known_params)) known_blocks

sound_parameter : (n : ℕ) → Sound parameter (run_parameter n)
sound_parameter n = sound_map parameter_of (sound_seq (sound_ty n) (sound_maybe (heads local_name) (sound_one local_name)))

pub sound_signature : (n : ℕ) → Sound signature (run_signature n)
sound_signature n = sound_seq (sound_ty n) (sound_seq (sound_one global_name) (sound_skip (punct 40) (sound_listed n (punct 44) (punct 41) (sound_parameter n))))

-- the tokens of a function
pub function_spotted : (text : List ℕ) (toks : List Token) (n at p q r end : ℕ) (signed : Signature) (f : FunctionShape) (spots : List (List ℕ))
    → at ≤ length (symbols_of text toks) → r ≤ length (symbols_of text toks) → at ≤ r → r ≤ end
    → run_one define_word (drop at (symbols_of text toks)) ≡ Got mark (drop p (symbols_of text toks))
    → run_signature n (drop p (symbols_of text toks)) ≡ Got signed (drop q (symbols_of text toks))
    → run_one (punct 123) (drop q (symbols_of text toks)) ≡ Got mark (drop r (symbols_of text toks))
    → IsBodyAt text (slice_range toks r end) f.blocks spots → IsFunctionAt text (slice_range toks at end) f spots
function_spotted text toks n at p q r end signed fn spots low high h k e f g body = record {
  head = slice_range toks at r;
  rest = slice_range toks r end;
  cut = slices_joined toks at r end h k;
  signed = signed;
  opened = slice_spelled (sound_skip define_word (sound_up_to (punct 123) (sound_signature n))) text toks at r signed low high
      (skip_read define_word (run_up_to (punct 123) (run_signature n)) (drop at (symbols_of text toks)) e (up_to_read (punct 123) (run_signature n) (drop p (symbols_of text toks)) f g));
  body = body;
}

-- lines that were read under a shorter table
pub insts_kept : {old new : List (List ℕ)} → Grows old new → (insts : Vec Inst Global) → list_all (inst_known (length old)) insts.items ≡ true
    → map (inst_shape old) insts.items ≡ map (inst_shape new) insts.items
insts_kept g insts h = sym (shapes_kept insts_keep g insts.items h)
