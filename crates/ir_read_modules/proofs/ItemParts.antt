-- Parameters, signatures and items whose parts were read one after another.
use Rattle.std.proofs.Common.{◌≡◌, ℕ, Bool, true, ◌&&◌, List, [], ◌∷◌, length, map, Option, Vec, refl, sym, ◌∙◌, ap}
use Rattle.std.specs.Prelude.{option_map}
use Rattle.std.specs.List.{list_all}
use Rattle.std.specs.declared.alloc.Global.{Global}
use Rattle.grammar.specs.Language.{Mark}
use Rattle.grammar.specs.Reader.{Got, heads, run_maybe, run_one, run_seq, run_skip}
use Rattle.ir_lex.specs.Symbols.{Symbol}
use Rattle.ir_cursor.specs.Marks.{punct}
use Rattle.ir_tree.specs.NameTable.{Grows}
use Rattle.ir_tree.specs.Shape.{ParamShape}
use Rattle.ir_tree.specs.ShapeOf.{ty_shape, const_shape, name_shape, param_shape}
use Rattle.ir_tree.specs.Known.{ty_known, const_known, name_known, param_known, global_known, declare_known}
use Rattle.ir_tree.specs.declared.types.Ty.{Ty}
use Rattle.ir_tree.specs.declared.types.Const.{Const}
use Rattle.ir_tree.specs.declared.names.NameId.{NameId}
use Rattle.ir_tree.specs.declared.module.Param.{Param}
use Rattle.ir_tree.proofs.Grows.{and_left, and_right, and_both}
use Rattle.ir_tree.proofs.GrowsModule.{param_shape-append, param_known-more}
use Rattle.ir_tree.proofs.Table.{grows_on}
use Rattle.ir_grammar_consts.specs.Types.{run_ty}
use Rattle.ir_grammar_consts.specs.Constants.{run_const}
use Rattle.ir_grammar_insts.specs.Operands.{local_name, global_name}
use Rattle.ir_grammar_modules.specs.Items.{constancy, declare_word, global_of, parameter_of, run_declare_line, run_global_line, run_parameter, run_parameters, run_signature}
use Rattle.ir_read_consts.proofs.NamedItems.{Keeps, tys_keep}
use Rattle.ir_read_insts.proofs.ValueParts.{names_keep, stays_one, seq_read, seq_plain, map_read, skip_read}
use Rattle.ir_read_modules.specs.ItemShapes.{signature_shape, signature_known, global_item_shape, declare_item_shape}
use Rattle.ir_read_modules.specs.declared.items.Signature.{Signature}

pub params_keep : Keeps param_shape param_known
params_keep = record { same = param_shape-append; stays = param_known-more }

pub parameter_read : {old new : List (List ℕ)} → Grows old new → (n : ℕ) (ts q rest : List Symbol) (t : Ty) (name : Option NameId) → ty_known (length old) t ≡ true
    → run_ty n ts ≡ Got (ty_shape old t) q → run_maybe (heads local_name) (run_one local_name) q ≡ Got (option_map (name_shape new) name) rest
    → run_parameter n ts ≡ Got (param_shape new (record { ty = t; name = name })) rest
parameter_read g n ts q rest t name k e f =
    let name_run = run_maybe (heads local_name) (run_one local_name) in
    map_read parameter_of (run_seq (run_ty n) name_run) ts (seq_read tys_keep g (run_ty n) name_run ts t k e f)

pub signature_read : {one two new : List (List ℕ)} → Grows one two → Grows two new → (n : ℕ) (ts q s rest : List Symbol) (t : Ty) (x : NameId) (v : Vec Param Global)
    → ty_known (length one) t ≡ true → name_known (length two) x ≡ true
    → run_ty n ts ≡ Got (ty_shape one t) q → run_one global_name q ≡ Got (name_shape two x) s → run_parameters n s ≡ Got (map (param_shape new) v.items) rest
    → run_signature n ts ≡ Got (signature_shape new (record { ret = t; name = x; params = v })) rest
signature_read g h n ts q s rest t x v k l e f i =
    seq_read tys_keep (grows_on g h) (run_ty n) (run_seq (run_one global_name) (run_parameters n)) ts t k e
    (seq_read names_keep h (run_one global_name) (run_parameters n) q x l f i)

pub signature_known_of : {one two new : List (List ℕ)} → Grows one two → Grows two new → (t : Ty) (x : NameId) (v : Vec Param Global)
    → ty_known (length one) t ≡ true → name_known (length two) x ≡ true → list_all (param_known (length new)) v.items ≡ true
    → signature_known (length new) (record { ret = t; name = x; params = v }) ≡ true
signature_known_of g h t x v k l m = and_both (and_both (stays_one tys_keep (grows_on g h) t k) (stays_one names_keep h x l)) m

pub global_read : {one two new : List (List ℕ)} → Grows one two → Grows two new → (n : ℕ) (ts p q s u rest : List Symbol) (x : NameId) (equals : Mark) (b : Bool) (t : Ty) (c : Const)
    → name_known (length one) x ≡ true → ty_known (length two) t ≡ true
    → run_one global_name ts ≡ Got (name_shape one x) p → run_one (punct 61) p ≡ Got equals q → run_one constancy q ≡ Got b s
    → run_ty n s ≡ Got (ty_shape two t) u → run_const n u ≡ Got (const_shape new c) rest
    → run_global_line n ts ≡ Got (global_item_shape new (record { name = x; constant = b; ty = t; init = c })) rest
global_read g h n ts p q s u rest x equals b t c k l e f i j m =
    let value = run_seq (run_ty n) (run_const n) in
    let kind = run_seq (run_one constancy) value in
    let inner = run_skip (punct 61) kind in
    map_read global_of (run_seq (run_one global_name) inner) ts
    (seq_read names_keep (grows_on g h) (run_one global_name) inner ts x k e
    (skip_read (punct 61) kind p f (seq_plain (run_one constancy) value q i (seq_read tys_keep h (run_ty n) (run_const n) s t l j m))))

pub global_known_of : {one two new : List (List ℕ)} → Grows one two → Grows two new → (x : NameId) (b : Bool) (t : Ty) (c : Const)
    → name_known (length one) x ≡ true → ty_known (length two) t ≡ true → const_known (length new) c ≡ true
    → global_known (length new) (record { name = x; constant = b; ty = t; init = c }) ≡ true
global_known_of g h x b t c k l m = and_both (and_both (stays_one names_keep (grows_on g h) x k) (stays_one tys_keep h t l)) m

-- the types of parameters, before they are seen under the names or after
types_shape : (names : List (List ℕ)) (xs : List Param) → map (λ (p : ParamShape). p.ty) (map (param_shape names) xs) ≡ map (ty_shape names) (map (λ (p : Param). p.ty) xs)
types_shape names [] = refl
types_shape names (x ∷ xs) = ap (λ z. ty_shape names x.ty ∷ z) (types_shape names xs)

types_known : (count : ℕ) (xs : List Param) → list_all (param_known count) xs ≡ true → list_all (ty_known count) (map (λ (p : Param). p.ty) xs) ≡ true
types_known count [] h = refl
types_known count (x ∷ xs) h = and_both (and_left _ _ (and_left _ _ h)) (types_known count xs (and_right _ _ h))

pub declare_read : (names : List (List ℕ)) (n : ℕ) (ts q rest : List Symbol) (word : Mark) (x : Signature) (types : Vec Ty Global)
    → types.items ≡ map (λ (p : Param). p.ty) x.params.items → run_one declare_word ts ≡ Got word q → run_signature n q ≡ Got (signature_shape names x) rest
    → run_declare_line n ts ≡ Got (declare_item_shape names (record { name = x.name; ret = x.ret; params = types })) rest
declare_read names n ts q rest word x types same e f =
    let row : map (λ (p : ParamShape). p.ty) (map (param_shape names) x.params.items) ≡ map (ty_shape names) types.items =
    types_shape names x.params.items ∙ ap (map (ty_shape names)) (sym same) in
    rw (e, f) (rw row refl)

pub declare_known_of : (count : ℕ) (x : Signature) (types : Vec Ty Global) → types.items ≡ map (λ (p : Param). p.ty) x.params.items → signature_known count x ≡ true
    → declare_known count (record { name = x.name; ret = x.ret; params = types }) ≡ true
declare_known_of count x types same h =
    let both : (ty_known count x.ret && name_known count x.name) ≡ true = and_left (ty_known count x.ret && name_known count x.name) _ h in
    let ret : ty_known count x.ret ≡ true = and_left (ty_known count x.ret) (name_known count x.name) both in
    let name : name_known count x.name ≡ true = and_right (ty_known count x.ret) (name_known count x.name) both in
    let head : (name_known count x.name && ty_known count x.ret) ≡ true = and_both name ret in
    rw same (and_both head (types_known count x.params.items (and_right _ _ h)))
