-- Terminators and cases whose parts were read one after another.
use Rattle.std.proofs.Common.{◌≡◌, ℕ, ℤ, true, List, length, map, Vec}
use Rattle.std.specs.List.{list_all}
use Rattle.std.specs.declared.alloc.Global.{Global}
use Rattle.grammar.specs.Language.{Mark}
use Rattle.grammar.specs.Reader.{Got, run_one, run_seq, run_skip, run_until}
use Rattle.ir_lex.specs.Symbols.{Symbol, number_in}
use Rattle.ir_cursor.specs.Marks.{punct}
use Rattle.ir_tree.specs.NameTable.{Grows}
use Rattle.ir_tree.specs.ShapeOf.{ty_shape, name_shape, ty_val_shape, case_shape, body_shape}
use Rattle.ir_tree.specs.Known.{ty_known, name_known, ty_val_known, case_known, body_known}
use Rattle.ir_tree.specs.declared.types.Ty.{Ty}
use Rattle.ir_tree.specs.declared.names.NameId.{NameId}
use Rattle.ir_tree.specs.declared.module.TyVal.{TyVal}
use Rattle.ir_tree.specs.declared.module.Case.{Case}
use Rattle.ir_tree.specs.declared.module.Body.TheVariants as body
use Rattle.ir_tree.proofs.Grows.{and_both}
use Rattle.ir_tree.proofs.Table.{grows_on}
use Rattle.ir_grammar_consts.specs.Types.{run_ty}
use Rattle.ir_grammar_insts.specs.Operands.{run_ty_val}
use Rattle.ir_grammar_insts.specs.Terminators.{case_of, branch_of, switch_of, run_more_target, run_two_ways, run_switch, run_switch_case}
use Rattle.ir_read_consts.proofs.NamedItems.{tys_keep}
use Rattle.ir_read_insts.proofs.ValueParts.{names_keep, ty_vals_keep, stays_one, seq_read, seq_plain, map_read, skip_read}

pub case_read : {old new : List (List ℕ)} → Grows old new → (n : ℕ) (ts q s rest : List Symbol) (t : Ty) (z : ℤ) (to : NameId) → ty_known (length old) t ≡ true
    → run_ty n ts ≡ Got (ty_shape old t) q → run_one number_in q ≡ Got z s → run_more_target s ≡ Got (name_shape new to) rest
    → run_switch_case n ts ≡ Got (case_shape new (record { ty = t; value = z; to = to })) rest
case_read g n ts q s rest t z to k e f h =
    map_read case_of (run_seq (run_ty n) (run_seq (run_one number_in) run_more_target)) ts
    (seq_read tys_keep g (run_ty n) (run_seq (run_one number_in) run_more_target) ts t k e (seq_plain (run_one number_in) run_more_target q f h))

pub branch_read : {one two new : List (List ℕ)} → Grows one two → Grows two new → (n : ℕ) (ts q s rest : List Symbol) (c : TyVal) (x y : NameId)
    → ty_val_known (length one) c ≡ true → name_known (length two) x ≡ true
    → run_ty_val n ts ≡ Got (ty_val_shape one c) q → run_more_target q ≡ Got (name_shape two x) s → run_more_target s ≡ Got (name_shape new y) rest
    → run_two_ways n ts ≡ Got (body_shape new (body.Branch c x y)) rest
branch_read g h n ts q s rest c x y k l e f i =
    map_read branch_of (run_seq (run_ty_val n) (run_seq run_more_target run_more_target)) ts
    (seq_read ty_vals_keep (grows_on g h) (run_ty_val n) (run_seq run_more_target run_more_target) ts c k e
    (seq_read names_keep h run_more_target run_more_target q x l f i))

pub branch_known : {one two new : List (List ℕ)} → Grows one two → Grows two new → (c : TyVal) (x y : NameId)
    → ty_val_known (length one) c ≡ true → name_known (length two) x ≡ true → name_known (length new) y ≡ true
    → body_known (length new) (body.Branch c x y) ≡ true
branch_known g h c x y k l m = and_both (and_both (stays_one ty_vals_keep (grows_on g h) c k) (stays_one names_keep h x l)) m

pub switch_read : {one two new : List (List ℕ)} → Grows one two → Grows two new → (n : ℕ) (ts q s u rest : List Symbol) (v : TyVal) (other : NameId) (bracket : Mark) (cases : Vec Case Global)
    → ty_val_known (length one) v ≡ true → name_known (length two) other ≡ true
    → run_ty_val n ts ≡ Got (ty_val_shape one v) q → run_more_target q ≡ Got (name_shape two other) s → run_one (punct 91) s ≡ Got bracket u
    → run_until n (punct 93) (run_switch_case n) u ≡ Got (map (case_shape new) cases.items) rest
    → run_switch n ts ≡ Got (body_shape new (body.Switch v other cases)) rest
switch_read g h n ts q s u rest v other bracket cases k l e f i j =
    let inner = run_skip (punct 91) (run_until n (punct 93) (run_switch_case n)) in
    map_read switch_of (run_seq (run_ty_val n) (run_seq run_more_target inner)) ts
    (seq_read ty_vals_keep (grows_on g h) (run_ty_val n) (run_seq run_more_target inner) ts v k e
    (seq_read names_keep h run_more_target inner q other l f (skip_read (punct 91) (run_until n (punct 93) (run_switch_case n)) s i j)))

pub switch_known : {one two new : List (List ℕ)} → Grows one two → Grows two new → (v : TyVal) (other : NameId) (cases : Vec Case Global)
    → ty_val_known (length one) v ≡ true → name_known (length two) other ≡ true → list_all (case_known (length new)) cases.items ≡ true
    → body_known (length new) (body.Switch v other cases) ≡ true
switch_known g h v other cases k l m = and_both (and_both (stays_one ty_vals_keep (grows_on g h) v k) (stays_one names_keep h other l)) m
