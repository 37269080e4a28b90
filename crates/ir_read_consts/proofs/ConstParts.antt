-- Parts of constants that were read one after another: the names grow in between, and what was read before keeps its shape.
use Rattle.std.proofs.Common.{◌≡◌, ℕ, Bool, true, List, length, map, sym, ◌∙◌, ap, Vec}
use Rattle.std.specs.List.{list_all}
use Rattle.std.specs.declared.alloc.Global.{Global}
use Rattle.grammar.specs.Language.{Mark}
use Rattle.grammar.specs.Reader.{Got, Reader, run_one, run_skip, run_until}
use Rattle.ir_lex.specs.Symbols.{Symbol}
use Rattle.ir_cursor.specs.Marks.{punct}
use Rattle.ir_tree.specs.NameTable.{Grows}
use Rattle.ir_tree.specs.Shape.{TyShape, ConstShape, TypedShape, typed}
use Rattle.ir_tree.specs.ShapeOf.{ty_shape, const_shape, typed_shape, const_step, typed_step}
use Rattle.ir_tree.specs.Known.{ty_known, const_known, typed_known, const_known_step, typed_known_step}
use Rattle.ir_tree.specs.declared.types.Ty.{Ty}
use Rattle.ir_tree.specs.declared.types.Const.{Const}
use Rattle.ir_tree.specs.declared.types.Const.TheOpen as constant
use Rattle.ir_tree.specs.declared.types.Const.TheFolds.{fold-roll-Typed}
use Rattle.ir_tree.specs.declared.types.Typed.{Typed, roll-Typed}
use Rattle.ir_tree.proofs.Grows.{and_both}
use Rattle.ir_grammar_consts.specs.Types.{run_ty}
use Rattle.ir_grammar_consts.specs.Constants.{Operands as OperandShapes, run_typed_const, run_operands}
use Rattle.ir_read_consts.specs.ConstOperands.{operands_shape, operands_known}
use Rattle.ir_read_consts.proofs.NamedItems.{Keeps, tys_keep, typed_keep, grows_length}

kept_one : {A V : Type 0} {shape : List (List ℕ) → A → V} {known : ℕ → A → Bool} → Keeps shape known → {old new : List (List ℕ)} → Grows old new
    → (x : A) → known (length old) x ≡ true → shape old x ≡ shape new x
kept_one {shape = shape} keeps {old = old} g x k = sym (ap (λ z. shape z x) g.kept ∙ keeps.same old g.more x k)

stays_one : {A V : Type 0} {shape : List (List ℕ) → A → V} {known : ℕ → A → Bool} → Keeps shape known → {old new : List (List ℕ)} → Grows old new
    → (x : A) → known (length old) x ≡ true → known (length new) x ≡ true
stays_one keeps {old = old} {new = new} g x k = keeps.stays (length old) (length new) (grows_length g) x k

pub typed_known_of : {old new : List (List ℕ)} → Grows old new → (t : Ty) (c : Const) → ty_known (length old) t ≡ true → const_known (length new) c ≡ true
    → typed_known (length new) (roll-Typed record { ty = t; value = c }) ≡ true
typed_known_of {new = new} g t c h k =
    let layer : constant.Typed-F Const Typed = record { ty = t; value = c } in
    fold-roll-Typed Bool Bool (const_known_step (length new)) (typed_known_step (length new)) layer ∙ and_both (stays_one tys_keep g t h) k

pub typed_read : {old new : List (List ℕ)} → Grows old new → (n : ℕ) (r : Reader Symbol ConstShape) (ts q rest : List Symbol) (t : Ty) (c : Const) → ty_known (length old) t ≡ true
    → run_ty n ts ≡ Got (ty_shape old t) q → r q ≡ Got (const_shape new c) rest
    → run_typed_const n r ts ≡ Got (typed_shape new (roll-Typed record { ty = t; value = c })) rest
typed_read {new = new} g n r ts q rest t c h e f =
    let layer : constant.Typed-F Const Typed = record { ty = t; value = c } in
    let shape : typed_shape new (roll-Typed layer) ≡ typed (ty_shape new t) (const_shape new c) = fold-roll-Typed ConstShape TypedShape (const_step new) (typed_step new) layer in
    rw (e, f) (ap (λ z. Got (typed z (const_shape new c)) rest) (kept_one tys_keep g t h) ∙ ap (λ z. Got z rest) (sym shape))

pub operands_known_of : {one two new : List (List ℕ)} → Grows one two → Grows two new → (t : Ty) (b : Typed) (v : Vec Typed Global) → ty_known (length one) t ≡ true
    → typed_known (length two) b ≡ true → list_all (typed_known (length new)) v.items ≡ true
    → operands_known (length new) (record { ty = t; base = b; indices = v }) ≡ true
operands_known_of g h t b v k l m =
    and_both (and_both (stays_one tys_keep h t (stays_one tys_keep g t k)) (stays_one typed_keep h b l)) m

pub operands_read : {one two new : List (List ℕ)} → Grows one two → Grows two new → (n : ℕ) (r : Reader Symbol ConstShape) (ts p q s rest : List Symbol) (k : Mark)
    (t : Ty) (b : Typed) (v : Vec Typed Global) → ty_known (length one) t ≡ true → typed_known (length two) b ≡ true
    → run_ty n ts ≡ Got (ty_shape one t) p → run_one (punct 44) p ≡ Got k q → run_typed_const n r q ≡ Got (typed_shape two b) s
    → run_until n (punct 41) (run_skip (punct 44) (run_typed_const n r)) s ≡ Got (map (typed_shape new) v.items) rest
    → run_operands n r ts ≡ Got (operands_shape new (record { ty = t; base = b; indices = v })) rest
operands_read {one = one} {two = two} {new = new} g h n r ts p q s rest k t b v known_t known_b e f i j =
    let t_same : ty_shape one t ≡ ty_shape new t = kept_one tys_keep g t known_t ∙ kept_one tys_keep h t (stays_one tys_keep g t known_t) in
    let b_same : typed_shape two b ≡ typed_shape new b = kept_one typed_keep h b known_b in
    let pair : TyShape → TypedShape → OperandShapes = λ x y. (x, (y, map (typed_shape new) v.items)) in
    rw (e, f, i, j)
    (ap (λ z. Got (pair z (typed_shape two b)) rest) t_same ∙ ap (λ z. Got (pair (ty_shape new t) z) rest) b_same)
