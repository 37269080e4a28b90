-- The count of `alloca`, after a type that is dropped.
use Rattle.std.proofs.Common.{◌≡◌, ℕ, ℤ, true, List, length, Option, ap, ◌∙◌}
use Rattle.grammar.specs.Reader.{Out, Got, Wrong, then_out, heads, run_map, run_maybe}
use Rattle.ir_lex.specs.Symbols.{Symbol}
use Rattle.ir_cursor.specs.Marks.{punct}
use Rattle.ir_tree.specs.NameTable.{Grows}
use Rattle.ir_tree.specs.Shape.{TyShape}
use Rattle.ir_tree.specs.Shape as shape
use Rattle.ir_tree.specs.ShapeOf.{ty_shape}
use Rattle.ir_tree.specs.Known.{ty_known}
use Rattle.ir_tree.specs.declared.types.Ty.{Ty}
use Rattle.ir_grammar_consts.specs.Types.{run_ty}
use Rattle.ir_grammar_insts.specs.Memory.{count_of, alloca_of, run_counted, run_alloca}
use Rattle.ir_read_insts.proofs.ValueParts.{ty_kept}

counted_read : (t : TyShape) (o : Out Symbol (Option (TyShape × ℤ))) (z : ℤ) (rest : List Symbol) → then_out o (λ v more. Got (count_of v) more) ≡ Got z rest
    → then_out (then_out {B = TyShape × Option (TyShape × ℤ)} o (λ w more. Got (t, w) more)) (λ v more. Got (alloca_of v) more) ≡ Got (shape.alloca t z) rest
counted_read t (Got v more) z rest e =
    let same : count_of v ≡ z = cc in
    let end : more ≡ rest = cc in
    ap (λ x. Got (shape.alloca t x) more) same ∙ ap (λ x. Got (shape.alloca t z) x) end
counted_read t (Wrong more) z rest e = cc

pub alloca_read : {old new : List (List ℕ)} → Grows old new → (n : ℕ) (ts : List Symbol) {q rest : List Symbol} (t : Ty) (z : ℤ) → ty_known (length old) t ≡ true
    → run_ty n ts ≡ Got (ty_shape old t) q → run_map count_of (run_maybe (heads (punct 44)) (run_counted n)) q ≡ Got z rest
    → run_alloca n ts ≡ Got (shape.alloca (ty_shape new t) z) rest
alloca_read {old = old} g n ts {q = q} {rest = rest} t z k e f =
    rw e (counted_read (ty_shape old t) (run_maybe (heads (punct 44)) (run_counted n) q) z rest f ∙ ap (λ x. Got (shape.alloca x z) rest) (ty_kept g t k))
