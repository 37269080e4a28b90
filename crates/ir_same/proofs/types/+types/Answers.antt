use Rattle.std.proofs.Common.{map, rules}
use Rattle.ir_same.specs.Numbered.{numbered_ty}
use Rattle.ir_same.proofs.Rows.{structure_told, same_at}
use Rattle.ir_same.proofs.TypeNumbers.{structure_numbered}
use Rattle.ir_same.proofs.types.+types.Goals as goal

pub equal_ty-returns-then-packed-tight : goal.equal_ty-returns-then-packed-tight
equal_ty-returns-then-packed-tight t c =
    let s = c.in-Struct-Struct in
    rw (s.is-0, s.is-1, structure_numbered s.fields s.packed, structure_numbered s.others s.tight)
    (structure_told c.equal_tys.result (map numbered_ty s.fields.items) (map numbered_ty s.others.items) s.packed s.tight c.if-packed-tight.true
    (rw (c.deref-then-packed-tight.ensures.value, c.deref-then-packed-tight-2.ensures.value) at c.equal_tys.ensures))

pub equal_tys-returns-then-not-equal_ty : goal.equal_tys-returns-then-not-equal_ty
equal_tys-returns-then-not-equal_ty t c = (
  (λ wrong. absurd (search rules)),
  λ e.
      rw c.if-not-equal_ty.true at
      (c.equal_ty.ensures.1
      (same_at numbered_ty c.args.row.now c.args.others.now c.loop-i.i c.index-row-i.result c.index-others-i.result c.loop-i-test.true (search rules) c.index-row-i.is c.index-others-i.is e)),
)
