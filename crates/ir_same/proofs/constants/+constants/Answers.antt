use Rattle.std.proofs.Common.{◌≡◌, map, sym, ◌∙◌, rules}
use Rattle.ir_same.specs.Numbered.{numbered_ty, numbered_typed}
use Rattle.ir_same.proofs.Rows.{elements_told, fields_told, address_told, same_at}
use Rattle.ir_same.proofs.ConstNumbers.{elements_numbered, fields_numbered, address_numbered}
use Rattle.ir_same.proofs.constants.+constants.Goals as goal
use Rattle.ir_same.proofs.constants.+constants.Goals.{equal_const-then-inbounds-within, equal_const-else-inbounds-within, equal_const-then-equal_ty, equal_const-else-equal_ty}

pub equal_const-returns-in-Array-Array : goal.equal_const-returns-in-Array-Array
equal_const-returns-in-Array-Array t c =
    let s = c.in-Array-Array in
    rw (s.is-0, s.is-1, elements_numbered s.elements, elements_numbered s.others)
    (elements_told c.equal_row.result (map numbered_typed s.elements.items) (map numbered_typed s.others.items)
    (rw (c.deref.ensures.value, c.deref-in-Array-Array.ensures.value) at c.equal_row.ensures))

pub equal_const-returns-then-packed-tight : goal.equal_const-returns-then-packed-tight
equal_const-returns-then-packed-tight t c =
    let s = c.in-Struct-Struct in
    rw (s.is-0, s.is-1, fields_numbered s.fields s.packed, fields_numbered s.others s.tight)
    (fields_told c.equal_row-then-packed-tight.result (map numbered_typed s.fields.items) (map numbered_typed s.others.items) s.packed s.tight c.if-packed-tight.true
    (rw (c.deref-then-packed-tight.ensures.value, c.deref-then-packed-tight-2.ensures.value) at c.equal_row-then-packed-tight.ensures))

pub equal_const-returns-then-equal_typed : goal.equal_const-returns-then-equal_typed
equal_const-returns-then-equal_typed t c =
    let s = c.in-Gep-Gep in
    rw (s.is-0, s.is-1, address_numbered s.inbounds s.ty s.base s.indices, address_numbered s.within s.step s.start s.others)
    (elim c.if-inbounds-within.branch [
      | equal_const-then-inbounds-within w ↦
          elim c.if-equal_ty.branch [
            | equal_const-then-equal_ty z ↦
                let type : numbered_ty s.ty ≡ numbered_ty s.step = w.equal_ty.ensures.0 (sym w.value-is ∙ z.if-equal_ty.true) in
                let start : numbered_typed s.base.value ≡ numbered_typed s.start.value =
                rw (z.deref-then-equal_ty.ensures, z.deref-then-equal_ty-2.ensures) at (z.equal_typed.ensures.0 (sym z.value-is ∙ c.if-equal_typed.true)) in
                address_told c.equal_row-then-equal_typed.result s.inbounds s.within (numbered_ty s.ty) (numbered_ty s.step) (numbered_typed s.base.value) (numbered_typed s.start.value)
                (map numbered_typed s.indices.items) (map numbered_typed s.others.items) w.if-inbounds-within.true type start
                (rw (c.deref-then-equal_typed.ensures.value, c.deref-then-equal_typed-2.ensures.value) at c.equal_row-then-equal_typed.ensures)
            | equal_const-else-equal_ty z ↦ absurd (cc (z.value-is, c.if-equal_typed.true))
          ]
      | equal_const-else-inbounds-within w ↦
          elim c.if-equal_ty.branch [
            | equal_const-then-equal_ty z ↦ absurd (cc (w.value-is, z.if-equal_ty.true))
            | equal_const-else-equal_ty z ↦ absurd (cc (z.value-is, c.if-equal_typed.true))
          ]
    ])

pub equal_row-returns-then-not-equal_typed : goal.equal_row-returns-then-not-equal_typed
equal_row-returns-then-not-equal_typed t c = (
  (λ wrong. absurd (search rules)),
  λ e.
      rw c.if-not-equal_typed.true at
      (c.equal_typed.ensures.1
      (same_at numbered_typed c.args.row.now c.args.others.now c.loop-i.i c.index-row-i.result c.index-others-i.result c.loop-i-test.true (search rules) c.index-row-i.is c.index-others-i.is e)),
)
