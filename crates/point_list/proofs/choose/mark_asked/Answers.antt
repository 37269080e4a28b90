use Rattle.std.proofs.Common.{◌∙◌, arith, sym}
use Rattle.point_list.specs.Marks.{is_marked}
use Rattle.point_list.proofs.MarkLemmas.{not_asked, same_some}
use Rattle.point_list.proofs.choose.mark_asked.Goals as goal
use Rattle.point_list.proofs.choose.mark_asked.Goals.{else-point-lt32-via-then-point-lt32+else-is_marked, else-point-lt32-via-else-point-lt32}

pub returns-in_default : goal.returns-in_default
returns-in_default c k r =
    not_asked c.args.window.now c.args.base c.args.point (λ i. omega (arith, c.type_inv.window i)) (λ i is small. absurd (c.in_default.not-Some i (c.index_of.ensures ∙ is))) k r (is_marked c.args.marks.now k r)

pub returns-else-point-lt32 : goal.returns-else-point-lt32
returns-else-point-lt32 c k r =
    elim c.else-point-lt32.branch [
      | else-point-lt32-via-then-point-lt32+else-is_marked w ↦
          not_asked c.args.window.now c.args.base c.args.point (λ i. omega (arith, c.type_inv.window i))
          (λ i is small. rw (same_some i c.in-Some.k (sym is ∙ sym c.index_of.ensures ∙ c.in-Some.is)) (sym w.is_marked.ensures ∙ w.if-is_marked.false)) k r (is_marked c.args.marks.now k r)
      | else-point-lt32-via-else-point-lt32 w ↦
          not_asked c.args.window.now c.args.base c.args.point (λ i. omega (arith, c.type_inv.window i)) (λ i is small. absurd (omega (arith, w.if-point-lt32.false, small))) k r (is_marked c.args.marks.now k r)
    ]
