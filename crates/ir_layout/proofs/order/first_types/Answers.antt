use Rattle.std.proofs.Common.{◌≡◌, ℕ, ◌+◌, ◌-◌, ◌<◌, List, length, Option, None, arith, sym, ◌∙◌, subst, rules}
use Rattle.std.proofs.Math.ListN.{replicate}
use Rattle.std.proofs.lemmas.List.{length-set}
use Rattle.std.proofs.lemmas.Option.{slice_get-get_or}
use Rattle.ir_layout.proofs.Numbered.{AreFirstFrom, none_yet, first_entered}
use Rattle.ir_layout.proofs.order.first_types.Goals as goal

pub loop-at-init : goal.loop-at-init
loop-at-init c =
    let items : c.in_ok-first.first.items ≡ replicate c.args.count None = c.in_ok-first.ensures.items_if_clones_equal (λ y same. search rules) in
    (omega arith, omega (arith, c.in_ok-first.ensures.len), subst (λ (z : List (Option ℕ)). AreFirstFrom (length c.args.types.now) c.args.types.now z) (sym items) (none_yet c.args.types.now c.args.count))

pub loop-at-preserved-then-id-count : goal.loop-at-preserved-then-id-count
loop-at-preserved-then-id-count c = (
  omega arith,
  length-set _ _ _ ∙ c.loop-at.invariant.1,
  let at = c.loop-at.at - 1 in
      let inside : at < length c.args.types.now = omega arith in
      let here = slice_get-get_or c.args.types.now at c.index-types-at.result inside in
      let next : at + 1 ≡ c.loop-at.at = omega arith in
      let are = subst (λ (n : ℕ). AreFirstFrom n c.args.types.now c.loop-at.first.items) (sym next) c.loop-at.invariant.2 in
      first_entered c.args.types.now c.loop-at.first.items at _ here (omega arith) are,
)
