use Rattle.std.proofs.Common.{◌≡◌, ℕ, ◌+◌, ◌-◌, ◌<◌, List, length, Option, None, Some, ap, arith, sym, ◌∙◌, subst, rules}
use Rattle.std.proofs.Math.ListN.{replicate}
use Rattle.std.proofs.lemmas.List.{length-set}
use Rattle.std.proofs.lemmas.Option.{slice_get-get_or}
use Rattle.ir_tree.specs.declared.names.NameId.{NameId}
use Rattle.ir_names.proofs.FirstItems.{AreFirstFrom, none_yet, entered}
use Rattle.ir_names.proofs.firsts.first_of_each.Goals as goal

pub loop-at-init : goal.loop-at-init
loop-at-init c =
    let items : c.in_ok-firsts.firsts.items ≡ replicate c.args.count None = c.in_ok-firsts.ensures.items_if_clones_equal (λ y same. search rules) in
    (omega arith, omega (arith, c.in_ok-firsts.ensures.len), subst (λ (z : List (Option ℕ)). AreFirstFrom (length c.args.ids.now) c.args.ids.now z) (sym items) (none_yet c.args.ids.now c.args.count))

pub loop-at-preserved-then-number-count : goal.loop-at-preserved-then-number-count
loop-at-preserved-then-number-count c = (
  omega arith,
  length-set _ _ _ ∙ c.loop-at.invariant.1,
  let at = c.loop-at.at - 1 in
      let inside : at < length c.args.ids.now = omega arith in
      let here = slice_get-get_or c.args.ids.now at None inside ∙ ap (λ (o : Option NameId). Some o) c.in-Some.is in
      let next : at + 1 ≡ c.loop-at.at = omega arith in
      let are = subst (λ (n : ℕ). AreFirstFrom n c.args.ids.now c.loop-at.firsts.items) (sym next) c.loop-at.invariant.2 in
      entered c.args.ids.now c.loop-at.firsts.items at c.in-Some.id here (omega arith) are,
)
