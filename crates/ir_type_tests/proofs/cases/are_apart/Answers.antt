use Rattle.std.proofs.Common.{◌≡◌, Bool, true, false, not, sym, ◌∙◌, SFits, rules}
use Rattle.std.specs.Int.{w128}
use Rattle.std.proofs.lemmas.Int.{to_z-of_z}
use Rattle.std.specs.BTreeSet.{contains}
use Rattle.std.specs.Ordering.{nat_cmp}
use Rattle.ir_rules.specs.Instructions.{bits_of}
use Rattle.ir_type_tests.proofs.Apart.{none_seen, seen_more, seen_again}
use Rattle.ir_type_tests.proofs.cases.are_apart.Goals as goal

was_there : (b : Bool) → false ≡ not b → b ≡ true
was_there true e = cc
was_there false e = cc

was_new : (b : Bool) → true ≡ not b → b ≡ false
was_new true e = cc
was_new false e = cc

pub loop-case-init : goal.loop-case-init
loop-case-init c = let h = c.new-seen.ensures.empty in none_seen _ (λ q. search rules)

pub returns-then-not-branch : goal.returns-then-not-branch
returns-then-not-branch c =
    let fits : SFits w128 c.case-item.result.value = search rules in
    let bits = simp to_z-of_z at c.bits_of.ensures in
    let there = was_there (contains nat_cmp c.loop-case.seen c.bits_of.result) (sym c.if-not-branch.true ∙ c.in_ok-insert.ensures.added) in (
      λ no. cc,
      λ all. absurd (seen_again (λ x. bits_of c.args.width x.value) c.args.cases.now c.loop-case.case-index c.case-item.result c.loop-case-test.true (sym c.case-item.is)
          c.bits_of.result bits (contains nat_cmp c.loop-case.seen) c.loop-case.invariant there all),
    )

pub loop-case-preserved : goal.loop-case-preserved
loop-case-preserved c =
    let fits : SFits w128 c.case-item.result.value = search rules in
    let bits = simp to_z-of_z at c.bits_of.ensures in
    let new = was_new (contains nat_cmp c.loop-case.seen c.bits_of.result) (sym c.if-not-branch.false ∙ c.in_ok-insert.ensures.added) in
    seen_more (λ x. bits_of c.args.width x.value) c.args.cases.now c.loop-case.case-index c.case-item.result c.loop-case-test.true (sym c.case-item.is)
    c.bits_of.result bits (contains nat_cmp c.loop-case.seen) (contains nat_cmp c.insert.new.self) c.loop-case.invariant new c.in_ok-insert.ensures.updates.0
