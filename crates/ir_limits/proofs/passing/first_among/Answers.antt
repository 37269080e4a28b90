use Rattle.std.proofs.Common.{List, refl, subst}
use Rattle.std.proofs.lemmas.List.{take_all}
use Rattle.ir_tree.specs.ShapeOf.{module_shape}
use Rattle.ir_proper.specs.declared.Which.{Which}
use Rattle.ir_proper.specs.Limits.{AreKept}
use Rattle.ir_limits.proofs.Alone.{kept_more, first_at, never_all, kept_if_none, passed_if_some}
use Rattle.ir_limits.proofs.passing.first_among.Goals as goal

pub returns-in-Some-clause-none : goal.returns-in-Some-clause-none
returns-in-Some-clause-none c =
    let m = module_shape c.args.m.now in (
      λ no. cc,
      λ kept. absurd
          (never_all m c.args.limits.now _ c.in-Some.found
          (first_at m c.args.limits.now c.loop-which.which-index _ c.in-Some.found c.loop-which-test.true c.loop-which.invariant
          (passed_if_some m _ c.in-Some.found c.requires.types c.in-Some.ensures)) kept),
    )

pub returns-in-Some-clause-first : goal.returns-in-Some-clause-first
returns-in-Some-clause-first c =
    let m = module_shape c.args.m.now in
    first_at m c.args.limits.now c.loop-which.which-index _ c.in-Some.found c.loop-which-test.true c.loop-which.invariant
    (passed_if_some m _ c.in-Some.found c.requires.types c.in-Some.ensures)

pub loop-which-preserved : goal.loop-which-preserved
loop-which-preserved c =
    let m = module_shape c.args.m.now in
    kept_more m c.args.limits.now c.loop-which.which-index _ c.loop-which-test.true c.loop-which.invariant
    (kept_if_none m _ c.requires.types c.in_default.ensures)

pub returns-clause-none : goal.returns-clause-none
returns-clause-none c =
    let all = subst (λ (z : List Which). AreKept (module_shape c.args.m.now) z) (take_all c.loop-which.which-index c.args.limits.now c.loop-which-test.false)
    c.loop-which.invariant in (λ none. all, λ kept. refl)
