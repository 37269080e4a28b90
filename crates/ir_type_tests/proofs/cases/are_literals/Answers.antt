use Rattle.std.proofs.Common.{sym}
use Rattle.ir_tree.specs.ShapeOf.{case_shape}
use Rattle.ir_rules.specs.Instructions.{IsCase}
use Rattle.ir_type_tests.proofs.Both.{fails}
use Rattle.ir_type_tests.proofs.Rests.{rest_next, rest_fails}
use Rattle.ir_type_tests.proofs.cases.are_literals.Goals as goal

pub returns-then-not-is_case : goal.returns-then-not-is_case
returns-then-not-is_case c names =
    let failing = fails (IsCase c.args.width (case_shape names c.case-item.result)) c.is_case.result c.if-not-is_case.true (c.is_case.ensures names) in (
      λ no. cc,
      λ all. absurd (rest_fails (IsCase c.args.width) (case_shape names) c.args.cases.now c.loop-case.case-index c.case-item.result c.loop-case-test.true (sym c.case-item.is)
          failing _ (c.loop-case.invariant names) all),
    )

pub loop-case-preserved : goal.loop-case-preserved
loop-case-preserved c names =
    rest_next (IsCase c.args.width) (case_shape names) c.args.cases.now c.loop-case.case-index c.case-item.result c.loop-case-test.true (sym c.case-item.is)
    ((c.is_case.ensures names).0 c.if-not-is_case.false) _ (c.loop-case.invariant names)
