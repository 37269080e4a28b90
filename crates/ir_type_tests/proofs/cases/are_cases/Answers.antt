use Rattle.ir_type_tests.proofs.AreCases.{are_cases_if}
use Rattle.ir_type_tests.proofs.cases.are_cases.Goals as goal

pub returns-then-are_literals : goal.returns-then-are_literals
returns-then-are_literals c =
    are_cases_if c.args.width c.args.cases.now c.are_apart.result (λ names. (c.are_literals.ensures names).0 c.if-are_literals.true) c.are_apart.ensures
