use Rattle.std.proofs.Common.{SFits, rules}
use Rattle.std.specs.Int.{w128}
use Rattle.std.proofs.lemmas.Int.{to_z-of_z}
use Rattle.ir_type_tests.proofs.Both.{both_then, both_else}
use Rattle.ir_type_tests.proofs.cases.is_case.Goals as goal

pub returns-then-is_integer_of : goal.returns-then-is_integer_of
returns-then-is_integer_of c names =
    let fits : SFits w128 c.args.case.now.value = search rules in
    let literal = simp to_z-of_z at (c.is_literal.ensures names) in
    both_then _ _ c.is_integer_of.result c.is_literal.result c.if-is_integer_of.true (c.is_integer_of.ensures names) literal

pub returns-else-is_integer_of : goal.returns-else-is_integer_of
returns-else-is_integer_of c names = both_else _ _ c.is_integer_of.result c.if-is_integer_of.false (c.is_integer_of.ensures names)
