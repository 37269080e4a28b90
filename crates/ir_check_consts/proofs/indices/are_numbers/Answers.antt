use Rattle.std.proofs.Common.{map, false, refl, sym}
use Rattle.std.specs.List.{AllByRecursion}
use Rattle.ir_tree.specs.Shape.{typed_row}
use Rattle.ir_tree.specs.ShapeOf.{typed_shape}
use Rattle.ir_type_tests.proofs.Both.{never}
use Rattle.ir_type_tests.proofs.Rests.{rest_next, rest_fails, rest_ends}
use Rattle.ir_rules.specs.Constants.{AreNumbers}
use Rattle.ir_check_consts.proofs.Rows.{IsNumber, numbers_each, numbers_all}
use Rattle.ir_check_consts.proofs.Numbers.{number_passes, number_fails}
use Rattle.ir_check_consts.proofs.indices.are_numbers.Goals as goal

pub returns-then-not-is_number : goal.returns-then-not-is_number
returns-then-not-is_number c names =
    let row = map (typed_shape names) c.args.indices.now in
    never (AreNumbers (typed_row row)) false refl
    (λ are. rest_fails IsNumber (typed_shape names) c.args.indices.now c.loop-index.index-index c.index-item.result c.loop-index-test.true (sym c.index-item.is)
    (number_fails names c.index-item.result c.is_number.result c.if-not-is_number.true (c.is_number.ensures names))
    (AllByRecursion IsNumber row) (c.loop-index.invariant names) (numbers_each row are))

pub loop-index-preserved : goal.loop-index-preserved
loop-index-preserved c names =
    rest_next IsNumber (typed_shape names) c.args.indices.now c.loop-index.index-index c.index-item.result c.loop-index-test.true (sym c.index-item.is)
    (number_passes names c.index-item.result c.is_number.result c.if-not-is_number.false (c.is_number.ensures names))
    (AllByRecursion IsNumber (map (typed_shape names) c.args.indices.now)) (c.loop-index.invariant names)

pub returns : goal.returns
returns c names =
    let row = map (typed_shape names) c.args.indices.now in (
      λ yes. numbers_all row
          (rest_ends IsNumber (typed_shape names) c.args.indices.now c.loop-index.index-index c.loop-index-test.false (AllByRecursion IsNumber row) (c.loop-index.invariant names)),
      λ are. refl,
    )
