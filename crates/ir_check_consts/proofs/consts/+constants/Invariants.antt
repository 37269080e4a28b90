use Rattle.std.proofs.Common.{map}
use Rattle.std.specs.List.{AllByRecursion}
use Rattle.ir_tree.specs.Shape.{typed_row, ty_row}
use Rattle.ir_tree.specs.ShapeOf.{module_shape, ty_shape, typed_shape}
use Rattle.ir_rules.specs.Constants.{HasTyped, HaveFields}
use Rattle.ir_type_tests.proofs.Rests.{RestDecides}
use Rattle.ir_check_consts.proofs.Rows.{FieldsDecide}
use Rattle.ir_check_consts.proofs.consts.+constants.Given as goal

abbrev pub invariant-have_elements-loop-element : goal.invariant-have_elements-loop-element
invariant-have_elements-loop-element l =
    RestDecides (λ v. HasTyped (module_shape l.m).types v (ty_shape l.m.names l.ty)) (typed_shape l.m.names) l.row l.element-index
    (AllByRecursion (λ v. HasTyped (module_shape l.m).types v (ty_shape l.m.names l.ty)) (map (typed_shape l.m.names) l.row))

abbrev pub invariant-have_fields-loop-i : goal.invariant-have_fields-loop-i
invariant-have_fields-loop-i l =
    FieldsDecide (module_shape l.m).types (typed_shape l.m.names) (ty_shape l.m.names) l.row l.types l.i
    (HaveFields (module_shape l.m).types (typed_row (map (typed_shape l.m.names) l.row)) (ty_row (map (ty_shape l.m.names) l.types)))
