use Rattle.std.proofs.Common.{map, sym, ◌∙◌}
use Rattle.ir_layout.specs.Rules.{IsSized}
use Rattle.ir_tree.specs.Shape.{typed_row}
use Rattle.ir_tree.specs.ShapeOf.{module_shape, ty_shape, typed_shape}
use Rattle.ir_rules.specs.Constants.{AreNumbers, WalksBehind, row_numbers}
use Rattle.ir_type_tests.proofs.Both.{fails}
use Rattle.ir_check_consts.proofs.Told.{three_told, three_fail}
use Rattle.ir_check_consts.proofs.indices.are_steps.Goals as goal
use Rattle.ir_check_consts.proofs.indices.are_steps.Goals.{then-is_sized, else-is_sized}

pub returns-then-are_numbers : goal.returns-then-are_numbers
returns-then-are_numbers c =
    let m = c.args.m.now in
    let row = typed_row (map (typed_shape m.names) c.args.indices.now) in
    let t = ty_shape m.names c.args.ty.now in
    let sized = c.is_sized.ensures m c.requires.tables.openings.are_sound.known c.requires.tables.layouts c.requires.known in
    elim c.if-is_sized.branch [
      | then-is_sized w ↦
          three_told (IsSized (module_shape m).types t) (AreNumbers row) (WalksBehind (module_shape m).types t (row_numbers row)) c.walks_behind.result
          (sized.0 w.if-is_sized.true) ((w.are_numbers.ensures m.names).0 (sym w.value-is ∙ c.if-are_numbers.true)) c.walks_behind.ensures
      | else-is_sized w ↦ absurd (cc (w.value-is, c.if-are_numbers.true))
    ]

pub returns-else-are_numbers : goal.returns-else-are_numbers
returns-else-are_numbers c =
    let m = c.args.m.now in
    let row = typed_row (map (typed_shape m.names) c.args.indices.now) in
    let t = ty_shape m.names c.args.ty.now in
    let sized = c.is_sized.ensures m c.requires.tables.openings.are_sound.known c.requires.tables.layouts c.requires.known in
    elim c.if-is_sized.branch [
      | then-is_sized w ↦
          three_fail (IsSized (module_shape m).types t) (AreNumbers row) (WalksBehind (module_shape m).types t (row_numbers row)) c.if-is_sized.value
          c.if-are_numbers.false (λ size numbers. fails (AreNumbers row) w.are_numbers.result (sym w.value-is ∙ c.if-are_numbers.false) (w.are_numbers.ensures m.names) numbers)
      | else-is_sized w ↦
          three_fail (IsSized (module_shape m).types t) (AreNumbers row) (WalksBehind (module_shape m).types t (row_numbers row)) c.if-is_sized.value
          c.if-are_numbers.false (λ size numbers. fails (IsSized (module_shape m).types t) c.is_sized.result w.if-is_sized.false sized size)
    ]
