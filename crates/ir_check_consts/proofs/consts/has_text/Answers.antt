use Rattle.std.proofs.Common.{length, refl, rules, false, ◌≡◌}
use Rattle.std.specs.Prelude.{◌==◌}
use Rattle.ir_tree.specs.ShapeOf.{ty_shape, module_shape}
use Rattle.ir_check_consts.proofs.Told.{text_told, other_long_text, no_text}
use Rattle.ir_check_consts.proofs.consts.has_text.Goals as goal

pub returns-then-count-bytes : goal.returns-then-count-bytes
returns-then-count-bytes c =
    let m = c.args.m.now in
    text_told (module_shape m).types (ty_shape m.names c.args.ty.now) (ty_shape m.names c.in-Some.element.now) c.in-Some.count c.args.bytes.now c.is_integer_of.result
    c.in-Some.ensures.opens c.if-count-bytes.true (c.is_integer_of.ensures m.names)

pub returns-else-count-bytes : goal.returns-else-count-bytes
returns-else-count-bytes c =
    let m = c.args.m.now in
    let differ : (c.in-Some.count == length c.args.bytes.now) ≡ false = search rules in
    other_long_text (module_shape m).types (ty_shape m.names c.args.ty.now) (ty_shape m.names c.in-Some.element.now) c.in-Some.count c.args.bytes.now
    (c.in-Some.count == length c.args.bytes.now) differ c.in-Some.ensures.opens c.if-count-bytes.false

pub returns-in-None : goal.returns-in-None
returns-in-None c =
    let m = c.args.m.now in
    no_text (module_shape m).types (ty_shape m.names c.args.ty.now) c.args.bytes.now false refl c.in-None.ensures.none
