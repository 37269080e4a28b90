use Rattle.std.proofs.Common.{◌≡◌, ◌*◌, ℕ, arith, ap, ap₂, ◌∙◌, to_z, of_z, rules}
use Rattle.std.specs.Int.{w128}
use Rattle.std.specs.Prelude.{unsigned_abs}
use Rattle.ir_tree.specs.ShapeOf.{ty_shape}
use Rattle.ir_layout.specs.declared.sizes.Layout.{Layout as TyLayout}
use Rattle.ir_program.proofs.Laid.{laid_out}
use Rattle.program_actions.specs.Around.{around_of, names_around}
use Rattle.program_actions.proofs.around.Around.alloca.Goals as goal

pub overflow_mul-result : goal.overflow_mul-result
overflow_mul-result c =
    let room = c.requires.room in
    let a = around_of c.args.self.now in
    let count : to_z w128 (of_z w128 c.args.count) ≡ c.args.count = search rules in
    let same : c.unsigned_abs.result * c.from.result ≡ room.0 * room.1.size =
    ap₂ (λ (x y : ℕ). x * y) (c.unsigned_abs.ensures.value ∙ ap unsigned_abs (count ∙ room.2))
    (c.from.ensures ∙ ap (λ (l : TyLayout). l.size) (c.layout_of-size.ensures ∙ laid_out a.within.types (ty_shape (names_around c.args.self.now) c.args.ty.now) room.1 room.3)) in
    omega (arith, same, room.4)

pub overflow_cast-result : goal.overflow_cast-result
overflow_cast-result c =
    let room = c.requires.room in
    let a = around_of c.args.self.now in
    let count : to_z w128 (of_z w128 c.args.count) ≡ c.args.count = search rules in
    let same : c.unsigned_abs.result * c.from.result ≡ room.0 * room.1.size =
    ap₂ (λ (x y : ℕ). x * y) (c.unsigned_abs.ensures.value ∙ ap unsigned_abs (count ∙ room.2))
    (c.from.ensures ∙ ap (λ (l : TyLayout). l.size) (c.layout_of-size.ensures ∙ laid_out a.within.types (ty_shape (names_around c.args.self.now) c.args.ty.now) room.1 room.3)) in
    omega (arith, same, room.4)
