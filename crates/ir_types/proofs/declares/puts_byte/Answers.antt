use Rattle.std.proofs.Common.{◌≡◌, List, ◌∷◌, [], map, refl, subst}
use Rattle.std.specs.Prelude.{◌↔◌, IsTrue}
use Rattle.ir_tree.specs.Shape.{integer}
use Rattle.ir_tree.specs.ShapeOf.{ty_shape}
use Rattle.ir_tree.specs.declared.types.Ty.{Ty}
use Rattle.ir_types.proofs.Joined.{two_then, two_else}
use Rattle.ir_types.proofs.declares.puts_byte.Goals as goal

pub returns-then-is_integer_of : goal.returns-then-is_integer_of
returns-then-is_integer_of c names =
    two_then _ _ c.is_integer_of.result c.are_one_i32.result _ c.if-is_integer_of.true refl (c.is_integer_of.ensures names)
    (subst (λ (z : List Ty). IsTrue c.are_one_i32.result ↔ (map (ty_shape names) z ≡ integer 32 ∷ [])) c.deref.ensures.value (c.are_one_i32.ensures names))

pub returns-else-is_integer_of : goal.returns-else-is_integer_of
returns-else-is_integer_of c names = two_else _ _ c.is_integer_of.result _ c.if-is_integer_of.false refl (c.is_integer_of.ensures names)
