use Rattle.std.proofs.Common.{inl, inr}
use Rattle.ir_type_tests.proofs.Shapes.{undef_shape, poison_shape, zero_shape}
use Rattle.ir_type_tests.proofs.consts.is_plain.Goals as goal

pub returns-in-Undef : goal.returns-in-Undef
returns-in-Undef c names =
    elim c.in-Undef.is [
      | inl h ↦ rw (h, undef_shape) (c.is_scalar.ensures names)
      | inr h ↦ elim h [
        | inl k ↦ rw (k, poison_shape) (c.is_scalar.ensures names)
        | inr k ↦ rw (k, zero_shape) (c.is_scalar.ensures names)
      ]
    ]
