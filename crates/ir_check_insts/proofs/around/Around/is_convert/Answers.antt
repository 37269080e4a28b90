use Rattle.std.proofs.Common.{refl}
use Rattle.ir_check_insts.specs.Surroundings.{names_of}
use Rattle.ir_check_insts.proofs.Tests.{two_then, two_else, three_then, three_else, four_then, four_else}
use Rattle.ir_check_insts.proofs.around.Around.is_convert.Goals as goal
use Rattle.ir_check_insts.proofs.around.Around.is_convert.Goals.{then-is_integer, else-is_integer, then-is_integer-2, else-is_integer-2}

pub returns-then-converts : goal.returns-then-converts
returns-then-converts c =
    four_then _ _ _ _ c.if-is_integer-2.value c.has_ty.result _ c.if-converts.true refl
    (elim c.if-is_integer-2.branch [
      | then-is_integer-2 w ↦
          three_then _ _ _ _ _ _ w.if-is_integer-2.true w.value-is
          (elim c.if-is_integer.branch [
            | then-is_integer v ↦ two_then _ _ _ _ _ v.if-is_integer.true v.value-is (c.is_integer.ensures (names_of c.args.self.now)) (v.is_integer-then-is_integer.ensures (names_of c.args.self.now))
            | else-is_integer v ↦ two_else _ _ _ _ v.if-is_integer.false v.value-is (c.is_integer.ensures (names_of c.args.self.now))
          ])
          (w.converts.ensures (names_of c.args.self.now))
      | else-is_integer-2 w ↦
          three_else _ _ _ _ _ w.if-is_integer-2.false w.value-is
          (elim c.if-is_integer.branch [
            | then-is_integer v ↦ two_then _ _ _ _ _ v.if-is_integer.true v.value-is (c.is_integer.ensures (names_of c.args.self.now)) (v.is_integer-then-is_integer.ensures (names_of c.args.self.now))
            | else-is_integer v ↦ two_else _ _ _ _ v.if-is_integer.false v.value-is (c.is_integer.ensures (names_of c.args.self.now))
          ])
    ])
    (c.has_ty.ensures)

pub returns-else-converts : goal.returns-else-converts
returns-else-converts c =
    four_else _ _ _ _ c.if-is_integer-2.value _ c.if-converts.false refl
    (elim c.if-is_integer-2.branch [
      | then-is_integer-2 w ↦
          three_then _ _ _ _ _ _ w.if-is_integer-2.true w.value-is
          (elim c.if-is_integer.branch [
            | then-is_integer v ↦ two_then _ _ _ _ _ v.if-is_integer.true v.value-is (c.is_integer.ensures (names_of c.args.self.now)) (v.is_integer-then-is_integer.ensures (names_of c.args.self.now))
            | else-is_integer v ↦ two_else _ _ _ _ v.if-is_integer.false v.value-is (c.is_integer.ensures (names_of c.args.self.now))
          ])
          (w.converts.ensures (names_of c.args.self.now))
      | else-is_integer-2 w ↦
          three_else _ _ _ _ _ w.if-is_integer-2.false w.value-is
          (elim c.if-is_integer.branch [
            | then-is_integer v ↦ two_then _ _ _ _ _ v.if-is_integer.true v.value-is (c.is_integer.ensures (names_of c.args.self.now)) (v.is_integer-then-is_integer.ensures (names_of c.args.self.now))
            | else-is_integer v ↦ two_else _ _ _ _ v.if-is_integer.false v.value-is (c.is_integer.ensures (names_of c.args.self.now))
          ])
    ])
