use Rattle.std.proofs.Common.{refl}
use Rattle.ir_check_insts.proofs.Tests.{two_then, two_else, three_then, three_else, four_then, four_else}
use Rattle.ir_check_insts.proofs.around.Around.is_gep.Goals as goal
use Rattle.ir_check_insts.proofs.around.Around.is_gep.Goals.{then-is_sized, else-is_sized, then-fits_as_address, else-fits_as_address}

pub returns-then-are_steps : goal.returns-then-are_steps
returns-then-are_steps c inbounds =
    four_then _ _ _ _ c.if-fits_as_address.value c.walks_behind.result _ c.if-are_steps.true refl
    (elim c.if-fits_as_address.branch [
      | then-fits_as_address w ↦
          three_then _ _ _ _ _ _ w.if-fits_as_address.true w.value-is
          (elim c.if-is_sized.branch [
            | then-is_sized v ↦ two_then _ _ _ _ _ v.if-is_sized.true v.value-is (c.is_sized.ensures c.args.self.now.module.now c.requires.around.module_names c.requires.around.types.layouts c.requires.ty_names) (v.fits_as_address.ensures)
            | else-is_sized v ↦ two_else _ _ _ _ v.if-is_sized.false v.value-is (c.is_sized.ensures c.args.self.now.module.now c.requires.around.module_names c.requires.around.types.layouts c.requires.ty_names)
          ])
          (w.are_steps.ensures)
      | else-fits_as_address w ↦
          three_else _ _ _ _ _ w.if-fits_as_address.false w.value-is
          (elim c.if-is_sized.branch [
            | then-is_sized v ↦ two_then _ _ _ _ _ v.if-is_sized.true v.value-is (c.is_sized.ensures c.args.self.now.module.now c.requires.around.module_names c.requires.around.types.layouts c.requires.ty_names) (v.fits_as_address.ensures)
            | else-is_sized v ↦ two_else _ _ _ _ v.if-is_sized.false v.value-is (c.is_sized.ensures c.args.self.now.module.now c.requires.around.module_names c.requires.around.types.layouts c.requires.ty_names)
          ])
    ])
    (c.walks_behind.ensures)

pub returns-else-are_steps : goal.returns-else-are_steps
returns-else-are_steps c inbounds =
    four_else _ _ _ _ c.if-fits_as_address.value _ c.if-are_steps.false refl
    (elim c.if-fits_as_address.branch [
      | then-fits_as_address w ↦
          three_then _ _ _ _ _ _ w.if-fits_as_address.true w.value-is
          (elim c.if-is_sized.branch [
            | then-is_sized v ↦ two_then _ _ _ _ _ v.if-is_sized.true v.value-is (c.is_sized.ensures c.args.self.now.module.now c.requires.around.module_names c.requires.around.types.layouts c.requires.ty_names) (v.fits_as_address.ensures)
            | else-is_sized v ↦ two_else _ _ _ _ v.if-is_sized.false v.value-is (c.is_sized.ensures c.args.self.now.module.now c.requires.around.module_names c.requires.around.types.layouts c.requires.ty_names)
          ])
          (w.are_steps.ensures)
      | else-fits_as_address w ↦
          three_else _ _ _ _ _ w.if-fits_as_address.false w.value-is
          (elim c.if-is_sized.branch [
            | then-is_sized v ↦ two_then _ _ _ _ _ v.if-is_sized.true v.value-is (c.is_sized.ensures c.args.self.now.module.now c.requires.around.module_names c.requires.around.types.layouts c.requires.ty_names) (v.fits_as_address.ensures)
            | else-is_sized v ↦ two_else _ _ _ _ v.if-is_sized.false v.value-is (c.is_sized.ensures c.args.self.now.module.now c.requires.around.module_names c.requires.around.types.layouts c.requires.ty_names)
          ])
    ])
