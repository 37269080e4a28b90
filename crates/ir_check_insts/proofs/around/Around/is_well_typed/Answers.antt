use Rattle.std.proofs.Common.{[], map}
use Rattle.ir_tree.specs.ShapeOf.{name_shape, case_shape}
use Rattle.ir_check_insts.specs.Surroundings.{names_of, around_shape, ty_val_in}
use Rattle.ir_check_insts.proofs.Switches.{switch_any}
use Rattle.ir_check_insts.proofs.around.Around.is_well_typed.Goals as goal

pub returns-in-Binary : goal.returns-in-Binary
returns-in-Binary c = rw c.in-Binary.is (c.is_binary.ensures c.in-Binary.field-0 c.in-Binary.field-1)

pub returns-in-Icmp : goal.returns-in-Icmp
returns-in-Icmp c = rw c.in-Icmp.is (c.is_icmp.ensures c.in-Icmp.field-0)

pub returns-in-Gep : goal.returns-in-Gep
returns-in-Gep c = rw c.in-Gep.is (rw c.deref-in-Gep.ensures.value at (c.is_gep.ensures c.in-Gep.field-0))

pub returns-in-Branch : goal.returns-in-Branch
returns-in-Branch c = rw c.in-Branch.is (c.is_branch.ensures [] [])

pub returns-in-Switch : goal.returns-in-Switch
returns-in-Switch c =
    rw c.in-Switch.is (switch_any (around_shape c.args.self.now) (ty_val_in c.args.self.now c.in-Switch.value)
    (map (case_shape (names_of c.args.self.now)) c.in-Switch.cases.items) (name_shape (names_of c.args.self.now) c.in-Switch.field-1) c.is_switch.result
    (rw c.deref-in-Switch.ensures.value at c.is_switch.ensures))
