use Rattle.std.proofs.Common.{refl}
use Rattle.std.specs.List.{list_all}
use Rattle.ir_tree.specs.Known.{name_known, ty_val_known, case_known}
use Rattle.ir_missing.proofs.Telling.{tells_in, tells_same, grouped}
use Rattle.ir_missing.proofs.bodies.body_there.Goals as goal

pub returns-in-Phi : goal.returns-in-Phi
returns-in-Phi c = rw c.in-Phi.is (rw c.deref.ensures.value at c.phi_there.ensures)

pub returns-in-Binary : goal.returns-in-Binary
returns-in-Binary c = rw c.in-Binary.is c.operation_there.ensures

pub returns-in-Icmp : goal.returns-in-Icmp
returns-in-Icmp c = rw c.in-Icmp.is c.operation_there-in-Icmp.ensures

pub returns-in-Select : goal.returns-in-Select
returns-in-Select c = rw c.in-Select.is c.select_there.ensures

pub returns-in-Convert : goal.returns-in-Convert
returns-in-Convert c = rw c.in-Convert.is c.convert_there.ensures

pub returns-in-Freeze : goal.returns-in-Freeze
returns-in-Freeze c = rw c.in-Freeze.is c.typed_val_there.ensures

pub returns-in-Alloca : goal.returns-in-Alloca
returns-in-Alloca c = rw c.in-Alloca.is (tells_in c.ty_there.ensures)

pub returns-in-Load : goal.returns-in-Load
returns-in-Load c = rw c.in-Load.is c.load_there.ensures

pub returns-in-Store : goal.returns-in-Store
returns-in-Store c = rw c.in-Store.is c.both_there.ensures

pub returns-in-Gep : goal.returns-in-Gep
returns-in-Gep c = rw c.in-Gep.is (rw c.deref-in-Gep.ensures.value at c.gep_there.ensures)

pub returns-in-Call : goal.returns-in-Call
returns-in-Call c = rw c.in-Call.is (rw c.deref-in-Call.ensures.value at c.call_there.ensures)

pub returns-in-Jump : goal.returns-in-Jump
returns-in-Jump c = rw c.in-Jump.is (c.block_there.ensures _)

pub returns-in-Branch : goal.returns-in-Branch
returns-in-Branch c =
    rw c.in-Branch.is
    (tells_same c.branch_there.ensures (λ n h. grouped (ty_val_known n c.in-Branch.condition) (name_known n c.in-Branch.yes) (name_known n c.in-Branch.no) h)
    (λ names. refl))

pub returns-in-Switch : goal.returns-in-Switch
returns-in-Switch c =
    rw c.in-Switch.is
    (tells_same (rw c.deref-in-Switch.ensures.value at c.switch_there.ensures)
    (λ n h. grouped (ty_val_known n c.in-Switch.value) (name_known n c.in-Switch.otherwise) (list_all (case_known n) c.in-Switch.cases.items) h)
    (λ names. refl))

pub returns-in-Ret : goal.returns-in-Ret
returns-in-Ret c = rw c.in-Ret.is c.ty_val_there.ensures
