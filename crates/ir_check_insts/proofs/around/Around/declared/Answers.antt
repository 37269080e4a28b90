use Rattle.ir_tree.specs.Known.{declare_known}
use Rattle.ir_tree.proofs.Grows.{and_left, and_right}
use Rattle.ir_check_insts.specs.Surroundings.{count_of}
use Rattle.ir_check_insts.proofs.Known.{found_known}
use Rattle.ir_check_insts.proofs.around.Around.declared.Goals as goal

pub returns-clause-known : goal.returns-clause-known
returns-clause-known c =
    let found = rw c.deref.ensures.value at c.get.ensures.lookup in
    found_known (declare_known (count_of c.args.self.now)) c.args.self.now.module.now.declares.items c.args.number c.get.result found.0 found.1 (and_right _ _ (and_left _ _ c.requires.module_names))
