use Rattle.ir_tree.specs.Known.{function_known}
use Rattle.ir_tree.proofs.Grows.{and_right}
use Rattle.ir_check_insts.specs.Surroundings.{count_of}
use Rattle.ir_check_insts.proofs.Known.{found_known}
use Rattle.ir_check_insts.proofs.around.Around.defined.Goals as goal

pub returns-clause-known : goal.returns-clause-known
returns-clause-known c =
    let found = rw c.deref.ensures.value at c.get.ensures.lookup in
    found_known (function_known (count_of c.args.self.now)) c.args.self.now.module.now.functions.items c.args.number c.get.result found.0 found.1 (and_right _ _ c.requires.module_names)
