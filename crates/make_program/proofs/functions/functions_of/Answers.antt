use Rattle.std.proofs.Common.{◌<◌, ℕ, length, sym, subst}
use Rattle.ir_tree.specs.Known.{function_known}
use Rattle.ir_tree.specs.ShapeOf.{function_shape as source_shape}
use Rattle.ir_tree.proofs.Grows.{and_right}
use Rattle.program_steps.specs.Steps.{names_of}
use Rattle.program_steps.proofs.Alike.{item_there}
use Rattle.program_consts.specs.Constants.{shape_of}
use Rattle.program_actions.proofs.Parts.{one_of}
use Rattle.make_program.proofs.Steps.{item_of, mapped_there, well_typed}
use Rattle.make_program.proofs.functions.functions_of.Goals as goal

pub function_of-requires-clause-around : goal.function_of-requires-clause-around
function_of-requires-clause-around c =
    let constants = c.args.constants.now in
    let names = names_of constants.steps in
    let functions = constants.steps.«module».now.functions.items in
    let k = c.loop-at.at in
    let f = c.function-item.result in
    let t = c.index-tables-at.result in
    let at = item_of functions c.deref-function-items.result.now k f c.deref-function-items.ensures.value c.loop-at-test.true c.function-item.is in
    let beside : k < length c.args.tables.now = subst (λ (n : ℕ). k < n) (sym c.requires.tables.long) at.0 in
    record {
      constants = c.requires.constants;
      names = c.requires.tables.each k f t (item_there functions k f at.0 at.1) (item_there c.args.tables.now k t beside (sym c.index-tables-at.is));
      known = one_of (function_known (length names)) functions k f (and_right _ _ c.requires.constants.steps.known) at.0 at.1;
      typed = well_typed (shape_of constants) k (source_shape names f) c.requires.proper (mapped_there (source_shape names) functions k f at.0 at.1);
    }
