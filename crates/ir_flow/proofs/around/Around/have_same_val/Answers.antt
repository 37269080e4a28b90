use Rattle.std.proofs.Common.{length, get_or}
use Rattle.std.proofs.lemmas.Option.{slice_get-get_or}
use Rattle.ir_flow.specs.Around.{names_of}
use Rattle.ir_flow.proofs.Alike.{vals_tell, val_is_known}
use Rattle.ir_flow.proofs.around.Around.have_same_val.Goals as goal

pub returns : goal.returns
returns c =
    let names = names_of c.args.self.now in
    let inputs = c.args.inputs.now in
    let one = c.index-inputs-one.result in
    let other = c.index-inputs-other.result in
    let count = length names in
    vals_tell names inputs c.args.one c.args.other (get_or inputs c.args.one one) (get_or inputs c.args.other other) c.same_val.result
    (slice_get-get_or inputs c.args.one one c.requires.one) (slice_get-get_or inputs c.args.other other c.requires.other)
    (c.same_val.ensures names c.requires.around.distinct (val_is_known count inputs c.args.one one c.requires.one c.requires.known)
    (val_is_known count inputs c.args.other other c.requires.other c.requires.known))
