use Rattle.std.proofs.Common.{◌≡◌, slice_index_or, Some, sym, ◌∙◌, arith}
use Rattle.std.specs.Ordering.{nat_cmp}
use Rattle.std.specs.BTreeMap.{get}
use Rattle.std.proofs.lemmas.List.{length-map}
use Rattle.std.proofs.lemmas.Option.{slice_get-get_or, slice_get_within}
use Rattle.ir_flow.specs.Around.{inputs_of}
use Rattle.ir_flow.proofs.OneByOne.{yes}
use Rattle.ir_flow.proofs.Alike.{like_by, like_none}
use Rattle.ir_flow.proofs.around.Around.is_like.Goals as goal

pub have_same_val-requires-clause-one : goal.have_same_val-requires-clause-one
have_same_val-requires-clause-one c =
    let from = slice_index_or c.args.from.now c.args.at 0 in
    let place : get nat_cmp c.args.places.now from ≡ Some c.in-Some.other.now = sym c.in-Some.ensures.value in
    let within = slice_get_within c.args.from.now c.in-Some.other.now from (c.requires.places.found from c.in-Some.other.now place) in
    omega (arith, c.requires.long, within)

pub returns-in-Some : goal.returns-in-Some
returns-in-Some c =
    let froms = c.args.from.now in
    let from = slice_index_or froms c.args.at 0 in
    let place : get nat_cmp c.args.places.now from ≡ Some c.in-Some.other.now = sym c.in-Some.ensures.value in
    let long = length-map c.args.inputs.now _ in
    like_by (inputs_of c.args.self.now c.args.inputs.now) froms c.args.places.now (c.requires.long ∙ sym long) c.requires.places c.args.at from
    c.in-Some.other.now c.have_same_val.result (slice_get-get_or froms c.args.at 0 (omega (arith, c.requires.long))) place c.have_same_val.ensures

pub returns-in-None : goal.returns-in-None
returns-in-None c =
    let froms = c.args.from.now in
    let from = slice_index_or froms c.args.at 0 in
    yes _
    (like_none (inputs_of c.args.self.now c.args.inputs.now) froms c.args.places.now c.args.at from
    (slice_get-get_or froms c.args.at 0 (omega (arith, c.requires.long))) (sym c.in-None.ensures.value))
