use Rattle.std.proofs.Common.{[], List, subst}
use Rattle.ir_tree.specs.declared.module.Block.{Block}
use Rattle.ir_tree.specs.declared.module.Param.{Param}
use Rattle.ir_repeats.specs.Given.{ids_of_params, ids_of_blocks, Notes}
use Rattle.ir_repeats.proofs.GivenSeen.{notes_then}
use Rattle.ir_repeats.proofs.given.repeat_in.Goals as goal

pub returns : goal.returns
returns c =
    let f = c.args.f.now in
    let params = subst (λ (ps : List Param). Notes c.new-seen.result (ids_of_params c.args.spot ps) c.note_params.new.self) c.deref.ensures.value
    c.in_ok-note_params.ensures in
    let blocks = subst (λ (bs : List Block). Notes c.note_params.new.self (ids_of_blocks c.args.spot bs c.args.spots.now) c.note_blocks.new.self)
    c.deref-2.ensures.value c.in_ok-note_blocks.ensures in
    let all = notes_then c.new-seen.result c.note_params.new.self c.note_blocks.new.self (ids_of_params c.args.spot f.params.items)
    (ids_of_blocks c.args.spot f.blocks.items c.args.spots.now) params blocks in
    (all [] c.new-seen.ensures).repeat
