use Rattle.std.proofs.Common.{List, length, arith, refl, subst}
use Rattle.std.proofs.lemmas.List.{take_all}
use Rattle.std.proofs.lemmas.Option.{slice_get_read}
use Rattle.ir_tree.specs.declared.module.Param.{Param}
use Rattle.ir_repeats.specs.Given.{ids_of_params, Notes}
use Rattle.ir_repeats.proofs.GivenSeen.{params_note}
use Rattle.ir_repeats.proofs.given.Seen.note_params.Goals as goal

pub loop-param-preserved : goal.loop-param-preserved
loop-param-preserved c =
    let here = slice_get_read c.args.params.now (length c.args.params.now) c.loop-param.param-index c.param-item.result refl (omega arith) c.param-item.is in
    params_note c.args.spot c.args.params.now c.loop-param.param-index c.param-item.result c.args.self.now c.loop-param.self c.note_if_named.new.self here
    c.loop-param.invariant c.in_ok-note_if_named.ensures

pub returns : goal.returns
returns c =
    subst (λ (ps : List Param). Notes c.args.self.now (ids_of_params c.args.spot ps) c.loop-param.self)
    (take_all c.loop-param.param-index c.args.params.now (omega arith)) c.loop-param.invariant
