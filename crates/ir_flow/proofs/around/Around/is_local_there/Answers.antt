use Rattle.std.proofs.Common.{sym, ◌∙◌, subst}
use Rattle.std.proofs.lemmas.Option.{same_Some}
use Rattle.std.proofs.lemmas.Result.{IfOk-weaker}
use Rattle.ir_rules.specs.declared.Site.{Site}
use Rattle.ir_proper.specs.Availability.{IsThereAtEnd}
use Rattle.ir_flow.specs.Around.{function_of}
use Rattle.ir_flow.proofs.around.Around.is_local_there.Goals as goal

pub returns-in-Some : goal.returns-in-Some
returns-in-Some c =
    let f = function_of c.args.self.now in
    IfOk-weaker c.is_there_from.result _ _
    (λ answer tells. (
      λ t site from given stands.
          subst (λ (s : Site). IsThereAtEnd f s from) (same_Some c.in-Some.site site (c.in-Some.ensures ∙ given)) (tells.0 t from stands),
      λ all. tells.1 (λ from stands. all c.in-Some.site from (sym c.in-Some.ensures) stands),
    ))
    c.is_there_from.ensures
