use Rattle.std.proofs.Common.{◌≡◌, ◌<◌, sym, subst, arith}
use Rattle.std.specs.Prelude.{◌↔◌, IsTrue, IfOk}
use Rattle.std.proofs.lemmas.Result.{IfOk-weaker}
use Rattle.ir_rules.specs.declared.Site.{Site}
use Rattle.ir_rules.specs.declared.Site.TheVariants.{Inst}
use Rattle.ir_proper.specs.Availability.{IsThere}
use Rattle.ir_flow.specs.Around.{function_of}
use Rattle.ir_flow.proofs.OneByOne.{also, turned}
use Rattle.ir_flow.proofs.Passed.{there_by_paths}
use Rattle.ir_flow.proofs.around.Around.is_there.Goals as goal
use Rattle.ir_flow.proofs.around.Around.is_there.Goals.{then-giver-block+else-at-index, else-giver-block}

pub returns-in-Inst-2 : goal.returns-in-Inst-2
returns-in-Inst-2 c =
    let f = function_of c.args.self.now in
    let d = c.in-Inst-2.giver in
    let j = c.in-Inst-2.field-1 in
    let is : c.args.site ≡ Inst d j = (cc) in
    let one : c.in-Inst.giver ≡ d = (cc) in
    let other : c.in-Inst.at ≡ j = (cc) in
    let apart : (d ≡ c.args.block) × (j < c.args.index) → ⊥ =
    λ h. elim c.if-giver-block.branch [
      | then-giver-block+else-at-index w ↦ let less : j < c.args.index = h.1 in absurd (omega arith)
      | else-giver-block w ↦ let same : d ≡ c.args.block = h.0 in absurd (omega arith)
    ] in
    subst (λ (s : Site). IfOk c.always_passes.result (λ answer. IsTrue answer ↔ IsThere f s c.args.block c.args.index)) (sym is)
    (IfOk-weaker c.always_passes.result _ _
    (λ answer tells. also _ _ _ tells (turned _ _ (there_by_paths f d j c.args.block c.args.index apart))) c.always_passes.ensures)
