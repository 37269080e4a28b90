use Rattle.std.proofs.Common.{ℕ, List, ◌∙◌, ap, subst}
use Rattle.std.specs.Prelude.{◌↔◌, IsTrue, IfOk}
use Rattle.graph_paths.specs.Marks.{graph_of}
use Rattle.graph_paths.specs.Paths.{AlwaysPasses}
use Rattle.ir_flow.proofs.around.Around.always_passes.Goals as goal

pub returns : goal.returns
returns c =
    subst (λ (g : List (List ℕ)). IfOk c.always_passes.result (λ answer. IsTrue answer ↔ AlwaysPasses g c.args.before c.args.block))
    (ap graph_of c.deref.ensures.value ∙ c.requires.around.edges.forth) c.always_passes.ensures
