use Rattle.std.proofs.Common.{◌≡◌, rules, sym, ◌∙◌, ap, subst, to_z, of_z}
use Rattle.std.specs.Int.{w128}
use Rattle.ir_tree.specs.ShapeOf.{body_shape, module_shape}
use Rattle.ir_tree.specs.declared.module.Body.{Body}
use Rattle.ir_proper.specs.Limits.{capped, alloca_room, TakesRoom}
use Rattle.ir_limits.proofs.frames.room_of.Goals as goal

pub returns-in-Alloca : goal.returns-in-Alloca
returns-in-Alloca c =
    let same : to_z w128 (of_z w128 c.in-Alloca.count) ≡ c.in-Alloca.count = search rules in
    let takes = subst (λ (b : Body). TakesRoom (module_shape c.args.m.now).types (body_shape c.args.m.now.names b) c.requires.sized.0) c.in-Alloca.is
    c.requires.sized.1 in
    let size : c.size_in.result ≡ takes.0.size = c.size_in.ensures takes.0 takes.1 in (
      c.requires.sized.0,
      c.requires.sized.1,
      c.alloca_room.ensures ∙ ap (λ n. capped (alloca_room n c.size_in.result)) same ∙ ap (λ s. capped (alloca_room c.in-Alloca.count s)) size
          ∙ ap capped (sym takes.2),
    )
