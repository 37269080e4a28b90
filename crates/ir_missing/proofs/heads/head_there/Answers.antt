use Rattle.std.proofs.Common.{refl, map}
use Rattle.std.specs.List.{list_all, flat_map}
use Rattle.ir_tree.specs.ShapeOf.{param_shape}
use Rattle.ir_tree.specs.Known.{param_known}
use Rattle.ir_rules.specs.Uses.{ty_uses}
use Rattle.ir_missing.proofs.Parts.{function_parts}
use Rattle.ir_missing.proofs.Telling.{tells_then, tells_else, tells_same}
use Rattle.ir_missing.proofs.heads.head_there.Goals as goal

pub returns-then-ty_there : goal.returns-then-ty_there
returns-then-ty_there c =
    tells_same (tells_then c.ty_there.ensures c.if-ty_there.true (rw c.deref.ensures.value at c.params_there.ensures))
    (λ n h. function_parts n c.args.f.now h) (λ names. refl)

pub returns-else-ty_there : goal.returns-else-ty_there
returns-else-ty_there c =
    tells_same
    (tells_else (λ n. list_all (param_known n) c.args.f.now.params.items)
    (λ names. flat_map (λ p. ty_uses p.ty) (map (param_shape names) c.args.f.now.params.items)) c.ty_there.ensures c.if-ty_there.false)
    (λ n h. function_parts n c.args.f.now h) (λ names. refl)
