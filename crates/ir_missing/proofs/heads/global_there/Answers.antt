use Rattle.std.proofs.Common.{refl}
use Rattle.ir_tree.specs.ShapeOf.{const_shape}
use Rattle.ir_tree.specs.Known.{const_known}
use Rattle.ir_rules.specs.Uses.{const_uses}
use Rattle.ir_missing.proofs.Parts.{global_parts}
use Rattle.ir_missing.proofs.Telling.{tells_then, tells_else, tells_same}
use Rattle.ir_missing.proofs.heads.global_there.Goals as goal

pub returns-then-ty_there : goal.returns-then-ty_there
returns-then-ty_there c =
    tells_same (tells_then c.ty_there.ensures c.if-ty_there.true c.const_there.ensures)
    (λ n h. global_parts n c.args.global.now h) (λ names. refl)

pub returns-else-ty_there : goal.returns-else-ty_there
returns-else-ty_there c =
    tells_same
    (tells_else (λ n. const_known n c.args.global.now.init) (λ names. const_uses (const_shape names c.args.global.now.init)) c.ty_there.ensures
    c.if-ty_there.false)
    (λ n h. global_parts n c.args.global.now h) (λ names. refl)
