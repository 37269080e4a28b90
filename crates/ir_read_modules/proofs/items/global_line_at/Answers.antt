use Rattle.ir_read_modules.proofs.ItemParts.{global_known_of, global_read}
use Rattle.ir_read_modules.proofs.items.global_line_at.Goals as goal

pub returns-clause-known : goal.returns-clause-known
returns-clause-known c =
    global_known_of c.in_ok-ty.ensures.grows c.in_ok-init.ensures.grows c.in_ok-name.name c.in_ok-constant.constant c.in_ok-ty.ty c.in_ok-init.init c.in_ok-name.ensures.known c.in_ok-ty.ensures.known c.in_ok-init.ensures.known

pub returns-clause-reads : goal.returns-clause-reads
returns-clause-reads c = (
  global_read c.in_ok-ty.ensures.grows c.in_ok-init.ensures.grows c.args.budget _ _ _ _ _ _ c.in_ok-name.name _ c.in_ok-constant.constant c.in_ok-ty.ty c.in_ok-init.init c.in_ok-name.ensures.known c.in_ok-ty.ensures.known
      c.in_ok-name.ensures.reads.0 c.in_ok-next.ensures.steps.0 c.in_ok-constant.ensures.reads.0 c.in_ok-ty.ensures.reads.0 c.in_ok-init.ensures.reads.0,
  c.in_ok-init.ensures.reads.1,
)
