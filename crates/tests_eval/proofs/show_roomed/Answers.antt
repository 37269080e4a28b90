use Rattle.std.proofs.Common.{sym, subst}
use Rattle.ir_typed_runs.specs.TypedPrograms.{IsTyped}
use Rattle.tests_eval.proofs.Typed.{roomed_typed, roomed_kinds}
use Rattle.tests_eval.proofs.show_roomed.Goals as goal

pub show-requires : goal.show-requires
show-requires g c = (roomed_kinds, subst (λ p. IsTyped p roomed_kinds) (sym c.in_ok-p.ensures) (roomed_typed c.args.n c.ranges.n.fits))
