use Rattle.ir_rules.specs.Constants.{Walks}
use Rattle.ir_check_insts.specs.Surroundings.{names_of, around_shape, ty_in, KnowsTy}
use Rattle.ir_check_insts.proofs.Walks.{numbers_of, RestWalks}
use Rattle.ir_check_insts.proofs.around.Around.walks.Given as goal

abbrev pub invariant-loop-index : goal.invariant-loop-index
invariant-loop-index l =
    KnowsTy l.self l.at
    × RestWalks (around_shape l.self).within.types (names_of l.self) (ty_in l.self l.at) l.indices l.index-index
    (Walks (around_shape l.self).within.types (ty_in l.self l.ty) (numbers_of (names_of l.self) l.indices))
