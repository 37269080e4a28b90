use Rattle.ir_check_insts.specs.Surroundings.{names_of, around_shape, ty_val_in}
use Rattle.ir_check_insts.proofs.Switches.{switch_then}
use Rattle.ir_check_insts.proofs.around.Around.is_switch.Goals as goal

pub are_cases-requires : goal.are_cases-requires
are_cases-requires c = (c.in-Some.ensures.width (names_of c.args.self.now)).2

pub returns-in-Some : goal.returns-in-Some
returns-in-Some c =
    let wide = c.in-Some.ensures.width (names_of c.args.self.now) in
    switch_then (around_shape c.args.self.now) (ty_val_in c.args.self.now c.args.value.now) (names_of c.args.self.now) c.in-Some.width c.args.cases.now wide.0 wide.1 wide.2 (c.fits.ensures.0 c.if-not-fits.false) c.are_cases.result c.are_cases.ensures

pub returns-in-None : goal.returns-in-None
returns-in-None c otherwise = (λ no. cc, λ is. absurd (c.in-None.ensures.none (names_of c.args.self.now) is.2))
