use Rattle.std.proofs.Common.{map, Some, None}
use Rattle.ir_rules.specs.declared.Callee.TheVariants.{Defined, Declared}
use Rattle.ir_check_insts.specs.Surroundings.{names_of, around_shape, ty_in, ty_val_in}
use Rattle.ir_check_insts.specs.Calls.{defined_signature, declared_signature}
use Rattle.ir_check_insts.proofs.Callees.{defined_found, declared_found, types_told, types_none}
use Rattle.ir_check_insts.proofs.around.Around.has_types.Goals as goal

pub returns-in-Some : goal.returns-in-Some
returns-in-Some c =
    let here = c.in-Some in
    rw c.in-Defined.is (types_told (around_shape c.args.self.now) (Defined c.in-Defined.number) (ty_in c.args.self.now c.args.ret.now)
    (map (λ x. x.ty) (map (ty_val_in c.args.self.now) c.args.arguments.now)) (defined_signature (names_of c.args.self.now) here.f.now) c.defined_has.result
    (defined_found c.args.self.now.module.now c.in-Defined.number (Some here.f.now) here.ensures.found) c.defined_has.ensures)

pub returns-in-None : goal.returns-in-None
returns-in-None c =
    rw c.in-Defined.is (
      λ no. cc,
      λ has. absurd (types_none (around_shape c.args.self.now) (Defined c.in-Defined.number) (ty_in c.args.self.now c.args.ret.now)
          (map (λ x. x.ty) (map (ty_val_in c.args.self.now) c.args.arguments.now))
          (defined_found c.args.self.now.module.now c.in-Defined.number None c.in-None.ensures.found) has),
    )

pub returns-in-Some-declared : goal.returns-in-Some-declared
returns-in-Some-declared c =
    let here = c.in-Some-declared in
    rw c.in-Declared.is (types_told (around_shape c.args.self.now) (Declared c.in-Declared.number) (ty_in c.args.self.now c.args.ret.now)
    (map (λ x. x.ty) (map (ty_val_in c.args.self.now) c.args.arguments.now)) (declared_signature (names_of c.args.self.now) here.d.now) c.declared_has.result
    (declared_found c.args.self.now.module.now c.in-Declared.number (Some here.d.now) here.ensures.found) c.declared_has.ensures)

pub returns-in-None-declared : goal.returns-in-None-declared
returns-in-None-declared c =
    rw c.in-Declared.is (
      λ no. cc,
      λ has. absurd (types_none (around_shape c.args.self.now) (Declared c.in-Declared.number) (ty_in c.args.self.now c.args.ret.now)
          (map (λ x. x.ty) (map (ty_val_in c.args.self.now) c.args.arguments.now))
          (declared_found c.args.self.now.module.now c.in-Declared.number None c.in-None-declared.ensures.found) has),
    )
