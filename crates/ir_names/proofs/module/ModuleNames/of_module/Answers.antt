use Rattle.ir_names.specs.Numbers.{defined_id, declared_id}
use Rattle.ir_names.proofs.Entered.{made_of, module_entered}
use Rattle.ir_names.proofs.module.ModuleNames.of_module.Goals as goal

pub returns : goal.returns
returns c =
    let long = c.len-count.ensures.len in
    module_entered c.args.m.now c.requires c.len-count.ensures.distinct _ (record {
      types = made_of _ _ _ _ _ _ _ _ c.in_ok-first_of_each.ensures long c.deref-5.ensures.value c.in_ok-types.ensures c.deref.ensures.value;
      globals = made_of _ _ _ _ _ _ _ _ c.in_ok-first_of_each-2.ensures long c.deref-6.ensures.value c.in_ok-globals.ensures c.deref-2.ensures.value;
      defined = made_of (defined_id c.args.m.now.names) _ _ _ _ _ _ _ c.in_ok-first_of_each-3.ensures long c.deref-7.ensures.value c.in_ok-defined.ensures c.deref-3.ensures.value;
      declared = made_of (declared_id c.args.m.now.names) _ _ _ _ _ _ _ c.in_ok-first_of_each-4.ensures long c.deref-8.ensures.value c.in_ok-declared.ensures c.deref-4.ensures.value;
    })
