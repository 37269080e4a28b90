use Rattle.std.proofs.Common.{ap, map, ◌∙◌}
use Rattle.std.specs.Ordering.{nat_cmp}
use Rattle.std.specs.BTreeMap.{get}
use Rattle.ir_names.proofs.Entered.{first_read, function_entered}
use Rattle.ir_names.proofs.function.FunctionNames.of_function.Goals as goal

pub returns : goal.returns
returns c names distinct known =
    function_entered names distinct c.args.f.now known c.in_ok-values.values.items (c.in_ok-values.ensures.shape names) (c.in_ok-values.ensures.known _ known) _ (record {
      sites = c.in_ok-sites.ensures ∙ ap (map (λ v. v.site)) c.deref-3.ensures.value;
      values = first_read _ _ _ _ _ (get nat_cmp c.in_ok-first_of_some.field-0) c.in_ok-first_of_some.ensures c.deref-4.ensures.value c.in_ok-value_ids.ensures c.deref.ensures.value;
      blocks = first_read _ _ _ _ _ (get nat_cmp c.in_ok-first_of_some-2.field-0) c.in_ok-first_of_some-2.ensures c.deref-5.ensures.value c.in_ok-block_ids.ensures c.deref-2.ensures.value;
    })
