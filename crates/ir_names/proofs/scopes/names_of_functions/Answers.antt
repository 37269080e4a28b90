use Rattle.std.proofs.Common.{◌≡◌, ℕ, ◌<◌, List, Some, true, length, slice_get, get_or, arith, ap, sym, ◌∙◌, subst}
use Rattle.std.specs.List.{list_all}
use Rattle.ir_tree.specs.Known.{function_known}
use Rattle.ir_tree.specs.declared.module.Function.{Function}
use Rattle.ir_names.specs.Tables.{FunctionTable, AreNamesIn}
use Rattle.ir_names.proofs.AllKnown.{one_of_all}
use Rattle.ir_names.proofs.Entered.{functions_known, each_pushed}
use Rattle.ir_names.proofs.scopes.names_of_functions.Goals as goal

pub loop-f-preserved : goal.loop-f-preserved
loop-f-preserved c =
    let names = c.args.m.now.names in
    let fs = c.deref-f-items.result.now in
    let tables = c.loop-f.tables.items in
    let f = c.f-item.result in
    let long = c.loop-f.invariant.long in
    let within : length tables < length fs = omega arith in
    let known = subst (λ (z : List Function). list_all (function_known (length names)) z ≡ true) (sym c.deref-f-items.ensures.value)
    (functions_known c.args.m.now c.requires.known) in
    let item = c.f-item.is ∙ ap (λ (n : ℕ). get_or fs n f) (sym long) in
    let one = subst (λ (z : Function). function_known (length names) z ≡ true) (sym item) (one_of_all (function_known (length names)) fs (length tables) f within known) in
    let here = subst (λ (z : Function). AreNamesIn names z c.in_ok-of_function.field-0) item (c.in_ok-of_function.ensures names c.requires.distinct one) in
    record {
      long = omega (arith, c.in_ok-push.ensures.len);
      each = λ k g t at table.
          each_pushed (AreNamesIn names) fs tables f c.in_ok-of_function.field-0 within here
          (λ j h u p q. c.loop-f.invariant.each j h u (subst (λ (z : List Function). slice_get z j ≡ Some h) c.deref-f-items.ensures.value p) q)
          k g t (subst (λ (z : List Function). slice_get z k ≡ Some g) (sym c.deref-f-items.ensures.value) at)
          (subst (λ (z : List FunctionTable). slice_get z k ≡ Some t) c.in_ok-push.ensures.items table);
    }
