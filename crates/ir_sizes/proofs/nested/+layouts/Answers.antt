use Rattle.std.proofs.Common.{◌≡◌, List, length, Some, None, arith, sym, ◌∙◌, subst}
use Rattle.ir_tree.specs.declared.module.NamedTy.{NamedTy}
use Rattle.ir_layout.specs.Tables.{type_of_number}
use Rattle.ir_layout.proofs.Entries.{types_known}
use Rattle.ir_sizes.proofs.Measures.{inside_less}
use Rattle.ir_sizes.proofs.Computed.{none_at_once, layout_of_name, no_layout_of_name}
use Rattle.ir_sizes.proofs.nested.+layouts.Goals as goal

pub named_within-returns-then-depth-eq0 : goal.named_within-returns-then-depth-eq0
named_within-returns-then-depth-eq0 t c =
    rw c.if-depth-eq0.true (sym (none_at_once c.args.m.now.types.items (length c.args.m.now.names) c.args.id.0))

pub named_within-layout_within-requires : goal.named_within-layout_within-requires
named_within-layout_within-requires t c =
    let stands = subst (λ (ts : List NamedTy). type_of_number ts c.args.id.0 ≡ Some c.in-Some.ty.now) c.deref.ensures.value (sym c.in-Some.ensures) in
    (omega (arith, c.decreases, inside_less _ c.args.depth c.args.id.0 c.in-Some.ty.now c.if-depth-eq0.false stands), c.requires)

pub named_within-returns-in-Some : goal.named_within-returns-in-Some
named_within-returns-in-Some t c =
    let stands = subst (λ (ts : List NamedTy). type_of_number ts c.args.id.0 ≡ Some c.in-Some.ty.now) c.deref.ensures.value (sym c.in-Some.ensures) in
    c.layout_within.ensures
    ∙ sym (layout_of_name _ _ (types_known c.args.m.now c.requires) c.args.depth c.args.id.0 c.in-Some.ty.now c.if-depth-eq0.false stands)

pub named_within-returns-in-None : goal.named_within-returns-in-None
named_within-returns-in-None t c =
    let stands = subst (λ (ts : List NamedTy). type_of_number ts c.args.id.0 ≡ None) c.deref.ensures.value (sym c.in-None.ensures) in
    sym (no_layout_of_name _ _ c.args.depth c.args.id.0 c.if-depth-eq0.false stands)
