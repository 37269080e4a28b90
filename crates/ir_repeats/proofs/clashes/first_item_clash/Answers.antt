use Rattle.std.proofs.Common.{◌≡◌, ◌∙◌, List, length, sym, subst, rules}
use Rattle.ir_repeats.specs.declared.entries.Entry.{Entry}
use Rattle.ir_rules.specs.Faults.{IsFirst}
use Rattle.ir_repeats.specs.Entries.{type_entries, symbol_entries, AreNamedBelow, EntryClash}
use Rattle.ir_repeats.proofs.Faulty.{types_below, symbols_below, first_fault}
use Rattle.ir_repeats.proofs.clashes.first_item_clash.Goals as goal

pub clash_among-requires-clause-below : goal.clash_among-requires-clause-below
clash_among-requires-clause-below c =
    let is : c.in_ok-types.types.items ≡ type_entries c.args.p.now = search rules in
    subst (λ (es : List Entry). AreNamedBelow (length c.args.p.now.«module».names) es) (sym (c.deref.ensures.value ∙ is))
    (types_below c.args.p.now c.requires.known)

pub clash_among-requires-2-clause-below : goal.clash_among-requires-2-clause-below
clash_among-requires-2-clause-below c =
    let is : c.in_ok-symbols.symbols.items ≡ symbol_entries c.args.p.now = search rules in
    subst (λ (es : List Entry). AreNamedBelow (length c.args.p.now.«module».names) es) (sym (c.deref-2.ensures.value ∙ is))
    (symbols_below c.args.p.now c.requires.known)

pub returns : goal.returns
returns c =
    let p = c.args.p.now in
    let types : c.in_ok-types.types.items ≡ type_entries p = search rules in
    let symbols : c.in_ok-symbols.symbols.items ≡ symbol_entries p = search rules in
    let one : IsFirst (EntryClash p.«module» c.deref.result.now) c.in_ok-of_types.of_types = search rules in
    let other : IsFirst (EntryClash p.«module» c.deref-2.result.now) c.in_ok-of_symbols.of_symbols = search rules in
    rw c.first_of.ensures (first_fault p c.requires.known c.len-names.ensures.distinct c.in_ok-of_types.of_types c.in_ok-of_symbols.of_symbols
    (rw (c.deref.ensures.value, types) at one) (rw (c.deref-2.ensures.value, symbols) at other))
