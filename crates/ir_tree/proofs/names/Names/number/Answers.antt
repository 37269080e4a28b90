use Rattle.std.proofs.Common.{◌≡◌, map, sym, subst}
use Rattle.std.specs.Str.{bytes_eq}
use Rattle.ir_tree.specs.NameTable.{number_of, with_name, text_of, IsKnown, Grows}
use Rattle.ir_tree.proofs.Keys.{place_found, place_is, keys_kept, keys_after}
use Rattle.ir_tree.proofs.Table.{text_of-with_name, known_with_name, grows_same, grows_with_name}
use Rattle.ir_tree.proofs.names.Names.number.Goals as goal

pub returns-in-Some-clause-number : goal.returns-in-Some-clause-number
returns-in-Some-clause-number c =
    rw (← c.self.view_is) (place_found (λ v. v.items) (bytes_eq c.args.name.now) _ _ c.in-Some.ensures.index)

pub returns-in-Some-clause-names : goal.returns-in-Some-clause-names
returns-in-Some-clause-names c =
    rw (← c.self.view_is) (keys_kept (λ v. v.items) (bytes_eq c.args.name.now) _ c.args.name.now c.in-Some.ensures.found)

pub returns-in-Some-clause-text : goal.returns-in-Some-clause-text
returns-in-Some-clause-text c =
    rw (returns-in-Some-clause-number c)
    (let same = returns-in-Some-clause-names c in
    subst (λ names. text_of names (number_of c.args.self.now c.args.name.now) ≡ c.args.name.now) (sym same)
    (text_of-with_name c.args.self.now c.args.name.now))

pub returns-in-Some-clause-known : goal.returns-in-Some-clause-known
returns-in-Some-clause-known c =
    rw (returns-in-Some-clause-number c)
    (let same = returns-in-Some-clause-names c in
    subst (λ names. IsKnown names (number_of c.args.self.now c.args.name.now)) (sym same)
    (known_with_name c.args.self.now c.args.name.now))

pub returns-in-Some-clause-grows : goal.returns-in-Some-clause-grows
returns-in-Some-clause-grows c = grows_same _

pub returns-clause-number : goal.returns-clause-number
returns-clause-number c =
    subst (λ name. c.in_ok-index.index ≡ number_of c.args.self.now name) c.in_ok-owned.ensures.items
    (rw (← c.self.view_is) (place_is (λ v. v.items) (bytes_eq c.in_ok-owned.owned.items) _ _ c.in_ok-index.ensures.index))

pub returns-clause-names : goal.returns-clause-names
returns-clause-names c =
    subst (λ name. map (λ v. v.items) c.insert_full.new.self.keys ≡ with_name c.args.self.now name) c.in_ok-owned.ensures.items
    (rw (← c.self.view_is) (keys_after (λ v. v.items) (bytes_eq c.in_ok-owned.owned.items) _ _ c.in_ok-owned.owned c.in_ok-index.ensures.keys))

pub returns-clause-text : goal.returns-clause-text
returns-clause-text c =
    rw (returns-clause-number c, returns-clause-names c) (text_of-with_name c.args.self.now c.args.name.now)

pub returns-clause-known : goal.returns-clause-known
returns-clause-known c =
    rw (returns-clause-number c, returns-clause-names c) (known_with_name c.args.self.now c.args.name.now)

pub returns-clause-grows : goal.returns-clause-grows
returns-clause-grows c = subst (Grows c.args.self.now) (sym (returns-clause-names c)) (grows_with_name c.args.self.now c.args.name.now)
