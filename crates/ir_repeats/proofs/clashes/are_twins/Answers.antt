use Rattle.std.proofs.Common.{rules}
use Rattle.ir_tree.specs.ShapeOf.{module_shape}
use Rattle.ir_repeats.specs.Entries.{place_of}
use Rattle.ir_repeats.proofs.Clashing.{twins_of, alike_of}
use Rattle.ir_repeats.proofs.clashes.are_twins.Goals as goal

pub returns-in-Some-Some : goal.returns-in-Some-Some
returns-in-Some-Some c =
    let m = c.args.m.now in
    let s = c.in-Some-Some in
    let alike = c.are_alike.ensures m.names c.len-names.ensures.distinct (search rules) (search rules) in
    let one = rw s.is-0 at c.declared.ensures.found in
    let other = rw s.is-1 at c.declared-2.ensures.found in (
      (λ yes. twins_of (module_shape m) (place_of c.args.one) (place_of c.args.other) _ _ one other (alike.0 yes)),
      λ t. alike.1 (alike_of (module_shape m) (place_of c.args.one) (place_of c.args.other) _ _ one other t),
    )
