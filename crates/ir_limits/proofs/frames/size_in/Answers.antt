use Rattle.std.proofs.Common.{◌≡◌, Some, refl, sym, ◌∙◌, ap}
use Rattle.ir_layout.specs.declared.sizes.Layout.{Layout}
use Rattle.ir_limits.proofs.frames.size_in.Goals as goal

pub unwrap-requires : goal.unwrap-requires
unwrap-requires c =
    let sized = c.requires.sized in
    let table = rw c.in-Some.is at c.requires.table in
    let found = (c.layout_of.ensures c.args.m.now c.requires.known table c.requires.names sized.0).1 sized.1 in
    rw found refl

some_layout : (l k : Layout) → Some l ≡ Some k → l ≡ k
some_layout l k e = cc

pub returns-in-Some : goal.returns-in-Some
returns-in-Some c l has =
    let table = rw c.in-Some.is at c.requires.table in
    let found = (c.layout_of.ensures c.args.m.now c.requires.known table c.requires.names l).1 has in
    ap (λ (k : Layout). k.size) (some_layout c.unwrap.result l (sym c.unwrap.ensures ∙ found))
