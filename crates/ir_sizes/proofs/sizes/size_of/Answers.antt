use Rattle.std.proofs.Common.{◌≡◌, length, arith, Some, refl, sym, ◌∙◌, ap}
use Rattle.ir_layout.specs.declared.sizes.Layout.{Layout}
use Rattle.ir_sizes.proofs.Computed.{sized_within}
use Rattle.ir_sizes.proofs.sizes.size_of.Goals as goal

pub unwrap-requires : goal.unwrap-requires
unwrap-requires c =
    let sized = c.requires.sized in
    let deep : c.len.result ≡ length c.args.m.now.types.items = omega (arith, c.len.ensures, c.args.m.now.types.ok.0) in
    rw (c.layout_within.ensures ∙ sized_within c.args.m.now c.requires.known c.len-names.ensures.distinct c.len.result c.args.ty.now deep c.requires.names sized.0 sized.1) refl

some_layout : (l k : Layout) → Some l ≡ Some k → l ≡ k
some_layout l k e = cc

pub returns : goal.returns
returns c l has =
    let deep : c.len.result ≡ length c.args.m.now.types.items = omega (arith, c.len.ensures, c.args.m.now.types.ok.0) in
    let found = c.layout_within.ensures ∙ sized_within c.args.m.now c.requires.known c.len-names.ensures.distinct c.len.result c.args.ty.now deep c.requires.names l has in
    ap (λ (k : Layout). k.size) (some_layout c.unwrap.result l (sym c.unwrap.ensures ∙ found))
