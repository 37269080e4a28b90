use Rattle.std.proofs.Common.{◌≡◌, ◌+◌, ◌-◌, [], ◌++◌, map, take, replicate, arith, refl, sym, ap₂, ◌∙◌, subst}
use Rattle.std.specs.List.{range_with_len}
use Rattle.use_chain.specs.Kept.{lone_head, IsKept, chain_of}
use Rattle.use_chain.proofs.Starts.{take_none, kept_new, lists_new}
use Rattle.use_chain.proofs.chain.UseChain.new.Goals as goal

pub invariant_of-result : goal.invariant_of-result
invariant_of-result c =
    let n = c.args.values + 1 in
    let all : n - 0 ≡ n = omega arith in
    let counts : c.resize.new.self.items ≡ replicate n 0 =
    c.in_ok-resize.ensures.items ∙ ap₂ (λ xs m. take n xs ++ replicate (n - m) 0) c.new-counts.ensures.items c.new-counts.ensures.len
    ∙ ap₂ (λ xs m. xs ++ replicate m 0) (take_none n) all in
    subst (λ l. IsKept l c.resize.new.self.items) (sym c.in_ok-lone_heads.ensures)
    (subst (λ cs. IsKept (map lone_head (range_with_len 0 n)) cs) (sym counts) (kept_new n (omega arith)))

pub returns-clause-lists : goal.returns-clause-lists
returns-clause-lists c =
    let n = c.args.values + 1 in
    let all : n - 0 ≡ n = omega arith in
    let counts : c.resize.new.self.items ≡ replicate n 0 =
    c.in_ok-resize.ensures.items ∙ ap₂ (λ xs m. take n xs ++ replicate (n - m) 0) c.new-counts.ensures.items c.new-counts.ensures.len
    ∙ ap₂ (λ xs m. xs ++ replicate m 0) (take_none n) all in
    subst (λ l. (chain_of l c.resize.new.self.items).lists ≡ replicate c.args.values []) (sym c.in_ok-lone_heads.ensures)
    (subst (λ cs. (chain_of (map lone_head (range_with_len 0 n)) cs).lists ≡ replicate c.args.values []) (sym counts) (lists_new n c.args.values refl))
