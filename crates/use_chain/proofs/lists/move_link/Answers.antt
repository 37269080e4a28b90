use Rattle.std.proofs.Common.{◌≡◌, ◌++◌, length, take, drop, sym, subst, arith, ap, ap₂, ◌∙◌, ◌+◌, ◌^◌, ◌<◌}
use Rattle.std.proofs.lemmas.List.{take_at}
use Rattle.use_chain.specs.Kept.{total, Moved}
use Rattle.use_chain.proofs.lists.move_link.Goals as goal

pub returns : goal.returns
returns c =
    let a = c.args in
    let l = c.move_to.new.links in
    let n = c.move_to.new.counts in
    let long : length l ≡ a.links.now.len = omega (arith, c.move_to.auto.links, ap length c.deref_mut.ensures.value, a.links.now.ok.0) in
    let many : length n ≡ a.counts.now.len = omega (arith, c.move_to.auto.counts, ap length c.deref_mut-2.ensures.value, a.counts.now.ok.0) in
    let all : length a.links.now.items ≡ a.links.now.len = omega (arith, a.links.now.ok.0) in
    let every : length a.counts.now.items ≡ a.counts.now.len = omega (arith, a.counts.now.ok.0) in
    let links : take a.links.now.len (l ++ drop (length l) a.links.now.items) ≡ l = take_at l (drop (length l) a.links.now.items) a.links.now.len long in
    let counts : take a.counts.now.len (n ++ drop (length n) a.counts.now.items) ≡ n = take_at n (drop (length n) a.counts.now.items) a.counts.now.len many in
    let k = c.requires.kept in
    let e = c.move_to.ensures in
    let was = c.deref_mut.result.now in
    let had = c.deref_mut-2.result.now in
    let moved : Moved was had l n a.k a.to a.at = record { heads = c.move_to.auto.counts; lists = e.members; here = e.here; elsewhere = e.others } in
    let sum : total n ≡ total a.counts.now.items = e.total ∙ ap total c.deref_mut-2.ensures.value in
    let same : length n ≡ length a.counts.now.items = many ∙ sym every in
    let long_same : length l ≡ length a.links.now.items = long ∙ sym all in
    rw (links, counts) (record {
      kept = record {
        lists = e.lists;
        all = long_same ∙ k.all ∙ sym (ap₂ (λ x y. x + y) same sum);
        some = subst (λ z. 0 < z) (sym same) k.some;
        few = subst (λ z. z < 2 ^ 32) (sym sum) k.few;
      };
      moved = subst (λ z. Moved z a.counts.now.items l n a.k a.to a.at) c.deref_mut.ensures.value
          (subst (λ z. Moved was z l n a.k a.to a.at) c.deref_mut-2.ensures.value moved);
    })
