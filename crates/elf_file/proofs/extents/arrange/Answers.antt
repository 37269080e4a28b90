use Rattle.std.proofs.Common.{rules, ◌≡◌, ◌==◌, ◌<◌, not, List, filter, subst, sym, All}
use Rattle.std.specs.List.Sorted.{IsPermutation}
use Rattle.std.proofs.lemmas.List.Elements.{filter_from_retain}
use Rattle.std.proofs.lemmas.List.Sorted.{IsNonDecreasingBy-from_sort_by_key, All-permutation}
use Rattle.elf_file.specs.declared.extents.Extent.{Extent}
use Rattle.elf_file.proofs.Covers.{All-filled}
use Rattle.elf_file.proofs.extents.arrange.Goals as goal

pub returns-clause-moved : goal.returns-clause-moved
returns-clause-moved c =
    let kept : c.retain.new.self.items ≡ filter (λ x. not (x.size == 0)) c.args.extents.now.items =
    filter_from_retain _ (λ x. not (x.size == 0)) (λ p x b q k. search rules) _ _ _ c.retain.ensures.filtered in
    let Moved : List Extent → Type 0 = λ l. IsPermutation l c.sort_unstable_by_key.new.self.items in
    subst Moved kept c.sort_unstable_by_key.ensures.permutation

pub returns-clause-sorted : goal.returns-clause-sorted
returns-clause-sorted c =
    IsNonDecreasingBy-from_sort_by_key (λ x. x.base) _ c.sort_unstable_by_key.ensures.sorted (λ a r q k. search rules)

pub returns-clause-filled : goal.returns-clause-filled
returns-clause-filled c =
    let kept : c.retain.new.self.items ≡ filter (λ x. not (x.size == 0)) c.args.extents.now.items =
    filter_from_retain _ (λ x. not (x.size == 0)) (λ p x b q k. search rules) _ _ _ c.retain.ensures.filtered in
    let Filled : List Extent → Type 0 = All (λ x. 0 < x.size) in
    All-permutation (λ x. 0 < x.size) c.retain.new.self.items c.sort_unstable_by_key.new.self.items
    c.sort_unstable_by_key.ensures.permutation
    (subst Filled (sym kept) (All-filled (λ (x : Extent). x.size) c.args.extents.now.items))
