use Rattle.std.proofs.Common.{◌<◌, ◌≡◌, ◌∷◌, ◌++◌, [], ℕ, List, reverse, ap, sym, subst, ◌∙◌}
use Rattle.std.specs.List.{AllByRecursion}
use Rattle.ir_model.specs.Memory.{all_ended, ended}
use Rattle.mem_cells.specs.Shown.{block_count}
use Rattle.ir_eval.proofs.Stacks.{pushed_plain, front_all}
use Rattle.ir_eval.proofs.machine.end_all.Goals as goal

pub loop-block-preserved : goal.loop-block-preserved
loop-block-preserved c =
    let inv = c.loop-block.invariant in
    let block = c.in-Some.block in
    let rest : List ℕ = c.pop.new.self.items in
    let whole : c.loop-block.owned.items ≡ rest ++ block ∷ [] = c.in-Some.ensures.items in
    let Below : ℕ → ℕ → Type 0 = λ count k. k < count in
    record {
      there = subst (λ (n : ℕ). AllByRecursion (Below n) rest) (sym c.end.ensures.count)
          (front_all (Below (block_count c.loop-block.mem)) rest (block ∷ [])
          (subst (AllByRecursion (Below (block_count c.loop-block.mem))) whole inv.there));
      so_far = λ memory shows.
          let so_far = inv.so_far memory shows in (
            ended block so_far.0,
            c.end.ensures.ended so_far.0 so_far.1,
            ap (λ (ks : List ℕ). all_ended ks so_far.0) (sym (pushed_plain rest c.loop-block.owned.items block whole)) ∙ so_far.2,
          );
    }
