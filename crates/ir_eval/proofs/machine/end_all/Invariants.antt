use Rattle.std.proofs.Common.{◌≡◌, ◌<◌, ℕ, List, reverse, vec_len}
use Rattle.std.specs.List.{AllByRecursion}
use Rattle.ir_model.specs.Values.{MemoryBlock}
use Rattle.ir_model.specs.Memory.{all_ended}
use Rattle.mem_cells.specs.Shown.{Shows, block_count}
use Rattle.ir_eval.proofs.machine.end_all.Given as goal

abbrev pub decreases-loop-block : goal.decreases-loop-block
decreases-loop-block l = vec_len l.owned

abbrev pub invariant-loop-block : goal.invariant-loop-block
invariant-loop-block l = record {
  there : AllByRecursion (λ k. k < block_count l.mem) l.owned.items;
  so_far : (memory : List MemoryBlock) → Shows memory l.fn.mem
      → (later : List MemoryBlock) × Shows later l.mem × (all_ended (reverse l.owned.items) later ≡ all_ended (reverse l.fn.owned.items) memory);
}
