use Rattle.std.proofs.Common.{◌≡◌, ℕ, List, ◌++◌, Option, length, take, arith, sym, subst}
use Rattle.std.proofs.lemmas.Bool.{OnFalse_at}
use Rattle.std.proofs.Math.Seq.{take-append_seam}
use Rattle.ir_openings.specs.Openings.{AreOpenings}
use Rattle.ir_openings.proofs.Entries.{whole_if_stuck}
use Rattle.ir_openings.proofs.table.Openings.of_module.Goals as goal

written_back : (xs ys : List (Option ℕ)) (n : ℕ) → length xs ≡ n → take n (xs ++ ys) ≡ xs
written_back xs ys n long = subst (λ (k : ℕ). take k (xs ++ ys) ≡ xs) long (take-append_seam xs ys)

pub returns : goal.returns
returns c = record {
  whole =
      let whole = whole_if_stuck c.args.m.now c.enter_all.new.openings c.enter_all.ensures.sound
      (OnFalse_at c.loop-test.false c.enter_all.ensures.stuck) in
      subst (λ (z : List (Option ℕ)). AreOpenings c.args.m.now z)
      (sym (written_back c.enter_all.new.openings _ c.loop.of_name.len (omega arith))) whole;
}
