use Rattle.std.proofs.Common.{◌≡◌, ℕ, ◌<◌, ◌^◌, rules, subst, arith}
use Rattle.std.proofs.lemmas.Grind.{common_steps}
use Rattle.byteorder.specs.Endian.{little_number}
use Rattle.rv_machine.proofs.processor.Machine.number_at.Goals as goal

pub returns-clause-some : goal.returns-clause-some
returns-clause-some c =
    let IsNumber : ℕ → Type 0 = λ n. c.number.result ≡ little_number n c.in_ok-bytes.bytes.now in
    let IsBounded : ℕ → Type 0 = λ n. c.number.result < 256 ^ n in
    record {
      bytes = c.in_ok-bytes.bytes.now;
      there = first_of (search rules, first_of (cc, grind (arith, common_steps)));
      value = subst IsNumber c.in_ok-bytes.ensures.size c.number.ensures.value;
      bound = subst IsBounded c.in_ok-bytes.ensures.size c.number.ensures.bound;
    }
