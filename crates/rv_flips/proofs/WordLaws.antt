-- What words do, with each damage.
use Rattle.std.proofs.Common.{◌≡◌, ◌≢◌, ℕ, ◌*◌, ◌%◌, ◌<◌, ◌^◌, ◌==◌, Bool, true, false, List, length, refl, sym, ◌∙◌, ap, subst, arith}
use Rattle.std.specs.Prelude.{ℤ, pos, slice_index}
use Rattle.std.proofs.lemmas.Bool.Decides.{nat_tests}
use Rattle.rv_inst.specs.declared.instruction.Form.{Form}
use Rattle.rv_inst.specs.declared.instruction.Form.TheVariants.{LUI, ADDI, ECALL}
use Rattle.rv_inst.specs.Word.{Fits}
use Rattle.rv_model.specs.State.{MachineState, register, set_register, plus64, next}
use Rattle.rv_model.specs.Step.{Ends, upper_value, put, act, step}
use Rattle.rv_model.specs.Text.{Stands}
use Rattle.rv_model.proofs.RegisterLemmas.{register-set_same, register-set_other, length-set_register, bound-set_register, pc-set_register, segments-set_register, input-set_register, out-set_register}
use Rattle.rv_model.proofs.TextLemmas.{step-stands}
use Rattle.rv_model.proofs.ActLemmas.{act-LUI, act-ADDI, act-ECALL, called-ends, upper_value_small}
use Rattle.rv_flips.specs.Cells.{Damage, Tag, Sure, Cell, Has, Holds}
use Rattle.rv_flips.specs.Assertion.{Assertion, Meets, KnowsLess, number_at, with_register, after_write}
use Rattle.rv_flips.specs.Moves.{Covered, Does, Moves, Finishes}
use Rattle.rv_flips.proofs.CellLemmas.{right_kept, holds_sure, with_register-same, with_register-other}
use Rattle.rv_flips.proofs.MoveLemmas.{one_word, last_word}

-- a register is written, and the word after comes next
pub meets_put : (words : List ℕ) (c : Assertion) (damage : Damage) (s : MachineState) (d v p : ℕ) (cell : Cell) → Meets words c damage s → 0 < d → d < 32 → v < 2 ^ 64 → Holds cell damage v → plus64 c.pc 4 ≡ p → Meets words (after_write c d cell p) damage (next (set_register s d v))
meets_put words c damage s d v p cell meets nonzero small wide holds at =
    let there : d < length s.regs = omega (arith, meets.count) in
    record {
      data_bytes = meets.data_bytes;
      pc = ap (λ q. plus64 q 4) (pc-set_register s d v ∙ meets.pc) ∙ at;
      regs = λ q. each q (q == d) refl there;
      wide = bound-set_register (2 ^ 64) s d v meets.wide wide;
      count = length-set_register s d v ∙ meets.count;
      segments = segments-set_register s d v ∙ meets.segments;
      size = meets.size;
      small = meets.small;
      slots = meets.slots;
      bytes = meets.bytes;
      input = input-set_register s d v ∙ meets.input;
      out = out-set_register s d v ∙ meets.out;
    }
  where
    each : (q : ℕ) (t : Bool) → (q == d) ≡ t → d < length s.regs → Holds (with_register c.regs d cell q) damage (register (set_register s d v) q)
    each q true same there =
        let is : d ≡ q = grind (arith, nat_tests) in
        let P : ℕ → Type 0 = λ k. Holds (with_register c.regs d cell k) damage (register (set_register s d v) k) in
        subst P is (rw (with_register-same c.regs d cell, register-set_same s d v nonzero there) holds)
    each q false same there =
        let other : q ≢ d = grind (arith, nat_tests) in
        rw (with_register-other c.regs d q cell other, register-set_other s d q v other) (meets.regs q)

-- a word that writes a register and nothing else
pub does_put : (words : List ℕ) (c : Assertion) (damage : Damage) (s : MachineState) (d v p : ℕ) (cell : Cell) → Meets words c damage s → 0 < d → d < 32 → v < 2 ^ 64 → Holds cell damage v → plus64 c.pc 4 ≡ p → step s ≡ put d v s → Does words damage s (after_write c d cell p)
does_put words c damage s d v p cell meets nonzero small wide holds at goes =
    record {
      state = next (set_register s d v);
      goes = goes;
      meets = meets_put words c damage s d v p cell meets nonzero small wide holds at;
    }

-- the step of a state that meets an assertion is the act of the instruction at its pc
pub step_here : (words : List ℕ) (c : Assertion) (damage : Damage) (s : MachineState) (form : Form) → Meets words c damage s → Stands words c.pc form → step s ≡ act form s
step_here words c damage s form meets stands = step-stands words meets.data_bytes s c.pc form meets.pc meets.segments stands

-- a constant by LUI
pub upper_moves : (words : List ℕ) (listed : ℕ → ℕ → Type 0) (c : Assertion) (d p : ℕ) (imm : ℤ) (tag : Tag) → 0 < d → plus64 c.pc 4 ≡ p → Stands words c.pc (LUI d imm) → Covered listed c → Moves words listed c 1 (after_write c d (Has tag (upper_value imm)) p)
upper_moves words listed c d p imm tag nonzero at stands covered = one_word words listed c _ covered does
  where
    does : (damage : Damage) (s : MachineState) → Meets words c damage s → Does words damage s (after_write c d (Has tag (upper_value imm)) p)
    does damage s meets =
        let fits : Fits (LUI d imm) = stands.is_word.0 in
        let small : upper_value imm < 2 ^ 64 = upper_value_small imm fits.1 in
        let goes : step s ≡ put d (upper_value imm) s = step_here words c damage s (LUI d imm) meets stands ∙ act-LUI d imm s in
        does_put words c damage s d (upper_value imm) p (Has tag (upper_value imm)) meets nonzero fits.0 small (right_kept tag (upper_value imm) (upper_value imm) damage refl) at goes

-- a copy by ADDI of 0, of which is known what is known of the register that it is a copy of
pub copy_moves : (words : List ℕ) (listed : ℕ → ℕ → Type 0) (c : Assertion) (d a p : ℕ) (cell : Cell) → c.regs a ≡ cell → 0 < d → plus64 c.pc 4 ≡ p → Stands words c.pc (ADDI d a (pos 0)) → Covered listed c → Moves words listed c 1 (after_write c d cell p)
copy_moves words listed c d a p cell has nonzero at stands covered = one_word words listed c _ covered does
  where
    does : (damage : Damage) (s : MachineState) → Meets words c damage s → Does words damage s (after_write c d cell p)
    does damage s meets =
        let fits : Fits (ADDI d a (pos 0)) = stands.is_word.0 in
        let wide : register s a < 2 ^ 64 = meets.wide a in
        let P : Cell → Type 0 = λ known. Holds known damage (register s a) in
        let value : plus64 (register s a) 0 ≡ register s a = omega arith in
        let goes : step s ≡ put d (register s a) s = step_here words c damage s (ADDI d a (pos 0)) meets stands ∙ act-ADDI d a (pos 0) s ∙ ap (λ v. put d v s) value in
        does_put words c damage s d (register s a) p cell meets nonzero fits.0 wide (subst P has (meets.regs a)) at goes

-- the call that ends the program with the lowest byte of x10
pub exit_finishes : (words : List ℕ) (listed : ℕ → ℕ → Type 0) (c : Assertion) (n : ℕ) → c.regs 17 ≡ Has Sure 93 → c.regs 10 ≡ Has Sure n → Stands words c.pc ECALL → Covered listed c → Finishes words listed c 1 c.out (n % 256)
exit_finishes words listed c n number status stands covered = last_word words listed c (n % 256) covered ends
  where
    ends : (damage : Damage) (s : MachineState) → Meets words c damage s → step s ≡ Ends (n % 256)
    ends damage s meets =
        let P : Cell → Type 0 = λ cell. Holds cell damage (register s 17) in
        let Q : Cell → Type 0 = λ cell. Holds cell damage (register s 10) in
        let x17 : register s 17 ≡ 93 = holds_sure 93 (register s 17) damage (subst P number (meets.regs 17)) in
        let x10 : register s 10 ≡ n = holds_sure n (register s 10) damage (subst Q status (meets.regs 10)) in
        step_here words c damage s ECALL meets stands ∙ act-ECALL s ∙ called-ends s n x17 x10

-- another cell of a register that holds what this cell says too
pub meets_cell : (words : List ℕ) (c : Assertion) (r : ℕ) (cell : Cell) (damage : Damage) (s : MachineState) → Meets words c damage s → Holds cell damage (register s r) → Meets words (record c { regs = with_register c.regs r cell }) damage s
meets_cell words c r cell damage s meets holds =
    record {
      data_bytes = meets.data_bytes;
      pc = meets.pc;
      regs = λ q. each q (q == r) refl;
      wide = meets.wide;
      count = meets.count;
      segments = meets.segments;
      size = meets.size;
      small = meets.small;
      slots = meets.slots;
      bytes = meets.bytes;
      input = meets.input;
      out = meets.out;
    }
  where
    each : (q : ℕ) (b : Bool) → (q == r) ≡ b → Holds (with_register c.regs r cell q) damage (register s q)
    each q true e =
        let is : r ≡ q = grind (arith, nat_tests) in
        let P : ℕ → Type 0 = λ k. Holds (with_register c.regs r cell k) damage (register s k) in
        subst P is (rw (with_register-same c.regs r cell) holds)
    each q false e = let other : q ≢ r = grind (arith, nat_tests) in rw (with_register-other c.regs r q cell other) (meets.regs q)

-- a state that meets an assertion meets one that says less
pub meets_less : (words : List ℕ) (c d : Assertion) (damage : Damage) (s : MachineState) → KnowsLess c d → Meets words c damage s → Meets words d damage s
meets_less words c d damage s less meets =
    record {
      data_bytes = meets.data_bytes;
      pc = meets.pc ∙ sym less.pc;
      regs = λ q. less.regs q damage (register s q) (meets.regs q);
      wide = meets.wide;
      count = meets.count;
      segments = meets.segments;
      size = meets.size ∙ sym less.size;
      small = meets.small;
      slots = λ k. less.slots k damage (number_at (8 * k) meets.data_bytes) (meets.slots k);
      bytes = λ o. less.bytes o (slice_index meets.data_bytes o) (meets.bytes o);
      input = meets.input ∙ sym less.input;
      out = meets.out ∙ sym less.out;
    }
