-- The one lemma on flips: after a flip of a register that is not kept for sure, the state meets the same assertion, with the damage
-- that the register's cell gives.
use Rattle.std.proofs.Common.{◌≡◌, ◌≢◌, ℕ, zero, suc, ◌-◌, ◌*◌, ◌<◌, ◌^◌, ◌==◌, Bool, true, false, cond, List, length, Option, Some, None, IfSome, refl, ◌∙◌, ap, subst, arith, bit_xor}
use Rattle.std.proofs.lemmas.Bool.Decides.{nat_tests}
use Rattle.std.proofs.lemmas.Nat.{xor_lt}
use Rattle.std.proofs.Math.Pow.{pow-lt}
use Rattle.rv_model.specs.declared.Flip.{Flip}
use Rattle.rv_model.specs.State.{MachineState, register}
use Rattle.rv_model.specs.Run.{FlipFits, IsOutside, flipped, struck, later, pc_at}
use Rattle.rv_model.proofs.RegisterLemmas.{register-set_same, register-set_other, length-set_register, bound-set_register, pc-set_register, segments-set_register, input-set_register, out-set_register}
use Rattle.rv_model.proofs.RunLemmas.{run-suc, pc_at-zero, pc_at-suc}
use Rattle.rv_flips.specs.Cells.{Damage, Nothing, Has, Sure, Holds, flip_damage}
use Rattle.rv_flips.specs.Assertion.{Assertion, Meets, number_at}
use Rattle.rv_flips.specs.Moves.{Good, Covered, Ready}
use Rattle.rv_flips.proofs.CellLemmas.{undamaged_holds, flip_own}

pub meets_flipped : (words : List ℕ) (c : Assertion) (s : MachineState) (r b : ℕ) → Meets words c Nothing s → 0 < r → r < 32 → b < 64 → ((v : ℕ) → c.regs r ≡ Has Sure v → ⊥) → Meets words c (flip_damage (c.regs r)) (flipped r b s)
meets_flipped words c s r b meets nonzero small bit safe =
    let y = bit_xor (register s r) (2 ^ b) in
    let y_wide : bit_xor (register s r) (2 ^ b) < 2 ^ 64 = xor_lt 64 (register s r) (2 ^ b) (meets.wide r) (pow-lt bit) in
    let there : r < length s.regs = omega (arith, meets.count) in
    record {
      data_bytes = meets.data_bytes;
      pc = pc-set_register s r y ∙ meets.pc;
      regs = λ q. each q (q == r) refl y_wide there;
      wide = bound-set_register (2 ^ 64) s r y meets.wide y_wide;
      count = length-set_register s r y ∙ meets.count;
      segments = segments-set_register s r y ∙ meets.segments;
      size = meets.size;
      small = meets.small;
      slots = λ k. undamaged_holds (c.slots k) (number_at (8 * k) meets.data_bytes) (flip_damage (c.regs r)) (meets.slots k);
      bytes = meets.bytes;
      input = input-set_register s r y ∙ meets.input;
      out = out-set_register s r y ∙ meets.out;
    }
  where
    each : (q : ℕ) (t : Bool) → (q == r) ≡ t → bit_xor (register s r) (2 ^ b) < 2 ^ 64 → r < length s.regs → Holds (c.regs q) (flip_damage (c.regs r)) (register (flipped r b s) q)
    each q true e wide there =
        let same : r ≡ q = grind (arith, nat_tests) in
        let P : ℕ → Type 0 = λ k. Holds (c.regs k) (flip_damage (c.regs r)) (register (flipped r b s) k) in
        subst P same (rw (register-set_same s r (bit_xor (register s r) (2 ^ b)) nonzero there) (flip_own (c.regs r) (register s r) b safe (meets.wide r) wide bit (meets.regs r)))
    each q false e wide there =
        let other : q ≢ r = grind (arith, nat_tests) in
        rw (register-set_other s r q (bit_xor (register s r) (2 ^ b)) other) (undamaged_holds (c.regs q) (register s q) (flip_damage (c.regs r)) (meets.regs q))

-- the flip strikes now
struck_now : (words : List ℕ) (listed : ℕ → ℕ → Type 0) (c : Assertion) (s : MachineState) (f : Flip) → Covered listed c → Meets words c Nothing s → FlipFits f → IsOutside listed s f → f.at ≡ 0 → Ready words listed c s (Some f)
struck_now words listed c s f covered meets fits outside now =
    let at_zero : (f.at == 0) ≡ true = grind (arith, nat_tests) in
    let here : pc_at f.at s ≡ Some (c.pc) = ap (λ n. pc_at n s) now ∙ pc_at-zero s ∙ ap Some meets.pc in
    let P : Option ℕ → Type 0 = λ o. IfSome o (λ p. listed p f.reg → ⊥) in
    let unlisted : listed (c.pc) f.reg → ⊥ = subst P here outside in
    let turned : struck (Some f) s ≡ flipped f.reg f.bit s = ap (λ b. cond b (flipped f.reg f.bit s) s) at_zero in
    let none : later (Some f) ≡ None = ap (λ b. cond b None (Some (record f { at = f.at - 1 }))) at_zero in
    record {
      now = flipped f.reg f.bit s;
      damage = flip_damage (c.regs f.reg);
      rest = None;
      meets = meets_flipped words c s f.reg f.bit meets fits.0 fits.1 fits.2 (λ v is. unlisted (covered f.reg v is fits.0));
      goes = λ k. run-suc k s (Some f) ∙ rw (turned, none, meets.out) refl;
      pending = λ t e. tt;
    }

-- the flip comes later
strikes_later : (words : List ℕ) (listed : ℕ → ℕ → Type 0) (c : Assertion) (s : MachineState) (f : Flip) → Meets words c Nothing s → FlipFits f → IsOutside listed s f → (n : ℕ) → f.at ≡ suc n → Ready words listed c s (Some f)
strikes_later words listed c s f meets fits outside n more =
    let not_now : (f.at == 0) ≡ false = grind (arith, nat_tests) in
    let as_is : struck (Some f) s ≡ s = ap (λ b. cond b (flipped f.reg f.bit s) s) not_now in
    let kept : later (Some f) ≡ Some (record f { at = f.at - 1 }) = ap (λ b. cond b None (Some (record f { at = f.at - 1 }))) not_now in
    record {
      now = s;
      damage = Nothing;
      rest = Some (record f { at = f.at - 1 });
      meets = meets;
      goes = λ k. run-suc k s (Some f) ∙ rw (as_is, kept, meets.out) refl;
      pending = λ t e.
          let there : pc_at f.at s ≡ pc_at (f.at - 1) t = ap (λ m. pc_at m s) more ∙ pc_at-suc n s t e ∙ ap (λ m. pc_at m t) (omega arith) in
          let P : Option ℕ → Type 0 = λ o. IfSome o (λ p. listed p f.reg → ⊥) in
          record { undamaged = refl; fits = fits; outside = subst P there outside };
    }

-- where the list has each register that it must, the flip strikes or is still to come
pub ready : (words : List ℕ) (listed : ℕ → ℕ → Type 0) (c : Assertion) (s : MachineState) (f : Option Flip) → Covered listed c → Good words listed c s f → Ready words listed c s f
ready words listed c s None covered good =
    record {
      now = s;
      damage = good.damage;
      rest = None;
      meets = good.meets;
      goes = λ k. run-suc k s None ∙ rw (good.meets.out) refl;
      pending = λ t e. tt;
    }
ready words listed c s (Some f) covered good =
    let P : Damage → Type 0 = λ damage. Meets words c damage s in
    let meets : Meets words c Nothing s = subst P good.pending.undamaged good.meets in
    by_time (f.at) refl meets good.pending.fits good.pending.outside
  where
    by_time : (n : ℕ) → f.at ≡ n → Meets words c Nothing s → FlipFits f → IsOutside listed s f → Ready words listed c s (Some f)
    by_time zero e meets fits outside = struck_now words listed c s f covered meets fits outside e
    by_time (suc n) e meets fits outside = strikes_later words listed c s f meets fits outside n e
