-- Laws on moves: one word, one stretch after another, and the end.
use Rattle.std.proofs.Common.{◌≡◌, ℕ, suc, ◌+◌, ◌≤◌, List, Option, Some, None, refl, sym, ◌∙◌, ap, arith, add_assoc}
use Rattle.rv_model.specs.declared.Flip.{Flip}
use Rattle.rv_model.specs.State.{MachineState}
use Rattle.rv_model.specs.Step.{StepResult, Ends, step}
use Rattle.rv_model.specs.Run.{more, after, run}
use Rattle.rv_model.proofs.RunLemmas.{more-more, more-zero}
use Rattle.rv_flips.specs.Cells.{Damage, Nothing}
use Rattle.rv_flips.specs.Assertion.{Assertion, Meets}
use Rattle.rv_flips.specs.Moves.{Pending, Covered, Ready, Arrives, Moves, Does, EndsWithin, Finishes}
use Rattle.rv_flips.proofs.FlipLemmas.{ready}

-- where something is damaged, no flip is to come
pub settled : (listed : ℕ → ℕ → Type 0) (damage : Damage) (s : MachineState) (f : Option Flip) → (damage ≡ Nothing → ⊥) → Pending listed damage s f → f ≡ None
settled listed damage s None wrong h = refl
settled listed damage s (Some f) wrong h = absurd (wrong h.undamaged)

-- one word, from what it does with each damage
pub one_word : (words : List ℕ) (listed : ℕ → ℕ → Type 0) (c d : Assertion) → Covered listed c → ((damage : Damage) (s : MachineState) → Meets words c damage s → Does words damage s d) → Moves words listed c 1 d
one_word words listed c d covered word s f good =
    let r : Ready words listed c s f = ready words listed c s f covered good in
    let w : Does words r.damage r.now d = word r.damage r.now r.meets in
    record {
      steps = 1;
      state = w.state;
      flip = r.rest;
      few = omega arith;
      good = record { damage = r.damage; meets = w.meets; pending = r.pending w.state w.goes };
      goes = λ k.
          let first : 1 + k ≡ suc k = omega arith in
          ap (λ n. run n s f) first ∙ r.goes k ∙ ap (λ (x : StepResult). after x c.out (λ t. run k t r.rest)) w.goes;
    }

-- one stretch after another
pub moves_then : (words : List ℕ) (listed : ℕ → ℕ → Type 0) (c d e : Assertion) (m n : ℕ) → Moves words listed c m d → Moves words listed d n e → Moves words listed c (m + n) e
moves_then words listed c d e m n one two s f good =
    let a : Arrives words listed d m s f = one s f good in
    let b : Arrives words listed e n a.state a.flip = two a.state a.flip a.good in
    let few : a.steps + b.steps ≤ m + n = omega (arith, a.few, b.few) in
    record {
      steps = a.steps + b.steps;
      state = b.state;
      flip = b.flip;
      few = few;
      good = b.good;
      goes = λ k.
          ap (λ n. run n s f) (add_assoc a.steps b.steps k) ∙ a.goes (b.steps + k) ∙ ap (more a.steps) (b.goes k) ∙ more-more a.steps b.steps (run k b.state b.flip);
    }

pub moves_none : (words : List ℕ) (listed : ℕ → ℕ → Type 0) (c : Assertion) → Moves words listed c 0 c
moves_none words listed c s f good =
    record {
      steps = 0;
      state = s;
      flip = f;
      few = omega arith;
      good = good;
      goes = λ k. let same : 0 + k ≡ k = omega arith in ap (λ n. run n s f) same ∙ sym (more-zero (run k s f));
    }

-- a stretch that may take fewer instructions
pub moves_within : (words : List ℕ) (listed : ℕ → ℕ → Type 0) (c d : Assertion) (m n : ℕ) → m ≤ n → Moves words listed c m d → Moves words listed c n d
moves_within words listed c d m n le one s f good =
    let a : Arrives words listed d m s f = one s f good in
    let few : a.steps ≤ n = omega (arith, a.few) in
    record { steps = a.steps; state = a.state; flip = a.flip; few = few; good = a.good; goes = a.goes }

-- a weaker assertion at the end, as by forgetting what is known
pub moves_weaker : (words : List ℕ) (listed : ℕ → ℕ → Type 0) (c d e : Assertion) (n : ℕ) → ((damage : Damage) (s : MachineState) → Meets words d damage s → Meets words e damage s) → Moves words listed c n d → Moves words listed c n e
moves_weaker words listed c d e n weaker one s f good =
    let a : Arrives words listed d n s f = one s f good in
    record {
      steps = a.steps;
      state = a.state;
      flip = a.flip;
      few = a.few;
      good = record { damage = a.good.damage; meets = weaker a.good.damage a.state a.good.meets; pending = a.good.pending };
      goes = a.goes;
    }

-- the word that ends the program
pub last_word : (words : List ℕ) (listed : ℕ → ℕ → Type 0) (c : Assertion) (status : ℕ) → Covered listed c → ((damage : Damage) (s : MachineState) → Meets words c damage s → step s ≡ Ends status) → Finishes words listed c 1 c.out status
last_word words listed c status covered word s f good =
    let r : Ready words listed c s f = ready words listed c s f covered good in
    let e : step r.now ≡ Ends status = word r.damage r.now r.meets in
    record {
      steps = 1;
      few = omega arith;
      ends = λ k.
          let first : 1 + k ≡ suc k = omega arith in
          ap (λ n. run n s f) first ∙ r.goes k ∙ ap (λ (x : StepResult). after x c.out (λ t. run k t r.rest)) e;
    }

-- a stretch, and then the end
pub moves_finish : (words : List ℕ) (listed : ℕ → ℕ → Type 0) (c d : Assertion) (m n : ℕ) (out : List ℕ) (status : ℕ) → Moves words listed c m d → Finishes words listed d n out status → Finishes words listed c (m + n) out status
moves_finish words listed c d m n out status one two s f good =
    let a : Arrives words listed d m s f = one s f good in
    let b : EndsWithin n a.state a.flip out status = two a.state a.flip a.good in
    let few : a.steps + b.steps ≤ m + n = omega (arith, a.few, b.few) in
    record {
      steps = a.steps + b.steps;
      few = few;
      ends = λ k. ap (λ n. run n s f) (add_assoc a.steps b.steps k) ∙ a.goes (b.steps + k) ∙ ap (more a.steps) (b.ends k);
    }
