-- The flags so far, and those still to come.
use Rattle.std.proofs.Common.{◌≡◌, ℕ, zero, suc, ◌||◌, Bool, true, false, List, ◌∷◌, refl, ap}
use Rattle.std.specs.List.{list_any}
use Rattle.grammar.specs.Reader.{Out, Got, Wrong, then_out, heads, opens, run_one, run_many, run_map}
use Rattle.ir_lex.specs.Symbols.{Symbol}
use Rattle.ir_grammar_consts.specs.Constants.{address_flag, run_address_flags}

-- the flags of which these are the last
abbrev pub flags_with : Bool → ℕ → List Symbol → Out Symbol Bool
flags_with before n ts = run_map (λ bs. before || list_any (λ b. b) bs) (run_many n (heads address_flag) (run_one address_flag)) ts

or_true : (b : Bool) → (true || b) ≡ true
or_true b = refl

or_step : (x y z : Bool) → (x || (y || z)) ≡ ((x || y) || z)
or_step true y z = refl
or_step false y z = refl

more_at : (before b : Bool) (o : Out Symbol (List Bool))
    → then_out (then_out (then_out {B = Bool × List Bool} o (λ w more. Got (b, w) more)) (λ v rest. Got (v.0 ∷ v.1) rest)) (λ bs rest. Got (before || list_any (λ b. b) bs) rest)
    ≡ then_out o (λ bs rest. Got ((before || b) || list_any (λ b. b) bs) rest)
more_at before b (Got vs rest) = ap (λ z. Got z rest) (or_step before b (list_any (λ b. b) vs))
more_at before b (Wrong rest) = refl

pub flags_more : (before b : Bool) (n : ℕ) (ts rest : List Symbol) → opens (heads address_flag) ts ≡ true → run_one address_flag ts ≡ Got b rest
    → flags_with before (suc n) ts ≡ flags_with (before || b) n rest
unfolding run_many
flags_more before b n ts rest o e = rw (o, e) (more_at before b (run_many n (heads address_flag) (run_one address_flag) rest))

or_none : (b : Bool) → (b || false) ≡ b
or_none true = refl
or_none false = refl

pub flags_last : (before : Bool) (n : ℕ) (ts : List Symbol) → opens (heads address_flag) ts ≡ false → flags_with before n ts ≡ Got before ts
unfolding run_many
flags_last before zero ts o = ap (λ z. Got z ts) (or_none before)
flags_last before (suc n) ts o = rw o (ap (λ z. Got z ts) (or_none before))

pub flags_out : (before : Bool) (ts : List Symbol) → flags_with before zero ts ≡ Got before ts
unfolding run_many
flags_out before ts = ap (λ z. Got z ts) (or_none before)

start_at : (o : Out Symbol (List Bool)) → then_out o (λ bs rest. Got (list_any (λ b. b) bs) rest) ≡ then_out o (λ bs rest. Got (false || list_any (λ b. b) bs) rest)
start_at (Got vs rest) = refl
start_at (Wrong rest) = refl

pub flags_start : (n : ℕ) (ts : List Symbol) → run_address_flags n ts ≡ flags_with false n ts
flags_start n ts = start_at (run_many n (heads address_flag) (run_one address_flag) ts)
