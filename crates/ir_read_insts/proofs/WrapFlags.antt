-- The flags `nuw` and `nsw` so far, and those still to come.
use Rattle.std.proofs.Common.{◌≡◌, ℕ, zero, suc, ◌||◌, Bool, true, false, List, [], ◌∷◌, refl, ap, ◌∙◌}
use Rattle.std.specs.Prelude.{not}
use Rattle.std.specs.List.{list_any}
use Rattle.grammar.specs.Reader.{Out, Got, Wrong, then_out, heads, opens, run_one, run_many, run_map}
use Rattle.ir_lex.specs.Symbols.{Symbol}
use Rattle.ir_tree.specs.declared.module.Flags.{Flags}
use Rattle.ir_grammar_insts.specs.Arithmetic.{wrap_flag}
use Rattle.ir_read_insts.specs.InstHeads.{with_flag}

-- the flags with those that are among these
abbrev pub with_flags : Flags → List Bool → Flags
with_flags flags bs = record { nuw = flags.nuw || list_any (λ b. b) bs; nsw = flags.nsw || list_any not bs; exact = flags.exact }

-- the answer for the flags of which these are the last
abbrev pub flags_after : Flags → ℕ → List Symbol → Out Symbol Flags
flags_after flags n ts = run_map (with_flags flags) (run_many n (heads wrap_flag) (run_one wrap_flag)) ts

or_step : (x y z : Bool) → (x || (y || z)) ≡ ((x || y) || z)
or_step true y z = refl
or_step false y z = refl

or_none : (b : Bool) → (b || false) ≡ b
or_none true = refl
or_none false = refl

one_more : (flags : Flags) (b : Bool) (bs : List Bool) → with_flags flags (b ∷ bs) ≡ with_flags (with_flag flags b) bs
one_more flags b bs =
    let unsigned = or_step flags.nuw b (list_any (λ b. b) bs) in
    let signed = or_step flags.nsw (not b) (list_any not bs) in
    cc

none_more : (flags : Flags) → with_flags flags [] ≡ flags
none_more flags =
    let made : Bool → Bool → Flags = λ x y. record { nuw = x; nsw = y; exact = flags.exact } in
    ap (λ z. made z (flags.nsw || false)) (or_none flags.nuw) ∙ ap (λ z. made flags.nuw z) (or_none flags.nsw)

more_at : (flags : Flags) (b : Bool) (o : Out Symbol (List Bool))
    → then_out (then_out (then_out {B = Bool × List Bool} o (λ w more. Got (b, w) more)) (λ v rest. Got (v.0 ∷ v.1) rest)) (λ bs rest. Got (with_flags flags bs) rest)
    ≡ then_out o (λ bs rest. Got (with_flags (with_flag flags b) bs) rest)
more_at flags b (Got vs rest) = ap (λ z. Got z rest) (one_more flags b vs)
more_at flags b (Wrong rest) = refl

pub wrap_flags_more : (flags : Flags) (b : Bool) (n : ℕ) (ts rest : List Symbol) → opens (heads wrap_flag) ts ≡ true → run_one wrap_flag ts ≡ Got b rest
    → flags_after flags (suc n) ts ≡ flags_after (with_flag flags b) n rest
unfolding run_many
wrap_flags_more flags b n ts rest o e = rw (o, e) (more_at flags b (run_many n (heads wrap_flag) (run_one wrap_flag) rest))

pub wrap_flags_last : (flags : Flags) (n : ℕ) (ts : List Symbol) → opens (heads wrap_flag) ts ≡ false → flags_after flags n ts ≡ Got flags ts
unfolding run_many
wrap_flags_last flags zero ts o = ap (λ z. Got z ts) (none_more flags)
wrap_flags_last flags (suc n) ts o = rw o (ap (λ z. Got z ts) (none_more flags))

pub wrap_flags_out : (flags : Flags) (ts : List Symbol) → flags_after flags zero ts ≡ Got flags ts
unfolding run_many
wrap_flags_out flags ts = ap (λ z. Got z ts) (none_more flags)
