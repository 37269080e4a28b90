-- What frames keep over calls, returns and branches.
use Rattle.std.proofs.Common.{◌≡◌, ◌≢◌, ◌≤◌, ◌<◌, ℕ, zero, suc, ◌+◌, ◌-◌, List, [], ◌∷◌, ◌++◌, length, replicate, Option, Some, None, inl, inr, refl, sym, ap, subst, ◌∙◌, arith, get_or-set_same, get_or-set_other, length-set}
use Rattle.std.specs.Prelude.{slice_index_or, slice_set}
use Rattle.std.specs.List.{AllByRecursion}
use Rattle.std.proofs.lemmas.Bool.{cases_lt}
use Rattle.std.proofs.lemmas.Bool.Decides.{eqb_tells}
use Rattle.std.proofs.lemmas.List.{length-append, length-replicate}
use Rattle.ir_model.specs.Values.{Value, Poison}
use Rattle.ir_model.specs.Programs.{Program, Phi, function_at, block_in}
use Rattle.ir_model.specs.States.{Activation, value_of, entered}
use Rattle.ir_model.specs.Steps.{input_from, taken, at_block}
use Rattle.rv_flips.specs.Cells.{Cell}
use Rattle.flip_frames.specs.Fetching.{Triple}
use Rattle.kept_states.specs.Layouts.{FrameLayout, Layout}
use Rattle.kept_states.specs.Kept.{word_of, KeepsThree, KeepsValues, KeepsStack}
use Rattle.kept_states.specs.Laws.{KeepsCall, EntriesAreKept, CallersAreKept, KeepsEntry, BlocksAreKept}
use Rattle.kept_states.proofs.Stacks.{link_stays, stack_stays}

-- ---- calls
-- the values at the entry of a function: the arguments, and poison
argument_at : (xs : List Value) (n id : ℕ) → id < length xs → slice_index_or (xs ++ replicate n Poison) id Poison ≡ slice_index_or xs id Poison
argument_at [] n id lt = absurd (omega arith)
argument_at (x ∷ xs) n zero lt = refl
argument_at (x ∷ xs) n (suc id) lt = argument_at xs n id (omega arith)

poison_at : (n id : ℕ) → slice_index_or (replicate n Poison) id Poison ≡ Poison
poison_at zero id = refl
poison_at (suc n) zero = refl
poison_at (suc n) (suc id) = poison_at n id

poison_past : (xs : List Value) (n id : ℕ) → length xs ≤ id → slice_index_or (xs ++ replicate n Poison) id Poison ≡ Poison
poison_past [] n id le = poison_at n id
poison_past (x ∷ xs) n zero le = absurd (omega arith)
poison_past (x ∷ xs) n (suc id) le = poison_past xs n id (omega arith)

pub entries : EntriesAreKept
entries p l address before later base inner f arguments a rest below few kept stays call =
    let n : ℕ = (function_at p f).values - length arguments in (
      λ id lt.
          let many : id < (function_at p f).values = omega (arith, length-append arguments (replicate n Poison), length-replicate n Poison) in
          elim (cases_lt id (length arguments)) [
            | inl argument ↦
                subst (λ (v : Value). KeepsThree later inner ((l.frames f).places id) (word_of address v)) (sym (argument_at arguments n id argument))
                (call.arguments_are id argument)
            | inr other ↦
                subst (λ (v : Value). KeepsThree later inner ((l.frames f).places id) (word_of address v)) (sym (poison_past arguments n id other))
                (call.others_are id other many)
          ],
      call.link_is,
      subst (λ (b : ℕ). KeepsStack l address later b (a ∷ rest)) (sym below) (stack_stays l address before later base (a ∷ rest) stays kept),
    )

pub callers : CallersAreKept
callers l address slots base a b rest kept = (kept.1, kept.2)

-- ---- branches
-- a value after phis took theirs
taken_kept : (l : FrameLayout) (address : ℕ → ℕ) (later : ℕ → Cell) (base from : ℕ) (values : List Value) (phis : List Phi) (id : ℕ) → id < length values
    → AllByRecursion (λ (x : Phi). (x.result < length values)
    × KeepsThree later base (l.places x.result) (word_of address (value_of values (input_from from x.inputs)))) phis
    → (AllByRecursion (λ (x : Phi). x.result ≢ id) phis → KeepsThree later base (l.places id) (word_of address (slice_index_or values id Poison)))
    → KeepsThree later base (l.places id) (word_of address (slice_index_or (taken from values phis) id Poison))
taken_kept l address later base from values [] id lt phis_are other = other tt
taken_kept l address later base from values (x ∷ xs) id lt phis_are other =
    let v : Value = value_of values (input_from from x.inputs) in
    elim (eqb_tells x.result id) [
      | inl e ↦
          subst (λ (k : ℕ). KeepsThree later base (l.places k) (word_of address (slice_index_or (slice_set (taken from values xs) x.result v) k Poison))) e.1
          (subst (λ (w : Value). KeepsThree later base (l.places x.result) (word_of address w))
          (sym (get_or-set_same (taken from values xs) x.result v Poison (omega (arith, phis_are.0.0, long xs)))) phis_are.0.1)
      | inr e ↦
          subst (λ (w : Value). KeepsThree later base (l.places id) (word_of address w))
          (sym (get_or-set_other (taken from values xs) x.result id v Poison (λ same. e.1 (sym same))))
          (taken_kept l address later base from values xs id lt phis_are.1 (λ apart. other (e.1, apart)))
    ]
  where
    long : (ys : List Phi) → length (taken from values ys) ≡ length values
    long [] = refl
    long (y ∷ ys) = length-set (taken from values ys) y.result (value_of values (input_from from y.inputs)) ∙ long ys

taken_long : (from : ℕ) (values : List Value) (phis : List Phi) → length (taken from values phis) ≡ length values
taken_long from values [] = refl
taken_long from values (x ∷ xs) = length-set (taken from values xs) x.result (value_of values (input_from from x.inputs)) ∙ taken_long from values xs

pub blocks : BlocksAreKept
blocks p l address before later base to a rest kept entry =
    let phis : List Phi = (block_in p a.function to).phis in (
      λ id lt.
          let inside : id < length a.values = omega (arith, taken_long a.block a.values phis) in
          taken_kept (l.frames a.function) address later base a.block a.values phis id inside entry.phis_are (entry.others_are id inside),
      link_stays l before later base a.function rest entry.link_is kept.1,
      stack_stays l address before later (base + (l.frames a.function).size) rest entry.above_are kept.2,
    )
