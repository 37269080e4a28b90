-- The segments are asked one after another.
use Rattle.std.proofs.Common.{◌≡◌, ℕ, ◌+◌, ◌-◌, true, false, List, [], ◌∷◌, Some, None, refl, ap, sym}
use Rattle.std.specs.Prelude.{slice_range}
use Rattle.rv_model.specs.State.{LoadedSegment, MachineState}
use Rattle.rv_model.specs.Memory.{bytes_at, serves, word_at}
use Rattle.rv_model.specs.declared.Cause.TheVariants.{Fetch}
use Rattle.rv_model.specs.Step.{Traps, fetched, step}

pub bytes_at-served : (flag address count : ℕ) (g : LoadedSegment) (gs : List LoadedSegment) → serves flag address count g ≡ true
    → bytes_at flag address count (g ∷ gs) ≡ Some (slice_range g.bytes (address - g.base) (address - g.base + count))
unfolding bytes_at
bytes_at-served flag address count g gs is = rw is refl

pub bytes_at-passed : (flag address count : ℕ) (g : LoadedSegment) (gs : List LoadedSegment) → serves flag address count g ≡ false
    → bytes_at flag address count (g ∷ gs) ≡ bytes_at flag address count gs
unfolding bytes_at
bytes_at-passed flag address count g gs is = rw is refl

pub bytes_at-none : (flag address count : ℕ) → bytes_at flag address count [] ≡ None
unfolding bytes_at
bytes_at-none flag address count = refl

-- one step, by the word that was found at the pc
pub step-no_word : (s : MachineState) → None ≡ word_at s.pc s.segments → step s ≡ Traps s.pc Fetch
unfolding step
step-no_word s none = ap (λ w. fetched w s) (sym none)

pub step-word : (s : MachineState) (w : ℕ) → Some w ≡ word_at s.pc s.segments → step s ≡ fetched (Some w) s
unfolding step
step-word s w some = ap (λ w. fetched w s) (sym some)
