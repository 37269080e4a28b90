-- From the start of an executable to its survival.
use Rattle.std.proofs.Common.{◌≡◌, ℕ, zero, suc, ◌+◌, ◌-◌, ◌≤◌, List, [], ◌++◌, length, Option, Some, None, refl, ◌∙◌, ap, arith}
use Rattle.std.specs.Prelude.{◌<◌, ◌^◌, nat_lt, replicate, slice_index, All}
use Rattle.std.proofs.Common.{Bool, true, false, lit<}
use Rattle.std.proofs.lemmas.Bool.Decides.{nat_tests}
use Rattle.std.proofs.lemmas.List.{get_or_past}
use Rattle.std.proofs.lemmas.List.Elements.{All-get_or, All-append, All-replicate}
use Rattle.rv_model.specs.declared.Flip.{Flip}
use Rattle.rv_model.specs.State.{MachineState, register}
use Rattle.rv_model.specs.Run.{run}
use Rattle.rv_model.specs.Text.{text_base}
use Rattle.rv_model.specs.Start.{started, program_image}
use Rattle.rv_model.proofs.StartLemmas.{segments-started, register-started, count-started, pc-started, input-started, out-started}
use Rattle.rv_flips.specs.Cells.{Nothing, Cell, Free, Has, Sure, Holds}
use Rattle.rv_flips.specs.Assertion.{KnownByte, IsByte, AreBytes, Assertion, Meets}
use Rattle.rv_flips.specs.Moves.{EndsWithin, Finishes}
use Rattle.rv_flips.specs.Survives.{IsListed, Ends, Survives}
use Rattle.rv_flips.specs.Known.{Sures}

-- x0 is 0
unfoldable pub start_cells : ℕ → Cell
start_cells zero = Has Sure 0
start_cells (suc q) = Free

-- each byte is known, and past them 0, as a byte that isn't there is read
abbrev pub known_bytes : List ℕ → ℕ → KnownByte
known_bytes place o = IsByte (slice_index place o)

-- the data are bytes: those of the file and zeros
start_small : (init : List ℕ) (extra : ℕ) → All (λ b. b < 2 ^ 8) init → AreBytes (init ++ replicate extra 0)
start_small init extra are_bytes o = by_place (nat_lt o (length place)) refl
  where
    place : List ℕ
    place = init ++ replicate extra 0

    P : ℕ → Type 0
    P b = b < 2 ^ 8

    by_place : (t : Bool) → nat_lt o (length place) ≡ t → slice_index place o < 2 ^ 8
    by_place true e = All-get_or P place o 0 (grind (arith, nat_tests)) (All-append P init (replicate extra 0) are_bytes (All-replicate P extra 0 (lit< tt)))
    by_place false e =
        let past : slice_index place o ≡ 0 = get_or_past place o 0 (grind (arith, nat_tests)) in
        omega arith

-- what is known where an executable starts
abbrev pub start_assertion : List ℕ → List ℕ → ℕ → Assertion
start_assertion init input extra =
    record { pc = text_base; regs = start_cells; slots = λ k. Free; bytes = known_bytes (init ++ replicate extra 0); size = length (init ++ replicate extra 0); input = input; out = [] }

pub start_cells-zero : start_cells 0 ≡ Has Sure 0
unfolding start_cells
start_cells-zero = refl

pub sures-start_cells : Sures start_cells []
unfolding start_cells
sures-start_cells zero v is nonzero = omega arith
sures-start_cells (suc r) v is nonzero = absurd (cc)

start_holds : (q x : ℕ) → x ≡ 0 → Holds (start_cells q) Nothing x
unfolding start_cells
start_holds zero x e = e
start_holds (suc q) x e = tt

pub meets_start : (words init : List ℕ) (extra : ℕ) (input : List ℕ) → All (λ b. b < 2 ^ 8) init → Meets words (start_assertion init input extra) Nothing (started (program_image words init extra) input)
meets_start words init extra input are_bytes =
    let image = program_image words init extra in
    record {
      data_bytes = init ++ replicate extra 0;
      pc = pc-started image input;
      regs = λ q. start_holds q (register (started (program_image words init extra) input) q) (register-started image input q);
      wide = λ q. let none : register (started (program_image words init extra) input) q ≡ 0 = register-started image input q in omega arith;
      count = count-started image input;
      segments = segments-started words init extra input;
      size = refl;
      small = start_small init extra are_bytes;
      slots = λ k. tt;
      bytes = λ o. refl;
      input = input-started image input;
      out = out-started image input;
    }

-- a run that ends within some instructions ends within more
ends_within : (n bound : ℕ) (s : MachineState) (f : Option Flip) (out : List ℕ) (status : ℕ) → n ≤ bound → EndsWithin n s f out status → Ends bound s f out status
ends_within n bound s f out status le e =
    let few : e.steps ≤ bound = omega (arith, e.few) in
    let same : bound ≡ e.steps + (bound - e.steps) = omega arith in
    record { steps = e.steps; within = few; ends = ap (λ k. run k s f) same ∙ e.ends (bound - e.steps) }

-- what finishes from the start survives
pub survives : (words init : List ℕ) (extra : ℕ) (input : List ℕ) (points : List (ℕ × ℕ)) (n bound : ℕ) (out : List ℕ) (status : ℕ) → n ≤ bound → All (λ b. b < 2 ^ 8) init → Finishes words (IsListed points) (start_assertion init input extra) n out status → Survives (program_image words init extra) points input out status bound
survives words init extra input points n bound out status le are_bytes finishes =
    let s = started (program_image words init extra) input in
    let meets = meets_start words init extra input are_bytes in
    record {
      unflipped = ends_within n bound s None out status le (finishes s None (record { damage = Nothing; meets = meets; pending = tt }));
      flipped = λ f fits outside. ends_within n bound s (Some f) out status le (finishes s (Some f) (record { damage = Nothing; meets = meets; pending = record { undamaged = refl; fits = fits; outside = outside } }));
    }
