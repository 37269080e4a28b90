-- The program with two phis that swap meets the premises of the laws, and phis that are set one after another don't.
use Rattle.std.proofs.Common.{ℕ, ◌<◌, ◌^◌, inl, inr, List, [], ◌∷◌, Some, refl, lit≤, lit<}
use Rattle.std.specs.Prelude.{pos}
use Rattle.std.proofs.lemmas.List.Elements.{All-nil}
use Rattle.rv_flips.specs.Cells.{One}
use Rattle.flip_frames.specs.Views.{Stage, Runs}
use Rattle.flip_frames.proofs.RunLaws.{runs_then}
use Rattle.flip_versions.specs.Operations.{resting}
use Rattle.flip_guards.specs.Sources.{Small}
use Rattle.flip_guards.proofs.FetchLaws.{triples_give, constants_give}
use Rattle.flip_programs.specs.Programs.{start_stage, IsProgram}
use Rattle.flip_programs.proofs.ProgramLaws.{programs_survive}
use Rattle.flip_copies.specs.Copies.{CanCopy, Compatible, copied}
use Rattle.flip_copies.specs.Edges.{to_cells, from_cells, IsEdge}
use Rattle.flip_copies.proofs.CopyLaws.{copy_lists_run, goals_are_set}
use Rattle.flip_copies.proofs.EdgeLaws.{edges_run, phis_are_set}
use Rattle.flip_flow_examples.specs.Slots.{slots_from}
use Rattle.flip_flow_examples.specs.Swap.{constants, swapping, swap_code, swap_words, values_before, values_after, swapped, SwapHolds, one_by_one}
use Rattle.flip_flow_examples.proofs.SlotFacts.{slots, different, in_time, constant_in_time, leaves_alone, constant_alone}
use Rattle.flip_flow_examples.proofs.SwapWords.{are_words}

abbrev before : List ℕ → Stage
before input = copied (start_stage 0 [] input 96) constants values_before

constants_fit : Compatible constants
constants_fit = (different 0, constant_in_time 0 (Small (pos 7) ∷ []), (constant_alone 0 3 1 (Small (pos 8) ∷ []) (inr (lit≤ tt)), tt), (different 3, constant_in_time 3 (Small (pos 8) ∷ []), tt, tt))

constants_can : (input : List ℕ) → CanCopy (start_stage 0 [] input 96) constants values_before
constants_can input =
    let g = start_stage 0 [] input 96 in
    (constants_give g (Small (pos 7) ∷ []) 7 refl, slots g 0 (lit≤ tt) (lit< tt), (constants_give g (Small (pos 8) ∷ []) 8 refl, slots g 3 (lit≤ tt) (lit< tt), tt))

cells_fit : Compatible (to_cells swapping)
cells_fit = (different 6, in_time 6 3 (inl (lit≤ tt)), (leaves_alone 6 0 9 1 (inl (lit≤ tt)) (inr (lit≤ tt)), tt), (different 9, in_time 9 0 (inl (lit≤ tt)), tt, tt))

phis_fit : Compatible (from_cells swapping)
phis_fit = (different 0, in_time 0 6 (inr (lit≤ tt)), (leaves_alone 0 9 3 1 (inr (lit≤ tt)) (inr (lit≤ tt)), tt), (different 3, in_time 3 9 (inr (lit≤ tt)), tt, tt))

edge : (input : List ℕ) → IsEdge (before input) swapping values_after
edge input =
    let g = before input in
    let set = goals_are_set (start_stage 0 [] input 96) constants values_before constants_fit in
    record {
      inputs = (triples_give g (slots_from 3) (Some 8) (slots g 3 (lit≤ tt) (lit< tt)) set.1.0, slots g 6 (lit≤ tt) (lit< tt), (triples_give g (slots_from 0) (Some 7) (slots g 0 (lit≤ tt) (lit< tt)) set.0, slots g 9 (lit≤ tt) (lit< tt), tt));
      places = (slots g 0 (lit≤ tt) (lit< tt), (slots g 3 (lit≤ tt) (lit< tt), tt));
      cells = cells_fit;
      phis = phis_fit;
    }

runs : (input : List ℕ) → Runs swap_words swap_code (resting (start_stage 0 [] input 96) One) (resting (swapped input) One)
runs input =
    runs_then (copy_lists_run swap_words (start_stage 0 [] input 96) constants values_before (constants_can input) constants_fit)
    (edges_run swap_words (before input) swapping values_after (edge input))

is_program : IsProgram swap_words [] 96 0 (pos 65536) swap_code (pos 0)
is_program = record { are_words = are_words; short = lit≤ tt; bytes = All-nil (λ b. b < 2 ^ 8); size = lit≤ tt; address = refl; frame = lit≤ tt }

pub swap_holds : SwapHolds
swap_holds =
    record {
      words = are_words;
      phis = λ input. phis_are_set (before input) swapping values_after (edge input);
      survives = λ input points all. programs_survive swap_words [] input 96 0 (pos 65536) swap_code (pos 0) (resting (swapped input) One) points is_program (runs input) all;
    }

pub one_by_one_refused : Compatible one_by_one → ⊥
one_by_one_refused fits = fits.2.0.one.one refl
