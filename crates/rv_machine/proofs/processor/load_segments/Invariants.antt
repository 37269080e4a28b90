use Rattle.std.proofs.Common.{◌≡◌, map, take}
use Rattle.rv_model.specs.Start.{loaded_segment}
use Rattle.rv_machine.proofs.processor.load_segments.Given as goal

abbrev pub invariant-loop-segment : goal.invariant-loop-segment
invariant-loop-segment l = l.loaded.items ≡ map loaded_segment (take l.segment-index l.segments)
