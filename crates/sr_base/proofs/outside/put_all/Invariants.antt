use Rattle.std.proofs.Common.{◌≡◌, ◌-◌, ◌≤◌, length, take}
use Rattle.sr_base.specs.Bytes.{Takes}
use Rattle.sr_base.proofs.outside.put_all.Given as goal

abbrev pub invariant-loop-done : goal.invariant-loop-done
invariant-loop-done g l =
    let meaning = g.K.Sink.meaning in
    record {
      within : l.done ≤ length l.bytes;
      took : Takes (meaning l.initial.sink).taken (meaning l.sink).taken (take l.done l.bytes);
      untouched : l.done ≡ 0 → l.sink ≡ l.initial.sink;
      faults_later : (meaning l.initial.sink).faults ≤ (meaning l.sink).faults;
      wants_later : (meaning l.initial.sink).wants ≤ (meaning l.sink).wants;
    }

abbrev pub decreases-loop-done : goal.decreases-loop-done
decreases-loop-done g l = length l.initial.bytes - l.done
