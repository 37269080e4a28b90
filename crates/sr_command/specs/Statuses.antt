-- The statuses, by number, and their lines.
use Rattle.std.specs.Prelude.{ℕ, List, [], codes, ◌==◌, if◌then◌else◌}
use Rattle.sr_command.specs.declared.status.Status.{Status}
use Rattle.sr_command.specs.declared.status.Status.TheVariants.{Done, Usage, Refused, Stopped, StepsOver, ReadFault, WriteFault, NoMemory, Absent}

-- the status that a number stands for
abbrev pub status_of : ℕ → Status
status_of number =
    if number == 0 then Done else (if number == 1 then Usage else (if number == 2 then Refused else (if number == 3 then Stopped
    else (if number == 4 then StepsOver else (if number == 5 then ReadFault else (if number == 6 then WriteFault
    else (if number == 7 then NoMemory else Absent)))))))

-- the line of a status that needs no more to be said
abbrev pub line_of : Status → List ℕ
line_of Done = []
line_of Usage = codes "usage\n"
line_of Refused = codes "refused\n"
line_of Stopped = codes "stopped\n"
line_of StepsOver = codes "steps over\n"
line_of ReadFault = codes "read fault\n"
line_of WriteFault = codes "write fault\n"
line_of NoMemory = codes "no memory\n"
line_of Absent = codes "absent\n"
