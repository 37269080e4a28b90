-- That bytes are bytes: numbers below 256.
use Rattle.std.specs.Prelude.{◌<◌, ⊤}
use Rattle.std.specs.List.{AllByRecursion}
use Rattle.ir_model.specs.Values.{Cell, Unknown, Byte, Part}
use Rattle.ir_model.specs.Programs.{Program}

-- a byte of memory that holds a number holds one below 256
abbrev pub HasByte : Cell → Type 0
HasByte Unknown = ⊤
HasByte (Byte n) = n < 256
HasByte (Part q k) = ⊤

-- the bytes that globals have at the start are bytes, as those of a text are from which a module was read
abbrev pub HaveBytes : Program → Type 0
HaveBytes p = AllByRecursion (AllByRecursion HasByte) p.globals
