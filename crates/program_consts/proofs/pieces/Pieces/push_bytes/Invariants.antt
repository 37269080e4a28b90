use Rattle.std.proofs.Common.{List, ◌++◌, map, take}
use Rattle.ir_model.specs.Values.{Cell, Byte}
use Rattle.program_consts.specs.Pieces.{HasCells}
use Rattle.program_consts.proofs.pieces.Pieces.push_bytes.Given as goal

abbrev pub invariant-loop-byte : goal.invariant-loop-byte
invariant-loop-byte l = (cells : List Cell) → HasCells cells l.fn.self → HasCells (cells ++ map Byte (take l.byte-index l.bytes)) l.self
