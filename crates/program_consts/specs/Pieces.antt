-- Which bytes pieces hold.
use Rattle.std.specs.Prelude.{◌≡◌, List, ◌++◌, map}
use Rattle.std.specs.List.{AllByRecursion}
use Rattle.ir_model.specs.Values.{Cell, Byte}
use Rattle.ir_program.specs.Bytes.{HasByte}
use Rattle.program_tables.specs.declared.program.Piece.{Piece}
use Rattle.program_tables.specs.Shapes.{pieces_cells}
use Rattle.program_consts.specs.declared.pieces.Pieces.{Pieces}

-- bytes of memory that hold numbers hold bytes
abbrev pub AreBytes : List Cell → Type 0
AreBytes cells = AllByRecursion HasByte cells

-- pieces hold these bytes
pub record HoldsCells (cells : List Cell) (pieces : List Piece) : Type 0 where
  pub holds : pieces_cells pieces ≡ cells
  pub bytes : AreBytes cells

-- so do pieces with the bytes that come after them
pub record HasCells (cells : List Cell) (p : Pieces) : Type 0 where
  pub holds : pieces_cells p.done.items ++ map Byte p.tail.items ≡ cells
  pub bytes : AreBytes cells
