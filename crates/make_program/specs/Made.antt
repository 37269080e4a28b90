-- What is known of the program that is made of a checked module.
use Rattle.std.specs.Prelude.{◌≡◌, List, map}
use Rattle.ir_tree.specs.Shape.{ModuleShape}
use Rattle.ir_model.specs.Values.{Cell}
use Rattle.ir_typed_runs.specs.TypedPrograms.{IsTyped}
use Rattle.ir_placed_runs.specs.Places.{IsWhole}
use Rattle.ir_program.specs.Bytes.{HaveBytes}
use Rattle.ir_program.specs.ProgramOf.{program_of}
use Rattle.program_tables.specs.Shapes.{pieces_cells, program_shape}
use Rattle.program_tables.specs.declared.program.GlobalBytes.{GlobalBytes}
use Rattle.program_tables.specs.declared.program.Program.{Program}
use Rattle.proper_programs.specs.ModuleKinds.{module_kinds}

-- the bytes of globals that code has in pieces
abbrev pub all_cells : List GlobalBytes → List (List Cell)
all_cells globals = map (λ g. pieces_cells g.pieces.items) globals

-- a program is that of the module, the bytes of its globals are bytes, and it is typed and whole
pub record IsProgramOf (m : ModuleShape) (p : Program) : Type 0 where
  pub same : program_shape p ≡ program_of m
  pub bytes : HaveBytes (program_of m)
  pub typed : IsTyped (program_of m) (module_kinds m)
  pub whole : IsWhole (program_of m)
