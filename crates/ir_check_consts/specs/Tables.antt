-- The tables of a module's types.
use Rattle.ir_tree.specs.declared.module.Module.{Module}
use Rattle.ir_layout.specs.Tables.{IsWholeTable}
use Rattle.ir_openings.specs.Openings.{AreOpenings}
use Rattle.ir_check_consts.specs.declared.tables.TypeTables.{TypeTables}

-- tables have the layouts of the types of a module, and what its names open to
pub record AreTypeTables (m : Module) (tables : TypeTables) : Type 0 where
  pub layouts : IsWholeTable m tables.layouts
  pub openings : AreOpenings m tables.openings
