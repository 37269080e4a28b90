use Rattle.std.proofs.Common.{sym}
use Rattle.ir_tree.specs.NameTable.{text_of}
use Rattle.ir_flow.specs.Around.{names_of}
use Rattle.ir_flow.proofs.Tables.{block_within}
use Rattle.ir_flow.proofs.around.Around.is_there_from.Goals as goal

pub is_there_at_end-requires-clause-block : goal.is_there_at_end-requires-clause-block
is_there_at_end-requires-clause-block c =
    let names = names_of c.args.self.now in
    let f = c.args.self.now.function.now in
    block_within names f (text_of names c.args.label.0) c.in-Some.from (sym (c.in-Some.ensures names f c.requires.around.names c.requires.known))
