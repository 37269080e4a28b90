use Rattle.std.proofs.Common.{arith}
use Rattle.ir_tree.proofs.Grows.{and_both, and_right}
use Rattle.ir_tree.proofs.Table.{grows_on}
use Rattle.ir_parse.proofs.Bodies.{Named, first_known, blocks_read, body_joined, grown_after, insts_kept}
use Rattle.ir_parse.proofs.functions.blocks_at.Goals as goal

pub returns-clause-known : goal.returns-clause-known
returns-clause-known c =
    let entry = c.in_ok-entry.entry in
    let named : Named c.args.names.now c.entry_at.new.names c.first_name.new.names c.more_blocks_at.new.names c.args.params.now entry.label entry.lines.insts.items c.in_ok-name.name = record {
      entry = c.in_ok-entry.ensures.grows;
      naming = c.in_ok-name.ensures.grows;
      more = c.in_ok-more.ensures.grows;
      params_known = c.requires.params;
      insts_known = and_right _ _ c.in_ok-entry.ensures.known;
      id_known = c.in_ok-name.ensures.known;
      name = c.in_ok-name.ensures.name;
    } in
    rw c.in_ok-insert.ensures.items (and_both (first_known entry.lines.insts named) c.in_ok-more.ensures.known)

pub returns-clause-reads : goal.returns-clause-reads
returns-clause-reads c =
    let entry = c.in_ok-entry.entry in
    let named : Named c.args.names.now c.entry_at.new.names c.first_name.new.names c.more_blocks_at.new.names c.args.params.now entry.label entry.lines.insts.items c.in_ok-name.name = record {
      entry = c.in_ok-entry.ensures.grows;
      naming = c.in_ok-name.ensures.grows;
      more = c.in_ok-more.ensures.grows;
      params_known = c.requires.params;
      insts_known = and_right _ _ c.in_ok-entry.ensures.known;
      id_known = c.in_ok-name.ensures.known;
      name = c.in_ok-name.ensures.name;
    } in
    rw c.in_ok-insert.ensures.items
    (blocks_read entry.lines.insts c.in_ok-more.more.blocks.items named c.args.budget _ _ _ c.in_ok-entry.ensures.reads.0 c.in_ok-more.ensures.reads.0, c.in_ok-more.ensures.reads.1)

pub returns-clause-spots : goal.returns-clause-spots
returns-clause-spots c =
    let mid = grown_after c.in_ok-entry.ensures.grows c.args.at c.in_ok-entry.after_entry c.in_ok-entry.ensures.count in
    let more = grown_after c.in_ok-more.ensures.grows c.in_ok-entry.after_entry c.in_ok-more.end (omega (arith, c.in_ok-more.ensures.count)) in
    let lines = insts_kept (grows_on c.in_ok-name.ensures.grows c.in_ok-more.ensures.grows) c.in_ok-entry.entry.lines.insts (and_right _ _ c.in_ok-entry.ensures.known) in
    rw (c.in_ok-insert.ensures.items, c.in_ok-insert-2.ensures.items) (body_joined c.args.text.now c.args.toks.now c.args.at c.in_ok-entry.after_entry c.in_ok-more.end _ _ _ _ _ mid more c.in_ok-entry.ensures.spots lines c.in_ok-more.ensures.spots)
