use Rattle.std.proofs.Common.{refl}
use Rattle.ir_types.proofs.Joined.{two_then, two_else, where_not, where_so}
use Rattle.ir_types.proofs.declares.has_outside_types.Goals as goal
use Rattle.ir_types.proofs.declares.has_outside_types.Goals.{then-not-is_named, else-not-is_named, then-not-is_named-2, else-not-is_named-2}

pub returns-then-puts : goal.returns-then-puts
returns-then-puts c =
    two_then _ _ c.if-not-is_named.puts c.if-not-is_named-2.gets _ c.if-puts.true refl
    (elim c.if-not-is_named.branch [
      | then-not-is_named w ↦ where_not _ _ c.is_named.result _ w.if-not-is_named.true w.puts-is c.is_named.ensures
      | else-not-is_named w ↦ where_so _ _ c.is_named.result w.puts_byte-puts.result _ w.if-not-is_named.false w.puts-is c.is_named.ensures
          (w.puts_byte-puts.ensures c.args.names.now)
    ])
    (elim c.if-not-is_named-2.branch [
      | then-not-is_named-2 w ↦ where_not _ _ c.is_named-2.result _ w.if-not-is_named-2.true w.gets-is c.is_named-2.ensures
      | else-not-is_named-2 w ↦ where_so _ _ c.is_named-2.result w.gets_byte-gets.result _ w.if-not-is_named-2.false w.gets-is c.is_named-2.ensures
          (w.gets_byte-gets.ensures c.args.names.now)
    ])

pub returns-else-puts : goal.returns-else-puts
returns-else-puts c =
    two_else _ _ c.if-not-is_named.puts _ c.if-puts.false refl
    (elim c.if-not-is_named.branch [
      | then-not-is_named w ↦ where_not _ _ c.is_named.result _ w.if-not-is_named.true w.puts-is c.is_named.ensures
      | else-not-is_named w ↦ where_so _ _ c.is_named.result w.puts_byte-puts.result _ w.if-not-is_named.false w.puts-is c.is_named.ensures
          (w.puts_byte-puts.ensures c.args.names.now)
    ])
