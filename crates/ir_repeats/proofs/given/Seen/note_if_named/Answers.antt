use Rattle.std.proofs.Common.{Option, OnOk, sym, subst}
use Rattle.ir_tree.specs.declared.names.NameId.{NameId}
use Rattle.ir_repeats.specs.Given.{given_id, Notes}
use Rattle.ir_repeats.proofs.given.Seen.note_if_named.Goals as goal

pub returns-in-Some : goal.returns-in-Some
returns-in-Some c =
    subst (λ (o : Option NameId). OnOk c.note.result (Notes c.args.self.now (given_id o c.args.spot) c.note.new.self)) (sym c.in-Some.is) c.note.ensures
