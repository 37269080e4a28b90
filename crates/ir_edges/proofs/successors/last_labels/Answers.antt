use Rattle.std.proofs.Common.{◌≡◌, ℕ, ◌-◌, Vec, Global, true, length}
use Rattle.std.specs.List.{list_all}
use Rattle.std.proofs.lemmas.Result.{IfOk-weaker}
use Rattle.ir_tree.specs.Known.{name_known, body_known, block_known}
use Rattle.ir_tree.specs.declared.names.NameId.{NameId}
use Rattle.ir_edges.proofs.Mapped.{inst_at_known}
use Rattle.ir_edges.proofs.successors.last_labels.Goals as goal

pub returns-in-Some-clause-known : goal.returns-in-Some-clause-known
returns-in-Some-clause-known c =
    let insts = c.deref.result.now in
    IfOk-weaker c.targets_of.result
    (λ (to : Vec NameId Global). (count : ℕ) → body_known count c.in-Some.inst.now.body ≡ true → list_all (name_known count) to.items ≡ true)
    (λ (to : Vec NameId Global). (count : ℕ) → block_known count c.args.block.now ≡ true → list_all (name_known count) to.items ≡ true)
    (λ to says count known. says count
    (inst_at_known count c.args.block.now insts (length insts - 1) c.in-Some.inst.now c.deref.ensures.value c.in-Some.ensures.value known))
    c.targets_of.ensures.known
