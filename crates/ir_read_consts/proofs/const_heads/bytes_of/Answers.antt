use Rattle.std.proofs.Common.{◌≡◌, IfOk, subst}
use Rattle.ir_read_consts.proofs.Texts.{text_same}
use Rattle.ir_read_consts.proofs.const_heads.bytes_of.Goals as goal

pub returns : goal.returns
returns c = subst (λ z. IfOk c.text_of.result (λ bytes. bytes.items ≡ z)) (text_same c.args.text.now c.args.token.now) c.text_of.ensures
