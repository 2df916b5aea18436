use Rattle.std.proofs.Common.{arith}
use Rattle.hz_mdread.proofs.FormLemmas.{string_at}
use Rattle.hz_mdread.proofs.forms.reservation_form.Goals as goal

pub expression_in-requires : goal.expression_in-requires
expression_in-requires c = string_at _ c.args.operands.now 1 c.regexp-item.result c.requires (omega arith) c.regexp-item.is
