use Rattle.std.proofs.Common.{◌||◌, is_some, sym, ap, ◌∙◌}
use Rattle.std.specs.List.{list_any}
use Rattle.std.specs.Str.{bytes_eq}
use Rattle.hz_check.proofs.Tables.NameLists.{is_among-list_any}
use Rattle.hz_check.proofs.names.tables.just.Goals as goal

pub returns : goal.returns
returns c = λ q. c.in_ok-add.ensures q ∙ (ap (λ o. is_some o || list_any (bytes_eq q) c.args.names.now) (c.new-table.ensures q) ∙ sym (is_among-list_any q c.args.names.now))
