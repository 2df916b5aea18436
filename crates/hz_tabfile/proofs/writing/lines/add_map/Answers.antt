use Rattle.std.proofs.Common.{codes, decimal}
use Rattle.std.proofs.Common.{rules}
use Rattle.hz_io.proofs.Adding.{adds_failed}
use Rattle.hz_tabfile.proofs.LineTexts.{line_word_stopped, line_fields_stopped, line_added}
use Rattle.hz_tabfile.proofs.writing.lines.add_map.Goals as goal

pub returns-in_err-add : goal.returns-in_err-add
returns-in_err-add g c = adds_failed c.add.new.page.items c.from_residual.result (search rules) (line_word_stopped (codes "map") decimal (c.args.columns.now) c.in_err-add.ensures)

pub returns-in_err-add_numbers : goal.returns-in_err-add_numbers
returns-in_err-add_numbers g c = adds_failed c.add_numbers.new.page.items c.from_residual-in_err-add_numbers.result (search rules) (line_fields_stopped (codes "map") decimal (c.args.columns.now) c.in_ok-add.ensures c.in_err-add_numbers.ensures)

pub returns : goal.returns
returns g c = line_added (codes "map") decimal (c.args.columns.now) c.end_line.new.out c.end_line.new.page.items c.end_line.result c.in_ok-add.ensures c.in_ok-add_numbers.ensures c.end_line.ensures
