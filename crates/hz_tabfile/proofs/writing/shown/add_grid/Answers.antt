use Rattle.std.proofs.Common.{codes}
use Rattle.hz_tabtext_model.specs.Texts.{pair_field}
use Rattle.hz_tabtext_model.specs.Said.{named_grid}
use Rattle.std.proofs.Common.{rules}
use Rattle.hz_io.proofs.Adding.{adds_failed}
use Rattle.hz_tabfile.proofs.LineTexts.{line_word_stopped, line_fields_stopped, line_added}
use Rattle.hz_tabfile.proofs.writing.shown.add_grid.Goals as goal

pub returns-in_err-add : goal.returns-in_err-add
returns-in_err-add g c = adds_failed c.add.new.page.items c.from_residual.result (search rules) (line_word_stopped (codes "grid") pair_field (named_grid c.args.units.now c.args.grid.now) c.in_err-add.ensures)

pub returns-in_err-add_pairs : goal.returns-in_err-add_pairs
returns-in_err-add_pairs g c = adds_failed c.add_pairs.new.page.items c.from_residual-in_err-add_pairs.result (search rules) (line_fields_stopped (codes "grid") pair_field (named_grid c.args.units.now c.args.grid.now) c.in_ok-add.ensures c.in_err-add_pairs.ensures)

pub returns : goal.returns
returns g c = line_added (codes "grid") pair_field (named_grid c.args.units.now c.args.grid.now) c.end_line.new.out c.end_line.new.page.items c.end_line.result c.in_ok-add.ensures c.in_ok-add_pairs.ensures c.end_line.ensures
