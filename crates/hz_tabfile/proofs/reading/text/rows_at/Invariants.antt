use Rattle.std.proofs.Common.{◌≡◌, ◌+◌, ◌-◌, length}
use Rattle.hz_tabtext_model.specs.Reading.{so_many, next_row, row_at}
use Rattle.hz_tabfile.specs.Rests.{left_of}
use Rattle.hz_tabfile.specs.Texts.{AreTargets}
use Rattle.hz_tabfile.proofs.Many.{with_front}
use Rattle.hz_tabfile.proofs.reading.text.rows_at.Given as goal

abbrev pub invariant-loop-number : goal.invariant-loop-number
invariant-loop-number l = record {
  rows : with_front l.plain.rows (so_many next_row (row_at l.size.columns l.size.asks l.size.states) (l.size.states - l.number) l.number (left_of l.rest)) ≡ so_many next_row (row_at l.size.columns l.size.asks l.size.states) l.size.states 0 (left_of l.fn.rest);
  columns : l.plain.columns ≡ l.size.columns + l.size.asks;
  count : length l.plain.rows ≡ l.number;
  targets : AreTargets l.size.states l.plain.rows;
}
