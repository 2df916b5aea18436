use Rattle.std.proofs.Common.{take, length}
use Rattle.std.specs.List.{flat_map}
use Rattle.std.specs.List.{range_with_len}
use Rattle.hz_tabfile.specs.Spaced.{unit_text}
use Rattle.hz_io.specs.Pages.{Added}
use Rattle.hz_tabfile.proofs.writing.shown.add_cycle.Given as goal

abbrev pub invariant-loop-number : goal.invariant-loop-number
invariant-loop-number g l =
    Added g.S.Sink.written g.S.Sink.room g.S.Sink.faults l.fn.out l.out l.fn.page.items l.page.items (flat_map (unit_text l.units l.cycle l.row) (take l.number (range_with_len 0 (length l.units))))
