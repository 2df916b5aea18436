use Rattle.std.proofs.Common.{take}
use Rattle.std.specs.List.{flat_map, range_with_len}
use Rattle.hz_io.specs.Pages.{Added}
use Rattle.hz_tabfile.specs.Spaced.{pairs_text}
use Rattle.hz_tabfile.proofs.GridTexts.{in_cycle}
use Rattle.hz_tabfile.proofs.writing.shown.add_pairs.Given as goal

abbrev pub invariant-loop-cycle : goal.invariant-loop-cycle
invariant-loop-cycle g l =
    Added g.S.Sink.written g.S.Sink.room g.S.Sink.faults l.fn.out l.out l.fn.page.items l.page.items (flat_map (λ cycle. pairs_text l.units (in_cycle l.grid cycle)) (take l.cycle (range_with_len 0 l.cycle-end)))
