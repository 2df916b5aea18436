use Rattle.std.proofs.Common.{take}
use Rattle.std.specs.List.{flat_map}
use Rattle.hz_io.specs.Pages.{Added}
use Rattle.hz_tabfile.specs.Spaced.{spaced}
use Rattle.hz_tabfile.proofs.writing.lines.add_names.Given as goal

abbrev pub invariant-loop-name : goal.invariant-loop-name
invariant-loop-name g l =
    Added g.S.Sink.written g.S.Sink.room g.S.Sink.faults l.fn.out l.out l.fn.page.items l.page.items (flat_map spaced (take l.name-index (l.names)))
