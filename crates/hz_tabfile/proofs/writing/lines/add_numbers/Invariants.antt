use Rattle.std.proofs.Common.{take, decimal}
use Rattle.std.specs.List.{flat_map}
use Rattle.hz_io.specs.Pages.{Added}
use Rattle.hz_tabfile.specs.Spaced.{spaced}
use Rattle.hz_tabfile.proofs.writing.lines.add_numbers.Given as goal

abbrev pub invariant-loop-number : goal.invariant-loop-number
invariant-loop-number g l =
    Added g.S.Sink.written g.S.Sink.room g.S.Sink.faults l.fn.out l.out l.fn.page.items l.page.items (flat_map (λ number. spaced (decimal number)) (take l.number-index l.numbers))
