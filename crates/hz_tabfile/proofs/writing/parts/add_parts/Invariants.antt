use Rattle.std.proofs.Common.{take}
use Rattle.std.specs.List.{flat_map}
use Rattle.hz_tabtext_model.specs.Texts.{line_text, part_lines}
use Rattle.hz_io.specs.Pages.{Added}
use Rattle.hz_tabfile.specs.Saying.{parts_says}
use Rattle.hz_tabfile.proofs.writing.parts.add_parts.Given as goal

abbrev pub invariant-loop-number : goal.invariant-loop-number
invariant-loop-number g l =
    Added g.S.Sink.written g.S.Sink.room g.S.Sink.faults l.fn.out l.out l.fn.page.items l.page.items (flat_map (λ part. flat_map line_text (part_lines l.asked part)) (take l.number (parts_says l.stats l.automata l.reports l.parts)))
