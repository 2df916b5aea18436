use Rattle.std.proofs.Common.{take}
use Rattle.std.specs.List.{flat_map}
use Rattle.hz_tabtext_model.specs.Texts.{line_text, class_line}
use Rattle.hz_io.specs.Pages.{Added}
use Rattle.hz_tabfile.proofs.writing.parts.add_classes.Given as goal

abbrev pub invariant-loop-class : goal.invariant-loop-class
invariant-loop-class g l =
    Added g.S.Sink.written g.S.Sink.room g.S.Sink.faults l.fn.out l.out l.fn.page.items l.page.items (flat_map (λ class. line_text (class_line class)) (take l.class-index (l.classes)))
